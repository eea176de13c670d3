-- Lists one after another, each of s numbers: how long they are, parts of them, and the one in a place. Assumes nothing.
use mathlib.Core.Path.{◌≡◌, sym, ap, ◌∙◌}
use mathlib.Core.List.{List, ◌++◌, append_assoc, append-nil}
use Prim.Native.Nat.{ℕ, zero, suc, ◌+◌, ◌-◌, ◌*◌, ◌<◌}
use native.Mathlib.Nat.{add-zero, add-suc, add_assoc, zero-mul, suc-mul}
use native.Mathlib.Omega.{arith}
use lib.ListN.{length, take, drop, length-append}
use lib.Seq.{take_at, drop_at}
use Rattle.numbers.specs.Listed.{joined}

module _ (f : ℕ → List ℕ) where
  pub joined_one : (t : ℕ) → joined f t 1 ≡ f t
  unfolding joined
  joined_one t = ap f (add-zero t)

  -- j of them and then k are j + k
  pub joined_more : (t j k : ℕ) → joined f t (j + k) ≡ joined f t j ++ joined f (t + j) k
  unfolding joined
  joined_more t j zero = rw (add-zero, append-nil)
  joined_more t j (suc k) = rw (add-suc, ← append_assoc, ← joined_more t j k, add_assoc)

  module _ (s : ℕ) (long : (t : ℕ) → length (f t) ≡ s) where
    pub joined_length : (t k : ℕ) → length (joined f t k) ≡ k * s
    unfolding joined
    joined_length t zero = sym (zero-mul s)
    joined_length t (suc k) = rw (length-append, joined_length t k, long, suc-mul)

    -- number j of k
    pub joined_at : (t k j : ℕ) → j < k → take s (drop (j * s) (joined f t k)) ≡ f (t + j)
    joined_at t k j l =
        let rest : k ≡ j + (1 + (k - j - 1)) = omega arith in
        let split : joined f t k ≡ joined f t j ++ (f (t + j) ++ joined f (t + j + 1) (k - j - 1)) =
        ap (joined f t) rest ∙ joined_more t j (1 + (k - j - 1))
        ∙ ap (λ (x : List ℕ). joined f t j ++ x) (joined_more (t + j) 1 (k - j - 1) ∙ ap (λ (x : List ℕ). x ++ joined f (t + j + 1) (k - j - 1)) (joined_one (t + j))) in
        rw (split, drop_at (joined f t j) (f (t + j) ++ joined f (t + j + 1) (k - j - 1)) (j * s) (joined_length t j))
        (take_at (f (t + j)) (joined f (t + j + 1) (k - j - 1)) s (long (t + j)))
