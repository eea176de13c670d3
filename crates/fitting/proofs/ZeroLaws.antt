-- Arrays that hold 0 from some place on, and lists with zeros after them. Assumes nothing.
use mathlib.Core.Path.{◌≡◌, sym, ap, ◌∙◌}
use mathlib.Core.Logic.{⊎_elim}
use mathlib.Core.List.{List}
use Prim.Native.Nat.{ℕ, ◌+◌, ◌*◌, ◌/◌, ◌%◌, ◌≤◌, ◌<◌}
use native.Mathlib.Omega.{arith}
use lib.ListN.{length, get_or, drop, replicate, length-replicate, get_or-eq_default}
use lib.Seq.{ext_get_or, get_or-take, get_or-drop}
use Rattle.numbers.specs.Listed.{padded}
use Rattle.numbers.proofs.Cases.{lt_or_ge}
use Rattle.numbers.proofs.ListedLaws.{padded_length, padded_at, zeros_at}
use Rattle.points.specs.Arrays.{directions_at}
use Rattle.fitting.specs.Fits.{ZeroFrom}

pub zeros_zero : (n k : ℕ) → ZeroFrom k (replicate n 0)
zeros_zero n k i h = zeros_at n i

pub zero_is : (n : ℕ) (l : List ℕ) → length l ≡ n → ZeroFrom 0 l → l ≡ replicate n 0
zero_is n l e z =
    ext_get_or 0 l (replicate n 0) (e ∙ sym (length-replicate n 0)) (λ i h. z i (omega arith) ∙ sym (zeros_at n i))

pub padded_zero : (n : ℕ) (l : List ℕ) (k : ℕ) → length l ≡ k → ZeroFrom k (padded n l)
padded_zero n l k e i h = padded_at n l i ∙ get_or-eq_default l 0 (omega arith)

-- entries and then zeros determine an array
pub padded_is : (n : ℕ) (l f : List ℕ) (k : ℕ) → length l ≡ n → length f ≡ k → k ≤ n → ((i : ℕ) → i < k → get_or l i 0 ≡ get_or f i 0) → ZeroFrom k l
    → l ≡ padded n f
padded_is n l f k e m h same z =
    ext_get_or 0 l (padded n f) (e ∙ sym (padded_length n f (omega arith)))
    (λ i b. ⊎_elim (λ q. same i q ∙ sym (padded_at n f i)) (λ q. z i q ∙ sym (padded_zero n f k m i q)) (lt_or_ge i k))

-- a word of the direction numbers, by its axis
pub block_at : (l : List ℕ) (j : ℕ) → get_or l j 0 ≡ get_or (directions_at l (j / 32)) (j % 32) 0
block_at l j =
    let e : 32 * (j / 32) + j % 32 ≡ j = omega arith in
    ap (λ (x : ℕ). get_or l x 0) (sym e) ∙ sym (get_or-drop (32 * (j / 32)) l (j % 32) 0) ∙ sym (get_or-take 32 (drop (32 * (j / 32)) l) (j % 32) 0 (omega arith))
