-- Arrays that hold 0 from some place on. Assumes nothing.
use mathlib.Core.Path.{◌≡◌, sym, ap, ◌∙◌}
use mathlib.Core.List.{List, ◌++◌}
use Prim.Native.Nat.{ℕ, zero, suc, ◌+◌, ◌-◌, ◌≤◌}
use native.Mathlib.Omega.{arith}
use lib.ListN.{length, take, drop, replicate, set, take-append-drop}
use lib.Seq.{drop-drop, drop-set-lt, length-take-le}
use Rattle.numbers.specs.Listed.{padded}

zeros_of : {n k : ℕ} → n ≡ k → replicate {A = ℕ} n 0 ≡ replicate k 0
zeros_of e = ap (λ (x : ℕ). replicate x 0) e

pub drop_zeros : (n k : ℕ) → drop k (replicate n 0) ≡ replicate {A = ℕ} (n - k) 0
drop_zeros n zero = zeros_of {n = n} {k = n - 0} (omega arith)
drop_zeros zero (suc k) = zeros_of {n = 0} {k = 0 - suc k} (omega arith)
drop_zeros (suc n) (suc k) = drop_zeros n k ∙ zeros_of {n = n - k} {k = suc n - suc k} (omega arith)

-- w more places are used
pub blank_drop : (n i w : ℕ) (l : List ℕ) → drop i l ≡ replicate (n - i) 0 → drop (i + w) l ≡ replicate (n - (i + w)) 0
blank_drop n i w l z = sym (drop-drop w i l) ∙ ap (drop w) z ∙ drop_zeros (n - i) w ∙ zeros_of {n = n - i - w} {k = n - (i + w)} (omega arith)

-- one more place is written
pub blank_set : (n i : ℕ) (l : List ℕ) (v : ℕ) → drop i l ≡ replicate (n - i) 0 → drop (i + 1) (set l i v) ≡ replicate (n - (i + 1)) 0
blank_set n i l v z = drop-set-lt (i + 1) l i v (omega arith) ∙ blank_drop n i 1 l z

-- such an array is its front, padded
pub padded_front : (n k : ℕ) (l : List ℕ) → length l ≡ n → k ≤ n → drop k l ≡ replicate (n - k) 0 → l ≡ padded n (take k l)
unfolding padded
padded_front n k l e h z =
    sym
    (ap (λ (m : ℕ). take k l ++ replicate (n - m) 0) (length-take-le k l (omega arith))
    ∙ ap (λ (t : List ℕ). take k l ++ t) (sym z)
    ∙ take-append-drop k l)
