-- Faure's permutation of the digits 0 to b - 1, by the even and the odd rule of 01-scope.md, for every base. Definitions only.
use Rattle.std.specs.Prelude.{Bool, true, false, cond, ℕ, zero, suc, ◌+◌, ◌-◌, ◌*◌, ◌/◌, ◌%◌, leb, ltb, eqb}

-- The even rule at half h: a digit k below h goes to twice its image in base h, any other to twice the image of k - h, plus 1.
abbrev pub even_at : Bool → (ℕ → ℕ) → ℕ → ℕ → ℕ
even_at true σ h k = 2 * σ k
even_at false σ h k = 2 * σ (k - h) + 1

unfoldable pub even_rule : (ℕ → ℕ) → ℕ → ℕ → ℕ
even_rule σ h k = even_at (ltb k h) σ h k

-- The odd rule at centre c: c stays c. Else r is the image, in the base one less, of k below c or of k - 1 above c; the answer is r where
-- r is below c, else r + 1.
abbrev pub close_gap : ℕ → ℕ → ℕ
close_gap c k = cond (ltb k c) k (k - 1)

abbrev pub open_gap : ℕ → ℕ → ℕ
open_gap c r = cond (ltb r c) r (r + 1)

abbrev pub odd_at : Bool → (ℕ → ℕ) → ℕ → ℕ → ℕ
odd_at true σ c k = c
odd_at false σ c k = open_gap c (σ (close_gap c k))

unfoldable pub odd_rule : (ℕ → ℕ) → ℕ → ℕ → ℕ
odd_rule σ c k = odd_at (eqb k c) σ c k

-- The rule at base b, over the permutations ρ of the smaller bases: up to 2 the digits stay; then the even rule, or the odd.
abbrev pub rule_at : Bool → Bool → (ℕ → ℕ → ℕ) → ℕ → ℕ → ℕ
rule_at true even ρ b k = k
rule_at false true ρ b k = even_rule (ρ (b / 2)) (b / 2) k
rule_at false false ρ b k = odd_rule (ρ (b - 1)) (b / 2) k

-- the first number counts the bases that may still be passed
unfoldable pub faure_in : ℕ → ℕ → ℕ → ℕ
faure_in zero b k = k
faure_in (suc f) b k = rule_at (leb b 2) (eqb (b % 2) 0) (faure_in f) b k

-- The image of the digit k in base b. The base falls at each call, so b itself is enough.
unfoldable pub faure : ℕ → ℕ → ℕ
faure b k = faure_in b b k
