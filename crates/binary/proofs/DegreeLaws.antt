-- The degree of a polynomial, found by counting its binary digits, is the one that its size shows. Assumes nothing.
use mathlib.Core.Path.{◌≡◌}
use mathlib.Core.Logic.{⊎_elim}
use Prim.Native.Nat.{ℕ, suc}
use native.Mathlib.Omega.{arith}
use Rattle.numbers.specs.Digits.{digit_count}
use Rattle.numbers.proofs.Cases.{lt_or_ge}
use Rattle.numbers.proofs.DigitLaws.{digit_count_le_iff}
use Rattle.binary.specs.Polynomial.{Degree, degree_of}

pub degree_of_lem : {d p : ℕ} → Degree d p → degree_of p ≡ d
unfolding degree_of
degree_of_lem {d} {p} g =
    let most = (digit_count_le_iff 2 p (suc d) (omega arith)).1 g.high in
    ⊎_elim (λ k. omega arith) (λ k. absurd (omega (arith, (digit_count_le_iff 2 p d (omega arith)).0 k))) (lt_or_ge d (digit_count 2 p))
