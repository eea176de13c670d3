-- One step of a reading: which test decides it, and what a field of known bits gives. Assumes nothing.
use mathlib.Core.Path.{◌≡◌, refl, ap, ap₂, ◌∙◌}
use mathlib.Core.Bool.{Bool, true, false}
use mathlib.Core.List.{List, [], ◌++◌}
use Prim.Native.Nat.{ℕ, ◌%◌, ◌^◌, ◌<◌}
use native.Mathlib.Nat.{mod-eq_of_lt}
use native.Mathlib.Omega.{arith}
use lib.ListN.{length, length-append}
use lib.Seq.{take_at, drop_at}
use borrow.Author.Tests.{lt-ltb, le-ltb}
use Rattle.bits.specs.Stream.{to_bits, of_bits}
use Rattle.bits.proofs.StreamLaws.{length_to_bits, of_bits_to_bits}
use Rattle.plan.specs.Plan.{Axis}
use Rattle.plan.specs.Reading.{Step, refuse, got, refuse_if, field, and_then, polynomial_of, not_primitive, is_repeated, read_ms}

module _ {A : Type 0} where
  pub refuses : {b : Bool} (n : ℕ) (s : Step A) → b ≡ true → refuse_if b n s ≡ refuse n
  unfolding refuse_if
  refuses n s e = rw e refl

  pub passes : {b : Bool} (n : ℕ) (s : Step A) → b ≡ false → refuse_if b n s ≡ s
  unfolding refuse_if
  passes n s e = rw e refl

  pub field_short : (w : ℕ) (l : List ℕ) (rest : ℕ → List ℕ → Step A) → length l < w → field w l rest ≡ refuse 1
  unfolding field
  field_short w l rest h = refuses 1 _ (lt-ltb (length l) w h)

  pub field_low : (w v : ℕ) (l : List ℕ) (rest : ℕ → List ℕ → Step A) → field w (to_bits w v ++ l) rest ≡ rest (v % 2 ^ w) l
  unfolding field
  field_low w v l rest =
      passes 1 _ (le-ltb (length (to_bits w v ++ l)) w (omega (arith, length-append (to_bits w v) l, length_to_bits w v)))
      ∙ ap₂ rest (ap of_bits (take_at (to_bits w v) l w (length_to_bits w v)) ∙ of_bits_to_bits w v) (drop_at (to_bits w v) l w (length_to_bits w v))

  pub field_of : (w v : ℕ) (l : List ℕ) (rest : ℕ → List ℕ → Step A) → v < 2 ^ w → field w (to_bits w v ++ l) rest ≡ rest v l
  field_of w v l rest h = field_low w v l rest ∙ ap (λ (x : ℕ). rest x l) (mod-eq_of_lt h)

  pub then_refuses : {B : Type 0} {s : Step A} {n : ℕ} (rest : A → List ℕ → Step B) → s ≡ refuse n → and_then s rest ≡ refuse n
  unfolding and_then
  then_refuses rest e = rw e refl

  pub then_goes : {B : Type 0} {s : Step A} {a : A} {l : List ℕ} (rest : A → List ℕ → Step B) → s ≡ got a l → and_then s rest ≡ rest a l
  unfolding and_then
  then_goes rest e = rw e refl

-- what follows the m's of an axis with the polynomial p
abbrev pub after_ms : ℕ → List ℕ → List ℕ → Step Axis
after_ms p ms l = got (record { polynomial = p; ms = ms }) l

-- what follows the coefficients of an axis of degree d after the earlier ones
abbrev pub after_coefficients : List Axis → ℕ → ℕ → List ℕ → Step Axis
after_coefficients earlier d a l =
    refuse_if (not_primitive d (polynomial_of d a)) 7
    (refuse_if (is_repeated (polynomial_of d a) earlier) 9 (and_then (read_ms d 1 [] l) λ ms t. after_ms (polynomial_of d a) ms t))
