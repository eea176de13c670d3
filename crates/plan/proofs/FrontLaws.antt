-- A reading of bits that begin with right fields arrives at the reading of what is left. So a valid plan's bits are read as that plan.
-- Assumes nothing.
use mathlib.Core.Path.{◌≡◌, refl, sym, ap, ◌∙◌}
use mathlib.Core.Bool.{◌||◌}
use mathlib.Core.List.{List, [], ◌∷◌, ◌++◌, append_assoc, append-nil}
use Prim.Native.Nat.{ℕ, suc, ◌+◌, ◌-◌, ◌/◌, ◌%◌, ◌≤◌, ◌<◌}
use native.Mathlib.Nat.{suc-add, zero-add, add-zero}
use native.Mathlib.Omega.{arith}
use lib.Dec.{eqb}
use lib.ListN.{length}
use borrow.Author.Tests.{le-ltb, ne_eqb}
use Rattle.numbers.specs.Gcd.{Coprime}
use Rattle.binary.specs.Polynomial.{Degree}
use Rattle.sobol.specs.Directions.{OddBelow, AllOddBelow}
use Rattle.bits.specs.Stream.{to_bits}
use Rattle.plan.specs.Plan.{Axis, no_axis, Plan, halton, sobol, ValidBases, ValidAxis, ValidAxes, OneToSix, HaltonFamily, Valid, header_bits, bases_bits, ms_bits, axis_bits, axes_bits, plan_bits}
use Rattle.plan.specs.Reading.{Step, got, refuse_if, field, and_then, read_bases, not_primitive, is_repeated, read_ms, read_axis, read_axes, read_body, read_fields}
use Rattle.plan.specs.Refusals.{NotAmong, ValidPolynomial}
use Rattle.plan.proofs.PlaceLaws.{length_snoc, places_middle, pairs_middle}
use Rattle.plan.proofs.TestLaws.{no_shared_factor_iff, not_repeated_iff, polynomial_of_bits, primitive_iff, axes_range_iff}
use Rattle.plan.proofs.ValidLaws.{Differ}
use Rattle.plan.proofs.StepLaws.{passes, field_low, field_of, then_goes, after_ms, after_coefficients}

pub bases_front : (k : ℕ) (more earlier l : List ℕ) → ValidBases (earlier ++ more)
    → read_bases (length more + k) earlier (bases_bits more ++ l) ≡ read_bases k (earlier ++ more) l
unfolding read_bases bases_bits
bases_front k [] earlier l v = rw (zero-add, append-nil) refl
bases_front k (b ∷ more) earlier l v =
    let low : 2 ≤ b = places_middle 0 (λ i a. 2 ≤ a) earlier b more v.low in
    let high : b ≤ 256 = places_middle 0 (λ i a. a ≤ 256) earlier b more v.high in
    let new = pairs_middle 0 Coprime earlier b more v.coprime in
    let e : b - 1 + 1 ≡ b = omega arith in
    let seam : earlier ++ b ∷ [] ++ more ≡ earlier ++ b ∷ more = append_assoc earlier (b ∷ []) more in
    rw (suc-add, append_assoc)
    (field_of 8 (b - 1) _ _ (omega arith)
    ∙ passes 4 _ (ne_eqb (b - 1) 0 (λ z. omega arith))
    ∙ rw e (passes 5 _ ((no_shared_factor_iff b earlier).1 new) ∙ bases_front k more (earlier ++ b ∷ []) l (rw seam v) ∙ rw seam refl))

pub ms_front : (k i : ℕ) (more earlier l : List ℕ) → i ≡ 1 + length earlier → AllOddBelow (length (earlier ++ more)) (earlier ++ more)
    → read_ms (length more + k) i earlier (ms_bits i more ++ l) ≡ read_ms k (i + length more) (earlier ++ more) l
unfolding read_ms ms_bits AllOddBelow
ms_front k i [] earlier l ei h = rw (zero-add, add-zero, append-nil) refl
ms_front k i (m ∷ more) earlier l ei h =
    let one : OddBelow (length earlier) m = places_middle 0 OddBelow earlier m more h in
    let seam : earlier ++ m ∷ [] ++ more ≡ earlier ++ m ∷ more = append_assoc earlier (m ∷ []) more in
    let wide : i ≡ suc (length earlier) = omega arith in
    let place : i + 1 + length more ≡ i + suc (length more) = omega arith in
    rw (suc-add, append_assoc)
    (field_of i m _ _ (rw wide one.below)
    ∙ passes 8 _ (ne_eqb (m % 2) 0 (λ z. omega (arith, one.odd)))
    ∙ ms_front k (i + 1) more (earlier ++ m ∷ []) l (omega (arith, length_snoc earlier m)) (rw seam h)
    ∙ rw (seam, place) refl)

-- ---- an axis

pub degree_front : (earlier : List Axis) (d : ℕ) (l : List ℕ) → d ≤ 12 → read_axis earlier (to_bits 4 d ++ l) ≡ field (d - 1) l (after_coefficients earlier d)
unfolding read_axis
degree_front earlier d l h = field_of 4 d l _ (omega arith) ∙ passes 6 _ (le-ltb 12 d h)

pub polynomial_front : (earlier : List Axis) (d p : ℕ) (l : List ℕ) → Degree d p → p % 2 ≡ 1
    → field (d - 1) (to_bits (d - 1) (p / 2) ++ l) (after_coefficients earlier d)
    ≡ refuse_if (not_primitive d p) 7 (refuse_if (is_repeated p earlier) 9 (and_then (read_ms d 1 [] l) (after_ms p)))
polynomial_front earlier d p l g o = field_low (d - 1) (p / 2) l _ ∙ rw (polynomial_of_bits d p g o) refl

module _ (earlier : List Axis) (d p : ℕ) (fit : ValidPolynomial d p) (new : NotAmong p earlier) where
  pub coefficients_front : (l : List ℕ) → field (d - 1) (to_bits (d - 1) (p / 2) ++ l) (after_coefficients earlier d) ≡ and_then (read_ms d 1 [] l) (after_ms p)
  coefficients_front l =
      polynomial_front earlier d p l fit.degree fit.constant
      ∙ passes 7 _ ((primitive_iff d p fit.degree).1 fit.primitive) ∙ passes 9 _ ((not_repeated_iff p earlier).1 new)

  pub given_front : (k : ℕ) (ms l : List ℕ) → length ms + k ≡ d → AllOddBelow (length ms) ms
      → read_axis earlier (to_bits 4 d ++ (to_bits (d - 1) (p / 2) ++ (ms_bits 1 ms ++ l))) ≡ and_then (read_ms k (1 + length ms) ms l) (after_ms p)
  given_front k ms l e h =
      degree_front earlier d _ fit.degree_high ∙ coefficients_front (ms_bits 1 ms ++ l)
      ∙ ap (λ (s : Step (List ℕ)). and_then s (after_ms p)) (ap (λ (n : ℕ). read_ms n 1 [] (ms_bits 1 ms ++ l)) (sym e) ∙ ms_front k 1 ms [] l refl h)

pub axis_polynomial : {x : Axis} → ValidAxis x → ValidPolynomial (length x.ms) x.polynomial
axis_polynomial v = record { degree_high = v.degree_high; degree = v.degree; constant = v.constant; primitive = v.primitive }

pub axis_front : (earlier : List Axis) (x : Axis) (l : List ℕ) → ValidAxis x → NotAmong x.polynomial earlier → read_axis earlier (axis_bits x ++ l) ≡ got x l
unfolding axis_bits and_then read_ms
axis_front earlier x l v new =
    simp append_assoc (given_front earlier (length x.ms) x.polynomial (axis_polynomial v) new 0 x.ms l (add-zero (length x.ms)) v.given)

pub axes_front : (k : ℕ) (more earlier : List Axis) (l : List ℕ) → ValidAxes (earlier ++ more)
    → read_axes (length more + k) earlier (axes_bits more ++ l) ≡ read_axes k (earlier ++ more) l
unfolding read_axes axes_bits
axes_front k [] earlier l v = rw (zero-add, append-nil) refl
axes_front k (x ∷ more) earlier l v =
    let one : ValidAxis x = places_middle no_axis (λ i y. ValidAxis y) earlier x more v.valid in
    let new = pairs_middle no_axis Differ earlier x more v.distinct in
    let seam : earlier ++ x ∷ [] ++ more ≡ earlier ++ x ∷ more = append_assoc earlier (x ∷ []) more in
    rw (suc-add, append_assoc)
    (then_goes _ (axis_front earlier x (axes_bits more ++ l) one new) ∙ axes_front k more (earlier ++ x ∷ []) l (rw seam v) ∙ rw seam refl)

-- ---- the whole

pub family_front : (family : ℕ) (l : List ℕ) → family < 4
    → read_fields (to_bits 2 family ++ l) ≡ field 3 l λ s t. refuse_if (eqb s 0 || eqb s 7) 3 (read_body (eqb family 2) family s t)
unfolding read_fields
family_front family l h = field_of 2 family l _ (omega arith)

pub header_front : (family s : ℕ) (l : List ℕ) → family < 4 → OneToSix s → read_fields (header_bits family s ++ l) ≡ read_body (eqb family 2) family s l
header_front family s l h range =
    rw append_assoc (family_front family (to_bits 3 s ++ l) h ∙ field_of 3 s l _ (omega arith) ∙ passes 3 _ ((axes_range_iff s (omega arith)).1 range))

pub halton_front : (family s k : ℕ) (bases l : List ℕ) → HaltonFamily family → OneToSix s → length bases + k ≡ s → ValidBases bases
    → read_fields (header_bits family s ++ bases_bits bases ++ l) ≡ and_then (read_bases k bases l) λ b r. got (halton family b) r
unfolding read_body
halton_front family s k bases l h range e v =
    rw (append_assoc (header_bits family s) (bases_bits bases) l) (header_front family s (bases_bits bases ++ l) (omega arith) range
    ∙ rw (ne_eqb family 2 h.1) (rw (← e) (ap (λ (t : Step (List ℕ)). and_then t λ b r. got (halton family b) r) (bases_front k bases [] l v))))

pub sobol_front : (s k : ℕ) (axes : List Axis) (l : List ℕ) → OneToSix s → length axes + k ≡ s → ValidAxes axes
    → read_fields (header_bits 2 s ++ axes_bits axes ++ l) ≡ and_then (read_axes k axes l) λ a r. got (sobol a) r
unfolding read_body
sobol_front s k axes l range e v =
    rw (append_assoc (header_bits 2 s) (axes_bits axes) l) (header_front 2 s (axes_bits axes ++ l) (omega arith) range
    ∙ rw (← e) (ap (λ (t : Step (List Axis)). and_then t λ a r. got (sobol a) r) (axes_front k axes [] l v)))

pub plan_front : (p : Plan) (l : List ℕ) → Valid p → read_fields (plan_bits p ++ l) ≡ got p l
unfolding plan_bits Valid and_then read_bases read_axes
plan_front (halton family bases) l v = halton_front family (length bases) 0 bases l v.0 v.1 (add-zero (length bases)) v.2
plan_front (sobol axes) l v = sobol_front (length axes) 0 axes l v.0 (add-zero (length axes)) v.1
