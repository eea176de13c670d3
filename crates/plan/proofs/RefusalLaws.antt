-- A reading is refused with a number exactly where that refusal is due: the fields before are right, so the reading arrives at the field or
-- the tail whose rule is broken. Assumes nothing.
use mathlib.Core.Path.{◌≡◌, refl, sym, ◌∙◌}
use mathlib.Core.Bool.{true}
use mathlib.Core.List.{List, ◌++◌, append_assoc}
use mathlib.Core.Logic.{◌↔◌, ◌⊎◌, ⊎_elim}
use Prim.Native.Nat.{ℕ, suc, ◌+◌, ◌-◌, ◌/◌, ◌%◌, ◌≤◌, ◌<◌}
use native.Mathlib.Omega.{arith}
use lib.ListN.{length}
use borrow.Author.Tests.{lt-ltb, eq-eqb, ne_eqb}
use Rattle.bits.specs.Stream.{to_bits, bits_of}
use Rattle.plan.specs.Plan.{Axis, Plan, header_bits, ms_bits, axes_bits}
use Rattle.plan.specs.Reading.{refuse, field, shares_factor, read_bases, not_primitive, is_repeated, read_ms, read_axis, read_axes, read_fields, Reading, refused, accepted, finish, read_plan}
use Rattle.plan.specs.Refusals.{Field, family_field, axes_field, base_field, degree_field, coefficients_field, m_field, width, Before, Refusal, short, bad_axes, bad_base, shared_factor, high_degree, non_primitive, even_m, repeated, bad_ending}
use Rattle.plan.proofs.TestLaws.{true_of, no_shared_factor_iff, not_repeated_iff, primitive_iff, bad_tail_lem}
use Rattle.plan.proofs.StepLaws.{refuses, passes, field_short, field_of, then_refuses, after_coefficients}
use Rattle.plan.proofs.FrontLaws.{degree_front, polynomial_front, given_front, family_front, halton_front, sobol_front, plan_front}
use Rattle.plan.proofs.AcceptLaws.{refused_due}

-- ---- a refusal at a field is the reading's

-- how many follow place i of s
after : (i s : ℕ) → i < s → (k : ℕ) × (i + suc k ≡ s)
after i s h = (s - suc i, omega arith)

base_stops : (family s : ℕ) (bases l rest : List ℕ) (n : ℕ) → Before (base_field family s bases) l
    → ((k : ℕ) → read_bases (suc k) bases rest ≡ refuse n) → read_fields (l ++ rest) ≡ refuse n
unfolding Before
base_stops family s bases l rest n (kind, range, room, v, e) f =
    let k = after (length bases) s room in
    rw e (halton_front family s (suc k.0) bases rest kind range k.1 v ∙ then_refuses _ (f k.0))

axis_stops : (s : ℕ) (axes : List Axis) (l rest : List ℕ) (n : ℕ) → Before (degree_field s axes) l
    → read_axis axes rest ≡ refuse n → read_fields (l ++ rest) ≡ refuse n
unfolding Before read_axes
axis_stops s axes l rest n (range, room, v, e) f =
    let k = after (length axes) s room in
    rw e (sobol_front s (suc k.0) axes rest range k.1 v ∙ then_refuses _ (then_refuses _ f))

coefficients_stop : (s d : ℕ) (axes : List Axis) (l rest : List ℕ) (n : ℕ) → Before (coefficients_field s axes d) l
    → field (d - 1) rest (after_coefficients axes d) ≡ refuse n → read_fields (l ++ rest) ≡ refuse n
unfolding Before
coefficients_stop s d axes l rest n (range, room, v, top, e) f =
    rw (e, append_assoc (header_bits 2 s ++ axes_bits axes) (to_bits 4 d) rest)
    (axis_stops s axes (header_bits 2 s ++ axes_bits axes) (to_bits 4 d ++ rest) n (range, room, v, refl) (degree_front axes d rest top ∙ f))

m_stops : (s d p : ℕ) (axes : List Axis) (ms l rest : List ℕ) (n : ℕ) → Before (m_field s axes d p ms) l
    → ((k : ℕ) → read_ms (suc k) (length ms + 1) ms rest ≡ refuse n) → read_fields (l ++ rest) ≡ refuse n
unfolding Before
m_stops s d p axes ms l rest n (range, room, v, fit, new, more, odd, e) f =
    let k = after (length ms) d more in
    let place : 1 + length ms ≡ length ms + 1 = omega arith in
    rw e (simp append_assoc
    (simp append_assoc at (axis_stops s axes (header_bits 2 s ++ axes_bits axes) (to_bits 4 d ++ (to_bits (d - 1) (p / 2) ++ (ms_bits 1 ms ++ rest))) n (range, room, v, refl)
    (given_front axes d p fit new (suc k.0) ms rest k.1 odd ∙ then_refuses _ (rw place (f k.0))))))

short_stops : (f : Field) (l rest : List ℕ) → Before f l → length rest < width f → read_fields (l ++ rest) ≡ refuse 1
unfolding Before width read_fields read_bases read_axis read_ms
short_stops family_field l rest e h = rw e (field_short 2 rest _ h)
short_stops (axes_field family) l rest (known, e) h = rw e (family_front family rest known ∙ field_short 3 rest _ h)
short_stops (base_field family s bases) l rest b h = base_stops family s bases l rest 1 b (λ k. field_short 8 rest _ h)
short_stops (degree_field s axes) l rest b h = axis_stops s axes l rest 1 b (field_short 4 rest _ h)
short_stops (coefficients_field s axes d) l rest b h = coefficients_stop s d axes l rest 1 b (field_short (d - 1) rest _ h)
short_stops (m_field s axes d p ms) l rest b h = m_stops s d p axes ms l rest 1 b (λ k. field_short (length ms + 1) rest _ h)

axes_stop : (family s : ℕ) (l rest : List ℕ) → Before (axes_field family) l → (s ≡ 0) ⊎ (s ≡ 7) → read_fields (l ++ (to_bits 3 s ++ rest)) ≡ refuse 3
unfolding Before
axes_stop family s l rest (known, e) w =
    rw e (family_front family (to_bits 3 s ++ rest) known ∙ field_of 3 s rest _ (⊎_elim (λ z. omega arith) (λ z. omega arith) w)
    ∙ refuses 3 _ (⊎_elim (λ z. rw z refl) (λ z. rw z refl) w))

-- ---- each refusal

module _ (bits : List ℕ) where
  -- after the bits l, those of x break a rule
  broken : (l x rest : List ℕ) (n : ℕ) → bits ≡ l ++ x ++ rest → read_fields (l ++ (x ++ rest)) ≡ refuse n → finish (read_fields bits) ≡ refused n
  unfolding finish
  broken l x rest n e f = rw (e, append_assoc l x rest, f) refl

  due_refused : {n : ℕ} → Refusal bits n → finish (read_fields bits) ≡ refused n
  unfolding finish read_fields read_bases read_axis read_ms
  due_refused (short f l rest b h e) = rw (e, short_stops f l rest b h) refl
  due_refused (bad_axes family s l rest b w e) = broken l (to_bits 3 s) rest 3 e (axes_stop family s l rest b w)
  due_refused (bad_base family s bases l rest b e) =
      broken l (to_bits 8 0) rest 4 e (base_stops family s bases l _ 4 b (λ k. field_of 8 0 rest _ (omega arith) ∙ refuses 4 _ refl))
  due_refused (shared_factor family s a j bases l rest b low high h shared e) =
      let back : a - 1 + 1 ≡ a = omega arith in
      let test : shares_factor (a - 1 + 1) bases ≡ true = rw back (true_of (shares_factor a bases) (λ t. shared ((no_shared_factor_iff a bases).0 t j h))) in
      broken l (to_bits 8 (a - 1)) rest 5 e
      (base_stops family s bases l _ 5 b
      (λ k. field_of 8 (a - 1) rest _ (omega arith) ∙ passes 4 _ (ne_eqb (a - 1) 0 (λ z. omega arith)) ∙ refuses 5 _ test))
  due_refused (high_degree s d axes l rest b h top e) =
      broken l (to_bits 4 d) rest 6 e (axis_stops s axes l _ 6 b (field_of 4 d rest _ top ∙ refuses 6 _ (lt-ltb 12 d h)))
  due_refused (non_primitive s d p axes l rest b h g o not e) =
      let test : not_primitive d p ≡ true = true_of (not_primitive d p) (λ t. not ((primitive_iff d p g).0 t h)) in
      broken l (to_bits (d - 1) (p / 2)) rest 7 e (coefficients_stop s d axes l _ 7 b (polynomial_front axes d p rest g o ∙ refuses 7 _ test))
  due_refused (even_m s d p m axes ms l rest b h even e) =
      broken l (to_bits (length ms + 1) m) rest 8 e
      (m_stops s d p axes ms l _ 8 b (λ k. field_of (length ms + 1) m rest _ h ∙ refuses 8 _ (eq-eqb (m % 2) 0 even)))
  due_refused (repeated s d p j axes l rest b fit h same e) =
      let test : is_repeated p axes ≡ true = true_of (is_repeated p axes) (λ t. (not_repeated_iff p axes).0 t j h same) in
      broken l (to_bits (d - 1) (p / 2)) rest 9 e
      (coefficients_stop s d axes l _ 9 b
      (polynomial_front axes d p rest fit.degree fit.constant
      ∙ passes 7 _ ((primitive_iff d p fit.degree).1 fit.primitive) ∙ refuses 9 _ test))
  due_refused (bad_ending p rest v w e) = rw (e, plan_front p rest v, bad_tail_lem rest w) refl

pub refused_iff : (bytes : List ℕ) (n : ℕ) → (read_plan bytes ≡ refused n) ↔ Refusal (bits_of bytes) n
unfolding read_plan
refused_iff bytes n = (refused_due bytes n, due_refused (bits_of bytes))

refusal_range : {bits : List ℕ} {n : ℕ} → Refusal bits n → (1 ≤ n) × (n ≤ 10) × (n ≡ 2 → ⊥)
refusal_range (short f l rest b h e) = (omega arith, omega arith, λ z. omega arith)
refusal_range (bad_axes family s l rest b w e) = (omega arith, omega arith, λ z. omega arith)
refusal_range (bad_base family s bases l rest b e) = (omega arith, omega arith, λ z. omega arith)
refusal_range (shared_factor family s a j bases l rest b low high h shared e) = (omega arith, omega arith, λ z. omega arith)
refusal_range (high_degree s d axes l rest b h top e) = (omega arith, omega arith, λ z. omega arith)
refusal_range (non_primitive s d p axes l rest b h g o not e) = (omega arith, omega arith, λ z. omega arith)
refusal_range (even_m s d p m axes ms l rest b h even e) = (omega arith, omega arith, λ z. omega arith)
refusal_range (repeated s d p j axes l rest b fit h same e) = (omega arith, omega arith, λ z. omega arith)
refusal_range (bad_ending p rest v w e) = (omega arith, omega arith, λ z. omega arith)

pub refused_range : (bytes : List ℕ) (n : ℕ) → read_plan bytes ≡ refused n → (1 ≤ n) × (n ≤ 10) × (n ≡ 2 → ⊥)
refused_range bytes n e = refusal_range (refused_due bytes n e)

-- number 2 (family) is never given, by any byte string
pub family_never : (bytes : List ℕ) → read_plan bytes ≡ refused 2 → ⊥
family_never bytes e = (refused_range bytes 2 e).2 refl

-- a plan is accepted if and only if none of the numbers is due to its bytes
pub accepted_iff_none : (bytes : List ℕ) → ((p : Plan) × (read_plan bytes ≡ accepted p)) ↔ ((n : ℕ) → Refusal (bits_of bytes) n → ⊥)
accepted_iff_none bytes = (never, λ none. decided none (read_plan bytes) refl)
  where
    never : ((p : Plan) × (read_plan bytes ≡ accepted p)) → (n : ℕ) → Refusal (bits_of bytes) n → ⊥
    never w n r =
        let e : accepted w.0 ≡ refused n = sym w.1 ∙ (refused_iff bytes n).1 r in
        let z : ◌≡◌ {A = ℕ} 0 1 = cc in
        omega arith

    decided : ((n : ℕ) → Refusal (bits_of bytes) n → ⊥) → (r : Reading) → read_plan bytes ≡ r → (p : Plan) × (read_plan bytes ≡ accepted p)
    decided none (refused n) e = absurd (none n (refused_due bytes n e))
    decided none (accepted p) e = (p, e)
