-- What a reading comes to is right: a refusal is due, and what was read is right and spelled by the bits before what is left. Each reader is
-- followed field by field, with what stands before its field. Assumes nothing.
use mathlib.Core.Path.{◌≡◌, refl, sym, ap, ◌∙◌, subst}
use mathlib.Core.Bool.{Bool, true, false, ◌||◌}
use mathlib.Core.List.{List, [], ◌∷◌, ◌++◌, append_assoc, append-nil}
use mathlib.Core.Logic.{◌≢◌}
use Prim.Native.Nat.{ℕ, zero, suc, ◌+◌, ◌-◌, ◌/◌, ◌%◌, ◌^◌, ◌≤◌, ◌<◌}
use native.Mathlib.Omega.{arith}
use lib.Dec.{ltb, eqb}
use lib.ListN.{length, take, drop}
use borrow.Author.Tests.{ltb-true, ltb-false, eqb-true, eqb-false}
use Rattle.sobol.specs.Directions.{AllOddBelow}
use Rattle.bits.specs.Stream.{to_bits, of_bits, AllBelow}
use Rattle.bits.proofs.StreamLaws.{below_right, of_bits_take_lt, to_bits_front}
use Rattle.plan.specs.Plan.{Axis, Plan, ValidBases, ValidAxis, ValidAxes, OneToSix, HaltonFamily, Valid, header_bits, bases_bits, ms_bits, axis_bits, axes_bits, plan_bits}
use Rattle.plan.specs.Reading.{Step, refuse, got, refuse_if, field, and_then, shares_factor, read_bases, polynomial_of, not_primitive, is_repeated, read_ms, read_axis, read_axes, read_body, read_fields}
use Rattle.plan.specs.Refusals.{Field, family_field, axes_field, base_field, degree_field, coefficients_field, m_field, width, NotAmong, ValidPolynomial, Before, Refusal, short, bad_axes, bad_base, shared_factor, high_degree, non_primitive, even_m, repeated}
use Rattle.plan.proofs.PlaceLaws.{length_snoc}
use Rattle.plan.proofs.TestLaws.{no_shared_factor_iff, shared_factor_at, not_repeated_iff, repeated_at, polynomial_degree, polynomial_odd, polynomial_bits, primitive_iff, not_primitive_at, axes_range_iff, axes_out}
use Rattle.plan.proofs.SpellingLaws.{bases_bits_snoc, ms_bits_snoc, axes_bits_snoc}
use Rattle.plan.proofs.StepLaws.{after_coefficients}
use Rattle.plan.proofs.ValidLaws.{no_bases, bases_snoc, no_ms, ms_snoc, no_axes, axes_snoc}

module _ (bits : List ℕ) (below : AllBelow 2 bits) where
  -- a step that refuses where the refusal is due, and goes on with a value and bits for which Good holds
  pub data Sound {A : Type 0} (Good : A → List ℕ → Type 0) : Step A → Type 0 where
    stops : {n : ℕ} → Refusal bits n → Sound Good (refuse n)
    goes : {a : A} {l : List ℕ} → Good a l → Sound Good (got a l)

  module _ {A : Type 0} {Good : A → List ℕ → Type 0} where
    refuse_if_sound : (b : Bool) {n : ℕ} {s : Step A} → (b ≡ true → Refusal bits n) → (b ≡ false → Sound Good s) → Sound Good (refuse_if b n s)
    unfolding refuse_if
    refuse_if_sound true f g = stops (f refl)
    refuse_if_sound false f g = g refl

    field_sound : (f : Field) (w : ℕ) (l r : List ℕ) (rest : ℕ → List ℕ → Step A) → Before f l → width f ≡ w → bits ≡ l ++ r
        → ((v : ℕ) (t : List ℕ) → v < 2 ^ w → bits ≡ l ++ to_bits w v ++ t → Sound Good (rest v t)) → Sound Good (field w r rest)
    unfolding field
    field_sound f w l r rest before ew e next =
        let h : AllBelow 2 r = below_right 2 l r (subst (AllBelow 2) e below) in
        refuse_if_sound (ltb (length r) w) (λ t. short f l r before (rw ew (ltb-true (length r) w t)) e)
        (λ t. next (of_bits (take w r)) (drop w r) (of_bits_take_lt w r h)
        (e ∙ ap (λ (x : List ℕ). l ++ x) (to_bits_front w r h (ltb-false (length r) w t)) ∙ sym (append_assoc l (to_bits w (of_bits (take w r))) (drop w r))))

    and_then_sound : {B : Type 0} {Mid : B → List ℕ → Type 0} {s : Step B} (rest : B → List ℕ → Step A) → Sound Mid s
        → ((b : B) (r : List ℕ) → Mid b r → Sound Good (rest b r)) → Sound Good (and_then s rest)
    unfolding and_then
    and_then_sound rest (stops h) f = stops h
    and_then_sound rest (goes {a} {l} h) f = f a l h

  -- ---- Halton axes

  module _ (family s : ℕ) (kind : HaltonFamily family) (range : OneToSix s) where
    -- these bases, all that there are, and then l
    record BasesRead (bases l : List ℕ) : Type 0 where
      count : length bases ≡ s
      valid : ValidBases bases
      spelled : bits ≡ header_bits family s ++ bases_bits bases ++ l

    bases_sound : (k : ℕ) (earlier l : List ℕ) → length earlier + k ≡ s → ValidBases earlier → bits ≡ header_bits family s ++ bases_bits earlier ++ l
        → Sound BasesRead (read_bases k earlier l)
    unfolding read_bases Before width
    bases_sound zero earlier l ek v e = goes {a = earlier} (record { count = omega arith; valid = v; spelled = e })
    bases_sound (suc k) earlier l ek v e =
        let pre : List ℕ = header_bits family s ++ bases_bits earlier in
        let before : Before (base_field family s earlier) pre = (kind, range, omega arith, v, refl) in
        field_sound (base_field family s earlier) 8 pre l _ before refl e
        (λ b r hb eb.
        let back : b + 1 - 1 ≡ b = omega arith in
        refuse_if_sound (eqb b 0) (λ t. bad_base family s earlier pre r before (rw (eqb-true b 0 t) at eb))
        (λ t. refuse_if_sound (shares_factor (b + 1) earlier)
        (λ u. let w = shared_factor_at (b + 1) earlier u in
        shared_factor family s (b + 1) w.0 earlier pre r before (above_one b (eqb-false b 0 t)) (omega arith) w.1 w.2 (rw back eb))
        (λ u. bases_sound k (earlier ++ (b + 1) ∷ []) r (omega (arith, length_snoc earlier (b + 1)))
        (bases_snoc v (above_one b (eqb-false b 0 t)) (omega arith) ((no_shared_factor_iff (b + 1) earlier).0 u))
        (eb ∙ rw (bases_bits_snoc earlier (b + 1), back) (simp append_assoc)))))
      where
        above_one : (b : ℕ) → (b ≡ 0 → ⊥) → 2 ≤ b + 1
        above_one zero n = absurd (n refl)
        above_one (suc b) n = omega arith

  -- ---- Sobol axes

  module _ (s : ℕ) (range : OneToSix s) where
    module _ (axes : List Axis) (room : length axes < s) (right : ValidAxes axes) where
      module _ (d p : ℕ) (fit : ValidPolynomial d p) (new : NotAmong p axes) where
        -- these m's, all that there are, and then l
        record MsRead (ms l : List ℕ) : Type 0 where
          count : length ms ≡ d
          odd : AllOddBelow (length ms) ms
          spelled : bits ≡ header_bits 2 s ++ axes_bits axes ++ to_bits 4 d ++ to_bits (d - 1) (p / 2) ++ ms_bits 1 ms ++ l

        ms_sound : (k i : ℕ) (earlier l : List ℕ) → length earlier + k ≡ d → i ≡ 1 + length earlier → AllOddBelow (length earlier) earlier
            → bits ≡ header_bits 2 s ++ axes_bits axes ++ to_bits 4 d ++ to_bits (d - 1) (p / 2) ++ ms_bits 1 earlier ++ l
            → Sound MsRead (read_ms k i earlier l)
        unfolding read_ms Before width
        ms_sound zero i earlier l ek ei h e = goes {a = earlier} (record { count = omega arith; odd = h; spelled = e })
        ms_sound (suc k) i earlier l ek ei h e =
            let pre : List ℕ = header_bits 2 s ++ axes_bits axes ++ to_bits 4 d ++ to_bits (d - 1) (p / 2) ++ ms_bits 1 earlier in
            let before : Before (m_field s axes d p earlier) pre = (range, room, right, fit, new, omega arith, h, refl) in
            let wide : length earlier + 1 ≡ i = omega arith in
            let next : suc (length earlier) ≡ i = omega arith in
            field_sound (m_field s axes d p earlier) i pre l _ before wide e
            (λ m r hm em.
            refuse_if_sound (eqb (m % 2) 0) (λ t. even_m s d p m axes earlier pre r before (rw wide hm) (eqb-true (m % 2) 0 t) (rw wide em))
            (λ t. ms_sound k (i + 1) (earlier ++ m ∷ []) r (omega (arith, length_snoc earlier m)) (omega (arith, length_snoc earlier m))
            (ms_snoc earlier m h (record { odd = odd m (eqb-false (m % 2) 0 t); below = rw next hm }))
            (em ∙ rw (ms_bits_snoc 1 earlier m, ← ei) (simp append_assoc))))
          where
            odd : (m : ℕ) → (m % 2 ≡ 0 → ⊥) → m % 2 ≡ 1
            odd m n = let e : m % 2 ≢ 0 = n in omega arith

      -- this axis too, and then l
      record AxisRead (x : Axis) (l : List ℕ) : Type 0 where
        valid : ValidAxis x
        new : NotAmong x.polynomial axes
        spelled : bits ≡ header_bits 2 s ++ axes_bits (axes ++ x ∷ []) ++ l

      axis_read : (d p : ℕ) (fit : ValidPolynomial d p) (new : NotAmong p axes) (ms l : List ℕ) → MsRead d p fit new ms l → AxisRead (record { polynomial = p; ms = ms }) l
      unfolding axis_bits
      axis_read d p fit new ms l h =
          let e : d ≡ length ms = sym h.count in
          let f : ValidPolynomial (length ms) p = rw e at fit in
          record {
            valid = record { degree_high = f.degree_high; degree = f.degree; constant = f.constant; primitive = f.primitive; given = h.odd };
            new = new;
            spelled = h.spelled ∙ rw (axes_bits_snoc, e) (simp append_assoc);
          }

      coefficients_sound : (d : ℕ) (l : List ℕ) → d ≤ 12 → bits ≡ header_bits 2 s ++ axes_bits axes ++ to_bits 4 d ++ l
          → Sound AxisRead (field (d - 1) l (after_coefficients axes d))
      unfolding Before width ms_bits
      coefficients_sound d l top e =
          let pre : List ℕ = header_bits 2 s ++ axes_bits axes ++ to_bits 4 d in
          let before : Before (coefficients_field s axes d) pre = (range, room, right, top, refl) in
          field_sound (coefficients_field s axes d) (d - 1) pre l _ before refl e
          (λ a r ha ea.
          let p : ℕ = polynomial_of d a in
          let degree = polynomial_degree d a ha in
          let odd = polynomial_odd d a in
          let spelled : bits ≡ pre ++ to_bits (d - 1) (p / 2) ++ r = rw (polynomial_bits d a) ea in
          refuse_if_sound (not_primitive d p)
          (λ t. let w = not_primitive_at d p degree t in non_primitive s d p axes pre r before w.0 degree odd w.1 spelled)
          (λ t.
          let fit : ValidPolynomial d p = record { degree_high = top; degree = degree; constant = odd; primitive = (primitive_iff d p degree).0 t } in
          refuse_if_sound (is_repeated p axes)
          (λ u. let w = repeated_at p axes u in repeated s d p w.0 axes pre r before fit w.1 w.2 spelled)
          (λ u. let new = (not_repeated_iff p axes).0 u in
          and_then_sound _ (ms_sound d p fit new d 1 [] r (omega arith) refl no_ms (rw append-nil spelled)) (λ ms t h. goes (axis_read d p fit new ms t h)))))

      axis_sound : (l : List ℕ) → bits ≡ header_bits 2 s ++ axes_bits axes ++ l → Sound AxisRead (read_axis axes l)
      unfolding read_axis Before width
      axis_sound l e =
          let pre : List ℕ = header_bits 2 s ++ axes_bits axes in
          let before : Before (degree_field s axes) pre = (range, room, right, refl) in
          field_sound (degree_field s axes) 4 pre l _ before refl e
          (λ d r hd ed.
          refuse_if_sound (ltb 12 d) (λ t. high_degree s d axes pre r before (ltb-true 12 d t) hd ed)
          (λ t. coefficients_sound d r (ltb-false 12 d t) ed))

    -- these axes, all that there are, and then l
    record AxesRead (axes : List Axis) (l : List ℕ) : Type 0 where
      count : length axes ≡ s
      valid : ValidAxes axes
      spelled : bits ≡ header_bits 2 s ++ axes_bits axes ++ l

    axes_sound : (k : ℕ) (earlier : List Axis) (l : List ℕ) → length earlier + k ≡ s → ValidAxes earlier → bits ≡ header_bits 2 s ++ axes_bits earlier ++ l
        → Sound AxesRead (read_axes k earlier l)
    unfolding read_axes
    axes_sound zero earlier l ek v e = goes {a = earlier} (record { count = omega arith; valid = v; spelled = e })
    axes_sound (suc k) earlier l ek v e =
        and_then_sound _ (axis_sound earlier (omega arith) v l e)
        (λ x r h. axes_sound k (earlier ++ x ∷ []) r (omega (arith, length_snoc earlier x)) (axes_snoc v h.valid h.new) h.spelled)

  -- ---- the whole

  -- this plan, and then l
  pub record PlanSpelled (p : Plan) (l : List ℕ) : Type 0 where
    pub valid : Valid p
    pub spelled : bits ≡ plan_bits p ++ l

  body_sound : (b : Bool) (family s : ℕ) (l : List ℕ) → eqb family 2 ≡ b → family < 4 → OneToSix s → bits ≡ header_bits family s ++ l
      → Sound PlanSpelled (read_body b family s l)
  unfolding read_body plan_bits Valid bases_bits axes_bits
  body_sound true family s l t h range e =
      let e2 : bits ≡ header_bits 2 s ++ l = rw (eqb-true family 2 t) at e in
      and_then_sound _ (axes_sound s range s [] l (omega arith) no_axes (rw append-nil e2))
      (λ axes r g. goes (record { valid = (rw g.count range, g.valid); spelled = rw g.count g.spelled }))
  body_sound false family s l t h range e =
      let kind : HaltonFamily family = (h, eqb-false family 2 t) in
      and_then_sound _ (bases_sound family s kind range s [] l (omega arith) no_bases (rw append-nil e))
      (λ bases r g. goes (record { valid = (kind, rw g.count range, g.valid); spelled = rw g.count g.spelled }))

  pub fields_sound : Sound PlanSpelled (read_fields bits)
  unfolding read_fields Before width
  fields_sound =
      field_sound family_field 2 [] bits _ refl refl refl
      (λ family r hf ef.
      let before : Before (axes_field family) (to_bits 2 family) = (hf, refl) in
      field_sound (axes_field family) 3 (to_bits 2 family) r _ before refl ef
      (λ s l hs es.
      refuse_if_sound (eqb s 0 || eqb s 7) (λ u. bad_axes family s (to_bits 2 family) l before (axes_out s u) es)
      (λ u. body_sound (eqb family 2) family s l refl hf ((axes_range_iff s hs).0 u) es)))
