-- The words of a line, one axis after another; and a line with a word at fault says no plan. Assumes nothing.
use mathlib.Core.Path.{◌≡◌, refl, sym, ap, ◌∙◌}
use mathlib.Core.Bool.{cond}
use mathlib.Core.List.{List}
use Prim.Native.Nat.{ℕ, zero, suc, ◌+◌, ◌-◌, ◌*◌, ◌≤◌, ◌<◌}
use native.Mathlib.Omega.{arith}
use native.Mathlib.Numerals.{add-one}
use borrow.Author.Count.{below_more}
use lib.Dec.{eqb}
use lib.ListN.{length, get_or, take, drop, set, replicate, length-set, length-take, length-drop}
use lib.Seq.{get_or-set_same, get_or-set_other, get_or-take, get_or-drop, length-take-le, ext_get_or}
use Rattle.binary.specs.Polynomial.{degree_of}
use Rattle.words.specs.Word.{FirstWord}
use Rattle.words.specs.Decimal.{number_of}
use Rattle.words.specs.declared.Word.{Word}
use Rattle.std.proofs.Common.{◌≢◌, Ok, Err, None}
use Rattle.plan.specs.Plan.{Axis, no_axis, Plan, halton, sobol, OneToSix, HaltonFamily}
use Rattle.plan.specs.Answer.{axis_at, axes_of}
use Rattle.plan.proofs.AnswerLaws.{length_axes}
use Rattle.axis_words.specs.Spelled.{AxisWord}
use Rattle.axis_words.specs.Parsed.{Kept}
use Rattle.axis_words.proofs.PartLaws.{value_same, axis_same}
use Rattle.plan_check.specs.Found.{fault_at}
use Rattle.plan_check.proofs.FoundLaws.{axes_at, plan_halton, plan_sobol}
use Rattle.plan_words.specs.Says.{word_from, word_text, word_at, family_words, family_word, families, axes_from, axes_said, Head, Says}
use Rattle.plan_words.specs.Parsed.{FamilyRead, NoBase, NoAxis, BasesRead, AxesHeld, AxesRead, Unspelled, PlanHeld}

-- ---- words

-- the code's word
pub word_is : {line : List ℕ} {at : ℕ} {w : Word} → FirstWord line at w → take (w.end - w.start) (drop w.start line) ≡ word_text line at
unfolding word_text
word_is {line} f = ap (λ (v : Word). take (v.end - v.start) (drop v.start line)) f.is

pub end_is : {line : List ℕ} {at : ℕ} {w : Word} → FirstWord line at w → w.end ≡ axes_from line at
end_is f = ap (λ (v : Word). v.end) f.is

-- where word i is looked for
pub record Place (line : List ℕ) (from at i : ℕ) : Type 0 where
  pub within : at ≤ length line
  pub is : at ≡ word_from line from i

pub first_place : (line : List ℕ) (from : ℕ) → from ≤ length line → Place line from from 0
unfolding word_from
first_place line from h = record { within = h; is = refl }

module _ {line : List ℕ} {from at i : ℕ} (p : Place line from at i) {w : Word} (f : FirstWord line at w) where
  pub next_place : Place line from w.end (i + 1)
  unfolding word_from
  next_place = record { within = f.high; is = rw (add-one, ← p.is) (ap (λ (v : Word). v.end) f.is) }

  pub here : take (w.end - w.start) (drop w.start line) ≡ word_at line from i
  here = word_is f ∙ ap (word_text line) p.is

-- ---- bases

pub record BasesSoFar (line : List ℕ) (from : ℕ) (bases : List ℕ) (i : ℕ) : Type 0 where
  pub size : length bases ≡ 6
  pub each : (j : ℕ) → j < i → number_of (word_at line from j) ≡ Ok (get_or bases j 0)

pub no_bases : (line : List ℕ) (from : ℕ) → BasesSoFar line from (replicate 6 0) 0
no_bases line from = record { size = refl; each = λ j h. absurd (omega arith) }

module _ {line : List ℕ} {from : ℕ} {bases : List ℕ} {i : ℕ} (s : BasesSoFar line from bases i) where
  pub base_next : (v : ℕ) → i < 6 → number_of (word_at line from i) ≡ Ok v → BasesSoFar line from (set bases i v) (i + 1)
  base_next v h e =
      record {
        size = length-set bases i v ∙ s.size;
        each = below_more (λ (j : ℕ). number_of (word_at line from j) ≡ Ok (get_or (set bases i v) j 0)) i
            (λ j l. s.each j l ∙ ap Ok (sym (get_or-set_other bases i j v 0 (λ q. omega (arith, q)))))
            (e ∙ ap Ok (sym (get_or-set_same bases i v 0 (omega (arith, s.size)))));
      }

  pub base_wrong : (n : ℕ) → i < n → ((b : ℕ) → number_of (word_at line from i) ≡ Ok b → ⊥) → BasesRead line from n (Err (fault_at 102 (i + 1) 0 0 0))
  unfolding NoBase
  base_wrong n h no_number = (refl, (i, refl, h, no_number))

  pub bases_all : (n : ℕ) → n ≤ i → BasesRead line from n (Ok bases)
  bases_all n h = (s.size, λ j l. s.each j (omega arith))

-- ---- axes

pub record AxesSoFar (line : List ℕ) (from : ℕ) (ps ms : List ℕ) (i : ℕ) : Type 0 where
  pub size : length ps ≡ 6
  pub size_ms : length ms ≡ 72
  pub low : (j : ℕ) → j < i → degree_of (get_or ps j 0) ≤ 12
  pub each : (j : ℕ) → j < i → AxisWord (word_at line from j) (axis_at ps ms j)

pub no_axes : (line : List ℕ) (from : ℕ) → AxesSoFar line from (replicate 6 0) (replicate 72 0) 0
no_axes line from =
    record { size = refl; size_ms = refl; low = λ j h. absurd (omega arith); each = λ j h. absurd (omega arith) }

-- the m's of an axis before axis i are kept
ms_kept : {i : ℕ} {old new : List ℕ} → Kept i old new → (j d : ℕ) → j < i → d ≤ 12 → take d (drop (12 * j) new) ≡ take d (drop (12 * j) old)
ms_kept {i} {old} {new} k j d h low =
    ext_get_or 0 (take d (drop (12 * j) new)) (take d (drop (12 * j) old))
    (omega (
      arith,
      length-take d (drop (12 * j) new),
      length-take d (drop (12 * j) old),
      length-drop (12 * j) new,
      length-drop (12 * j) old,
      k.size,
    ))
    (λ n l.
    let m : n < d = omega (arith, length-take d (drop (12 * j) new)) in
    get_or-take d (drop (12 * j) new) n 0 m ∙ get_or-drop (12 * j) new n 0 ∙ k.front (12 * j + n) (omega arith)
    ∙ sym (get_or-take d (drop (12 * j) old) n 0 m ∙ get_or-drop (12 * j) old n 0))

module _ {line : List ℕ} {from : ℕ} {ps ms : List ℕ} {i : ℕ} (s : AxesSoFar line from ps ms i) {new : List ℕ} (k : Kept i ms new) where
  pub axis_next : (p : ℕ) → i < 6 → degree_of p ≤ 12 → AxisWord (word_at line from i) (record { polynomial = p; ms = take (degree_of p) (drop (12 * i) new) })
      → AxesSoFar line from (set ps i p) new (i + 1)
  axis_next p h low x =
      let same : (j : ℕ) → j < i → get_or (set ps i p) j 0 ≡ get_or ps j 0 = λ j l. get_or-set_other ps i j p 0 (λ q. omega (arith, q)) in
      let this : get_or (set ps i p) i 0 ≡ p = get_or-set_same ps i p 0 (omega (arith, s.size)) in
      record {
        size = length-set ps i p ∙ s.size;
        size_ms = k.size ∙ s.size_ms;
        low = below_more (λ (j : ℕ). degree_of (get_or (set ps i p) j 0) ≤ 12) i (λ j l. rw (same j l) (s.low j l)) (rw this low);
        each = below_more (λ (j : ℕ). AxisWord (word_at line from j) (axis_at (set ps i p) new j)) i
            (λ j l. rw (same j l, ms_kept k j (degree_of (get_or ps j 0)) l (s.low j l)) (s.each j l))
            (rw this x);
      }

  pub axis_wrong : (n code place got : ℕ) → i < n → (code ≡ 0 → ⊥) → ((x : Axis) → AxisWord (word_at line from i) x → ⊥)
      → AxesRead line from n (Err (fault_at code (i + 1) place got 0))
  unfolding NoAxis
  axis_wrong n code place got h wrong none = (wrong, (i, refl, h, none))

pub axes_all : {line : List ℕ} {from : ℕ} {ps ms : List ℕ} {i : ℕ} → AxesSoFar line from ps ms i → (n : ℕ) → n ≤ i → AxesHeld line from n ps ms
axes_all s n h = record { size = s.size; size_ms = s.size_ms; spelled = λ j l. s.each j (omega arith) }

-- ---- the whole

module _ (line : List ℕ) (from family s end : ℕ) (e : end ≡ axes_from line from) (n : word_text line from ≡ family_word family) (c : s ≡ axes_said line from) (few : OneToSix s) where
  head : (k : ℕ) → k ≡ s → Head line from family k
  head k q = record { named = n; count = sym c ∙ sym q; few = rw q few }

  pub said_axes : (ps ms : List ℕ) → family ≡ 2 → AxesHeld line end s ps ms
      → PlanHeld line from (record { family = family; axes = s; bases = replicate 6 0; polynomials = ps; ms = ms })
  unfolding Says
  said_axes ps ms two a =
      record {
        few = few.1;
        size = refl;
        size_polynomials = a.size;
        size_ms = a.size_ms;
        blank = λ n. absurd (n two);
        spelled =
            rw (plan_sobol family s (replicate 6 0) ps ms two) (
              rw two at (head (length (axes_of ps ms s)) (length_axes ps ms s)),
              λ i h.
                  let l : i < s = omega (arith, length_axes ps ms s) in
                  rw (axes_at ps ms s i l, ← e) (a.spelled i l),
            );
      }

  pub wrong_axis : {code axis : ℕ} → family ≡ 2 → (code ≢ 0) × ((i : ℕ) × (axis ≡ i + 1) × (i < s) × NoAxis line end i)
      → Unspelled line from code axis × (code ≢ 0)
  wrong_axis {code} two a =
      let w = a.1 in
      (rw w.1 (Unspelled.bad_axis code w.0 (rw two at n) (omega (arith, w.2)) (rw e at w.3)), a.0)

  pub said_bases : (bases : List ℕ) → HaltonFamily family → BasesRead line end s (Ok bases)
      → PlanHeld line from (record { family = family; axes = s; bases = bases; polynomials = replicate 6 0; ms = replicate 72 0 })
  unfolding Says
  said_bases bases kind b =
      let front = length-take-le s bases (omega (arith, b.0, few.1)) in
      record {
        few = few.1;
        size = b.0;
        size_polynomials = refl;
        size_ms = refl;
        blank = λ l. refl;
        spelled =
            rw (plan_halton family s bases (replicate 6 0) (replicate 72 0) kind.1) (
              kind,
              head (length (take s bases)) front,
              λ i h.
                  let l : i < s = omega arith in
                  rw (get_or-take s bases i 0 l, ← e) (b.1 i l),
            );
      }

  pub wrong_base : {code axis : ℕ} → HaltonFamily family → (code ≡ 102) × ((i : ℕ) × (axis ≡ i + 1) × (i < s) × NoBase line end i)
      → Unspelled line from code axis × (code ≢ 0)
  wrong_base kind b =
      let v = b.1 in
      (rw (b.0, v.1) (Unspelled.bad_base family v.0 kind n (omega (arith, v.2)) (rw e at v.3)), λ z. omega (arith, b.0))

-- ---- the family's word

pub no_family : (word : List ℕ) → (word ≡ family_word 0 → ⊥) → (word ≡ family_word 1 → ⊥) → (word ≡ family_word 2 → ⊥) → (word ≡ family_word 3 → ⊥)
    → FamilyRead word None
no_family word a b c d = each
  where
    each : (f : ℕ) → f < families → word ≡ family_word f → ⊥
    each zero h = a
    each (suc zero) h = b
    each (suc (suc zero)) h = c
    each (suc (suc (suc zero))) h = d
    each (suc (suc (suc (suc f)))) h = absurd (omega arith)

-- the family by a word's first letter: h, p, s or k
family_by : ℕ → ℕ
family_by letter = cond (eqb letter 104) 0 (cond (eqb letter 112) 1 (cond (eqb letter 115) 2 3))

family_back : (f : ℕ) → f < families → family_by (get_or (family_word f) 0 0) ≡ f
unfolding family_words family_by
family_back zero h = refl
family_back (suc zero) h = refl
family_back (suc (suc zero)) h = refl
family_back (suc (suc (suc zero))) h = refl
family_back (suc (suc (suc (suc f)))) h = absurd (omega arith)

-- no two families have the same word
family_same : (f g : ℕ) → f < families → g < families → family_word f ≡ family_word g → f ≡ g
family_same f g h k e = sym (family_back f h) ∙ ap (λ (word : List ℕ). family_by (get_or word 0 0)) e ∙ family_back g k

not_sobol : (f : ℕ) → HaltonFamily f → family_word f ≡ family_word 2 → ⊥
not_sobol f h e = h.1 (family_same f 2 h.0 (omega arith) e)

-- ---- a word at fault says no plan

module _ (line : List ℕ) (from : ℕ) where
  pub unspelled : {code axis : ℕ} → Unspelled line from code axis → (p : Plan) → Says line from p → ⊥
  unfolding Says NoBase NoAxis
  unspelled (Unspelled.bad_family h) (halton family bases) s = h family s.0.0 s.1.named
  unspelled (Unspelled.bad_family h) (sobol axes) s = h 2 (omega arith) s.0.named
  unspelled (Unspelled.bad_count h) (halton family bases) s = h (rw s.1.count s.1.few)
  unspelled (Unspelled.bad_count h) (sobol axes) s = h (rw s.0.count s.0.few)
  unspelled (Unspelled.bad_base family i kind n h none) (halton g bases) s = none (get_or bases i 0) (s.2 i (omega (arith, s.1.count)))
  unspelled (Unspelled.bad_base family i kind n h none) (sobol axes) s = not_sobol family kind (sym n ∙ s.0.named)
  unspelled (Unspelled.bad_axis code i n h none) (halton family bases) s = not_sobol family s.0 (sym s.1.named ∙ n)
  unspelled (Unspelled.bad_axis code i n h none) (sobol axes) s = none (get_or axes i no_axis) (s.1 i (omega (arith, s.0.count)))

-- ---- a line says one plan

pub says_same : (line : List ℕ) (from : ℕ) (p q : Plan) → Says line from p → Says line from q → p ≡ q
unfolding Says
says_same line from (halton f bases) (halton g others) s t =
    let e = family_same f g s.0.0 t.0.0 (sym s.1.named ∙ t.1.named) in
    let long : length bases ≡ length others = sym s.1.count ∙ t.1.count in
    let b : bases ≡ others =
    ext_get_or 0 bases others long (λ i h. value_same (word_at line (axes_from line from) i) (s.2 i h) (t.2 i (omega arith))) in
    λ i. halton (e i) (b i)
says_same line from (halton f bases) (sobol axes) s t = absurd (not_sobol f s.0 (sym s.1.named ∙ t.0.named))
says_same line from (sobol axes) (halton f bases) s t = absurd (not_sobol f t.0 (sym t.1.named ∙ s.0.named))
says_same line from (sobol axes) (sobol others) s t =
    let long : length axes ≡ length others = sym s.0.count ∙ t.0.count in
    let a : axes ≡ others =
    ext_get_or no_axis axes others long (λ i h. axis_same (get_or axes i no_axis) (get_or others i no_axis) (s.1 i h) (t.1 i (omega arith))) in
    λ i. sobol (a i)
