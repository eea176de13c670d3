-- Reading one Sobol axis: the test for a repeated polynomial, and the axis by the tests. Assumes nothing.
use mathlib.Core.Path.{◌≡◌, refl, sym, ap, ◌∙◌}
use mathlib.Core.Bool.{Bool, true, false, ◌||◌, or-false, or-true, or_assoc}
use mathlib.Core.List.{List, [], ◌∷◌, ◌++◌}
use Prim.Native.Nat.{ℕ, zero, suc, ◌+◌, ◌-◌, ◌<◌, ◌≤◌}
use native.Mathlib.Numerals.{add-one}
use native.Mathlib.Omega.{arith}
use lib.Dec.{ltb, eqb}
use lib.ListN.{length, take, drop, get_or}
use lib.Seq.{drop-drop}
use borrow.Author.Tests.{lt-ltb, le-ltb, eq-eqb, ne_eqb}
use Rattle.binary.specs.Polynomial.{Degree}
use Rattle.bits.specs.Stream.{of_bits, bits_of, field_at}
use Rattle.bits.proofs.StreamLaws.{field_lt}
use Rattle.plan.specs.Plan.{Axis}
use Rattle.plan.specs.Reading.{Step, refuse, refuse_if, field, and_then, polynomial_of, not_primitive, is_repeated, read_ms, read_axis}
use Rattle.plan.specs.Answer.{axis_at, axes_of}
use Rattle.plan.proofs.TestLaws.{polynomial_degree}
use Rattle.plan.proofs.StepLaws.{after_ms}
use Rattle.sobol_reader.specs.Axes.{MsAnswer, AxisAnswer}
use Rattle.sobol_reader.proofs.MsLaws.{ms_reading}
use Rattle.plan.proofs.PartLaws.{field_value}

-- ---- a polynomial against those of the first n axes of arrays

repeated_snoc : (p : ℕ) (axes : List Axis) (x : Axis) → is_repeated p (axes ++ x ∷ []) ≡ is_repeated p axes || eqb p x.polynomial
unfolding is_repeated
repeated_snoc p [] x = or-false (eqb p x.polynomial)
repeated_snoc p (y ∷ axes) x =
    ap (λ (b : Bool). eqb p y.polynomial || b) (repeated_snoc p axes x) ∙ sym (or_assoc (eqb p y.polynomial) (is_repeated p axes) (eqb p x.polynomial))

-- p is not among the first j polynomials, whatever the m's
pub record RepeatedLoop (p : ℕ) (ps : List ℕ) (j : ℕ) : Type 0 where
  pub none : (ms : List ℕ) → is_repeated p (axes_of ps ms j) ≡ false

module _ (p : ℕ) (ps ms : List ℕ) where
  one_more : (j : ℕ) → is_repeated p (axes_of ps ms (suc j)) ≡ is_repeated p (axes_of ps ms j) || eqb p (get_or ps j 0)
  unfolding axes_of
  one_more j = repeated_snoc p (axes_of ps ms j) (axis_at ps ms j)

  -- d places after place j
  repeated_after : (j d n : ℕ) → n ≡ d + j → p ≡ get_or ps j 0 → is_repeated p (axes_of ps ms (suc n)) ≡ true
  repeated_after j zero n h e =
      let same : n ≡ j = omega arith in
      one_more n ∙ rw (same, eq-eqb p (get_or ps j 0) e) (or-true (is_repeated p (axes_of ps ms j)))
  repeated_after j (suc d) zero h e = absurd (omega arith)
  repeated_after j (suc d) (suc n) h e = one_more (suc n) ∙ rw (repeated_after j d n (omega arith) e) refl

  pub repeated_stop : (j n : ℕ) → j < n → p ≡ get_or ps j 0 → true ≡ is_repeated p (axes_of ps ms n)
  repeated_stop j zero h e = absurd (omega arith)
  repeated_stop j (suc n) h e = sym (repeated_after j (n - j) n (omega arith) e)

pub repeated_none : (p : ℕ) (ps : List ℕ) → RepeatedLoop p ps 0
unfolding axes_of is_repeated
repeated_none p ps = record { none = λ ms. refl }

pub repeated_next : {p : ℕ} {ps : List ℕ} {j : ℕ} → RepeatedLoop p ps j → (p ≡ get_or ps j 0 → ⊥) → RepeatedLoop p ps (j + 1)
repeated_next {p} {ps} {j} inv f =
    record { none = λ ms. rw (add-one, one_more p ps ms j, inv.none ms, ne_eqb p (get_or ps j 0) f) refl }

-- ---- an axis of the reading, by the tests

short_degree : (earlier : List Axis) (l : List ℕ) → ltb (length l) 4 ≡ true → read_axis earlier l ≡ refuse 1
unfolding read_axis field refuse_if
short_degree earlier l e = rw e refl

module _ (earlier : List Axis) (l : List ℕ) (d : ℕ) (e : ltb (length l) 4 ≡ false) (ed : of_bits (take 4 l) ≡ d) where
  bad_degree : ltb 12 d ≡ true → read_axis earlier l ≡ refuse 6
  unfolding read_axis field refuse_if
  bad_degree f = rw (e, ed, f) refl

  module _ (f : ltb 12 d ≡ false) where
    short_coefficients : ltb (length (drop 4 l)) (d - 1) ≡ true → read_axis earlier l ≡ refuse 1
    unfolding read_axis field refuse_if
    short_coefficients g = rw (e, ed, f, g) refl

    module _ (g : ltb (length (drop 4 l)) (d - 1) ≡ false) (p : ℕ) (ep : polynomial_of d (of_bits (take (d - 1) (drop 4 l))) ≡ p) where
      unfit : not_primitive d p ≡ true → read_axis earlier l ≡ refuse 7
      unfolding read_axis field refuse_if
      unfit u = rw (e, ed, f, g, ep, u) refl

      module _ (u : not_primitive d p ≡ false) where
        twin : is_repeated p earlier ≡ true → read_axis earlier l ≡ refuse 9
        unfolding read_axis field refuse_if
        twin t = rw (e, ed, f, g, ep, u, t) refl

        fit : is_repeated p earlier ≡ false → read_axis earlier l ≡ and_then (read_ms d 1 [] (drop (d - 1) (drop 4 l))) (after_ms p)
        unfolding read_axis field
        fit t = unfold refuse_if in (rw (e, ed, f, g, ep, u, t) refl)

-- ---- what `read_axis` has read

-- the degree
pub record DegreeRead (bytes : List ℕ) (start d : ℕ) : Type 0 where
  pub long : ltb (length (drop start (bits_of bytes))) 4 ≡ false
  pub value : d ≡ field_at bytes start 4

-- and the polynomial, whose coefficients are w bits
pub record PolynomialRead (bytes : List ℕ) (start d w p : ℕ) : Type 0 where
  pub degree : DegreeRead bytes start d
  pub most : d ≤ 12
  pub width : w ≡ d - 1
  pub long : ltb (length (drop (start + 4) (bits_of bytes))) w ≡ false
  pub value : p ≡ polynomial_of d (field_at bytes (start + 4) w)

pub polynomial_fits : {bytes : List ℕ} {start d w p : ℕ} → PolynomialRead bytes start d w p → Degree d p
polynomial_fits {bytes} {start} {d} {w} h =
    rw h.value (polynomial_degree d (field_at bytes (start + 4) w) (rw (← h.width) (field_lt bytes (start + 4) w)))

-- ---- the answers of `read_axis`

module _ (bytes ps : List ℕ) (start n : ℕ) where
  -- the reading of the axis refuses with number k, whatever the m's of the earlier axes
  abbrev pub AxisRefused : ℕ → Type 0
  AxisRefused k = (b : List ℕ) → read_axis (axes_of ps b n) (drop start (bits_of bytes)) ≡ refuse k

  pub axis_short : {r : Bool} → r ≡ ltb (length (drop start (bits_of bytes))) 4 → r ≡ true → AxisRefused 1
  axis_short er t = λ b. short_degree _ _ (sym er ∙ t)

  module _ {d : ℕ} (h : DegreeRead bytes start d) where
    is_d : of_bits (take 4 (drop start (bits_of bytes))) ≡ d
    is_d = field_value bytes start 4 h.value

    pub axis_high : 12 < d → AxisRefused 6
    axis_high g = λ b. bad_degree _ _ d h.long is_d (lt-ltb 12 d g)

    module _ (most : d ≤ 12) {w : ℕ} (ew : w ≡ d - 1) {r : Bool} (er : r ≡ ltb (length (drop (start + 4) (bits_of bytes))) w) where
      on : drop 4 (drop start (bits_of bytes)) ≡ drop (start + 4) (bits_of bytes)
      on = drop-drop 4 start (bits_of bytes)

      decides : ltb (length (drop 4 (drop start (bits_of bytes)))) (d - 1) ≡ r
      decides = rw (on, ← ew) (sym er)

      pub axis_cut : r ≡ true → AxisRefused 1
      axis_cut t = λ b. short_coefficients _ _ d h.long is_d (le-ltb 12 d most) (decides ∙ t)

  module _ {d w p : ℕ} (h : PolynomialRead bytes start d w p) {u : Bool} (eu : u ≡ not_primitive d p) where
    is_p : polynomial_of d (of_bits (take (d - 1) (drop 4 (drop start (bits_of bytes))))) ≡ p
    is_p = rw (drop-drop 4 start (bits_of bytes), ← h.width, field_value bytes (start + 4) w refl) (sym h.value)

    long : ltb (length (drop 4 (drop start (bits_of bytes)))) (d - 1) ≡ false
    long = decides h.degree h.most h.width (sym h.long)

    pub axis_unfit : u ≡ true → AxisRefused 7
    axis_unfit t = λ b. unfit _ _ d h.degree.long (is_d h.degree) (le-ltb 12 d h.most) long p is_p (sym eu ∙ t)

    module _ (tu : u ≡ false) {t : Bool} (et : (b : List ℕ) → t ≡ is_repeated p (axes_of ps b n)) where
      pub axis_twin : t ≡ true → AxisRefused 9
      axis_twin r =
          λ b. twin _ _ d h.degree.long (is_d h.degree) (le-ltb 12 d h.most) long p is_p (sym eu ∙ tu) (sym (et b) ∙ r)

      module _ (nt : t ≡ false) where
        to_ms : {m : Step (List ℕ)} → ms_reading bytes (start + 4 + w) d ≡ m → (b : List ℕ)
            → read_axis (axes_of ps b n) (drop start (bits_of bytes)) ≡ and_then m (after_ms p)
        to_ms e b =
            fit _ _ d h.degree.long (is_d h.degree) (le-ltb 12 d h.most) long p is_p (sym eu ∙ tu) (sym (et b) ∙ nt)
            ∙ rw (drop-drop 4 start (bits_of bytes), ← h.width, drop-drop w (start + 4) (bits_of bytes), e) refl

        pub axis_stop : {k : ℕ} → ms_reading bytes (start + 4 + w) d ≡ refuse k → AxisRefused k
        unfolding and_then
        axis_stop e b = to_ms e b

        pub axis_end : {at : ℕ} {ms : List ℕ} → MsAnswer bytes (start + 4 + w) d at ms → AxisAnswer bytes start n ps at d p ms
        unfolding and_then
        axis_end m =
            record {
              step = to_ms m.step;
              blank = m.blank;
              size = m.size;
              degree_high = h.most;
              has_degree = polynomial_fits h;
              within = m.within;
              near = omega arith;
            }
