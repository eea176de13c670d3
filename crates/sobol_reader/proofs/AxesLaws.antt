-- Reading the Sobol axes into arrays: the axes that arrays hold as one more is stored, and the loop over the axes. Assumes nothing.
use mathlib.Core.Path.{◌≡◌, refl, sym, ap, ap₂, ◌∙◌}
use mathlib.Core.Logic.{⊎_elim}
use mathlib.Core.List.{List, [], ◌∷◌, ◌++◌, append_assoc, append-nil}
use Prim.Native.Nat.{ℕ, zero, suc, ◌+◌, ◌-◌, ◌*◌, ◌<◌, ◌≤◌}
use native.Mathlib.Numerals.{add-one}
use native.Mathlib.Omega.{arith}
use lib.ListN.{length, take, drop, get_or, replicate, set, length-set, length-drop, take-append-drop}
use lib.Seq.{take-suc, take-append-le, drop-append-le, drop_at, length-take-le, get_or-set_same, get_or-set_other}
use Rattle.numbers.specs.Listed.{padded}
use Rattle.numbers.proofs.Cases.{lt_or_ge}
use Rattle.binary.specs.Polynomial.{degree_of}
use Rattle.binary.proofs.DegreeLaws.{degree_of_lem}
use Rattle.bits.specs.Stream.{bits_of, overwrite}
use Rattle.bits.proofs.OverwriteLaws.{over_is, length_over, take_over, drop_over}
use Rattle.plan.specs.Plan.{Axis}
use Rattle.plan.specs.Reading.{Step, refuse, and_then, read_axis, read_axes}
use Rattle.plan.specs.Answer.{polynomials_of, ms_of, axis_at, axes_of}
use Rattle.sobol_reader.specs.Axes.{AxisAnswer, AxesAnswer}
use Rattle.plan.proofs.BlankLaws.{blank_drop, blank_set, padded_front}

-- ---- a list with a block written over it from place q on

-- what lies before the block stays
front : (n p q : ℕ) (l z : List ℕ) → p + n ≤ q → q ≤ length l → take n (drop p (take q l ++ z)) ≡ take n (drop p (take q l))
front n p q l z h k =
    let e : length (take q l) ≡ q = length-take-le q l k in
    ap (take n) (drop-append-le p (take q l) z (omega arith))
    ∙ take-append-le n (drop p (take q l)) z (omega (arith, length-drop p (take q l)))

module _ (q : ℕ) (l x : List ℕ) (k : q ≤ length l) where
  over_below : (n p : ℕ) → p + n ≤ q → take n (drop p (overwrite l q x)) ≡ take n (drop p l)
  over_below n p h =
      ap (λ (y : List ℕ). take n (drop p y)) (over_is l q x ∙ append_assoc (take q l) x (drop (q + length x) l))
      ∙ front n p q l (x ++ drop (q + length x) l) h k
      ∙ sym (ap (λ (y : List ℕ). take n (drop p y)) (sym (take-append-drop q l)) ∙ front n p q l (drop q l) h k)

  over_at : (n : ℕ) → n ≤ length x → take n (drop q (overwrite l q x)) ≡ take n x
  over_at n h =
      ap (λ (y : List ℕ). take n (drop q y)) (over_is l q x ∙ append_assoc (take q l) x (drop (q + length x) l))
      ∙ ap (take n) (drop_at (take q l) (x ++ drop (q + length x) l) q (length-take-le q l k))
      ∙ take-append-le n x (drop (q + length x) l) h

-- ---- the arrays of axes

polynomials_snoc : (axes : List Axis) (x : Axis) → polynomials_of (axes ++ x ∷ []) ≡ polynomials_of axes ++ x.polynomial ∷ []
unfolding polynomials_of
polynomials_snoc [] x = refl
polynomials_snoc (y ∷ axes) x = ap (λ (l : List ℕ). y.polynomial ∷ l) (polynomials_snoc axes x)

ms_snoc : (axes : List Axis) (x : Axis) → ms_of (axes ++ x ∷ []) ≡ ms_of axes ++ padded 12 x.ms
unfolding ms_of
ms_snoc [] x = append-nil (padded 12 x.ms)
ms_snoc (y ∷ axes) x =
    ap (λ (l : List ℕ). padded 12 y.ms ++ l) (ms_snoc axes x) ∙ sym (append_assoc (padded 12 y.ms) (ms_of axes) (padded 12 x.ms))

polynomials_of_lem : (ps ms : List ℕ) (n : ℕ) → n ≤ length ps → polynomials_of (axes_of ps ms n) ≡ take n ps
unfolding axes_of polynomials_of
polynomials_of_lem ps ms zero h = refl
polynomials_of_lem ps ms (suc n) h =
    polynomials_snoc (axes_of ps ms n) (axis_at ps ms n)
    ∙ ap (λ (l : List ℕ). l ++ get_or ps n 0 ∷ []) (polynomials_of_lem ps ms n (omega arith))
    ∙ sym (take-suc ps n 0 h)

-- the first i polynomials have degree 12 at most
abbrev Low : List ℕ → ℕ → Type 0
Low ps i = (k : ℕ) → k < i → degree_of (get_or ps k 0) ≤ 12

-- axis i is stored
module _ (ps ms : List ℕ) (i p d : ℕ) (block : List ℕ) (room : 12 * i ≤ length ms) (low : Low ps i) where
  frame : (n : ℕ) → n ≤ i → axes_of (set ps i p) (overwrite ms (12 * i) block) n ≡ axes_of ps ms n
  unfolding axes_of
  frame zero h = refl
  frame (suc n) h =
      ap₂ (λ (l : List Axis) (x : Axis). l ++ x ∷ []) (frame n (omega arith))
      (rw (
        get_or-set_other ps i n p 0 (λ e. omega arith),
        over_below (12 * i) ms block room (degree_of (get_or ps n 0)) (12 * n) (omega (arith, low n (omega arith))),
      ) refl)

  module _ (h : i < length ps) (size : length block ≡ 12) (most : d ≤ 12) (ed : degree_of p ≡ d) where
    grown : axes_of (set ps i p) (overwrite ms (12 * i) block) (i + 1) ≡ axes_of ps ms i ++ record { polynomial = p; ms = take d block } ∷ []
    unfolding axes_of
    grown =
        rw add-one
        (ap₂ (λ (l : List Axis) (x : Axis). l ++ x ∷ []) (frame i (omega arith))
        (rw (get_or-set_same ps i p 0 h, ed, over_at (12 * i) ms block room d (omega arith)) refl))

    grown_low : Low (set ps i p) (i + 1)
    grown_low k q =
        ⊎_elim
        (λ (f : k < i). rw (get_or-set_other ps i k p 0 (λ e. omega arith)) (low k f))
        (λ (f : i ≤ k). let e : k ≡ i = omega arith in rw (e, get_or-set_same ps i p 0 h, ed) most)
        (lt_or_ge k i)

-- ---- the loop of `read_axes`

pub record AxesLoop (bytes : List ℕ) (axes : ℕ) (ps ms : List ℕ) (at i : ℕ) : Type 0 where
  pub count : i ≤ axes
  pub near : at ≤ 5 + 160 * i
  pub inside : at ≤ 8 * length bytes
  pub size_ps : length ps ≡ 6
  pub size_ms : length ms ≡ 72
  pub blank_ps : drop i ps ≡ replicate (6 - i) 0
  pub blank_ms : drop (12 * i) ms ≡ replicate (72 - 12 * i) 0
  pub low : Low ps i
  pub blocks : take (12 * i) ms ≡ ms_of (axes_of ps ms i)
  pub same : read_axes axes [] (drop 5 (bits_of bytes)) ≡ read_axes (axes - i) (axes_of ps ms i) (drop at (bits_of bytes))

pub axes_start : (bytes : List ℕ) (axes : ℕ) → 5 ≤ 8 * length bytes → AxesLoop bytes axes (replicate 6 0) (replicate 72 0) 5 0
unfolding axes_of ms_of
axes_start bytes axes h =
    record {
      count = omega arith;
      near = omega arith;
      inside = h;
      size_ps = refl;
      size_ms = refl;
      blank_ps = refl;
      blank_ms = refl;
      low = λ k q. absurd (omega arith);
      blocks = refl;
      same = ap (λ (k : ℕ). read_axes k [] (drop 5 (bits_of bytes))) (omega arith);
    }

-- the reading of so many axes, from bit 5 on
abbrev pub axes_reading : List ℕ → ℕ → Step (List Axis)
axes_reading bytes axes = read_axes axes [] (drop 5 (bits_of bytes))

module _ {bytes : List ℕ} {axes : ℕ} {ps ms : List ℕ} {at i : ℕ} (inv : AxesLoop bytes axes ps ms at i) (most : axes ≤ 6) where
  pub axes_end : axes ≤ i → AxesAnswer bytes axes at ps ms
  unfolding read_axes
  axes_end h =
      let e : i ≡ axes = omega arith in
      let z : axes - i ≡ 0 = omega arith in
      record {
        step = inv.same ∙ rw (z, e) refl;
        flat = rw (← e)
            (record {
              polynomials = rw (polynomials_of_lem ps ms i (omega arith)) (padded_front 6 i ps inv.size_ps (omega arith) inv.blank_ps);
              blocks = rw (← inv.blocks) (padded_front 72 (12 * i) ms inv.size_ms (omega arith) inv.blank_ms);
            });
        within = inv.inside;
        near = omega arith;
      }

  module _ (h : i < axes) where
    turn : {x : Step Axis} → read_axis (axes_of ps ms i) (drop at (bits_of bytes)) ≡ x
        → axes_reading bytes axes ≡ and_then x λ y r. read_axes (axes - (i + 1)) (axes_of ps ms i ++ y ∷ []) r
    unfolding read_axes
    turn e =
        let left : axes - i ≡ suc (axes - (i + 1)) = omega arith in
        inv.same ∙ rw left (rw e refl)

    pub axes_stop : {k : ℕ} → ((b : List ℕ) → read_axis (axes_of ps b i) (drop at (bits_of bytes)) ≡ refuse k) → axes_reading bytes axes ≡ refuse k
    unfolding and_then
    axes_stop e = turn (e ms)

    pub axes_next : {at' d p : ℕ} {block : List ℕ} → AxisAnswer bytes at i ps at' d p block
        → AxesLoop bytes axes (set ps i p) (overwrite ms (12 * i) block) at' (i + 1)
    unfolding and_then
    axes_next {at'} {d} {p} {block} x =
        let room : 12 * i ≤ length ms = omega arith in
        let ed : degree_of p ≡ d = degree_of_lem x.has_degree in
        let all : axes_of (set ps i p) (overwrite ms (12 * i) block) (i + 1) ≡ axes_of ps ms i ++ record { polynomial = p; ms = take d block } ∷ [] =
        grown ps ms i p d block room inv.low (omega arith) x.size x.degree_high ed in
        let ends : 12 * (i + 1) ≡ 12 * i + length block = omega arith in
        let twelve : 12 * (i + 1) ≡ 12 * i + 12 = omega arith in
        record {
          count = omega arith;
          near = omega arith;
          inside = x.within;
          size_ps = length-set ps i p ∙ inv.size_ps;
          size_ms = length_over ms (12 * i) block (omega arith) ∙ inv.size_ms;
          blank_ps = blank_set 6 i ps p inv.blank_ps;
          blank_ms = drop_over ms (12 * i) block (12 * (i + 1)) room ends ∙ rw twelve (blank_drop 72 (12 * i) 12 ms inv.blank_ms);
          low = grown_low ps ms i p d block room inv.low (omega arith) x.size x.degree_high ed;
          blocks = take_over ms (12 * i) block (12 * (i + 1)) room ends
              ∙ ap₂ (λ (a b : List ℕ). a ++ b) inv.blocks (padded_front 12 d block x.size x.degree_high x.blank)
              ∙ sym (ap ms_of all ∙ ms_snoc (axes_of ps ms i) (record { polynomial = p; ms = take d block }));
          same = turn (x.step ms) ∙ ap (λ (l : List Axis). read_axes (axes - (i + 1)) l (drop at' (bits_of bytes))) (sym all);
        }
