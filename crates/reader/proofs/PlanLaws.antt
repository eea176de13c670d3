-- Reading a whole plan: the bits after the last field, a family's body, and the header. Assumes nothing.
use mathlib.Core.Path.{◌≡◌, refl, sym, ap, ◌∙◌}
use mathlib.Core.Bool.{Bool, true, false, not, ◌||◌, cond}
use mathlib.Core.List.{List, []}
use Prim.Native.Nat.{ℕ, ◌+◌, ◌*◌, ◌<◌, ◌≤◌}
use native.Mathlib.Omega.{arith}
use lib.Dec.{ltb, eqb}
use lib.ListN.{length, take, drop, replicate, length-drop}
use lib.Seq.{take_all, length-take-le, drop-drop}
use borrow.Author.Tests.{ltb-true, ltb-false, le-leb, lt-leb, eq-eqb, ne_eqb}
use Rattle.numbers.specs.Listed.{padded}
use Rattle.bits.specs.Stream.{of_bits, bits_of, field_at}
use Rattle.bits.proofs.StreamLaws.{length_bits}
use Rattle.plan.specs.Plan.{halton, sobol}
use Rattle.plan.specs.Reading.{Reading, refuse, refuse_if, field, and_then, read_bases, read_axes, read_body, read_fields, refused, accepted, bad_tail, finish, read_plan}
use Rattle.plan.specs.Answer.{axes_of, answer_of}
use Rattle.plan.proofs.AnswerLaws.{length_axes}
use Rattle.halton_reader.specs.Bases.{BasesAnswer}
use Rattle.sobol_reader.specs.Axes.{AxesAnswer}
use Rattle.plan.proofs.BlankLaws.{padded_front}
use Rattle.plan.proofs.PartLaws.{field_value}

-- ---- the bits after the last field

module _ (bytes : List ℕ) (at : ℕ) {r : Bool} (er : r ≡ ltb (length (drop at (bits_of bytes))) 8) where
  pub tail_long : r ≡ false → true ≡ bad_tail (drop at (bits_of bytes))
  tail_long t = rw (le-leb 8 (length (drop at (bits_of bytes))) (ltb-false _ _ (sym er ∙ t))) refl

  module _ (t : r ≡ true) where
    few : length (drop at (bits_of bytes)) < 8
    few = ltb-true _ _ (sym er ∙ t)

    pub tail_near : 8 * length bytes < at + 8
    tail_near = omega (arith, few, length-drop at (bits_of bytes), length_bits bytes)

    pub tail_read : (w : ℕ) {v : ℕ} → 8 * length bytes ≤ at + w → v ≡ field_at bytes at w → not (eqb v 0) ≡ bad_tail (drop at (bits_of bytes))
    tail_read w {v} h ev =
        let all : take w (drop at (bits_of bytes)) ≡ drop at (bits_of bytes) =
        take_all w (drop at (bits_of bytes)) (omega (arith, length-drop at (bits_of bytes), length_bits bytes)) in
        let value : of_bits (drop at (bits_of bytes)) ≡ v = ap of_bits (sym all) ∙ field_value bytes at w ev in
        rw (lt-leb 8 (length (drop at (bits_of bytes))) few, value) refl

-- ---- the body of a plan, as its part's answer tells it

-- the reading of a plan of these bases or axes, from bit 5 on
abbrev halton_reading : List ℕ → ℕ → ℕ → Reading
halton_reading bytes family axes = finish (read_body false family axes (drop 5 (bits_of bytes)))

abbrev sobol_reading : List ℕ → ℕ → Reading
sobol_reading bytes axes = finish (read_body true 2 axes (drop 5 (bits_of bytes)))

pub halton_stop : (bytes : List ℕ) (family axes : ℕ) {n : ℕ} → read_bases axes [] (drop 5 (bits_of bytes)) ≡ refuse n → halton_reading bytes family axes ≡ refused n
unfolding read_body and_then finish
halton_stop bytes family axes e = rw e refl

module _ (bytes : List ℕ) (family axes : ℕ) {at : ℕ} {bases : List ℕ} (h : BasesAnswer bytes axes at bases)
    {t : Bool} (et : t ≡ bad_tail (drop at (bits_of bytes))) where
  halton_body : halton_reading bytes family axes ≡ cond t (refused 10) (accepted (halton family (take axes bases)))
  unfolding read_body and_then finish
  halton_body = rw (h.step, ← et) refl

  pub halton_tail : t ≡ true → halton_reading bytes family axes ≡ refused 10
  halton_tail b = halton_body ∙ rw b refl

  pub halton_end : t ≡ false → axes ≤ 6
      → record { code = 0; family = family; axes = axes; bases = bases; polynomials = replicate 6 0; ms = replicate 72 0 } ≡ answer_of (halton_reading bytes family axes)
  unfolding answer_of
  halton_end b most =
      let n : length (take axes bases) ≡ axes = length-take-le axes bases (omega arith) in
      let whole : bases ≡ padded 6 (take axes bases) = padded_front 6 axes bases h.size most h.blank in
      rw (halton_body, b, n, ← whole) refl

pub sobol_stop : (bytes : List ℕ) (axes : ℕ) {n : ℕ} → read_axes axes [] (drop 5 (bits_of bytes)) ≡ refuse n → sobol_reading bytes axes ≡ refused n
unfolding read_body and_then finish
sobol_stop bytes axes e = rw e refl

module _ (bytes : List ℕ) (axes : ℕ) {at : ℕ} {ps ms : List ℕ} (h : AxesAnswer bytes axes at ps ms)
    {t : Bool} (et : t ≡ bad_tail (drop at (bits_of bytes))) where
  sobol_body : sobol_reading bytes axes ≡ cond t (refused 10) (accepted (sobol (axes_of ps ms axes)))
  unfolding read_body and_then finish
  sobol_body = rw (h.step, ← et) refl

  pub sobol_tail : t ≡ true → sobol_reading bytes axes ≡ refused 10
  sobol_tail b = sobol_body ∙ rw b refl

  pub sobol_end : t ≡ false → record { code = 0; family = 2; axes = axes; bases = replicate 6 0; polynomials = ps; ms = ms } ≡ answer_of (sobol_reading bytes axes)
  unfolding answer_of
  sobol_end b =
      let arrays = h.flat in
      rw (sobol_body, b, length_axes ps ms axes, ← arrays.polynomials, ← arrays.blocks) refl

-- ---- the header

pub family_short : (bytes : List ℕ) {r : Bool} → r ≡ ltb (length (drop 0 (bits_of bytes))) 2 → r ≡ true → read_plan bytes ≡ refused 1
unfolding read_plan read_fields field refuse_if finish
family_short bytes er t = let k : ltb (length (bits_of bytes)) 2 ≡ true = sym er ∙ t in rw k refl

-- the family has been read
pub record FamilyRead (bytes : List ℕ) (f : ℕ) : Type 0 where
  pub long : ltb (length (drop 0 (bits_of bytes))) 2 ≡ false
  pub value : f ≡ field_at bytes 0 2

module _ {bytes : List ℕ} {f : ℕ} (h : FamilyRead bytes f) where
  long : ltb (length (bits_of bytes)) 2 ≡ false
  long = h.long

  is_f : of_bits (take 2 (bits_of bytes)) ≡ f
  is_f = field_value bytes 0 2 h.value

  pub axes_short : {r : Bool} → r ≡ ltb (length (drop 2 (bits_of bytes))) 3 → r ≡ true → read_plan bytes ≡ refused 1
  unfolding read_plan read_fields field refuse_if finish
  axes_short er t = rw (long, is_f, ← er, t) refl

-- and the number of axes
pub record AxesRead (bytes : List ℕ) (f s : ℕ) : Type 0 where
  pub family : FamilyRead bytes f
  pub long : ltb (length (drop 2 (bits_of bytes))) 3 ≡ false
  pub value : s ≡ field_at bytes 2 3

module _ {bytes : List ℕ} {f s : ℕ} (h : AxesRead bytes f s) where
  is_s : of_bits (take 3 (drop 2 (bits_of bytes))) ≡ s
  is_s = field_value bytes 2 3 h.value

  to_axes : read_plan bytes ≡ finish (refuse_if (eqb s 0 || eqb s 7) 3 (read_body (eqb f 2) f s (drop 5 (bits_of bytes))))
  unfolding read_plan read_fields field refuse_if
  to_axes = rw (long h.family, is_f h.family, h.long, is_s, drop-drop 3 2 (bits_of bytes)) refl

  pub axes_none : s ≡ 0 → read_plan bytes ≡ refused 3
  unfolding refuse_if finish
  axes_none e = to_axes ∙ rw (eq-eqb s 0 e) refl

  module _ (some : s ≡ 0 → ⊥) where
    pub axes_many : s ≡ 7 → read_plan bytes ≡ refused 3
    unfolding refuse_if finish
    axes_many e = to_axes ∙ rw (ne_eqb s 0 some, eq-eqb s 7 e) refl

    module _ (few : s ≡ 7 → ⊥) where
      pub to_sobol : f ≡ 2 → read_plan bytes ≡ finish (read_body true 2 s (drop 5 (bits_of bytes)))
      unfolding refuse_if
      to_sobol e = to_axes ∙ rw (ne_eqb s 0 some, ne_eqb s 7 few, eq-eqb f 2 e, e) refl

      pub to_halton : (f ≡ 2 → ⊥) → read_plan bytes ≡ finish (read_body false f s (drop 5 (bits_of bytes)))
      unfolding refuse_if
      to_halton e = to_axes ∙ rw (ne_eqb s 0 some, ne_eqb s 7 few, ne_eqb f 2 e) refl
