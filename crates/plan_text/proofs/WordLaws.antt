-- The words of a plan, one part after another. Assumes nothing.
use mathlib.Core.Path.{◌≡◌, refl, sym}
use mathlib.Core.List.{List, [], ◌∷◌, ◌++◌, append_assoc, append-nil}
use Prim.Native.Nat.{ℕ, zero, suc, ◌+◌, ◌*◌, ◌≤◌, ◌<◌, max}
use native.Mathlib.Omega.{arith}
use native.Mathlib.Numerals.{add-one}
use lib.ListN.{length, get_or, take, drop, length-take, length-drop}
use lib.Pow.{pow_mono}
use lib.Seq.{take-suc, get_or-drop, get_or-take, length-take-le}
use Rattle.numbers.specs.Digits.{digit_count}
use Rattle.numbers.proofs.DigitLaws.{digit_count_le_iff}
use Rattle.binary.specs.Polynomial.{degree_of}
use Rattle.fitting.proofs.AxisLaws.{degree_low}
use Rattle.text.specs.Decimal.{decimal}
use Rattle.text.specs.Put.{TextPut}
use Rattle.text.proofs.DecimalLaws.{length_digits}
use Rattle.text.proofs.PutLaws.{put_none, put_then}
use Rattle.plan.specs.Plan.{Axis, Plan, Valid}
use Rattle.plan.specs.Answer.{axis_at, axes_of, plan_of}
use Rattle.plan.proofs.AnswerLaws.{length_axes}
use Rattle.plan_check.proofs.FoundLaws.{axes_at, fit_polynomial, valid_given, given_low, plan_halton, plan_sobol}
use Rattle.plan_words.specs.Says.{family_word}
use Rattle.plan_text.specs.Words.{space, part, bases_text, mark_at, ms_text, axis_text, axes_text, plan_text, GoodAxis, WordsPut}

-- ---- a number of few digits

pub few_digits : (n : ℕ) → n < 10000 → length (decimal n) ≤ 4
unfolding decimal
few_digits n h = omega (arith, length_digits (max 1 (digit_count 10 n)) n, (digit_count_le_iff 10 n 4 (omega arith)).1 (omega arith))

-- ---- one part more

bases_more : (bases : List ℕ) (b : ℕ) → bases_text (bases ++ b ∷ []) ≡ bases_text bases ++ part space b
unfolding bases_text
bases_more [] b = append-nil (part space b)
bases_more (a ∷ bases) b = rw (bases_more bases b, append_assoc) refl

ms_more : (k : ℕ) (ms : List ℕ) (m n : ℕ) → n ≡ k + length ms → ms_text k (ms ++ m ∷ []) ≡ ms_text k ms ++ part (mark_at n) m
unfolding ms_text
ms_more k [] m n e = let z : k ≡ n = omega arith in rw z (append-nil (part (mark_at n) m))
ms_more k (a ∷ ms) m n e = rw (ms_more (suc k) ms m n (omega arith), append_assoc) refl

axes_more : (axes : List Axis) (x : Axis) → axes_text (axes ++ x ∷ []) ≡ axes_text axes ++ axis_text x
unfolding axes_text
axes_more [] x = append-nil (axis_text x)
axes_more (y ∷ axes) x = rw (axes_more axes x, append_assoc) refl

pub bases_none : (old : List ℕ) (at : ℕ) (bases : List ℕ) → TextPut old old at (bases_text (take 0 bases)) at
unfolding bases_text
bases_none old at bases = put_none old at

pub ms_none : (old : List ℕ) (at : ℕ) (ms : List ℕ) → TextPut old old at (ms_text 0 (take 0 ms)) at
unfolding ms_text
ms_none old at ms = put_none old at

pub axes_none : (old : List ℕ) (at : ℕ) (ps ms : List ℕ) → TextPut old old at (axes_text (axes_of ps ms 0)) at
unfolding axes_text axes_of
axes_none old at ps ms = put_none old at

module _ {old mid new : List ℕ} {start at next : ℕ} (room : start ≤ length old) where
  pub next_base : (bases : List ℕ) (i : ℕ) → i < length bases → TextPut old mid start (bases_text (take i bases)) at
      → TextPut mid new at (part space (get_or bases i 0)) next → TextPut old new start (bases_text (take (i + 1) bases)) next
  next_base bases i h p q = rw (add-one, take-suc bases i 0, bases_more (take i bases) (get_or bases i 0)) (put_then room p q)

  pub next_m : (ms : List ℕ) (i k mark : ℕ) → i < 6 → k < 12 → length ms ≡ 72 → mark ≡ mark_at k → TextPut old mid start (ms_text 0 (take k (drop (12 * i) ms))) at
      → TextPut mid new at (part mark (get_or ms (12 * i + k) 0)) next → TextPut old new start (ms_text 0 (take (k + 1) (drop (12 * i) ms))) next
  next_m ms i k mark six h long e p q =
      let own = drop (12 * i) ms in
      let l : k < length own = omega (arith, length-drop (12 * i) ms) in
      let n : k ≡ 0 + length (take k own) = omega (arith, length-take-le k own (omega arith)) in
      rw (add-one, take-suc own k 0, ms_more 0 (take k own) (get_or own k 0) k n, ← e, get_or-drop (12 * i) ms k 0) (put_then room p q)

  pub next_axis : (ps ms : List ℕ) (i : ℕ) → TextPut old mid start (axes_text (axes_of ps ms i)) at → TextPut mid new at (axis_text (axis_at ps ms i)) next
      → TextPut old new start (axes_text (axes_of ps ms (i + 1))) next
  unfolding axes_of
  next_axis ps ms i p q = rw (add-one, axes_more (axes_of ps ms i) (axis_at ps ms i)) (put_then room p q)

-- ---- an axis

pub plain_text : (ps ms : List ℕ) (i : ℕ) → degree_of (get_or ps i 0) ≡ 0 → part space 0 ≡ axis_text (axis_at ps ms i)
unfolding axis_text
plain_text ps ms i e = rw e refl

text_go : (p : ℕ) (own : List ℕ) → 1 ≤ length own → part space p ++ ms_text 0 own ≡ axis_text (record { polynomial = p; ms = own })
unfolding axis_text
text_go p [] l = absurd (omega arith)
text_go p (m ∷ own) l = refl

pub given_text : (ps ms : List ℕ) (i d : ℕ) → d ≡ degree_of (get_or ps i 0) → i < 6 → length ms ≡ 72 → (d ≡ 0 → ⊥)
    → part space (get_or ps i 0) ++ ms_text 0 (take d (drop (12 * i) ms)) ≡ axis_text (axis_at ps ms i)
given_text ps ms i d e six long h =
    rw (← e) (text_go (get_or ps i 0) (take d (drop (12 * i) ms)) (omega (arith, length-take d (drop (12 * i) ms), length-drop (12 * i) ms)))

pub first_mark : (k : ℕ) → k ≡ 0 → 58 ≡ mark_at k
unfolding mark_at
first_mark zero e = refl
first_mark (suc k) e = absurd (omega arith)

pub later_mark : (k : ℕ) → (k ≡ 0 → ⊥) → 44 ≡ mark_at k
unfolding mark_at
later_mark zero h = absurd (h refl)
later_mark (suc k) h = refl

-- ---- the whole

module _ (family s : ℕ) (bases ps ms : List ℕ) (long : length bases ≡ 6) (six : s ≤ 6) (v : Valid (plan_of family s bases ps ms)) where
  pub base_small : (family ≡ 2 → ⊥) → (k : ℕ) → k < s → get_or bases k 0 ≤ 256
  unfolding Valid
  base_small n k h =
      let w = rw (plan_halton family s bases ps ms n) at v in
      let front = length-take-le s bases (omega arith) in
      rw (get_or-take s bases k 0 h) at (w.2.high k (omega arith))

  pub axis_good : family ≡ 2 → (k : ℕ) → k < s → GoodAxis ps ms k
  unfolding Valid
  axis_good e k h =
      let w = rw (plan_sobol family s bases ps ms e) at v in
      let x = rw (axes_at ps ms s k h) at (w.1.valid k (omega (arith, length_axes ps ms s))) in
      record {
        high = (fit_polynomial ps ms k x).high;
        each = λ j l. omega (arith, given_low ms k j (valid_given ps ms k x j l), pow_mono {i = suc j} {j = 12} (omega (arith, degree_low (get_or ps k 0) (fit_polynomial ps ms k x).high)));
      }

  pub halton_text : (family ≡ 2 → ⊥) → family_word family ++ bases_text (take s bases) ≡ plan_text (plan_of family s bases ps ms)
  unfolding plan_text
  halton_text n = rw (plan_halton family s bases ps ms n) refl

  pub sobol_text : family ≡ 2 → family_word family ++ axes_text (axes_of ps ms s) ≡ plan_text (plan_of family s bases ps ms)
  unfolding plan_text
  sobol_text e = rw (plan_sobol family s bases ps ms e, e) refl

pub nothing_put : {s : ℕ} {p : Plan} {old : List ℕ} → ((s ≤ 6) × Valid p → ⊥) → WordsPut s p old old 0
nothing_put h = record { some = λ six v. absurd (h (six, v)); none = λ n. (refl, refl) }

pub words_put : {s : ℕ} {p : Plan} {old new : List ℕ} {r : ℕ} → (s ≤ 6) × Valid p → TextPut old new 0 (plan_text p) r → WordsPut s p old new r
words_put v t = record { some = λ six w. t; none = λ n. absurd (n v) }

pub long_enough : (new : List ℕ) (r : ℕ) → r ≤ length new → (r ≤ length new) × (r ≡ length (take r new))
long_enough new r h = (h, sym (length-take-le r new h))
