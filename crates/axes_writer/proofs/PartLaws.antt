-- Parts written one after another are one part: bases, m's and axes, each written by itself. Assumes nothing.
use mathlib.Core.Path.{◌≡◌, refl, ap, ◌∙◌}
use mathlib.Core.List.{List, [], ◌++◌}
use Prim.Native.Nat.{ℕ, ◌+◌, ◌-◌, ◌*◌, ◌/◌, ◌<◌, ◌≤◌}
use native.Mathlib.Numerals.{add-one}
use native.Mathlib.Omega.{arith}
use lib.ListN.{length, take, drop, get_or, length-append, length-take, length-drop}
use lib.Seq.{take-suc, length-take-le}
use Rattle.binary.specs.Polynomial.{degree_of}
use Rattle.bits.specs.Stream.{to_bits, bits_of, overwrite}
use Rattle.bits.proofs.StreamLaws.{length_to_bits, length_bits}
use Rattle.bits.proofs.OverwriteLaws.{over_none, over_append}
use Rattle.plan.specs.Plan.{bases_bits, ms_bits, axis_bits, axes_bits}
use Rattle.plan.specs.Answer.{axis_at, axes_of}
use Rattle.plan.proofs.SpellingLaws.{bases_bits_snoc, ms_bits_snoc, axes_bits_snoc}
use Rattle.axes_writer.specs.Parts.{BitsPut}

-- ---- any parts

pub put_none : (old : List ℕ) (start : ℕ) → BitsPut old old start [] start
put_none old start = record { bits = over_none (bits_of old) start; size = refl; after = omega arith }

-- a field of w bits and value v, from what a call put: v' in w' bits, at bit `at`
pub put_field : {old new : List ℕ} {at w' v' : ℕ} (start w v : ℕ) → length new ≡ length old → bits_of new ≡ overwrite (bits_of old) at (to_bits w' v')
    → at ≡ start → w' ≡ w → v' ≡ v → BitsPut old new start (to_bits w v) (start + w)
put_field start w v size e es ew ev = record { bits = rw (← es, ← ew, ← ev) e; size = size; after = omega (arith, length_to_bits w v) }

pub put_then : {old mid new x y : List ℕ} {start next end : ℕ} → start ≤ 8 * length old → BitsPut old mid start x next → BitsPut mid new next y end
    → BitsPut old new start (x ++ y) end
put_then {old} {x = x} {y = y} {start = start} {next = next} room p q =
    record {
      bits = q.bits ∙ rw p.bits (over_append (bits_of old) start x next (omega (arith, length_bits old)) p.after y);
      size = q.size ∙ p.size;
      after = omega (arith, length-append x y);
    }

-- ---- one more base, m or axis

pub no_base : (old bases : List ℕ) → BitsPut old old 5 (bases_bits (take 0 bases)) 5
unfolding bases_bits
no_base old bases = put_none old 5

pub next_base : {old mid new : List ℕ} (bases : List ℕ) (i : ℕ) → i < length bases → 5 ≤ 8 * length old → BitsPut old mid 5 (bases_bits (take i bases)) (5 + 8 * i)
    → BitsPut mid new (5 + 8 * i) (to_bits 8 (get_or bases i 0 - 1)) (5 + 8 * i + 8) → BitsPut old new 5 (bases_bits (take (i + 1) bases)) (5 + 8 * (i + 1))
next_base bases i h room p q =
    let e : 5 + 8 * (i + 1) ≡ 5 + 8 * i + 8 = omega arith in
    rw (e, add-one, take-suc bases i 0, bases_bits_snoc) (put_then room p q)

pub no_m : (old : List ℕ) (start : ℕ) (ms : List ℕ) → BitsPut old old start (ms_bits 1 (take 0 ms)) start
unfolding ms_bits
no_m old start ms = put_none old start

pub next_m : {old mid new : List ℕ} {start next end : ℕ} (ms : List ℕ) (i : ℕ) → i < length ms → start ≤ 8 * length old → BitsPut old mid start (ms_bits 1 (take i ms)) next
    → BitsPut mid new next (to_bits (i + 1) (get_or ms i 0)) end → BitsPut old new start (ms_bits 1 (take (i + 1) ms)) end
next_m ms i h room p q =
    let e : 1 + length (take i ms) ≡ i + 1 = omega (arith, length-take i ms) in
    let f : ms_bits 1 (take (i + 1) ms) ≡ ms_bits 1 (take i ms) ++ to_bits (i + 1) (get_or ms i 0) =
    ap (ms_bits 1) (rw add-one (take-suc ms i 0 h)) ∙ ms_bits_snoc 1 (take i ms) (get_or ms i 0) ∙ rw e refl in
    rw f (put_then room p q)

pub no_axis_lem : (old ps ms : List ℕ) → BitsPut old old 5 (axes_bits (axes_of ps ms 0)) 5
unfolding axes_bits axes_of
no_axis_lem old ps ms = put_none old 5

pub next_axis : {old mid new : List ℕ} {next end : ℕ} (ps ms : List ℕ) (i : ℕ) → 5 ≤ 8 * length old → BitsPut old mid 5 (axes_bits (axes_of ps ms i)) next
    → BitsPut mid new next (axis_bits (axis_at ps ms i)) end → BitsPut old new 5 (axes_bits (axes_of ps ms (i + 1))) end
unfolding axes_of
next_axis ps ms i room p q = rw (add-one, axes_bits_snoc) (put_then room p q)

-- ---- the three fields of an axis

pub whole_axis : {old a b new : List ℕ} {start end : ℕ} (ps ms : List ℕ) (i d w : ℕ) → start ≤ 8 * length old → i < 6 → 72 ≤ length ms → d ≤ 12
    → d ≡ degree_of (get_or ps i 0) → w ≡ d - 1 → BitsPut old a start (to_bits 4 d) (start + 4) → BitsPut a b (start + 4) (to_bits w (get_or ps i 0 / 2)) (start + 4 + w)
    → BitsPut b new (start + 4 + w) (ms_bits 1 (take d (drop (12 * i) ms))) end → BitsPut old new start (axis_bits (axis_at ps ms i)) end
unfolding axis_bits
whole_axis ps ms i d w room h long most ed ew p q r =
    let el : length (take d (drop (12 * i) ms)) ≡ d = length-take-le d (drop (12 * i) ms) (omega (arith, length-drop (12 * i) ms)) in
    rw (← ed, el, ← ew) (put_then room (put_then room p q) r)
