-- Texts put one after another are one text, and a text copied whole, or byte by byte to its end, is put. Assumes nothing.
use mathlib.Core.Path.{◌≡◌, refl, ap, ◌∙◌}
use mathlib.Core.List.{List, [], ◌++◌}
use Prim.Native.Nat.{ℕ, ◌+◌, ◌≤◌}
use native.Mathlib.Omega.{arith}
use lib.ListN.{length, length-append}
use borrow.Rule.Slice.PartMut.{put_mid}
use Rattle.bits.proofs.OverwriteLaws.{over_none, over_part, over_append, length_over, Copied, copied_all}
use Rattle.text.specs.Put.{TextPut}

pub put_none : (old : List ℕ) (at : ℕ) → TextPut old old at [] at
put_none old at = record { bytes = over_none old at; size = refl; after = omega arith }

pub put_then : {old mid new x y : List ℕ} {at next end : ℕ} → at ≤ length old → TextPut old mid at x next → TextPut mid new next y end
    → TextPut old new at (x ++ y) end
put_then {old} {x = x} {y = y} {at = at} {next = next} room p q =
    record {
      bytes = q.bytes ∙ rw p.bytes (over_append old at x next room p.after y);
      size = q.size ∙ p.size;
      after = omega (arith, length-append x y);
    }

-- a part of the buffer whose bytes are now those of the text
pub put_part : (old : List ℕ) (at n : ℕ) (text part : List ℕ) → part ≡ text → length text ≡ n → at + length text ≤ length old
    → TextPut old (put_mid at n old part) at text (at + length text)
put_part old at n text part same e room =
    let b = over_part old at n text part same e in
    record { bytes = b; size = ap length b ∙ length_over old at text room; after = refl }

pub put_all : {old new text : List ℕ} {at : ℕ} (i : ℕ) → i ≡ length text → Copied old at text i new → TextPut old new at text (at + i)
put_all i e c = record { bytes = copied_all _ _ _ i e c; size = c.size; after = omega arith }
