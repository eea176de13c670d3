-- A text that fits stands after what waits; any other is put once that is written. Assumes nothing.
use mathlib.Core.Path.{refl, ◌∙◌, ap}
use Prim.Native.Nat.{ℕ}
use native.Mathlib.Omega.{arith}
use Rattle.bits.specs.Stream.{overwrite}
use Rattle.lines.proofs.output.put.Goals as goal

pub returns-then-text-out : goal.returns-then-text-out
returns-then-text-out c =
    let p = c.put.ensures in
    let a = c.args in
    record {
      bytes = λ h. p.bytes ∙ ap (λ (at : ℕ). overwrite a.out.now at a.text.now) (omega (arith, c.min-used.ensures));
      used = λ h. omega (arith, c.min-used.ensures, p.after);
      whole = λ h. refl;
      fits = omega (arith, c.min-used.ensures, p.after);
    }

pub returns-then-out-text : goal.returns-then-out-text
returns-then-out-text c =
    let full = c.min-used.ensures in
    record {
      bytes = λ h. absurd (omega (arith, full));
      used = λ h. absurd (omega (arith, full));
      whole = λ h. absurd (omega (arith, full));
      fits = omega (arith, c.write.ensures, c.flush-empty.ensures);
    }

pub returns : goal.returns
returns c =
    let p = c.put-2.ensures in
    let full = c.min-used.ensures in
    record {
      bytes = λ h. absurd (omega (arith, full));
      used = λ h. absurd (omega (arith, full));
      whole = λ h. absurd (omega (arith, full));
      fits = omega (arith, p.after);
    }
