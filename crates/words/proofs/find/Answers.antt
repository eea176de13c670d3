-- The blanks up to the word, and the word up to the next. Assumes nothing.
use mathlib.Core.Path.{ap, ◌∙◌}
use mathlib.Core.Bool.{false}
use Prim.Native.Nat.{ℕ}
use native.Mathlib.Omega.{arith}
use Rattle.words.specs.Word.{span_end}
use Rattle.words.proofs.find.Goals as goal

pub returns : goal.returns
returns c =
    let line = c.args.line.now in
    let start = c.span-start.ensures.0 in
    let end = c.span-end.ensures.0 ∙ ap (λ (s : ℕ). span_end line s false) start in
    record {
      is = λ i. record { start = start i; end = end i };
      low = omega (arith, start);
      forward = omega (arith, c.span-end.ensures.0);
      high = c.span-end.ensures.1;
    }
