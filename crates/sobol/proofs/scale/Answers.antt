-- `sobol::scale` meets its contract. The loop's invariant: every v passed is its m times its power of two. A shift loses nothing, since the m's are
-- below their powers of two. Assumes nothing.
use mathlib.Core.Path.{◌≡◌, sym, ◌∙◌}
use Prim.Native.Nat.{◌-◌}
use native.Mathlib.Omega.{arith}
use borrow.Author.Rules.{rules}
use lib.ListN.{length, length-set}
use lib.Seq.{ext_get_or}
use Rattle.numbers.proofs.ListedLaws.{begins_more}
use Rattle.sobol.specs.Directions.{scaled}
use Rattle.sobol.proofs.DirectionLaws.{shifted_exact, scaled_length, scaled_at}
use Rattle.sobol.proofs.scale.Goals as goal

pub loop-i-preserved : goal.loop-i-preserved
loop-i-preserved c =
    let m = c.args.m in
    let l = c.loop-i in (
      length-set l.v l.i _ ∙ l.invariant.0,
      begins_more l.invariant.1 (omega arith) (shifted_exact 32 m l.i (31 - l.i) c.requires (omega arith) (omega arith)),
    )

pub returns : goal.returns
returns c =
    let m = c.args.m in
    let l = c.loop-i in
    let n : length m ≡ 32 = search rules in
    ext_get_or 0 l.v (scaled 0 m) (l.invariant.0 ∙ sym (scaled_length 0 m ∙ n)) (λ k h. l.invariant.1.at k (omega arith) ∙ sym (scaled_at m k))
