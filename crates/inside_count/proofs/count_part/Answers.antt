-- `inside_count::count_part` meets its contract: after i axes a flag says whether its point is inside on them. Assumes nothing.
use mathlib.Core.Path.{refl, ap, ◌∙◌}
use native.Mathlib.Omega.{arith}
use Rattle.points.specs.Arrays.{of_axis}
use Rattle.points.proofs.ArrayLaws.{axis_at_lem, denominator_at_lt}
use Rattle.window.specs.Counting.{cut_at}
use Rattle.inside_count.specs.Flagging.{cut_limit}
use Rattle.inside_count.proofs.FlagLaws.{flags_none, flags_more}
use Rattle.inside_count.proofs.count_part.Goals as goal
use Rattle.inside_count.proofs.count_part.Goals.{In-loop-i}

pub loop-i-init : goal.loop-i-init
loop-i-init c = (flags_none _ _ _ _ _ _ (omega arith), refl)

pub cut_limit-limit-requires : goal.cut_limit-limit-requires
cut_limit-limit-requires c =
    let i = c.loop-i.i in
    let d = c.denominator-d in
    (c.requires.2.u_small i (omega arith), c.requires.2.q_pos i (omega arith), c.requires.2.q_small i (omega arith), omega (arith, d.ensures, denominator_at_lt (axis_at_lem c.args.p.fit i (omega arith)).base))

pub loop-i-preserved : goal.loop-i-preserved
loop-i-preserved c =
    let a = c.args in
    let l = c.loop-i in
    let d = c.denominator-d.ensures in
    let cut = cut_at a.w.now l.i in
    let k = c.mark_axis.ensures in (
      flags_more a.p.family a.p.bases.now a.p.directions.now a.w.now (of_axis a.ns.now) l.i a.m _ _ _ l.invariant.0 k
          (c.cut_limit-limit.ensures ∙ ap (cut_limit cut.u cut.q) d) (c.requires.2.q_pos l.i (omega arith)),
      k.same_length ∙ l.invariant.1,
    )
