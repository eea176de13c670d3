-- `strip_count::count_inside` meets its contract: the strips count the run of stride 1. Assumes nothing.
use mathlib.Core.Path.{◌∙◌}
use native.Mathlib.Omega.{arith}
use Rattle.points.specs.Arrays.{of_axis}
use Rattle.points.proofs.RunLaws.{within_less}
use Rattle.strip_count.proofs.RunLaws.{one_reached, one_stride, arrays_bases}
use Rattle.strip_count.proofs.count_inside.Goals as goal

pub is_walked-requires : goal.is_walked-requires
is_walked-requires c =
    (arrays_bases c.args.p.fit, omega (arith, c.requires.0.at 0), c.requires.1, omega (arith, c.args.p.fit.few))

pub count_inside-requires : goal.count_inside-requires
count_inside-requires c =
    (within_less c.requires.0 (omega arith), c.requires.1)

pub returns-then-is_walked : goal.returns-then-is_walked
returns-then-is_walked c = c.count_inside.ensures

pub count_strips-requires : goal.count_strips-requires
count_strips-requires c =
    let walked = c.is_walked in
    let e = walked.ensures.1 c.if-is_walked.false in (
      arrays_bases c.args.p.fit e.0,
      omega (arith, c.args.p.fit.few, c.requires.0.long),
      one_reached c.requires.0,
      omega (arith, c.requires.0.at 0),
      c.requires.1,
      omega (arith, c.args.p.fit.few, walked.auto.order),
      e.1,
    )

pub returns : goal.returns
returns c =
    let a = c.args in
    let e = c.is_walked.ensures.1 c.if-is_walked.false in
    c.count_strips.ensures ∙ one_stride a.p.family a.p.bases.now a.p.directions.now a.w.now (of_axis a.ns.now) a.p.axes e.0 a.k
