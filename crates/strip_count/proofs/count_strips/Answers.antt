-- `strip_count::count_strips` meets its contract: the run is one class of the axes in their order. Assumes nothing.
use mathlib.Core.Path.{◌∙◌}
use native.Mathlib.Omega.{arith}
use Rattle.strip_count.proofs.RunLaws.{run_steps, run_held, run_counted}
use Rattle.strip_count.proofs.count_strips.Goals as goal

pub count_class-requires : goal.count_class-requires
count_class-requires c =
    let rowed = c.put_rows in
    let filled = c.put_images in (
      run_held rowed.ensures c.requires.6 c.requires.0 filled.ensures c.requires.4
          (omega (arith, c.requires.0.few, rowed.auto.rows)) (omega (arith, c.requires.0.few, filled.auto.l)),
      run_steps rowed.ensures c.requires.6 c.requires.2 c.requires.3,
    )

pub returns : goal.returns
returns c =
    let rowed = c.put_rows.ensures in
    let filled = c.put_images.ensures in
    c.count_class.ensures ∙ run_counted rowed c.requires.6 c.requires.0 filled c.args.stride c.args.k
