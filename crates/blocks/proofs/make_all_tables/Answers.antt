-- `blocks::make_all_tables` meets its contract: the tables of the axes up to i are made. Assumes nothing.
use mathlib.Core.Path.{◌∙◌}
use native.Mathlib.Omega.{arith}
use lib.ListN.{length-set}
use borrow.Author.Rules.{rules}
use Rattle.blocks.proofs.EntryLaws.{all_more}
use Rattle.blocks.proofs.make_all_tables.Goals as goal

pub loop-i-preserved : goal.loop-i-preserved
loop-i-preserved c =
    let l = c.loop-i in
    let m = c.make_tables in (
      length-set l.sizes l.i _ ∙ l.invariant.0,
      all_more c.args.family l.i c.args.bases.now l.sizes l.images l.tables m.result _ _ _ _ (omega arith) l.invariant.0 (omega arith) (omega arith) (search rules) (search rules) l.invariant.1 m.ensures,
    )
