-- `halton_blocks::table_column` meets its contract: its parts one after the other. Assumes nothing.
use borrow.Author.Rules.{rules}
use Rattle.columns.proofs.ColumnLaws.{column_as}
use Rattle.halton_blocks.specs.Filling.{halton_from}
use Rattle.halton_blocks.proofs.MadeLaws.{made_points}
use Rattle.halton_blocks.proofs.table_column.Goals as goal

pub fill_tiles-requires : goal.fill_tiles-requires
fill_tiles-requires c =
    let m = c.make_tables-size.ensures in
    record { ready = (m.ready, search rules, search rules); hi_bound = (search rules, search rules, search rules, search rules) }

pub returns : goal.returns
returns c =
    let a = c.args in
    column_as c.fill_tiles.ensures (halton_from a.family a.b a.n)
    (λ k h q. made_points c.make_tables-size.ensures a.n k)
