-- `halton_marks::halton_marks` meets its contract: its parts one after the other. Assumes nothing.
use borrow.Author.Rules.{rules}
use Rattle.halton_blocks.specs.Filling.{halton_from}
use Rattle.halton_blocks.proofs.MadeLaws.{made_points}
use Rattle.marks.proofs.MarkLaws.{marked_as}
use Rattle.halton_marks.proofs.halton_marks.Goals as goal

pub tiles-requires : goal.tiles-requires
tiles-requires c =
    let m = c.make_tables-size.ensures in
    record { ready = (m.ready, search rules, search rules); m_bound = (search rules, search rules) }

pub returns : goal.returns
returns c =
    let a = c.args in
    marked_as c.tiles.ensures (halton_from a.family a.b a.n) (λ k h q. made_points c.make_tables-size.ensures a.n k)
