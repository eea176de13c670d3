-- `run_calls::block` meets its contract: rows without leading words are its points. Assumes nothing.
use borrow.Author.Rules.{rules}
use Rattle.calls.proofs.RowLaws.{rows_block}
use Rattle.run_calls.proofs.block.Goals as goal

pub returns : goal.returns
returns c =
    let e = c.block_rows.ensures in
    rows_block _ _ _ _ e.0 e.1
