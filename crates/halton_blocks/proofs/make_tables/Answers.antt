-- `halton_blocks::make_tables` meets its contract. Assumes nothing.
use native.Mathlib.Omega.{arith}
use borrow.Author.Rules.{rules}
use Rattle.halton.proofs.ImageLaws.{image_digits, table_digits}
use Rattle.halton_blocks.proofs.make_tables.Goals as goal

pub table-requires : goal.table-requires
table-requires c =
    let a = c.args in
    let e = c.table_limit-limit.ensures in
    (search rules, search rules, search rules, table_digits c.images.ensures (image_digits a.family a.b (omega arith)) (omega arith), search rules, e.0, e.1)

pub returns : goal.returns
returns c =
    let e = c.table.ensures in
    let i = c.images.ensures in
    let a = c.args in
    record {
      ready = record { low = omega arith; high = omega arith; few = e.0; digits = table_digits i (image_digits a.family a.b (omega arith)) (omega arith); table = e.1 };
      images = i;
    }
