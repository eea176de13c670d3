-- `day_calls::day_block` meets its contract: it is the run's rows behind the first words, and the points' numbers in these. Assumes nothing.
-- the starts are tested first
-- where the run's rows are written
use mathlib.Core.Path.{◌≡◌, sym, ap, ◌∙◌}
use mathlib.Core.Bool.{true}
use native.Mathlib.Omega.{arith}
use borrow.Author.Rules.{rules}
use Rattle.calls.specs.declared.Blocked.{Blocked}
use Rattle.calls.proofs.CaseLaws.{foreign_of, known_of}
use Rattle.day_set.specs.DaySet.{day_of, from_zero}
use Rattle.day_set.specs.Calls.{day_blocked}
use Rattle.day_set.proofs.CaseLaws.{foreign_start, day_block_foreign, block_wraps}
use Rattle.day_calls.proofs.RowLaws.{rows_room, block_words}
use Rattle.day_calls.proofs.day_block.Goals as goal
use Rattle.day_calls.proofs.day_block.Goals.{Else-not-from_zero}

zero : (c : Else-not-from_zero) → from_zero c.args.d.run.starts ≡ true
zero c = known_of _ _ c.from_zero.ensures c.if-not-from_zero.false

pub returns-then-not-from_zero : goal.returns-then-not-from_zero
returns-then-not-from_zero c =
    let a = c.args in
    let w = day_block_foreign a.d a.out.now (foreign_start a.d (foreign_of _ _ c.from_zero.ensures c.if-not-from_zero.true)) in
    (sym w.0, sym w.1)

pub put_numbers-requires : goal.put_numbers-requires
put_numbers-requires c =
    let a = c.args in
    let e = c.block_rows-r.ensures in
    λ z.
    let f = rows_room a.d.run a.out.now (sym (ap (λ (r : Blocked). r.code) e.0) ∙ z) in
    let k = ap (λ (r : Blocked). r.points) e.0 in
    (f.0, rw k (omega (arith, f.1, e.1.same_length)), rw k f.2)

pub returns : goal.returns
returns c =
    let a = c.args in
    let buf = a.out.now in
    let e = c.block_rows-r.ensures in
    let z = zero (goal.at.returns c).Else-not-from_zero in (
      ap (λ (r : Blocked). day_blocked r.code r.points (day_of r.state)) e.0 ∙ sym (block_wraps a.d z buf).0,
      block_words a.d z buf _ _ (rw e.0 at e.1) (rw e.0 at c.put_numbers.ensures),
    )
