-- A foreign state is refused; a genuine one's arrays can be written, and the writer of plans says the rest. Assumes nothing.
-- the state is tested at the start
-- where the m's are made, the state is genuine
use mathlib.Core.Path.{◌≡◌, sym}
use mathlib.Core.Bool.{true, false}
use Rattle.state.specs.State.{plan_in, genuine}
use Rattle.state.proofs.GenuineLaws.{genuine_is}
use Rattle.calls.proofs.CaseLaws.{foreign_of, known_of, write_foreign, write_as_written}
use Rattle.plan_calls.proofs.WritableLaws.{writable_in}
use Rattle.plan_calls.proofs.write.Goals as goal
use Rattle.plan_calls.proofs.write.Goals.{Else-not-is_genuine, Then-not-is_genuine}

foreign : (c : Then-not-is_genuine) → genuine c.args.s ≡ false
foreign c = foreign_of _ _ c.is_genuine.ensures c.if-not-is_genuine.true

known : (c : Else-not-is_genuine) → genuine c.args.s ≡ true
known c = known_of _ _ c.is_genuine.ensures c.if-not-is_genuine.false

pub returns-then-not-is_genuine : goal.returns-then-not-is_genuine
returns-then-not-is_genuine c = let w = write_foreign _ _ (foreign c) in (sym w.0, sym w.1)

pub write_plan-requires : goal.write_plan-requires
write_plan-requires c =
    let s = c.args.s in
    rw c.ms_of-ms.ensures (writable_in s (genuine_is s (known (goal.at.write_plan-requires c).Else-not-is_genuine)))

pub returns : goal.returns
unfolding plan_in
returns c =
    write_as_written _ _ (known (goal.at.returns c).Else-not-is_genuine) _ _ (rw c.ms_of-ms.ensures at c.write_plan.ensures)
