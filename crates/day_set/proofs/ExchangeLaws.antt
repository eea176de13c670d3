-- Which answers on a day set the exchange of 12 and 13 changes (02-change-requests.md, K3), as on a run. Assumes nothing.
use mathlib.Core.Path.{◌≡◌, ap}
use mathlib.Core.List.{List}
use Prim.Native.Nat.{ℕ, ◌+◌}
use native.Mathlib.Omega.{arith}
use Rattle.plan.specs.Order.{unless_number, unless_due}
use Rattle.calls.specs.Exchange.{Exchanged}
use Rattle.calls.proofs.ExchangeLaws.{exchanged, kept}
use Rattle.day_set.specs.DaySet.{day_made, day_plan, day_size, day_taken, day_width, genuine_day}
use Rattle.day_set.specs.Calls.{day_moved, day_blocked, day_step_by, day_step_spec, day_step_buf_by, day_step_buf, day_block_size, day_block_by, day_block_spec, day_block_buf_by, day_block_buf}
use Rattle.day_set.specs.Exchange.{former_day_refusals, DaySpentAndShort}
use Rattle.day_set.specs.declared.DaySet.{DaySet}

module _ (d : DaySet) (buf : List ℕ) where
  pub day_step_compared : Exchanged (DaySpentAndShort d buf) (day_moved 12 d) (day_moved 13 d) (day_step_by (former_day_refusals d buf) d) (day_step_spec d buf)
      × ((day_step_by (former_day_refusals d buf) d).set ≡ (day_step_spec d buf).set)
      × (day_step_buf_by (former_day_refusals d buf) d buf ≡ day_step_buf d buf)
  unfolding day_step_spec day_step_buf
  day_step_compared = (
    unfold unless_due in exchanged (genuine_day d) d.run buf (day_width d)
        (λ n. day_moved n (unless_number n (day_made (day_plan d) (day_size d) (day_taken d + 1)) d)) (λ e. omega (arith, ap (λ (a : _). a.code) e)),
    kept (genuine_day d) d.run buf (day_width d) _ _,
    kept (genuine_day d) d.run buf (day_width d) _ _,
  )

  pub day_block_compared :
      Exchanged (DaySpentAndShort d buf) (day_blocked 12 0 d) (day_blocked 13 0 d) (day_block_by (former_day_refusals d buf) (day_block_size d buf) d) (day_block_spec d buf)
      × ((day_block_by (former_day_refusals d buf) (day_block_size d buf) d).points ≡ (day_block_spec d buf).points)
      × ((day_block_by (former_day_refusals d buf) (day_block_size d buf) d).set ≡ (day_block_spec d buf).set)
      × (day_block_buf_by (former_day_refusals d buf) d buf ≡ day_block_buf d buf)
  unfolding day_block_spec day_block_buf
  day_block_compared = (
    unfold unless_due in exchanged (genuine_day d) d.run buf (day_width d)
        (λ n. day_blocked n (unless_number n (day_block_size d buf) 0) (unless_number n (day_made (day_plan d) (day_size d) (day_taken d + day_block_size d buf)) d))
        (λ e. omega (arith, ap (λ (a : _). a.code) e)),
    kept (genuine_day d) d.run buf (day_width d) _ _,
    kept (genuine_day d) d.run buf (day_width d) _ _,
    kept (genuine_day d) d.run buf (day_width d) _ _,
  )
