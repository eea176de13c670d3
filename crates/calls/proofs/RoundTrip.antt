-- The round trip of the exported calls, after any history: what was read is written as the same bytes, and what is written is read as the same
-- plan. Assumes nothing.
use mathlib.Core.Path.{◌≡◌, refl, sym, ap, ◌∙◌}
use mathlib.Core.List.{List, ◌++◌}
use Prim.Native.Nat.{ℕ, ◌≤◌, ◌<◌}
use lib.ListN.{length, take, drop}
use lib.Seq.{take_at}
use Rattle.plan.specs.Plan.{spell}
use Rattle.plan.proofs.AcceptLaws.{read_spelled}
use Rattle.points.specs.Run.{one_start}
use Rattle.state.specs.State.{made, plan_in}
use Rattle.state.specs.declared.Sampler.{Sampler}
use Rattle.calls.specs.Calls.{moved, read_state, read_spec, write_spec, write_buf}
use Rattle.calls.specs.History.{After}
use Rattle.calls.proofs.CaseLaws.{write_no_room, write_done}
use Rattle.calls.proofs.HistoryLaws.{Leaves, after_leaves, leaves_genuine, leaves_plan}

module _ {bytes : List ℕ} {s : Sampler} (h : After bytes s) (buf : List ℕ) where
  leaves : Leaves bytes s
  leaves = after_leaves h

  -- the plan that the state holds is spelled by the bytes that were read
  same : bytes ≡ spell (plan_in s)
  same = leaves.spelled ∙ ap spell (sym (leaves_plan leaves))

  -- with room they are written, and nothing behind them changes
  pub write_read : length bytes ≤ length buf
      → (write_spec s buf ≡ record { code = 0; len = length bytes }) × (write_buf s buf ≡ bytes ++ drop (length bytes) buf)
  write_read room = rw same (write_done s buf (leaves_genuine leaves) (rw same at room))

  -- without, 13
  pub write_refused : length buf < length bytes → (write_spec s buf ≡ record { code = 13; len = 0 }) × (write_buf s buf ≡ buf)
  write_refused short = write_no_room s buf (leaves_genuine leaves) (rw same at short)

  -- and what is written is read as the same plan
  pub read_write : length bytes ≤ length buf → read_spec (take (write_spec s buf).len (write_buf s buf)) ≡ moved 0 (made (plan_in s) (one_start (plan_in s) 0 0) 0)
  unfolding read_spec read_state
  read_write room =
      let w = write_read room in
      let front : take (write_spec s buf).len (write_buf s buf) ≡ spell leaves.plan =
      rw (w.0, w.1) (take_at bytes (drop (length bytes) buf) (length bytes) refl) ∙ leaves.spelled in
      rw (front, read_spelled leaves.plan leaves.valid, leaves_plan leaves) refl
