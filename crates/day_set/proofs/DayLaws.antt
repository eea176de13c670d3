-- What calls come to on the day sets that a plan, a size and a number of points taken make. Assumes nothing.
use mathlib.Core.Path.{◌≡◌, refl, sym, ap, ◌∙◌}
use mathlib.Core.Bool.{true}
use mathlib.Core.List.{List, ◌++◌}
use Prim.Native.Nat.{ℕ, suc, ◌+◌, ◌-◌, ◌*◌, ◌/◌, ◌^◌, ◌≤◌, ◌<◌, min}
use native.Mathlib.Omega.{arith}
use lib.ListN.{length, take, drop, replicate}
use lib.Seq.{take_at}
use Rattle.plan.specs.Plan.{Plan, Valid}
use Rattle.plan.specs.Order.{first_due}
use Rattle.points.specs.Run.{Run, one_start, Opens}
use Rattle.points.proofs.PointLaws.{axis_count_lem, point_of_length}
use Rattle.points.proofs.RunLaws.{one_zeros, one_opens}
use Rattle.state.specs.State.{made}
use Rattle.state.proofs.SameLaws.{true_both, same_words_refl}
use Rattle.state.proofs.PlanLaws.{plan_in_made}
use Rattle.state.proofs.GenuineLaws.{made_genuine}
use Rattle.calls.proofs.CaseLaws.{run_spent, run_clear}
use Rattle.day_set.specs.DaySet.{day_point, day_points, day_run, day_made, from_zero, genuine_day}
use Rattle.day_set.specs.Calls.{day_moved, day_blocked, make_spec, day_jump_spec, day_jump_buf, day_run_refusals, day_step_spec, day_step_buf, day_block_spec, day_block_buf}
use Rattle.day_set.specs.Serving.{width_of}
use Rattle.day_set.proofs.OrderLaws.{make_done, day_jump_past, day_jump_done, day_step_refused, day_step_done, day_block_refused, day_block_done}

pub day_point_length : (p : Plan) (n : ℕ) → length (day_point p n) ≡ width_of p
unfolding day_point
day_point_length p n = ap suc (point_of_length p n)

module _ (p : Plan) (v : Valid p) where
  -- a making forgets the state's run
  pub make_at : (r : Run) → Opens p r → (taken : ℕ) → taken ≤ r.count → (N : ℕ) → N ≤ 2 ^ 32 → make_spec (made p r taken) N ≡ day_moved 0 (day_made p N 0)
  make_at r fits taken h N l =
      rw (plan_in_made p v r taken) at (make_done (made p r taken) N (made_genuine p v r taken (record { opens = fits; not_past = h })) l)

  module _ (N : ℕ) (fits : N ≤ 2 ^ 32) where
    pub day_opens : Opens p (day_run p N)
    day_opens = one_opens p 0 N (axis_count_lem p v).0 (omega arith)

    day_zeros : (taken : ℕ) → (day_made p N taken).run.starts ≡ replicate 6 0
    unfolding day_made made
    day_zeros taken = sym (one_zeros p 0 N (axis_count_lem p v).1 refl)

    pub day_genuine : (taken : ℕ) → taken ≤ N → genuine_day (day_made p N taken) ≡ true
    unfolding genuine_day day_made
    day_genuine taken h =
        true_both (ap from_zero (day_zeros taken) ∙ same_words_refl (replicate 6 0))
        (made_genuine p v (day_run p N) taken (record { opens = day_opens; not_past = unfold one_start in h }))

    module _ (taken : ℕ) (buf : List ℕ) where
      module _ (room : width_of p ≤ length buf) (h : taken < N) where
        pub day_none : first_due (day_run_refusals (day_made p N taken) buf) ≡ 0
        unfolding day_made made one_start
        day_none = run_clear (day_made p N taken).run buf (width_of p) (day_genuine taken (omega arith)) h room

        pub day_step_at : (day_step_spec (day_made p N taken) buf ≡ day_moved 0 (day_made p N (taken + 1)))
            × (day_step_buf (day_made p N taken) buf ≡ day_point p taken ++ drop (width_of p) buf)
        unfolding day_made made one_start
        day_step_at = rw (plan_in_made p v (day_run p N) taken) at (day_step_done (day_made p N taken) buf day_none)

        pub day_step_point : take (width_of p) (day_step_buf (day_made p N taken) buf) ≡ day_point p taken
        day_step_point = ap (take (width_of p)) day_step_at.1 ∙ take_at (day_point p taken) (drop (width_of p) buf) (width_of p) (day_point_length p taken)

        pub day_block_at : let k = min (N - taken) (length buf / width_of p) in
            (day_block_spec (day_made p N taken) buf ≡ day_blocked 0 k (day_made p N (taken + k)))
            × (day_block_buf (day_made p N taken) buf ≡ day_points p taken k ++ drop (k * width_of p) buf)
        unfolding day_made made one_start
        day_block_at = rw (plan_in_made p v (day_run p N) taken) at (day_block_done (day_made p N taken) buf day_none)

      module _ (room : width_of p ≤ length buf) (e : taken ≡ N) where
        over : first_due (day_run_refusals (day_made p N taken) buf) ≡ 12
        unfolding day_made made one_start
        over = run_spent (day_made p N taken).run buf (width_of p) (day_genuine taken (omega arith)) (omega arith) room

        pub day_step_over : (day_step_spec (day_made p N taken) buf).code ≡ 12
        day_step_over = ap (λ (a : _). a.code) (day_step_refused (day_made p N taken) buf 11 over).0

        pub day_block_over : (day_block_spec (day_made p N taken) buf).code ≡ 12
        day_block_over = ap (λ (a : _). a.code) (day_block_refused (day_made p N taken) buf 11 over).0

      module _ (n : ℕ) (h : taken ≤ N) where
        pub day_jump_at : width_of p ≤ length buf → n < N
            → (day_jump_spec (day_made p N taken) n buf ≡ record { code = 0 }) × (day_jump_buf (day_made p N taken) n buf ≡ day_point p n ++ drop (width_of p) buf)
        unfolding day_made made one_start
        day_jump_at room l = rw (plan_in_made p v (day_run p N) taken) at (day_jump_done (day_made p N taken) n buf (day_genuine taken h) l room)

        pub day_past : N ≤ n → (day_jump_spec (day_made p N taken) n buf ≡ record { code = 11 }) × (day_jump_buf (day_made p N taken) n buf ≡ buf)
        unfolding day_made made one_start
        day_past l = day_jump_past (day_made p N taken) n buf (day_genuine taken h) l
