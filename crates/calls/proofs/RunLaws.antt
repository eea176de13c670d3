-- What calls come to on the states that a plan, a permitted run and a number of points taken make: steps serve the run's points and then none, a
-- block is that many steps, a jump to the index that an axis reads gives the step's numerator there. Assumes nothing.
use mathlib.Core.Path.{◌≡◌, refl, sym, ap, ap₂, ◌∙◌}
use mathlib.Core.Bool.{true}
use mathlib.Core.List.{List, ◌++◌}
use Prim.Native.Nat.{ℕ, zero, suc, ◌+◌, ◌-◌, ◌*◌, ◌/◌, ◌^◌, ◌≤◌, ◌<◌, min}
use native.Mathlib.Nat.{min-le_left}
use native.Mathlib.Omega.{arith}
use lib.ListN.{length, take, drop, get_or, get_or-append}
use lib.Seq.{take_at}
use Rattle.numbers.specs.Listed.{listed, joined, padded}
use Rattle.numbers.proofs.ListedLaws.{listed_length, listed_at, padded_take}
use Rattle.plan.specs.Plan.{Plan, Valid}
use Rattle.plan.specs.Order.{first_due}
use Rattle.points.specs.Point.{axis_count, numerator_of, denominator_of, point_of, slot_of}
use Rattle.points.specs.Run.{Run, index_at, Opens, run_numerator, run_point, run_points}
use Rattle.points.proofs.RunLaws.{opens_long, opens_low, run_point_length}
use Rattle.state.specs.State.{made, genuine}
use Rattle.state.proofs.PlanLaws.{plan_in_made}
use Rattle.state.proofs.GenuineLaws.{made_genuine}
use Rattle.calls.specs.Calls.{moved, blocked, slotted, open_spec, jump_spec, jump_buf, run_refusals, step_spec, step_buf, block_spec, block_buf, second_spec, has_slots, slot_spec}
use Rattle.calls.specs.Steps.{steps_points, steps_state}
use Rattle.calls.proofs.CaseLaws.{open_accepted, open_done, jump_done, run_spent, run_clear, step_refused, step_done, block_refused, block_done, second_done, slot_done}

module _ (p : Plan) (v : Valid p) (r : Run) (fits : Opens p r) where
  is_genuine : (taken : ℕ) → taken ≤ r.count → genuine (made p r taken) ≡ true
  is_genuine taken h = made_genuine p v r taken (record { opens = fits; not_past = h })

  -- the starts that the state holds are the run's
  front : take (axis_count p) (padded 6 r.starts) ≡ r.starts
  front = padded_take 6 r.starts (axis_count p) (opens_long fits)

  -- ---- one call

  module _ (buf : List ℕ) (room : axis_count p ≤ length buf) (taken : ℕ) where
    module _ (h : taken < r.count) where
      pub clear : first_due (run_refusals (made p r taken) buf) ≡ 0
      unfolding made
      clear = run_clear (made p r taken) buf (axis_count p) (is_genuine taken (omega arith)) h room

      pub step_at : (step_spec (made p r taken) buf ≡ moved 0 (made p r (taken + 1)))
          × (step_buf (made p r taken) buf ≡ run_point p r taken ++ drop (axis_count p) buf)
      unfolding made
      step_at = rw (plan_in_made p v r taken, front) at (step_done (made p r taken) buf clear)

      pub step_point : take (axis_count p) (step_buf (made p r taken) buf) ≡ run_point p r taken
      step_point =
          ap (take (axis_count p)) step_at.1 ∙ take_at (run_point p r taken) (drop (axis_count p) buf) (axis_count p) (run_point_length p r taken)

      pub block_at : let k = min (r.count - taken) (length buf / axis_count p) in
          (block_spec (made p r taken) buf ≡ blocked 0 k (made p r (taken + k)))
          × (block_buf (made p r taken) buf ≡ run_points p r taken k ++ drop (k * axis_count p) buf)
      unfolding made
      block_at = rw (plan_in_made p v r taken, front) at (block_done (made p r taken) buf clear)

    module _ (e : taken ≡ r.count) where
      over : first_due (run_refusals (made p r taken) buf) ≡ 12
      unfolding made
      over = run_spent (made p r taken) buf (axis_count p) (is_genuine taken (omega arith)) (omega arith) room

      pub step_over : step_spec (made p r taken) buf ≡ moved 12 (made p r taken)
      step_over = (step_refused (made p r taken) buf 11 over).0

      pub step_over_words : step_buf (made p r taken) buf ≡ buf
      step_over_words = (step_refused (made p r taken) buf 11 over).1

      pub block_over : block_spec (made p r taken) buf ≡ blocked 12 0 (made p r taken)
      block_over = (block_refused (made p r taken) buf 11 over).0

    -- a jump to any index, whatever is taken
    pub jump_at : (n : ℕ) → taken ≤ r.count → n < 2 ^ 32
        → (jump_spec (made p r taken) n buf ≡ record { code = 0 }) × (jump_buf (made p r taken) n buf ≡ point_of p n ++ drop (axis_count p) buf)
    unfolding made
    jump_at n h l = rw (plan_in_made p v r taken) at (jump_done (made p r taken) n buf (is_genuine taken h) l room)

    -- to the index that an axis reads: the same on that axis
    pub jump_axis : (i k : ℕ) → i < axis_count p → k < r.count → taken ≤ r.count
        → ((jump_spec (made p r taken) (index_at r i k) buf).code ≡ 0)
        × (get_or (jump_buf (made p r taken) (index_at r i k) buf) i 0 ≡ get_or (run_point p r k) i 0)
    unfolding point_of run_point run_numerator
    jump_axis i k l m h =
        let n = index_at r i k in
        let a = jump_at n h (opens_low fits i k l m) in
        let long = listed_length (numerator_of p n) (axis_count p) in (
          ap (λ (x : _). x.code) a.0,
          ap (λ (x : List ℕ). get_or x i 0) a.1
              ∙ get_or-append (listed (numerator_of p n) (axis_count p)) (drop (axis_count p) buf) 0 i (omega (arith, long))
              ∙ listed_at (numerator_of p n) (axis_count p) i l ∙ sym (listed_at (λ j. numerator_of p (index_at r j k) j) (axis_count p) i l),
        )

  pub second_at : (taken : ℕ) → taken ≤ r.count → (n : ℕ) → n < 2 ^ 32
      → second_spec (made p r taken) n ≡ record { code = 0; second = numerator_of p n 0 * 86400 / denominator_of p 0 }
  unfolding slot_of
  second_at taken h n l = rw (plan_in_made p v r taken) at (second_done (made p r taken) n (is_genuine taken h) l)

  pub slot_at : (taken : ℕ) → taken ≤ r.count → (n : ℕ) → n < 2 ^ 32 → (axis slots : ℕ) → has_slots (axis_count p) axis slots ≡ true
      → slot_spec (made p r taken) n axis slots ≡ slotted 0 (numerator_of p n (axis - 1) * slots / denominator_of p (axis - 1))
  unfolding slot_of made
  slot_at taken h n l axis slots takes =
      rw (plan_in_made p v r taken) at (slot_done (made p r taken) n axis slots (is_genuine taken h) l takes)

  -- an opening replaces the run
  pub open_at : (taken : ℕ) → taken ≤ r.count → (next : Run) → Opens p next → open_spec (made p r taken) next ≡ moved 0 (made p next 0)
  unfolding made
  open_at taken h next o =
      rw (plan_in_made p v r taken) at (open_done (made p r taken) next (is_genuine taken h) o.is_in_range o.has_starts_lem)

  -- and is accepted only then
  pub open_only : (taken : ℕ) (next : Run) → (open_spec (made p r taken) next).code ≡ 0 → Opens p next
  unfolding made
  open_only taken next z = let a = open_accepted (made p r taken) next z in record { is_in_range = a.1; has_starts_lem = a.2 }

  -- ---- steps in a row, each lent words of its own

  module _ (bufs : ℕ → List ℕ) (room : (t : ℕ) → axis_count p ≤ length (bufs t)) (taken : ℕ) where
    pub steps_leave : (k : ℕ) → taken + k ≤ r.count → steps_state k (made p r taken) bufs ≡ made p r (taken + k)
    unfolding steps_state
    steps_leave zero h = ap (made p r) (omega arith)
    steps_leave (suc k) h =
        let one : taken + k + 1 ≡ taken + suc k = omega arith in
        ap (λ (s : _). (step_spec s (bufs k)).state) (steps_leave k (omega arith))
        ∙ ap (λ (a : _). a.state) (step_at (bufs k) (room k) (taken + k) (omega arith)).0 ∙ ap (made p r) one

    -- k steps give the points of k steps of the run
    pub steps_serve : (k : ℕ) → taken + k ≤ r.count → steps_points k (made p r taken) bufs ≡ run_points p r taken k
    unfolding steps_points joined made
    steps_serve zero h = refl
    steps_serve (suc k) h =
        ap₂ ◌++◌ (steps_serve k (omega arith))
        (ap (λ (s : _). take (axis_count p) (step_buf s (bufs k))) (steps_leave k (omega arith)) ∙ step_point (bufs k) (room k) (taken + k) (omega arith))

    -- a block is as many steps
    pub block_is_steps : (buf : List ℕ) → axis_count p ≤ length buf → taken < r.count → let k = min (r.count - taken) (length buf / axis_count p) in
        (block_spec (made p r taken) buf ≡ blocked 0 k (steps_state k (made p r taken) bufs))
        × (block_buf (made p r taken) buf ≡ steps_points k (made p r taken) bufs ++ drop (k * axis_count p) buf)
    block_is_steps buf h l =
        let k : ℕ = min (r.count - taken) (length buf / axis_count p) in
        let less : k ≤ r.count - taken = min-le_left (r.count - taken) (length buf / axis_count p) in
        let b = block_at buf h taken l in (
          b.0 ∙ ap (blocked 0 k) (sym (steps_leave k (omega arith))),
          b.1 ∙ ap (λ (x : List ℕ). x ++ drop (k * axis_count p) buf) (sym (steps_serve k (omega arith))),
        )
