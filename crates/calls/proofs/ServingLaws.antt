-- Demand 2 by the calls' own answers: after an accepted reading and an accepted opening, any steps and blocks serve the points of the plan that was
-- read, each axis from its start on, exactly as many as the run has, and then 12; and jumps give the same numerators. Assumes nothing.
use mathlib.Core.Path.{◌≡◌, refl, sym, ap, ◌∙◌, subst}
use mathlib.Core.Logic.{◌↔◌, ◌⊎◌, ⊎_elim}
use mathlib.Core.List.{List}
use Prim.Native.Nat.{ℕ, zero, suc, ◌+◌, ◌-◌, ◌*◌, ◌/◌, ◌≤◌, ◌<◌, min}
use native.Mathlib.Nat.{add-zero, zero-mul, min-le_left}
use native.Mathlib.Omega.{arith}
use lib.ListN.{length, take, drop, get_or}
use lib.Seq.{take_at}
use Rattle.bits.specs.Stream.{AllBelow}
use Rattle.numbers.specs.Listed.{joined}
use Rattle.numbers.proofs.JoinedLaws.{joined_one, joined_length, joined_at}
use Rattle.plan.specs.Plan.{Plan, Valid, spell}
use Rattle.plan.specs.Reading.{read_plan}
use Rattle.plan.specs.Order.{first_due}
use Rattle.plan.proofs.AcceptLaws.{read_spelled}
use Rattle.points.specs.Point.{axis_count}
use Rattle.points.specs.Run.{Run, one_start, index_at, Opens, run_point, run_points}
use Rattle.points.proofs.PointLaws.{axis_count_lem}
use Rattle.points.proofs.RunLaws.{run_point_length}
use Rattle.state.specs.State.{made, genuine}
use Rattle.state.specs.declared.Sampler.{Sampler}
use Rattle.calls.specs.Calls.{read_state, read_spec, open_spec, run_refusals, jump_spec, jump_buf, step_spec, step_buf, block_spec}
use Rattle.calls.specs.History.{read, Request, step, block, lent_to, moved_by, written_by, run_server, state_after, points_served, AllRoom}
use Rattle.calls.specs.Demand2.{ServesRun}
use Rattle.calls.proofs.RunLaws.{clear, step_at, step_point, step_over, block_at, block_over, open_at, open_only, jump_axis}
use Rattle.calls.proofs.CaseLaws.{run_cleared, step_refused, block_refused}
use Rattle.calls.proofs.ServerLaws.{whole, Serves, ServesOne, all_serve}
use Rattle.calls.proofs.HistoryLaws.{none_opened, after_leaves}

module _ (p : Plan) (v : Valid p) (r : Run) (fits : Opens p r) where
  -- ---- one request

  abbrev RunServes : ℕ → Sampler → List ℕ → Type 0
  RunServes = Serves (made p r) (run_point p r) r.count

  module _ (taken : ℕ) (h : taken ≤ r.count) where
    -- refused
    nothing : (n : ℕ) (q : Request) → first_due (run_refusals (made p r taken) (lent_to q)) ≡ suc n
        → RunServes taken (moved_by q (made p r taken)) (written_by q (made p r taken))
    unfolding moved_by written_by joined
    nothing n (step buf) e =
        let a = (step_refused (made p r taken) buf n e).0 in
        record { many = 0; within = omega arith; state_is = ap (λ (x : _). x.state) a ∙ ap (made p r) (sym (add-zero taken)); points_are = rw a refl }
    nothing n (block buf) e =
        let a = (block_refused (made p r taken) buf n e).0 in
        record { many = 0; within = omega arith; state_is = ap (λ (x : _). x.state) a ∙ ap (made p r) (sym (add-zero taken)); points_are = rw (a, zero-mul) refl }

    some : taken < r.count → (q : Request) → axis_count p ≤ length (lent_to q)
        → (s : RunServes taken (moved_by q (made p r taken)) (written_by q (made p r taken))) × (1 ≤ s.many)
    unfolding moved_by written_by made
    some l (step buf) room =
        let a = (step_at p v r fits buf room taken l).0 in (
          record {
            many = 1;
            within = omega arith;
            state_is = ap (λ (x : _). x.state) a;
            points_are = rw a (step_point p v r fits buf room taken l ∙ sym (joined_one (run_point p r) taken));
          },
          omega arith,
        )
    some l (block buf) room =
        let k : ℕ = min (r.count - taken) (length buf / axis_count p) in
        let less : k ≤ r.count - taken = min-le_left (r.count - taken) (length buf / axis_count p) in
        let a = block_at p v r fits buf room taken l in (
          record {
            many = k;
            within = omega arith;
            state_is = ap (λ (x : _). x.state) a.0;
            points_are = rw (a.0, a.1) (take_at (run_points p r taken k) (drop (k * axis_count p) buf) (k * axis_count p) (joined_length (run_point p r) (axis_count p) (run_point_length p r) taken k));
          },
          omega (arith, whole (axis_count p) (length buf) (axis_count_lem p v).0 room),
        )

    one : (q : Request) → ServesOne run_server (made p r) (run_point p r) r.count (axis_count p) taken q
    unfolding made
    one q = go (first_due (run_refusals (made p r taken) (lent_to q))) refl
      where
        go : (n : ℕ) → first_due (run_refusals (made p r taken) (lent_to q)) ≡ n → ServesOne run_server (made p r) (run_point p r) r.count (axis_count p) taken q
        go zero e = let c = run_cleared (genuine (made p r taken)) (made p r taken) (lent_to q) (axis_count p) e in let s = some c.1 q c.2 in (s.0, λ room l. s.1)
        go (suc n) e = (nothing n q e, λ room l. absurd (omega (arith, e, clear p v r fits (lent_to q) room taken l)))

  -- ---- requests in a row

  pub requests_serve : (requests : List Request) (taken : ℕ) → taken ≤ r.count
      → (s : RunServes taken (state_after requests (made p r taken)) (points_served requests (made p r taken)))
      × (AllRoom (axis_count p) requests → (length requests ≤ s.many) ⊎ (taken + s.many ≡ r.count))
  requests_serve = all_serve run_server (made p r) (run_point p r) r.count (axis_count p) one

  pub run_serves : (requests : List Request) → ServesRun p r requests (points_served requests (made p r 0)) (state_after requests (made p r 0))
  run_serves requests =
      let a = requests_serve requests 0 (omega arith) in
      let k = a.0.many in
      let zero_k : 0 + k ≡ k = omega arith in
      let s = state_after requests (made p r 0) in
      let is : s ≡ made p r k = a.0.state_is ∙ ap (made p r) zero_k in
      record {
        served = k;
        within = omega (arith, a.0.within);
        all = λ room l. ⊎_elim (λ m. omega (arith, a.0.within)) (λ e. omega arith) (a.1 room);
        long = ap length a.0.points_are ∙ joined_length (run_point p r) (axis_count p) (run_point_length p r) 0 k;
        point = λ j l.
            let zero_j : 0 + j ≡ j = omega arith in
            ap (λ (x : List ℕ). take (axis_count p) (drop (j * axis_count p) x)) a.0.points_are ∙ joined_at (run_point p r) (axis_count p) (run_point_length p r) 0 k j l ∙ ap (run_point p r) zero_j;
        next = λ buf h l. (
          ap (λ (t : Sampler). (step_spec t buf).code) is ∙ ap (λ (x : _). x.code) (step_at p v r fits buf h k l).0,
          ap (λ (t : Sampler). take (axis_count p) (step_buf t buf)) is ∙ step_point p v r fits buf h k l,
        );
        over = λ buf h e. (
          ap (λ (t : Sampler). (step_spec t buf).code) is ∙ ap (λ (x : _). x.code) (step_over p v r fits buf h k e),
          ap (λ (t : Sampler). (block_spec t buf).code) is ∙ ap (λ (x : _). x.code) (block_over p v r fits buf h k e),
        );
        jump = λ buf h i j low l.
            let n = jump_axis p v r fits buf h k i j low l (omega (arith, a.0.within)) in (
              ap (λ (t : Sampler). (jump_spec t (index_at r i j) buf).code) is ∙ n.0,
              ap (λ (t : Sampler). get_or (jump_buf t (index_at r i j) buf) i 0) is ∙ n.1,
            );
      }

-- Demand 2 as one theorem. Bytes are read with code 0 exactly where they are the spelling of a valid plan; of that plan a run is opened with code
-- 0 exactly where an opening takes it; and it is then served, each axis from its start on, by any steps and blocks.
pub demand_2 : (bytes : List ℕ) → AllBelow 256 bytes
    → (((read_spec bytes).code ≡ 0) ↔ ((p : Plan) × Valid p × (bytes ≡ spell p)))
    × ((p : Plan) → Valid p → bytes ≡ spell p → (r : Run) → let o = open_spec (read_spec bytes).state r in
    ((o.code ≡ 0) ↔ Opens p r)
    × (o.code ≡ 0 → (requests : List Request) → ServesRun p r requests (points_served requests o.state) (state_after requests o.state)))
unfolding read_spec read_state
demand_2 bytes below = (
  (λ z. let l = after_leaves (read below z) in (l.plan, l.valid, l.spelled), λ w. rw (w.2, read_spelled w.0 w.1) refl),
  λ p v e r.
      let is : (read_state (read_plan bytes)).state ≡ made p (one_start p 0 0) 0 = rw (e, read_spelled p v) refl in
      let none = (none_opened p v).opens in
      let answer = ap (λ (s : Sampler). open_spec s r) is in
      let takes : (open_spec (read_state (read_plan bytes)).state r).code ≡ 0 → Opens p r =
      λ z. open_only p v (one_start p 0 0) none 0 r (sym (ap (λ (a : _). a.code) answer) ∙ z) in (
        (takes, λ fits. ap (λ (a : _). a.code) (answer ∙ open_at p v (one_start p 0 0) none 0 (omega arith) r fits)),
        λ z requests.
            let left : (open_spec (read_state (read_plan bytes)).state r).state ≡ made p r 0 =
            ap (λ (a : _). a.state) (answer ∙ open_at p v (one_start p 0 0) none 0 (omega arith) r (takes z)) in
            subst (λ (s : Sampler). ServesRun p r requests (points_served requests s) (state_after requests s)) (sym left) (run_serves p v r (takes z) requests),
      ),
)
