-- Demand 2 of a day set by the calls' own answers: after an accepted reading and an accepted making, any steps and blocks serve its points in their
-- order, n in front, exactly N of them, and then 12; and a jump gives the same points. Assumes nothing.
use mathlib.Core.Path.{◌≡◌, refl, sym, ap, ◌∙◌, subst}
use mathlib.Core.Logic.{◌↔◌, ◌⊎◌, ⊎_elim}
use mathlib.Core.List.{List}
use Prim.Native.Nat.{ℕ, zero, suc, ◌+◌, ◌-◌, ◌*◌, ◌/◌, ◌^◌, ◌≤◌, ◌<◌, min}
use native.Mathlib.Nat.{add-zero, zero-mul, min-le_left}
use native.Mathlib.Omega.{arith}
use lib.ListN.{length, take, drop}
use lib.Seq.{take_at}
use Rattle.numbers.specs.Listed.{joined}
use Rattle.plan.specs.Plan.{Plan, Valid, spell}
use Rattle.plan.specs.Order.{first_due}
use Rattle.points.specs.Run.{one_start}
use Rattle.state.specs.State.{made}
use Rattle.calls.specs.History.{After, Request, step, block, lent_to, AllRoom}
use Rattle.calls.proofs.CaseLaws.{run_cleared}
use Rattle.calls.proofs.ServerLaws.{whole, Serves, ServesOne, all_serve}
use Rattle.calls.proofs.HistoryLaws.{Leaves, leaves_genuine, after_leaves}
use Rattle.state.specs.declared.Sampler.{Sampler}
use Rattle.day_set.specs.DaySet.{day_point, day_points, day_made, day_taken, genuine_day}
use Rattle.day_set.specs.Calls.{make_spec, day_jump_spec, day_jump_buf, day_run_refusals, day_step_spec, day_step_buf, day_block_spec}
use Rattle.day_set.specs.History.{day_moved_by, day_written_by, day_server, day_after, day_served}
use Rattle.day_set.specs.Serving.{width_of, ServesDay}
use Rattle.day_set.specs.declared.DaySet.{DaySet}
use Rattle.numbers.proofs.JoinedLaws.{joined_one, joined_length, joined_at}
use Rattle.day_set.proofs.OrderLaws.{make_done, day_step_refused, day_block_refused}
use Rattle.day_set.proofs.DayLaws.{day_point_length, day_none, day_step_at, day_step_point, day_block_at, day_step_over, day_block_over, day_jump_at, day_past}
use Rattle.day_set.proofs.HistoryLaws.{make_leaves}

module _ (p : Plan) (v : Valid p) (N : ℕ) (fits : N ≤ 2 ^ 32) where
  -- ---- one request

  abbrev DayServes : ℕ → DaySet → List ℕ → Type 0
  DayServes = Serves (day_made p N) (day_point p) N

  module _ (taken : ℕ) (h : taken ≤ N) where
    -- refused
    nothing : (n : ℕ) (q : Request) → first_due (day_run_refusals (day_made p N taken) (lent_to q)) ≡ suc n
        → DayServes taken (day_moved_by q (day_made p N taken)) (day_written_by q (day_made p N taken))
    unfolding day_moved_by day_written_by joined
    nothing n (step buf) e =
        let a = (day_step_refused (day_made p N taken) buf n e).0 in
        record { many = 0; within = omega arith; state_is = ap (λ (x : _). x.set) a ∙ ap (day_made p N) (sym (add-zero taken)); points_are = rw a refl }
    nothing n (block buf) e =
        let a = (day_block_refused (day_made p N taken) buf n e).0 in
        record { many = 0; within = omega arith; state_is = ap (λ (x : _). x.set) a ∙ ap (day_made p N) (sym (add-zero taken)); points_are = rw (a, zero-mul) refl }

    some : taken < N → (q : Request) → width_of p ≤ length (lent_to q)
        → (s : DayServes taken (day_moved_by q (day_made p N taken)) (day_written_by q (day_made p N taken))) × (1 ≤ s.many)
    unfolding day_moved_by day_written_by day_made made one_start
    some l (step buf) room =
        let a = (day_step_at p v N fits taken buf room l).0 in (
          record {
            many = 1;
            within = omega arith;
            state_is = ap (λ (x : _). x.set) a;
            points_are = rw a (day_step_point p v N fits taken buf room l ∙ sym (joined_one (day_point p) taken));
          },
          omega arith,
        )
    some l (block buf) room =
        let k : ℕ = min (N - taken) (length buf / width_of p) in
        let less : k ≤ N - taken = min-le_left (N - taken) (length buf / width_of p) in
        let a = day_block_at p v N fits taken buf room l in (
          record {
            many = k;
            within = omega arith;
            state_is = ap (λ (x : _). x.set) a.0;
            points_are = rw (a.0, a.1) (take_at (day_points p taken k) (drop (k * width_of p) buf) (k * width_of p) (joined_length (day_point p) (width_of p) (day_point_length p) taken k));
          },
          omega (arith, whole (width_of p) (length buf) (omega arith) room),
        )

    one : (q : Request) → ServesOne day_server (day_made p N) (day_point p) N (width_of p) taken q
    unfolding day_made made one_start
    one q = go (first_due (day_run_refusals (day_made p N taken) (lent_to q))) refl
      where
        go : (n : ℕ) → first_due (day_run_refusals (day_made p N taken) (lent_to q)) ≡ n → ServesOne day_server (day_made p N) (day_point p) N (width_of p) taken q
        go zero e = let c = run_cleared (genuine_day (day_made p N taken)) (day_made p N taken).run (lent_to q) (width_of p) e in let s = some c.1 q c.2 in (s.0, λ room l. s.1)
        go (suc n) e = (nothing n q e, λ room l. absurd (omega (arith, e, day_none p v N fits taken (lent_to q) room l)))

  -- ---- requests in a row

  pub day_requests_serve : (requests : List Request) (taken : ℕ) → taken ≤ N
      → (s : DayServes taken (day_after requests (day_made p N taken)) (day_served requests (day_made p N taken)))
      × (AllRoom (width_of p) requests → (length requests ≤ s.many) ⊎ (taken + s.many ≡ N))
  day_requests_serve = all_serve day_server (day_made p N) (day_point p) N (width_of p) one

  pub day_serves : (requests : List Request) → ServesDay p N requests (day_served requests (day_made p N 0)) (day_after requests (day_made p N 0))
  day_serves requests =
      let a = day_requests_serve requests 0 (omega arith) in
      let k = a.0.many in
      let zero_k : 0 + k ≡ k = omega arith in
      let d = day_after requests (day_made p N 0) in
      let is : d ≡ day_made p N k = a.0.state_is ∙ ap (day_made p N) zero_k in
      record {
        served = k;
        within = omega (arith, a.0.within);
        all = λ room l. ⊎_elim (λ m. omega (arith, a.0.within)) (λ e. omega arith) (a.1 room);
        long = ap length a.0.points_are ∙ joined_length (day_point p) (width_of p) (day_point_length p) 0 k;
        point = λ n l.
            let zero_n : 0 + n ≡ n = omega arith in
            ap (λ (x : List ℕ). take (width_of p) (drop (n * width_of p) x)) a.0.points_are ∙ joined_at (day_point p) (width_of p) (day_point_length p) 0 k n l ∙ ap (day_point p) zero_n;
        next = λ buf h l. (
          ap (λ (t : DaySet). (day_step_spec t buf).code) is ∙ ap (λ (x : _). x.code) (day_step_at p v N fits k buf h l).0,
          ap (λ (t : DaySet). take (width_of p) (day_step_buf t buf)) is ∙ day_step_point p v N fits k buf h l,
        );
        over = λ buf h e. (
          ap (λ (t : DaySet). (day_step_spec t buf).code) is ∙ day_step_over p v N fits k buf h e,
          ap (λ (t : DaySet). (day_block_spec t buf).code) is ∙ day_block_over p v N fits k buf h e,
        );
        jump = λ buf h n l.
            let j = day_jump_at p v N fits k buf n (omega (arith, a.0.within)) h l in (
              ap (λ (t : DaySet). (day_jump_spec t n buf).code) is ∙ ap (λ (x : _). x.code) j.0,
              ap (λ (t : DaySet). take (width_of p) (day_jump_buf t n buf)) is ∙ ap (take (width_of p)) j.1
                  ∙ take_at (day_point p n) (drop (width_of p) buf) (width_of p) (day_point_length p n),
            );
        past = λ buf n l.
            let j = day_past p v N fits k buf n (omega (arith, a.0.within)) l in (
              ap (λ (t : DaySet). (day_jump_spec t n buf).code) is ∙ ap (λ (x : _). x.code) j.0,
              ap (λ (t : DaySet). day_jump_buf t n buf) is ∙ j.1,
            );
      }

-- at the end of the largest day set
at_end : (p : Plan) → Valid p → (buf : List ℕ) → width_of p ≤ length buf → (d : DaySet) → ((taken : ℕ) × (taken ≤ 2 ^ 32) × (d ≡ day_made p (2 ^ 32) taken))
    → ((day_jump_spec d 4294967295 buf).code ≡ 0) × (take (width_of p) (day_jump_buf d 4294967295 buf) ≡ day_point p 4294967295)
    × ((day_jump_spec d 4294967296 buf).code ≡ 11)
    × (day_taken d ≡ 4294967295 → let t = day_step_spec d buf in
    (t.code ≡ 0) × (take (width_of p) (day_step_buf d buf) ≡ day_point p 4294967295) × ((day_step_spec t.set buf).code ≡ 12))
unfolding day_made made one_start
at_end p v buf room d (taken, h, is) =
    let fits : 2 ^ 32 ≤ 2 ^ 32 = omega arith in
    let j = day_jump_at p v (2 ^ 32) fits taken buf 4294967295 h room (omega arith) in
    let s = day_step_at p v (2 ^ 32) fits 4294967295 buf room (omega arith) in
    rw is (
      ap (λ (a : _). a.code) j.0,
      ap (take (width_of p)) j.1 ∙ take_at (day_point p 4294967295) (drop (width_of p) buf) (width_of p) (day_point_length p 4294967295),
      ap (λ (a : _). a.code) (day_past p v (2 ^ 32) fits taken buf 4294967296 h (omega arith)).0,
      λ e. rw e (
        ap (λ (a : _). a.code) s.0,
        day_step_point p v (2 ^ 32) fits 4294967295 buf room (omega arith),
        ap (λ (a : _). (day_step_spec a.set buf).code) s.0 ∙ day_step_over p v (2 ^ 32) fits (4294967295 + 1) buf room (omega arith),
      ),
    )

-- Demand 2 of day sets as one theorem. Whatever calls were accepted after a reading of bytes, which then spell a valid plan: a day set is made with
-- code 0 exactly where its size is at most 2^32, and it is then served, from point 0 on, by any steps and blocks.
pub day_demand_2 : (bytes : List ℕ) {s : Sampler} → After bytes s
    → (p : Plan) × Valid p × (bytes ≡ spell p) × ((N : ℕ) → let m = make_spec s N in
    ((m.code ≡ 0) ↔ (N ≤ 2 ^ 32))
    × (m.code ≡ 0 → (requests : List Request) → ServesDay p N requests (day_served requests m.set) (day_after requests m.set)))
day_demand_2 bytes {s} h =
    let l = after_leaves h in (
      l.plan,
      l.valid,
      l.spelled,
      λ N. (
        (λ z. (make_leaves l N z).0, λ fits. ap (λ (a : _). a.code) (make_done s N (leaves_genuine l) fits)),
        λ z requests.
            let m = make_leaves l N z in
            subst (λ (d : DaySet). ServesDay l.plan N requests (day_served requests d) (day_after requests d)) (sym m.1) (day_serves l.plan l.valid N m.0 requests),
      ),
    )

-- The last point of the largest day set has the number 2^32 - 1: after any steps and blocks a jump gives it and none beyond, and where it alone is
-- left, a step gives it and leaves none.
pub day_last : (bytes : List ℕ) {s : Sampler} → After bytes s → let m = make_spec s (2 ^ 32) in
    (p : Plan) × Valid p × (bytes ≡ spell p) × (m.code ≡ 0)
    × ((requests : List Request) (buf : List ℕ) → width_of p ≤ length buf → let d = day_after requests m.set in
    ((day_jump_spec d 4294967295 buf).code ≡ 0) × (take (width_of p) (day_jump_buf d 4294967295 buf) ≡ day_point p 4294967295)
    × ((day_jump_spec d 4294967296 buf).code ≡ 11)
    × (day_taken d ≡ 4294967295 → let t = day_step_spec d buf in
    (t.code ≡ 0) × (take (width_of p) (day_step_buf d buf) ≡ day_point p 4294967295) × ((day_step_spec t.set buf).code ≡ 12)))
day_last bytes {s} h =
    let l = after_leaves h in
    let fits : 2 ^ 32 ≤ 2 ^ 32 = omega arith in
    let z = ap (λ (a : _). a.code) (make_done s (2 ^ 32) (leaves_genuine l) fits) in
    (l.plan, l.valid, l.spelled, z, λ requests buf room. at_end l.plan l.valid buf room _ (left_of l z requests))
  where
    -- the points that are taken, and the day set that is left
    left_of : (l : Leaves bytes s) → (make_spec s (2 ^ 32)).code ≡ 0 → (requests : List Request)
        → (taken : ℕ) × (taken ≤ 2 ^ 32) × (day_after requests (make_spec s (2 ^ 32)).set ≡ day_made l.plan (2 ^ 32) taken)
    left_of l z requests =
        let m = make_leaves l (2 ^ 32) z in
        let a = (day_requests_serve l.plan l.valid (2 ^ 32) m.0 requests 0 (omega arith)).0 in
        (0 + a.many, a.within, ap (day_after requests) m.1 ∙ a.state_is)
