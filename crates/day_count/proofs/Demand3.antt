-- Demand 3 for day sets (02-change-requests.md, K1): the count is that of the first m points, m × q lies within q of u × N, and the plan's bound for
-- m points is at most that for N. Assumes nothing.
use mathlib.Core.Path.{◌≡◌, refl, sym, ap, ◌∙◌, subst}
use mathlib.Core.Bool.{true}
use mathlib.Core.List.{List}
use Prim.Native.Nat.{ℕ, suc, ◌+◌, ◌*◌, ◌^◌, ◌≤◌, ◌<◌}
use native.Mathlib.Nat.{mul-le-mul_left, mul-le-mul_right, mul-lt-mul_of_pos_right}
use native.Mathlib.Omega.{arith}
use lib.ListN.{length, drop}
use Rattle.numbers.proofs.DigitLaws.{product_mono}
use Rattle.discrepancy.specs.Bound.{Near}
use Rattle.discrepancy.proofs.FitLaws.{bound_mono}
use Rattle.plan.specs.Plan.{Plan, halton, sobol, Valid, spell}
use Rattle.points.specs.Point.{axis_count}
use Rattle.points.specs.Arrays.{family_of}
use Rattle.points.specs.Run.{one_start}
use Rattle.points.proofs.PointLaws.{axis_count_lem}
use Rattle.points.proofs.RunLaws.{opens_count, one_opens}
use Rattle.state.specs.State.{made}
use Rattle.state.specs.declared.Sampler.{Sampler}
use Rattle.state.proofs.PlanLaws.{plan_in_made}
use Rattle.state.proofs.GenuineLaws.{genuine_is}
use Rattle.state.proofs.StateLaws.{genuine_holds}
use Rattle.calls.specs.History.{After, Request}
use Rattle.calls.proofs.HistoryLaws.{after_leaves}
use Rattle.day_set.specs.DaySet.{day_run, day_made, day_plan, day_size, day_width, genuine_day}
use Rattle.day_set.specs.Calls.{make_spec}
use Rattle.day_set.specs.History.{day_after}
use Rattle.day_set.specs.Serving.{width_of}
use Rattle.day_set.specs.declared.DaySet.{DaySet}
use Rattle.day_set.proofs.CaseLaws.{day_is}
use Rattle.day_set.proofs.HistoryLaws.{make_leaves}
use Rattle.day_set.proofs.ServingLaws.{day_requests_serve}
use Rattle.window.specs.Counting.{Cut, u_of, q_of, u_product, q_product, base_at, bound_of, Cuts, cut_at, cuts_of, is_window}
use Rattle.window.proofs.Demand3.{demand_3}
use Rattle.window.proofs.PlanLaws.{cuts_at}
use Rattle.window.proofs.RangeLaws.{window_cuts}
use Rattle.window.proofs.LeadingLaws.{u_front, q_front, rest_cuts}
use Rattle.window_count.specs.Call.{counted}
use Rattle.window_count.specs.declared.Counted.{Counted}
use Rattle.day_count.specs.Count.{day_inside_count, day_bound_of, day_count_spec}
use Rattle.day_count.proofs.FirstLaws.{first_of, limit_reaches, limit_near, limit_within, day_first}
use Rattle.day_count.proofs.CaseLaws.{day_count_accepted, day_count_done}
use Rattle.day_count.proofs.EndLaws.{day_count_whole}

-- one cut more, which takes m of N points
near_more : (N m u q S U Q B b : ℕ) → 0 < q → u * N ≤ m * q → m * q < u * N + q → U ≤ Q → b ≤ B → Near m S U Q b → Near N S (u * U) (q * Q) (B + 1)
near_more N m u q S U Q B b pos reach close part more near =
    record {
      not_above = omega (arith, mul-lt-mul_of_pos_right near.not_above pos, mul-le-mul_right U close, mul-le-mul_left q part, mul-le-mul_right (Q * q) more);
      not_below = omega (arith, mul-lt-mul_of_pos_right near.not_below pos, mul-le-mul_right U reach, mul-le-mul_right (Q * q) more);
    }

-- For every accepted plan of a Halton family (0, 1 or 3), every N up to 2^32 and every cut u / q with q ≥ 1 and 0 ≤ u ≤ q on the leading axis
-- and on each of the plan's: the size of S × Q - N × U is less than (bound + 1) × Q.
pub day_near : (family : ℕ) (bases : List ℕ) → Valid (halton family bases) → (N : ℕ) → N ≤ 2 ^ 32 → (w : List Cut) → Cuts w (suc (length bases))
    → let p = halton family bases in
    Near N (day_inside_count p w N) (u_product w (suc (length bases))) (q_product w (suc (length bases))) (day_bound_of p N)
unfolding Valid bound_of day_bound_of one_start
day_near family bases v N small w cuts =
    rw (u_front w (length bases), q_front w (length bases), day_first p w N pos part)
    (near_more N m (u_of w 0) (q_of w 0) _ _ _ _ _ pos (limit_reaches (u_of w 0) (q_of w 0) N pos) (limit_near (u_of w 0) (q_of w 0) N pos)
    (product_mono (u_of (drop 1 w)) (q_of (drop 1 w)) (length bases) rest.u_le) (bound_mono (base_at bases) (length bases) v.2.low few)
    (demand_3 family bases (drop 1 w) (day_run p m) v (one_opens p 0 m (axis_count_lem p v).0 (omega (arith, few))) rest))
  where
    p : Plan
    p = halton family bases

    pos : 0 < q_of w 0
    pos = cuts.q_pos 0 (omega arith)

    part : u_of w 0 ≤ q_of w 0
    part = cuts.u_le 0 (omega arith)

    m : ℕ
    m = first_of w N

    few : m ≤ N
    few = limit_within (u_of w 0) (q_of w 0) N pos part

    rest : Cuts (drop 1 w) (length bases)
    rest = rest_cuts w (length bases) cuts

-- ---- how near the answer is

-- of a plan with s axes
plan_near : (p : Plan) → (family_of p ≡ 2 → ⊥) → Valid p → (s : ℕ) → s ≡ axis_count p → (N : ℕ) → N ≤ 2 ^ 32 → (w : List ℕ) → is_window w (suc s) ≡ true
    → let cuts = cuts_of w (suc s) in Near N (day_inside_count p cuts N) (u_product cuts (suc s)) (q_product cuts (suc s)) (day_bound_of p N)
unfolding family_of axis_count
plan_near (halton family bases) f v s e N small w takes =
    rw e (day_near family bases v N small (cuts_of w (suc (length bases))) (window_cuts w (suc (length bases)) (rw e at takes)))
plan_near (sobol axes) f v s e N small w takes = absurd (f refl)

-- Whatever the day set and the window: a count with code 0 on a Halton-family plan is near, for the numbers in the answer.
pub day_answer_near : (d : DaySet) (w : List ℕ) → (day_count_spec d w).code ≡ 0 → (d.run.family ≡ 2 → ⊥)
    → let cuts = cuts_of w (day_width d) in
    Near (day_size d) (day_count_spec d w).inside (u_product cuts (day_width d)) (q_product cuts (day_width d)) (day_count_spec d w).bound
day_answer_near d w z f =
    let a = day_count_accepted d w z in
    let g = genuine_is d.run (day_is d a.0).1 in
    let h = genuine_holds g in
    rw (day_count_done d w a.0 a.1)
    (plan_near (day_plan d) (λ e. f (h.family_is ∙ e)) g.valid d.run.axes h.axes_is (day_size d) (opens_count g.run.opens g.valid) w a.1)

-- ---- Demand 3 of day sets as one theorem about composed calls

module _ (p : Plan) (v : Valid p) (N : ℕ) (small : N ≤ 2 ^ 32) (taken : ℕ) {d : DaySet} (is : d ≡ day_made p N taken) (w : List ℕ) (z : (day_count_spec d w).code ≡ 0) where
  abbrev cuts : List Cut
  cuts = cuts_of w (width_of p)

  accepted : (genuine_day (day_made p N taken) ≡ true) × (is_window w (width_of p) ≡ true)
  unfolding day_made made one_start
  accepted = day_count_accepted (day_made p N taken) w (ap (λ (t : DaySet). (day_count_spec t w).code) (sym is) ∙ z)

  answered : day_count_spec d w ≡ counted 0 (day_inside_count p cuts N) (day_bound_of p N)
  unfolding day_made made one_start
  answered =
      ap (λ (t : DaySet). day_count_spec t w) is
      ∙ (rw (plan_in_made p v (day_run p N) taken) at (day_count_done (day_made p N taken) w accepted.0 accepted.1))

  composed : let a = day_count_spec d w in (a.inside ≡ day_inside_count p cuts N) × (a.bound ≡ day_bound_of p N)
      × (((i : ℕ) → i < width_of p → (cut_at w i).u ≡ (cut_at w i).q) → a.inside ≡ N)
      × ((family_of p ≡ 2 → ⊥) → Near N a.inside (u_product cuts (width_of p)) (q_product cuts (width_of p)) a.bound)
  composed = (
    ap (λ (a : Counted). a.inside) answered,
    ap (λ (a : Counted). a.bound) answered,
    λ same. ap (λ (a : Counted). a.inside) answered
        ∙ day_count_whole p v cuts (window_cuts w (width_of p) accepted.1) (λ i l. rw (cuts_at w (width_of p) i l, u_of, q_of) (same i l)) N,
    λ f. rw answered (plan_near p f v (axis_count p) refl N small w accepted.1),
  )

-- Whatever calls were accepted after a reading of bytes, which then spell a valid plan p: of every day set made with code 0, after any steps and
-- blocks, a count that takes its window answers S over the whole set and the bound, and all N where u = q on every axis; and where p is of a Halton
-- family, S lies within that bound of the window's share. And that holds of S for every cut u / q, also of those that the call does not take.
pub day_demand_3 : (bytes : List ℕ) {s : Sampler} → After bytes s
    → (p : Plan) × Valid p × (bytes ≡ spell p)
    × ((N : ℕ) → (make_spec s N).code ≡ 0 → (requests : List Request) (w : List ℕ)
    → let a = day_count_spec (day_after requests (make_spec s N).set) w in let cuts = cuts_of w (width_of p) in a.code ≡ 0
    → (a.inside ≡ day_inside_count p cuts N) × (a.bound ≡ day_bound_of p N)
    × (((i : ℕ) → i < width_of p → (cut_at w i).u ≡ (cut_at w i).q) → a.inside ≡ N)
    × ((family_of p ≡ 2 → ⊥) → Near N a.inside (u_product cuts (width_of p)) (q_product cuts (width_of p)) a.bound))
    × ((family : ℕ) (bases : List ℕ) → p ≡ halton family bases → (N : ℕ) → N ≤ 2 ^ 32 → (w : List Cut) → Cuts w (suc (length bases))
    → Near N (day_inside_count p w N) (u_product w (suc (length bases))) (q_product w (suc (length bases))) (day_bound_of p N))
day_demand_3 bytes h =
    let l = after_leaves h in (
      l.plan,
      l.valid,
      l.spelled,
      λ N z requests w c.
          let m = make_leaves l N z in
          let s = (day_requests_serve l.plan l.valid N m.0 requests 0 (omega arith)).0 in
          composed l.plan l.valid N m.0 (0 + s.many) (ap (day_after requests) m.1 ∙ s.state_is) w c,
      λ family bases e N small w cuts. rw e (day_near family bases (subst Valid e l.valid) N small w cuts),
    )
