-- Demand 3 about the call's own answer: what the window count answers after any accepted calls, and how near that is to the window's share.
-- Assumes nothing.
use mathlib.Core.Path.{◌≡◌, refl, sym, ap, ◌∙◌, subst}
use mathlib.Core.Bool.{true}
use mathlib.Core.List.{List}
use Prim.Native.Nat.{ℕ, ◌+◌, ◌≤◌}
use native.Mathlib.Omega.{arith}
use lib.ListN.{length}
use Rattle.bits.specs.Stream.{AllBelow}
use Rattle.numbers.proofs.ListedLaws.{padded_take}
use Rattle.discrepancy.specs.Bound.{Near}
use Rattle.plan.specs.Plan.{Plan, halton, sobol, Valid, spell}
use Rattle.points.specs.Point.{axis_count}
use Rattle.points.specs.Run.{Run, Opens}
use Rattle.points.proofs.RunLaws.{opens_long}
use Rattle.points.specs.Arrays.{family_of}
use Rattle.state.specs.State.{made, plan_in, run_in}
use Rattle.state.specs.History.{Left}
use Rattle.state.specs.declared.Sampler.{Sampler}
use Rattle.state.proofs.PlanLaws.{plan_in_made}
use Rattle.state.proofs.GenuineLaws.{genuine_is, made_genuine}
use Rattle.state.proofs.StateLaws.{genuine_holds}
use Rattle.state.proofs.HistoryLaws.{left_valid, left_permitted, left_by_lem}
use Rattle.calls.specs.Calls.{read_spec, open_spec}
use Rattle.calls.specs.History.{After, read, last_run, Request, state_after}
use Rattle.calls.proofs.HistoryLaws.{leaves_genuine, after_leaves, open_leaves, last_run_lem}
use Rattle.calls.proofs.ServingLaws.{requests_serve}
use Rattle.window.specs.Counting.{Cut, u_product, q_product, inside_count, bound_of, Cuts, cuts_of, is_window}
use Rattle.window.proofs.Demand3.{demand_3}
use Rattle.window.proofs.RangeLaws.{window_cuts}
use Rattle.window_count.specs.Call.{counted, count_spec}
use Rattle.window_count.proofs.CaseLaws.{count_accepted, count_done}

-- ---- after any accepted calls

module _ {p : Plan} {r : Run} {taken : ℕ} (h : Left p r taken) (w : List ℕ) (takes : is_window w (axis_count p) ≡ true) where
  -- whatever has been stepped, the count answers S and the bound of the run
  pub count_left : count_spec (made p r taken) w ≡ counted 0 (inside_count p (cuts_of w (axis_count p)) r) (bound_of p r.count)
  unfolding made
  count_left =
      rw (plan_in_made p (left_valid h) r taken, padded_take 6 r.starts (axis_count p) (opens_long (left_permitted h).opens)) at
      (count_done (made p r taken) w (made_genuine p (left_valid h) r taken (left_permitted h)) takes)

-- that run is what the last accepted opening was given
pub count_last_opening : {bytes : List ℕ} {s : Sampler} (h : After bytes s) (w : List ℕ) → is_window w s.axes ≡ true
    → count_spec s w ≡ counted 0 (inside_count (plan_in s) (cuts_of w s.axes) (last_run h)) (bound_of (plan_in s) (last_run h).count)
count_last_opening {s = s} h w takes =
    count_done s w (leaves_genuine (after_leaves h)) takes
    ∙ ap (λ (r : Run). counted 0 (inside_count (plan_in s) (cuts_of w s.axes) r) (bound_of (plan_in s) r.count)) (last_run_lem h)

-- ---- how near the answer is

-- of a plan with s axes
pub plan_near : (p : Plan) → (family_of p ≡ 2 → ⊥) → Valid p → (s : ℕ) → s ≡ axis_count p → (r : Run) → Opens p r → (w : List ℕ) → is_window w s ≡ true
    → Near r.count (inside_count p (cuts_of w s) r) (u_product (cuts_of w s) s) (q_product (cuts_of w s) s) (bound_of p r.count)
unfolding family_of axis_count
plan_near (halton family bases) f v s e r fits w takes =
    rw e (demand_3 family bases (cuts_of w (length bases)) r v fits (window_cuts w (length bases) (rw e at takes)))
plan_near (sobol axes) f v s e r fits w takes = absurd (f refl)

-- Whatever the state and the window: a count with code 0 on a Halton-family plan is near, for the numbers in the answer.
pub answer_near : (s : Sampler) (w : List ℕ) → (count_spec s w).code ≡ 0 → (s.family ≡ 2 → ⊥)
    → Near s.count (count_spec s w).inside (u_product (cuts_of w s.axes) s.axes) (q_product (cuts_of w s.axes) s.axes) (count_spec s w).bound
answer_near s w z f =
    let a = count_accepted s w z in
    let g = genuine_is s a.0 in
    let h = genuine_holds g in
    rw (count_done s w a.0 a.1)
    (plan_near (plan_in s) (λ e. f (h.family_is ∙ e)) g.valid s.axes h.axes_is (run_in s) g.run.opens w a.1)

-- ---- Demand 3 as one theorem about composed calls

module _ (p : Plan) (v : Valid p) (r : Run) (fits : Opens p r) (taken : ℕ) (few : taken ≤ r.count) {s : Sampler} (is : s ≡ made p r taken)
    (w : List ℕ) (z : (count_spec s w).code ≡ 0) where
  takes : is_window w (axis_count p) ≡ true
  unfolding made
  takes = (count_accepted (made p r taken) w (ap (λ (t : Sampler). (count_spec t w).code) (sym is) ∙ z)).1

  answered : count_spec s w ≡ counted 0 (inside_count p (cuts_of w (axis_count p)) r) (bound_of p r.count)
  answered =
      ap (λ (t : Sampler). count_spec t w) is ∙ count_left (left_by_lem p v r taken (record { opens = fits; not_past = few })) w takes

  composed : ((count_spec s w).inside ≡ inside_count p (cuts_of w (axis_count p)) r) × ((count_spec s w).bound ≡ bound_of p r.count)
      × ((family_of p ≡ 2 → ⊥) → Near r.count (count_spec s w).inside (u_product (cuts_of w (axis_count p)) (axis_count p)) (q_product (cuts_of w (axis_count p)) (axis_count p)) (count_spec s w).bound)
  composed = (
    ap (λ (a : _). a.inside) answered,
    ap (λ (a : _). a.bound) answered,
    λ f. rw answered (plan_near p f v (axis_count p) refl r fits w takes),
  )

-- Any bytes read with code 0 are the spelling of one valid plan p. Where p is of a Halton family: for every run opened with code 0, with any start
-- on each axis, any steps and blocks after it, and every window that the count then takes, the numbers in its answer are S over the whole run and the
-- bound, and S lies within the bound of the window's share. And that holds of S for every cut u / q, also of those that the call does not take.
pub demand_3_answered : (bytes : List ℕ) → AllBelow 256 bytes → (read_spec bytes).code ≡ 0
    → (p : Plan) × Valid p × (bytes ≡ spell p)
    × ((r : Run) → let o = open_spec (read_spec bytes).state r in o.code ≡ 0 → (requests : List Request)
    → (w : List ℕ) → let a = count_spec (state_after requests o.state) w in a.code ≡ 0
    → (a.inside ≡ inside_count p (cuts_of w (axis_count p)) r) × (a.bound ≡ bound_of p r.count)
    × ((family_of p ≡ 2 → ⊥) → Near r.count a.inside (u_product (cuts_of w (axis_count p)) (axis_count p)) (q_product (cuts_of w (axis_count p)) (axis_count p)) a.bound))
    × ((family : ℕ) (bases : List ℕ) → p ≡ halton family bases → (r : Run) → Opens p r → (w : List Cut) → Cuts w (length bases)
    → Near r.count (inside_count p w r) (u_product w (length bases)) (q_product w (length bases)) (bound_of p r.count))
demand_3_answered bytes below z =
    let l = after_leaves (read below z) in (
      l.plan,
      l.valid,
      l.spelled,
      λ r e requests w c.
          let o = open_leaves l r e in
          let s = (requests_serve l.plan l.valid r o.0 requests 0 (omega arith)).0 in
          composed l.plan l.valid r o.0 (0 + s.many) s.within (ap (state_after requests) o.1 ∙ s.state_is) w c,
      λ family bases e r fits w cuts. rw e (demand_3 family bases w r (subst Valid e l.valid) (subst (λ (p : Plan). Opens p r) e fits) cuts),
    )
