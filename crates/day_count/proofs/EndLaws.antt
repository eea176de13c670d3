-- The ends of a day set's count: the whole of every axis, a set of no points, and that no more points are inside than the set has. Assumes
-- nothing.
use mathlib.Core.Path.{◌≡◌, refl, sym, ap, ◌∙◌}
use mathlib.Core.Bool.{true}
use mathlib.Core.List.{List}
use Prim.Native.Nat.{ℕ, suc, ◌*◌, ◌^◌, ◌<◌, ◌≤◌}
use native.Mathlib.Nat.{le_antisymm, le_of_mul-le-mul_right}
use native.Mathlib.Omega.{arith}
use lib.ListN.{drop}
use Rattle.numbers.specs.Count.{count}
use Rattle.numbers.proofs.CountLaws.{count_le}
use Rattle.plan.specs.Plan.{Plan, halton, Valid}
use Rattle.points.specs.Point.{axis_count}
use Rattle.state.specs.State.{genuine}
use Rattle.state.proofs.GenuineLaws.{genuine_is}
use Rattle.state.proofs.StateLaws.{genuine_holds}
use Rattle.calls.proofs.PointLaws.{axes_few, known_run}
use Rattle.points.specs.Run.{one_start}
use Rattle.day_set.specs.DaySet.{day_run, day_plan, day_size, day_width, genuine_day}
use Rattle.day_set.specs.declared.DaySet.{DaySet}
use Rattle.day_set.proofs.CaseLaws.{day_is}
use Rattle.window.specs.Counting.{Cut, u_of, q_of, Cuts, cut_at, cuts_of, is_window}
use Rattle.window.proofs.WindowLaws.{count_whole, bound_of_none}
use Rattle.window.proofs.PlanLaws.{cuts_at}
use Rattle.window.proofs.RangeLaws.{window_cuts}
use Rattle.window.proofs.LeadingLaws.{cut_next, rest_cuts}
use Rattle.window_count.specs.declared.Counted.{Counted}
use Rattle.day_count.specs.Count.{day_inside, day_inside_count, day_bound_of, day_count_spec}
use Rattle.day_count.proofs.FirstLaws.{first_of, limit_reaches, limit_within, day_first}
use Rattle.day_count.proofs.CaseLaws.{day_count_accepted, day_count_done}

-- u = q on every axis, the leading one too: every point is inside
pub day_count_whole : (p : Plan) → Valid p → (w : List Cut) → Cuts w (suc (axis_count p)) → ((i : ℕ) → i < suc (axis_count p) → u_of w i ≡ q_of w i)
    → (N : ℕ) → day_inside_count p w N ≡ N
unfolding one_start
day_count_whole p v w cuts same N =
    day_first p w N pos part
    ∙ count_whole p (drop 1 w) (day_run p (first_of w N)) v (rest_cuts w (axis_count p) cuts).q_pos (λ i l. rw (cut_next w i, u_of, q_of) (same (suc i) (omega arith)))
    ∙ le_antisymm (limit_within (u_of w 0) (q_of w 0) N pos part) all
  where
    pos : 0 < q_of w 0
    pos = cuts.q_pos 0 (omega arith)

    part : u_of w 0 ≤ q_of w 0
    part = cuts.u_le 0 (omega arith)

    all : N ≤ first_of w N
    all = le_of_mul-le-mul_right {k = q_of w 0} (omega (arith, limit_reaches (u_of w 0) (q_of w 0) N pos, ap (λ (u : ℕ). u * N) (same 0 (omega arith)))) pos

-- a set of no points has none inside, and the bound 2
pub day_count_of_none : (p : Plan) (w : List Cut) → day_inside_count p w 0 ≡ 0
unfolding day_inside_count count
day_count_of_none p w = refl

pub day_bound_of_none : (family : ℕ) (bases : List ℕ) → day_bound_of (halton family bases) 0 ≡ 2
unfolding day_bound_of
day_bound_of_none family bases = rw (bound_of_none family bases) refl

-- ---- about the answer

module _ (d : DaySet) (w : List ℕ) (r : Counted) (e : r ≡ day_count_spec d w) (z : r.code ≡ 0) where
  accepted : (genuine_day d ≡ true) × (is_window w (day_width d) ≡ true)
  accepted = day_count_accepted d w (ap (λ (x : Counted). x.code) (sym e) ∙ z)

  inside_is : r.inside ≡ day_inside_count (day_plan d) (cuts_of w (day_width d)) (day_size d)
  inside_is = ap (λ (x : Counted). x.inside) (e ∙ day_count_done d w accepted.0 accepted.1)

  genuine_run : genuine d.run ≡ true
  genuine_run = (day_is d accepted.0).1

  -- u = q on every axis counts every point
  pub day_whole : ((i : ℕ) → i < day_width d → (cut_at w i).u ≡ (cut_at w i).q) → r.inside ≡ day_size d
  day_whole same =
      let g = genuine_is d.run genuine_run in
      inside_is
      ∙ day_count_whole (day_plan d) g.valid (cuts_of w (day_width d)) (rw (← (genuine_holds g).axes_is) (window_cuts w (day_width d) accepted.1))
      (λ i l. let h : i < day_width d = omega (arith, (genuine_holds g).axes_is) in rw (cuts_at w (day_width d) i h, u_of, q_of) (same i h)) (day_size d)

  -- a window of at most seven axes, no more points inside than the set has, and those no more than 2^32
  pub day_answered : (r.inside ≤ day_size d) × (day_size d ≤ 2 ^ 32) × (day_width d ≤ 7) × (is_window w (day_width d) ≡ true)
  unfolding day_inside_count
  day_answered = (
    omega (arith, inside_is, count_le (day_inside (day_plan d) (cuts_of w (day_width d)) (day_size d)) (day_size d)),
    omega (arith, (known_run d.run genuine_run).0.at 0),
    omega (arith, axes_few d.run genuine_run),
    accepted.1,
  )
