-- The answer's arrays and its direction numbers are the plan's, so the words put are S and the bound. Assumes nothing.
use mathlib.Core.Path.{◌≡◌, sym, ap, ◌∙◌, subst}
use mathlib.Core.List.{List}
use Prim.Native.Nat.{ℕ, ◌*◌}
use native.Mathlib.Omega.{arith}
use lib.ListN.{length, take}
use Rattle.plan.specs.Answer.{plan_answered}
use Rattle.points.proofs.RunLaws.{start_is, within_all}
use Rattle.state.proofs.StateLaws.{Holds, holds_arrays, accepted_holds, accepted_few}
use Rattle.window.specs.Walking.{Room}
use Rattle.window.proofs.RangeLaws.{window_room}
use Rattle.big_endian.specs.Bytes.{window_in}
use Rattle.big_endian.proofs.ByteLaws.{window_length, window_front}
use Rattle.hisowake.proofs.CountLaws.{window_bytes, count_put}
use Rattle.hisowake.proofs.put_count.Goals as goal
use Rattle.hisowake.proofs.put_count.Goals.{After-plan_directions-directions, After-window_numbers-w}

held : (c : After-plan_directions-directions)
    → let a = c.args.a in Holds (plan_answered a) a.family a.axes a.bases c.plan_directions-directions.result
held c = accepted_holds c.requires.0 _ c.plan_directions-directions.ensures

numbers : (c : After-window_numbers-w)
    → let a = c.args in take (2 * a.a.axes) c.window_numbers-w.result ≡ window_in a.window.now a.a.axes
numbers c =
    let a = c.args in
    ap (take (2 * a.a.axes)) c.window_numbers-w.ensures ∙ window_front a.window.now a.a.axes

pub window_numbers-w-requires : goal.window_numbers-w-requires
window_numbers-w-requires c =
    omega (arith, accepted_few c.requires.0, (window_bytes c.args.window.now c.args.a.axes c.requires.2).0)

pub overflow_mul-end : goal.overflow_mul-end
overflow_mul-end c = omega (arith, accepted_few c.requires.0)

pub slice_bounds-w-end : goal.slice_bounds-w-end
slice_bounds-w-end c = omega (arith, accepted_few c.requires.0)

pub slice_bounds-count_inside-end-2 : goal.slice_bounds-count_inside-end-2
slice_bounds-count_inside-end-2 c = sym (ap length (numbers (goal.at.slice_bounds-count_inside-end-2 c).After-window_numbers-w) ∙ window_length _ _)

pub invariant_of-p : goal.invariant_of-p
invariant_of-p c = record { fit = holds_arrays (held (goal.at.invariant_of-p c).After-plan_directions-directions) c.requires.0.valid }

pub count_inside-inside-requires : goal.count_inside-inside-requires
count_inside-inside-requires c = (
  within_all c.args.start c.args.count (start_is c.args.start c.args.count c.requires.1),
  subst (λ (w : List ℕ). Room w c.args.a.axes) (sym (numbers (goal.at.count_inside-inside-requires c).After-window_numbers-w)) (window_room _ _ (window_bytes _ _ c.requires.2).1),
)

pub bound-bound-requires : goal.bound-bound-requires
bound-bound-requires c =
    omega (arith, start_is c.args.start c.args.count c.requires.1)

pub returns : goal.returns
returns c =
    count_put (held (goal.at.returns c).After-plan_directions-directions) c.requires.0.valid c.args.start c.args.count c.args.window.now c.args.out.now _ _ _ _ (numbers (goal.at.returns c).After-window_numbers-w) c.count_inside-inside.ensures c.bound-bound.ensures c.put_words.ensures
