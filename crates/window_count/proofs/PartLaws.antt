-- A run cut into consecutive parts: what the count answers for the parts, each opened and counted by itself, adds up to what it answers for the
-- whole, in every family. Assumes nothing.
use mathlib.Core.Path.{◌≡◌, refl, sym, ap, ap₂, ◌∙◌}
use mathlib.Core.Bool.{Bool, true}
use mathlib.Core.List.{List, [], ◌∷◌}
use Prim.Native.Nat.{ℕ, zero, suc, ◌+◌, ◌≤◌, ◌<◌}
use native.Mathlib.Nat.{add_assoc, zero-add}
use native.Mathlib.Omega.{arith}
use lib.ListN.{length}
use Rattle.numbers.specs.Count.{count}
use Rattle.numbers.proofs.CountLaws.{count_ext, count_parts}
use Rattle.numbers.proofs.EachLaws.{each_ext}
use Rattle.plan.specs.Plan.{Plan}
use Rattle.points.specs.Point.{axis_count}
use Rattle.points.specs.Run.{Run, part_of, Opens, run_numerator}
use Rattle.points.proofs.RunLaws.{opens_long, part_opens, part_index}
use Rattle.state.specs.State.{plan_in, run_in}
use Rattle.state.specs.declared.Sampler.{Sampler}
use Rattle.state.proofs.GenuineLaws.{Genuine, genuine_is}
use Rattle.state.proofs.StateLaws.{genuine_holds}
use Rattle.state.proofs.HistoryLaws.{left_by_lem}
use Rattle.calls.specs.Calls.{open_spec}
use Rattle.calls.proofs.CaseLaws.{open_done}
use Rattle.calls.proofs.PointLaws.{known_has}
use Rattle.window.specs.Counting.{Cut, axis_inside, step_inside, inside_count, bound_of, cuts_of, is_window}
use Rattle.window_count.specs.Call.{counted, count_spec}
use Rattle.window_count.specs.declared.Counted.{Counted}
use Rattle.window_count.specs.Parts.{steps_of, part_counted, inside_parts}
use Rattle.window_count.proofs.CaseLaws.{count_accepted, count_done}
use Rattle.window_count.proofs.Demand3.{count_left}

-- a part's step k is the run's step t + k
part_step : (p : Plan) (w : List Cut) (r : Run) → length r.starts ≡ axis_count p → (t n k : ℕ) → step_inside p w (part_of r t n) k ≡ step_inside p w r (t + k)
unfolding step_inside
part_step p w r long t n k = each_ext (axis_inside p w (part_of r t n) k) (axis_inside p w r (t + k)) (axis_count p) at
  where
    at : (i : ℕ) → i < axis_count p → axis_inside p w (part_of r t n) k i ≡ axis_inside p w r (t + k) i
    at i l = unfold axis_inside run_numerator in rw (part_index r t n i (omega arith) k) refl

module _ (s : Sampler) (w : List ℕ) (answered : (count_spec s w).code ≡ 0) where
  g : Genuine s
  g = genuine_is s (count_accepted s w answered).0

  -- the window of the state's plan
  abbrev cuts : List Cut
  cuts = cuts_of w s.axes

  -- what the count answers for any run that is opened on the state
  opened_count : (r : Run) → Opens (plan_in s) r
      → ((open_spec s r).code ≡ 0) × (count_spec (open_spec s r).state w ≡ counted 0 (inside_count (plan_in s) cuts r) (bound_of (plan_in s) r.count))
  opened_count r fits =
      rw (open_done s r (count_accepted s w answered).0 fits.is_in_range (known_has s (count_accepted s w answered).0 fits)) (
        refl,
        count_left (left_by_lem (plan_in s) g.valid r 0 (record { opens = fits; not_past = omega arith })) w takes
            ∙ ap (λ (k : ℕ). counted 0 (inside_count (plan_in s) (cuts_of w k) r) (bound_of (plan_in s) r.count)) (sym (genuine_holds g).axes_is),
      )
    where
      takes : is_window w (axis_count (plan_in s)) ≡ true
      takes = ap (is_window w) (sym (genuine_holds g).axes_is) ∙ (count_accepted s w answered).1

  -- Each part of the run is opened and counted with code 0, and its S is that of its steps.
  pub part_answered : (t n : ℕ) → t + n ≤ s.count
      → ((open_spec s (part_of (run_in s) t n)).code ≡ 0) × ((part_counted s w (run_in s) t n).code ≡ 0)
      × ((part_counted s w (run_in s) t n).inside ≡ count (λ k. step_inside (plan_in s) cuts (run_in s) (t + k)) n)
  part_answered t n h =
      let o = opened_count (part_of (run_in s) t n) (part_opens (run_in s) t n g.run.opens h) in
      (o.0, ap (λ (a : Counted). a.code) o.1, ap (λ (a : Counted). a.inside) o.1 ∙ here)
    where
      here : inside_count (plan_in s) cuts (part_of (run_in s) t n) ≡ count (λ k. step_inside (plan_in s) cuts (run_in s) (t + k)) n
      here =
          unfold inside_count part_of in
          count_ext (step_inside (plan_in s) cuts (part_of (run_in s) t n)) (λ k. step_inside (plan_in s) cuts (run_in s) (t + k)) n
          (λ k l. part_step (plan_in s) cuts (run_in s) (opens_long g.run.opens) t n k)

  -- the parts from step t on
  parts_count : (t : ℕ) (sizes : List ℕ) → t + steps_of sizes ≤ s.count
      → inside_parts s w (run_in s) t sizes ≡ count (λ k. step_inside (plan_in s) cuts (run_in s) (t + k)) (steps_of sizes)
  unfolding inside_parts steps_of count
  parts_count t [] h = refl
  parts_count t (zero ∷ sizes) h =
      parts_count t sizes (omega arith) ∙ ap (count (λ k. step_inside (plan_in s) cuts (run_in s) (t + k))) (sym (zero-add (steps_of sizes)))
  parts_count t (suc n ∷ sizes) h =
      ap₂ ◌+◌ (part_answered t (suc n) (omega arith)).2
      (parts_count (t + suc n) sizes (omega arith) ∙ ap (λ (f : ℕ → Bool). count f (steps_of sizes)) (λ j k. later k j))
      ∙ sym (count_parts (λ k. step_inside (plan_in s) cuts (run_in s) (t + k)) (suc n) (steps_of sizes))
    where
      later : (k : ℕ) → step_inside (plan_in s) cuts (run_in s) (t + suc n + k) ≡ step_inside (plan_in s) cuts (run_in s) (t + (suc n + k))
      later k = ap (step_inside (plan_in s) cuts (run_in s)) (add_assoc t (suc n) k)

  -- consecutive parts of the whole run add up to its answer
  pub parts_add_up : (sizes : List ℕ) → steps_of sizes ≡ s.count → inside_parts s w (run_in s) 0 sizes ≡ (count_spec s w).inside
  unfolding inside_count
  parts_add_up sizes e =
      parts_count 0 sizes (omega arith)
      ∙ ap₂ count (λ j k. step_inside (plan_in s) cuts (run_in s) (zero-add k j)) e
      ∙ sym (ap (λ (a : _). a.inside) (count_done s w (count_accepted s w answered).0 (count_accepted s w answered).1))
