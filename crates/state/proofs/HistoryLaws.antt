-- The test is right: a state is genuine exactly where some history of accepted calls leaves it. Assumes nothing.
use mathlib.Core.Path.{◌≡◌, ap, ◌∙◌, subst}
use mathlib.Core.Bool.{true}
use mathlib.Core.Logic.{◌↔◌}
use Prim.Native.Nat.{ℕ}
use native.Mathlib.Nat.{zero-add}
use native.Mathlib.Omega.{arith}
use Rattle.plan.specs.Plan.{Plan, Valid, spell}
use Rattle.plan.proofs.SpellingLaws.{spell_below}
use Rattle.plan.proofs.AcceptLaws.{accepted_iff, read_spelled}
use Rattle.points.specs.Run.{Run}
use Rattle.points.proofs.PointLaws.{axis_count_lem}
use Rattle.points.proofs.RunLaws.{one_opens}
use Rattle.state.specs.State.{plan_in, run_in, genuine}
use Rattle.state.specs.History.{Left, read, opened, served, Reachable}
use Rattle.state.specs.declared.Sampler.{Sampler}
use Rattle.state.proofs.GenuineLaws.{Permitted, genuine_is, made_genuine}

-- every history leaves a valid plan and a permitted run of it
pub left_valid : {p : Plan} {r : Run} {taken : ℕ} → Left p r taken → Valid p
left_valid (read bytes p below e) = ((accepted_iff bytes below p).0 e).0
left_valid (opened r h l) = left_valid h
left_valid (served k h l) = left_valid h

pub left_permitted : {p : Plan} {r : Run} {taken : ℕ} → Left p r taken → Permitted p r taken
left_permitted (read bytes p below e) =
    let v = ((accepted_iff bytes below p).0 e).0 in record { opens = one_opens p 0 0 (axis_count_lem p v).0 (omega arith); not_past = omega arith }
left_permitted (opened r h o) = record { opens = o; not_past = omega arith }
left_permitted (served k h l) = let r = left_permitted h in record { opens = r.opens; not_past = omega (arith, r.not_past) }

-- and every such plan and run is left by one: read, open, and serve so many points
pub left_by_lem : (p : Plan) → Valid p → (r : Run) (taken : ℕ) → Permitted p r taken → Left p r taken
left_by_lem p v r taken h =
    subst (Left p r) (zero-add taken)
    (served taken (opened r (read (spell p) p (spell_below p) (read_spelled p v)) h.opens) (omega (arith, h.not_past)))

pub genuine_iff : (s : Sampler) → (genuine s ≡ true) ↔ Reachable s
genuine_iff s = (
  λ e.
      let g = genuine_is s e in
      record {
        plan = plan_in s;
        run = run_in s;
        taken = s.taken;
        history = left_by_lem (plan_in s) g.valid (run_in s) s.taken g.run;
        is = g.is;
      },
  λ r. ap genuine r.is ∙ made_genuine r.plan (left_valid r.history) r.run r.taken (left_permitted r.history),
)
