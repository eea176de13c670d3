-- What the test of a state decides: it is made of a valid plan and a permitted run. Assumes nothing.
use mathlib.Core.Path.{◌≡◌, refl, sym, ap, ◌∙◌, subst}
use mathlib.Core.Bool.{true, true≢false}
use Prim.Native.Nat.{ℕ, ◌≤◌}
use borrow.Author.Tests.{leb-true, le-leb}
use Rattle.plan.specs.Plan.{Plan, Valid, spell}
use Rattle.plan.specs.Reading.{Reading, refused, accepted, read_plan}
use Rattle.plan.proofs.SpellingLaws.{spell_below}
use Rattle.plan.proofs.AcceptLaws.{accepted_iff, read_spelled}
use Rattle.points.specs.Run.{Run, Opens}
use Rattle.points.proofs.RunLaws.{opens_long}
use Rattle.state.specs.State.{plan_in, run_in, made, permitted, same_state, genuine_by, genuine}
use Rattle.state.specs.declared.Sampler.{Sampler}
use Rattle.state.proofs.SameLaws.{both_true, true_both, same_state_refl, same_state_is}
use Rattle.state.proofs.PlanLaws.{plan_in_made, run_in_made}

pub record Permitted (p : Plan) (r : Run) (taken : ℕ) : Type 0 where
  pub opens : Opens p r
  pub not_past : taken ≤ r.count

pub permitted_is : (p : Plan) (r : Run) (taken : ℕ) → permitted p r taken ≡ true → Permitted p r taken
unfolding permitted
permitted_is p r taken e =
    let h = both_true _ _ e in
    let k = both_true _ _ h.1 in
    record { opens = record { is_in_range = h.0; has_starts_lem = k.0 }; not_past = leb-true taken r.count k.1 }

pub is_permitted : {p : Plan} {r : Run} {taken : ℕ} → Permitted p r taken → permitted p r taken ≡ true
unfolding permitted
is_permitted {p} {r} {taken} h =
    true_both h.opens.is_in_range (true_both h.opens.has_starts_lem (le-leb taken r.count h.not_past))

pub record Genuine (s : Sampler) : Type 0 where
  pub valid : Valid (plan_in s)
  pub run : Permitted (plan_in s) (run_in s) s.taken
  pub is : s ≡ made (plan_in s) (run_in s) s.taken

-- made of p, the state holds p
of_plan : (s : Sampler) (p : Plan) → Valid p → Permitted p (run_in s) s.taken → s ≡ made p (run_in s) s.taken → Genuine s
of_plan s p v run e =
    let same : plan_in s ≡ p = ap plan_in e ∙ plan_in_made p v (run_in s) s.taken in
    record {
      valid = subst Valid (sym same) v;
      run = subst (λ (q : Plan). Permitted q (run_in s) s.taken) (sym same) run;
      is = e ∙ ap (λ (q : Plan). made q (run_in s) s.taken) (sym same);
    }

pub genuine_is : (s : Sampler) → genuine s ≡ true → Genuine s
unfolding genuine genuine_by
genuine_is s e = go (read_plan (spell (plan_in s))) refl e
  where
    go : (r : Reading) → read_plan (spell (plan_in s)) ≡ r → genuine_by r s ≡ true → Genuine s
    go (refused n) f t = absurd (true≢false (sym t))
    go (accepted p) f t =
        let h = both_true _ _ t in
        of_plan s p ((accepted_iff (spell (plan_in s)) (spell_below (plan_in s)) p).0 f).0 (permitted_is _ _ _ h.0) (same_state_is s _ h.1)

pub made_genuine : (p : Plan) → Valid p → (r : Run) (taken : ℕ) → Permitted p r taken → genuine (made p r taken) ≡ true
unfolding genuine genuine_by
made_genuine p v r taken run =
    let s = made p r taken in
    let e : run_in s ≡ r = run_in_made p r (opens_long run.opens) taken in
    rw (plan_in_made p v r taken, read_spelled p v)
    (true_both (ap (λ (q : Run). permitted p q s.taken) e ∙ unfold made in is_permitted run)
    (ap (λ (q : Run). same_state s (made p q s.taken)) e ∙ unfold made in same_state_refl (made p r taken)))

pub is_genuine : (s : Sampler) → Genuine s → genuine s ≡ true
is_genuine s g = ap genuine g.is ∙ made_genuine (plan_in s) g.valid (run_in s) s.taken g.run
