-- How the main loop goes on and stops: a step that answers 0 leaves one point fewer, and what is left is served from there. Assumes nothing.
use mathlib.Core.Path.{◌≡◌, refl, sym, ◌∙◌}
use mathlib.Core.Bool.{true, false}
use mathlib.Core.Logic.{⊎_elim}
use mathlib.Core.List.{List}
use Prim.Native.Nat.{ℕ, zero, suc, ◌<◌}
use native.Mathlib.Omega.{arith}
use borrow.Author.Tests.{eq-eqb, ne_eqb}
use lib.Dec.{eqb}
use Rattle.plan.specs.Order.{first_due}
use Rattle.numbers.proofs.Cases.{eq_or_ne}
use Rattle.state.specs.State.{made, genuine}
use Rattle.state.specs.declared.Sampler.{Sampler}
use Rattle.calls.specs.Calls.{run_refusals, step_spec, step_buf}
use Rattle.calls.proofs.CaseLaws.{run_cleared, step_done}
use Rattle.collector.specs.Serving.{ended, stepped, served_within, left, served}

module _ (s : Sampler) (words : List ℕ) where
  clear : (step_spec s words).code ≡ 0 → first_due (run_refusals s words) ≡ 0
  unfolding step_spec
  clear z = z

  one_fewer : (step_spec s words).code ≡ 0 → suc (left (step_spec s words).state) ≡ left s
  unfolding made
  one_fewer z =
      let more = (run_cleared (genuine s) s words s.axes (clear z)).1 in
      rw (step_done s words (clear z)).0 (omega arith)

  stops_at : (k : ℕ) → ((step_spec s words).code ≡ 0 → ⊥) → stepped s words ≡ served_within k s words
  unfolding served_within
  stops_at zero f = refl
  stops_at (suc k) f = rw (ne_eqb (step_spec s words).code 0 f) refl

  goes_to : (k : ℕ) → (step_spec s words).code ≡ 0 → served_within k (step_spec s words).state (step_buf s words) ≡ served_within (suc k) s words
  unfolding served_within
  goes_to k z = rw (eq-eqb (step_spec s words).code 0 z) refl

  -- what the step in place answers (r), leaves (t) and writes (z)
  module _ (r : ℕ) (t : Sampler) (z : List ℕ) (said : (r ≡ (step_spec s words).code) × (t ≡ (step_spec s words).state) × (z ≡ step_buf s words)) where
    pub stop : (r ≡ 0 → ⊥) → ended r t z ≡ served s words
    unfolding served
    stop f = (λ i. ended (said.0 i) (said.1 i) (said.2 i)) ∙ stops_at (left s) (λ e. f (said.0 ∙ e))

    pub next : r ≡ 0 → (served t z ≡ served s words) × (left t < left s)
    unfolding served
    next e =
        let zero_now : (step_spec s words).code ≡ 0 = sym said.0 ∙ e in
        let fewer : suc (left t) ≡ left s = rw said.1 (one_fewer zero_now) in (
          rw (← fewer, said.1, said.2) (goes_to (left (step_spec s words).state) zero_now),
          omega arith,
        )

-- the number that ends the loop is never 0: a step that answers 0 had a point left
ends_within : (k : ℕ) (s : Sampler) (words : List ℕ) → left s ≡ k → (served_within k s words).code ≡ 0 → ⊥
unfolding served_within
ends_within zero s words e z = omega (arith, one_fewer s words z)
ends_within (suc k) s words e z =
    ⊎_elim
    (λ (c : (step_spec s words).code ≡ 0).
    ends_within k (step_spec s words).state (step_buf s words) (omega (arith, one_fewer s words c)) (rw (eq-eqb (step_spec s words).code 0 c) at z))
    (λ (f : (step_spec s words).code ≡ 0 → ⊥). f (rw (ne_eqb (step_spec s words).code 0 f) at z))
    (eq_or_ne (step_spec s words).code 0)

pub ends : (s : Sampler) (words : List ℕ) → (served s words).code ≡ 0 → ⊥
unfolding served
ends s words = ends_within (left s) s words refl
