-- Which answers the exchange of 12 and 13 changes (02-change-requests.md, K3): of steps and blocks on a genuine state with no point left that are
-- lent fewer words than a point; and no other answer, no state and no word. Assumes nothing.
use mathlib.Core.Path.{◌≡◌, refl, sym, ap, ◌∙◌}
use mathlib.Core.Bool.{Bool, true, false, not}
use mathlib.Core.Logic.{◌⊎◌, inl, inr, ⊎_elim}
use mathlib.Core.List.{List}
use Prim.Native.Nat.{ℕ, ◌+◌, ◌≤◌, ◌<◌}
use native.Mathlib.Omega.{arith}
use lib.Dec.{ltb}
use lib.ListN.{length}
use borrow.Author.Tests.{le-leb, ltb-true, leb-true}
use Rattle.plan.specs.Order.{Condition, first_due, unless_number, unless_due}
use Rattle.state.specs.State.{made, plan_in, run_in, genuine}
use Rattle.state.specs.declared.Sampler.{Sampler}
use Rattle.calls.specs.Calls.{moved, blocked, spent, step_by, step_spec, step_buf_by, step_buf, block_size, block_by, block_spec, block_buf_by, block_buf}
use Rattle.calls.specs.Exchange.{former_order, former_refusals, SpentAndShort, Exchanged}
use Rattle.calls.proofs.CaseLaws.{order_by, run_no_room}

-- ---- any answer that goes by the number which is due, by what the test of the state answers and the words of a row

module _ (known : Bool) (s : Sampler) (buf : List ℕ) (width : ℕ) where
  abbrev There : Type 0
  There = (known ≡ true) × (s.count ≤ s.taken) × (length buf < width)

  abbrev pub former_by : List Condition
  former_by = former_order (not known) (spent s) (ltb (length buf) width)

  former_spent : There → first_due former_by ≡ 12
  unfolding first_due
  former_spent (g, h, r) = rw (g, le-leb s.count s.taken h) refl

  now_short : There → first_due (order_by known s buf width) ≡ 13
  now_short (g, h, r) = run_no_room s buf width g r

  there_or_same : There ⊎ (first_due former_by ≡ first_due (order_by known s buf width))
  unfolding first_due
  there_or_same = go known (spent s) (ltb (length buf) width) refl refl refl
    where
      go : (k o n : Bool) → known ≡ k → spent s ≡ o → ltb (length buf) width ≡ n → There ⊎ (first_due former_by ≡ first_due (order_by known s buf width))
      go false o n e f h = inr (rw e refl)
      go true false n e f h = inr (rw (e, f) refl)
      go true true false e f h = inr (rw (e, f, h) refl)
      go true true true e f h = inl (e, leb-true s.count s.taken f, ltb-true (length buf) width h)

  module _ {A : Type 0} (answer : ℕ → A) where
    pub exchanged : (answer 12 ≡ answer 13 → ⊥)
        → Exchanged There (answer 12) (answer 13) (answer (first_due former_by)) (answer (first_due (order_by known s buf width)))
    exchanged apart = record {
      was = λ t. ap answer (former_spent t);
      is = λ t. ap answer (now_short t);
      same = λ none. ⊎_elim (λ t. absurd (none t)) (λ e. ap answer e) there_or_same;
      exactly = (
        λ d. ⊎_elim (λ t. t) (λ e. absurd (d (ap answer e))) there_or_same,
        λ t e. apart (sym (ap answer (former_spent t)) ∙ e ∙ ap answer (now_short t)),
      );
    }

  -- what is done where no number is due, and kept elsewhere, stays
  pub kept : {A : Type 0} (done left : A) → unless_due former_by done left ≡ unless_due (order_by known s buf width) done left
  unfolding unless_due
  kept done left =
      ⊎_elim (λ t. rw (former_spent t, now_short t) refl) (λ e. ap (λ (n : ℕ). unless_number n done left) e) there_or_same

-- ---- of a run

module _ (s : Sampler) (buf : List ℕ) where
  pub step_compared : Exchanged (SpentAndShort s buf) (moved 12 s) (moved 13 s) (step_by (former_refusals s buf) s) (step_spec s buf)
      × ((step_by (former_refusals s buf) s).state ≡ (step_spec s buf).state)
      × (step_buf_by (former_refusals s buf) s buf ≡ step_buf s buf)
  unfolding step_spec step_buf
  step_compared = (
    unfold unless_due in exchanged (genuine s) s buf s.axes
        (λ n. moved n (unless_number n (made (plan_in s) (run_in s) (s.taken + 1)) s)) (λ e. omega (arith, ap (λ (a : _). a.code) e)),
    kept (genuine s) s buf s.axes _ _,
    kept (genuine s) s buf s.axes _ _,
  )

  -- in place: the number alone is answered; the state that is stored and the words are a step's
  pub place_compared : Exchanged (SpentAndShort s buf) 12 13 (step_by (former_refusals s buf) s).code (step_spec s buf).code
  unfolding step_spec
  place_compared = exchanged (genuine s) s buf s.axes (λ n. n) (λ e. omega (arith, e))

  pub block_compared : Exchanged (SpentAndShort s buf) (blocked 12 0 s) (blocked 13 0 s) (block_by (former_refusals s buf) (block_size s buf) s) (block_spec s buf)
      × ((block_by (former_refusals s buf) (block_size s buf) s).points ≡ (block_spec s buf).points)
      × ((block_by (former_refusals s buf) (block_size s buf) s).state ≡ (block_spec s buf).state)
      × (block_buf_by (former_refusals s buf) s buf ≡ block_buf s buf)
  unfolding block_spec block_buf
  block_compared = (
    unfold unless_due in exchanged (genuine s) s buf s.axes
        (λ n. blocked n (unless_number n (block_size s buf) 0) (unless_number n (made (plan_in s) (run_in s) (s.taken + block_size s buf)) s))
        (λ e. omega (arith, ap (λ (a : _). a.code) e)),
    kept (genuine s) s buf s.axes _ _,
    kept (genuine s) s buf s.axes _ _,
    kept (genuine s) s buf s.axes _ _,
  )
