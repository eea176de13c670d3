-- The reader's answer decides the text: a number other than 0 is the refusal, and 0 means that the plan it holds was accepted.
-- Assumes nothing.
use mathlib.Core.Path.{◌≡◌, sym, ap, ◌∙◌}
use mathlib.Core.List.{List, ◌++◌}
use Prim.Native.Nat.{ℕ, ◌≤◌}
use native.Mathlib.Omega.{arith}
use lib.ListN.{length, take, drop, length-append}
use lib.Seq.{length-take-le}
use Rattle.bits.specs.Stream.{AllBelow}
use Rattle.bits.proofs.OverwriteLaws.{over_start}
use Rattle.plan.specs.Reading.{Reading, accepted, read_plan}
use Rattle.plan.specs.Answer.{answer_of, plan_answered, Accepted}
use Rattle.plan.specs.declared.PlanRead.{PlanRead}
use Rattle.plan.proofs.RefusalLaws.{refused_range}
use Rattle.plan.proofs.AnswerLaws.{read_accepted, read_refused}
use Rattle.walk_text.specs.Text.{text_of, walk_text}
use Rattle.text.specs.Put.{TextPut}

module _ (bytes : List ℕ) (a : PlanRead) (e : a ≡ answer_of (read_plan bytes)) where
  pub code_low : (a.code ≡ 0 → ⊥) → a.code ≤ 10
  code_low f = (refused_range bytes a.code (read_refused bytes a e f)).1

  module _ (below : AllBelow 256 bytes) (z : a.code ≡ 0) where
    pub read_plan_is : read_plan bytes ≡ accepted (plan_answered a)
    read_plan_is = (read_accepted bytes below a e z).0

    pub answer_accepted : Accepted a
    answer_accepted = record { valid = (read_accepted bytes below a e z).1; is = e ∙ ap answer_of read_plan_is }

-- the text from the front of the buffer on is all of the answer
pub whole : {old new : List ℕ} {n : ℕ} (input : List ℕ) (r : Reading) → read_plan (take 72 input) ≡ r → TextPut old new 0 (text_of r) n
    → ((n ≡ length (walk_text input)) × (new ≡ walk_text input ++ drop n old)) × ((n ≤ length new) × (n ≡ length (take n new)))
unfolding walk_text
whole {old} {new} {n} input r e p =
    let size : n ≡ length (walk_text input) = rw e (omega arith) in
    let is : new ≡ walk_text input ++ drop n old = p.bytes ∙ rw e (over_start old (text_of r) n (omega arith)) in
    let low : n ≤ length new = omega (arith, ap length is, length-append (walk_text input) (drop n old)) in
    ((size, is), (low, sym (length-take-le n new low)))
