-- What building a plan from words comes to. Definitions only.
use Rattle.std.specs.Prelude.{◌≡◌, Result, Ok, Err, List, ◌++◌, ℕ, ◌≤◌, ◌<◌, length, drop}
use Rattle.plan.specs.Plan.{Plan, Valid, spell}
use Rattle.plan.specs.Answer.{plan_of}
use Rattle.plan_check.specs.declared.Fault.{Fault}
use Rattle.plan_check.specs.Found.{fault_at, Found}
use Rattle.plan_words.specs.Says.{Says}
use Rattle.plan_words.specs.Parsed.{Unspelled}

-- The words of a line from a place on, a buffer as it was; the length or the fault, and the buffer as it is. The plan that the words say is
-- written; or a word spells nothing, or the plan that they say is not valid, or there is no room (13), and the buffer stays.
pub data Outcome (line : List ℕ) (from : ℕ) (old : List ℕ) : Result ℕ Fault → List ℕ → Type 0 where
  built : (p : Plan) → Says line from p → Valid p → length (spell p) ≤ length old
      → Outcome line from old (Ok (length (spell p))) (spell p ++ drop (length (spell p)) old)
  misspelled : {f : Fault} → (f.code ≡ 0 → ⊥) → Unspelled line from f.code f.axis → Outcome line from old (Err f) old
  unsound : {f : Fault} (family s : ℕ) (bases ps ms : List ℕ) → Says line from (plan_of family s bases ps ms)
      → Found family s bases ps ms f → (f.code ≡ 0 → ⊥) → s ≤ 6 → length bases ≡ 6 → Outcome line from old (Err f) old
  no_room : (p : Plan) → Says line from p → Valid p → length old < length (spell p) → Outcome line from old (Err (fault_at 13 0 0 0 0)) old
