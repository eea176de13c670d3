-- The calls in loops: what so many rounds of a call answer and leave. Definitions only.
use Rattle.std.specs.Prelude.{Bool, cond, List, ℕ, zero, suc, ◌%◌, ◌^◌, ltb, length, get_or}
use Rattle.std.specs.Int.Bits.{bit_xor}
use Rattle.permutation.specs.Families.{image_of}
use Rattle.halton.specs.Axis.{numerator}
use Rattle.points.specs.Run.{run_of}
use Rattle.state.specs.declared.Sampler.{Sampler}
use Rattle.calls.specs.Calls.{read_spec, open_spec, jump_spec, jump_buf, second_spec, slot_spec, step_spec, step_buf, block_spec, block_buf}
use Rattle.window_count.specs.declared.Counted.{Counted}
use Rattle.day_set.specs.Calls.{make_spec, day_block_spec, day_block_buf}
use Rattle.day_set.specs.declared.DaySet.{DaySet}

-- n rounds on a first value, each of which has its number, from 0
unfoldable pub rounds : {A : Type 0} → (ℕ → A → A) → A → ℕ → A
rounds round a zero = a
rounds round a (suc n) = round n (rounds round a n)

-- after a round: what the call answered, the state or day set, and the words
pub record Turn (S : Type 0) : Type 0 where
  pub answer : ℕ
  pub state : S
  pub words : List ℕ

abbrev pub turn : {S : Type 0} → ℕ → S → List ℕ → Turn S
turn n s words = record { answer = n; state = s; words = words }

-- the state of a plan with a run opened
unfoldable pub opened_state : List ℕ → List ℕ → ℕ → Sampler
opened_state plan starts count = (open_spec (read_spec plan).state (run_of starts count)).state

-- the day set of a plan
unfoldable pub made_set : List ℕ → ℕ → DaySet
made_set plan size = (make_spec (read_spec plan).state size).set

-- ---- a round of each call

unfoldable pub block_round : ℕ → Turn Sampler → Turn Sampler
block_round _ t = turn (block_spec t.state t.words).points t.state (block_buf t.state t.words)

unfoldable pub day_block_round : ℕ → Turn DaySet → Turn DaySet
day_block_round _ t = turn (day_block_spec t.state t.words).points t.state (day_block_buf t.state t.words)

unfoldable pub jump_round : List ℕ → ℕ → Turn Sampler → Turn Sampler
jump_round indexes i t =
    turn (jump_spec t.state (get_or indexes i 0) t.words).code t.state (jump_buf t.state (get_or indexes i 0) t.words)

unfoldable pub step_round : ℕ → Turn Sampler → Turn Sampler
step_round _ t = turn (step_spec t.state t.words).code (step_spec t.state t.words).state (step_buf t.state t.words)

unfoldable pub axis_round : ℕ → ℕ → List ℕ → ℕ → ℕ → ℕ
axis_round family b indexes i x = bit_xor x (numerator (image_of family b) b (get_or indexes i 0 % 2 ^ 32))

-- a slot by either call
unfoldable pub slot_by : Bool → Sampler → ℕ → ℕ → ℕ → ℕ
slot_by daily s axis slots n = cond daily (second_spec s n).second (slot_spec s n axis slots).slot

unfoldable pub slot_round : Bool → Sampler → ℕ → ℕ → List ℕ → ℕ → ℕ → ℕ
slot_round daily s axis slots indexes i x = bit_xor x (slot_by daily s axis slots (get_or indexes i 0))

-- ---- the loops

unfoldable pub blocks_of : Sampler → ℕ → List ℕ → Turn Sampler
blocks_of s n words = rounds block_round (turn 0 s words) n

unfoldable pub day_blocks_of : DaySet → ℕ → List ℕ → Turn DaySet
day_blocks_of d n words = rounds day_block_round (turn 0 d words) n

unfoldable pub jumps_of : Sampler → List ℕ → List ℕ → Turn Sampler
jumps_of s indexes words = rounds (jump_round indexes) (turn 0 s words) (length indexes)

unfoldable pub steps_of : Sampler → ℕ → List ℕ → Turn Sampler
steps_of s n words = rounds step_round (turn 0 s words) n

-- the numerators' exclusive or, or 0 for a base outside 2 to 256
unfoldable pub axis_jumps_of : ℕ → ℕ → List ℕ → ℕ
axis_jumps_of family b indexes = cond (ltb b 2) 0 (cond (ltb 256 b) 0 (rounds (axis_round family b indexes) 0 (length indexes)))

-- the exclusive or of the indexes' slots
unfoldable pub slots_of : Bool → Sampler → ℕ → ℕ → List ℕ → ℕ
slots_of daily s axis slots indexes = rounds (slot_round daily s axis slots indexes) 0 (length indexes)

-- S of a count's answer, or 0 where there was no round
unfoldable pub counts_of : Counted → ℕ → ℕ
counts_of r zero = 0
counts_of r (suc n) = r.inside
