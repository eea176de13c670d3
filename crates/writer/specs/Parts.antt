-- Which plans can be written, and what writing one leaves in a buffer. Definitions only.
use Rattle.std.specs.Prelude.{◌≡◌, Bool, cond, List, ◌++◌, ℕ, ◌≤◌, ◌<◌, ltb, length, drop, get_or}
use Rattle.binary.specs.Polynomial.{degree_of}
use Rattle.plan.specs.Plan.{Plan, spell}

-- what arrays of a plan have to meet for the writer: no more than six axes, bases from 1 up, degrees up to 12
pub record Writable (family axes : ℕ) (bases ps ms : List ℕ) : Type 0 where
  pub kind : family < 4
  pub count : axes ≤ 6
  pub bases_long : axes ≤ length bases
  pub polynomials_long : axes ≤ length ps
  pub ms_long : 72 ≤ length ms
  pub base : (k : ℕ) → k < axes → (family ≡ 2 → ⊥) → 1 ≤ get_or bases k 0
  pub degree : (k : ℕ) → k < axes → degree_of (get_or ps k 0) ≤ 12

-- ---- the writer's answer for a plan and a buffer

-- the plan has no room in the buffer
abbrev pub no_room : Plan → List ℕ → Bool
no_room p old = ltb (length old) (length (spell p))

-- 13 (room), or 0
abbrev pub written_code : Plan → List ℕ → ℕ
written_code p old = cond (no_room p old) 13 0

-- the plan's length, 0 where it is refused
abbrev pub written_length : Plan → List ℕ → ℕ
written_length p old = cond (no_room p old) 0 (length (spell p))

-- the plan's bytes and then what lay behind them, or the buffer as it was
abbrev pub written : Plan → List ℕ → List ℕ
written p old = cond (no_room p old) old (spell p ++ drop (length (spell p)) old)

pub record Written (p : Plan) (old new : List ℕ) (code len : ℕ) : Type 0 where
  pub answer : code ≡ written_code p old
  pub reported : len ≡ written_length p old
  pub bytes : new ≡ written p old
