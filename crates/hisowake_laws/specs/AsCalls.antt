-- The C calls in terms of the calls on a state, and demand 3 about the bytes that the C count writes. Definitions only.
use Rattle.std.specs.Prelude.{◌≡◌, List, [], ◌∷◌, ◌++◌, ℕ, ltb, length, take, drop}
use Rattle.discrepancy.specs.Bound.{Near}
use Rattle.plan.specs.Plan.{Plan, Valid, spell}
use Rattle.plan.specs.Order.{◌when◌, first_due, unless_number}
use Rattle.points.specs.Point.{axis_count}
use Rattle.points.specs.Run.{one_start}
use Rattle.points.specs.Arrays.{family_of}
use Rattle.calls.specs.Calls.{read_spec, open_spec, jump_spec, jump_buf}
use Rattle.window.specs.Counting.{u_product, q_product, inside_count, bound_of, cuts_of}
use Rattle.window_count.specs.Call.{count_spec}
use Rattle.big_endian.specs.Bytes.{word_bytes, window_in}
use Rattle.hisowake.specs.Calls.{point_code, point_bytes, count_code, count_bytes}

-- the C point, on the bytes of words, answers and leaves what a reading and then a jump on the words do
abbrev pub AsSampler : List ℕ → ℕ → List ℕ → List ℕ → Type 0
AsSampler plan index words rest =
    (point_code plan index (word_bytes words ++ rest)
    ≡ unless_number (read_spec plan).code (jump_spec (read_spec plan).state index words).code (read_spec plan).code)
    × (point_bytes plan index (word_bytes words ++ rest) ≡ word_bytes (jump_buf (read_spec plan).state index words) ++ rest)

-- the C count, on the numbers of the window's bytes, answers and leaves what a reading, an opening with its start on each axis and a count do, and 13
-- after these
unfoldable pub AsCalls : List ℕ → Plan → ℕ → ℕ → List ℕ → List ℕ → Type 0
AsCalls plan p start many window out =
    let a = read_spec plan in
    let o = open_spec a.state (one_start p start many) in
    let c = count_spec o.state (window_in window (axis_count p)) in
    (count_code plan start many window out
    ≡ unless_number a.code (unless_number o.code (unless_number c.code (first_due (13 when ltb (length out) 16 ∷ [])) c.code) o.code) a.code)
    × (count_bytes plan start many window out
    ≡ unless_number (count_code plan start many window out) (word_bytes (c.inside ∷ c.bound ∷ []) ++ drop 16 out) out)

-- The bytes are a valid plan's; the first 16 bytes that are left are S and the bound; and if the plan is of a Halton family, S lies within the bound
-- of the window's share.
pub record NearInC (plan : List ℕ) (start many : ℕ) (window out : List ℕ) : Type 0 where
  pub of : Plan
  pub valid : Valid of
  pub spelled : plan ≡ spell of
  pub inside : ℕ
  pub bound : ℕ
  pub bytes : take 16 (count_bytes plan start many window out) ≡ word_bytes (inside ∷ bound ∷ [])
  pub inside_is : inside ≡ inside_count of (cuts_of (window_in window (axis_count of)) (axis_count of)) (one_start of start many)
  pub bound_is : bound ≡ bound_of of many
  pub near : (family_of of ≡ 2 → ⊥)
      → let w = cuts_of (window_in window (axis_count of)) (axis_count of) in Near many inside (u_product w (axis_count of)) (q_product w (axis_count of)) bound
