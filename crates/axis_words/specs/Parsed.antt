-- What parsing a word answers. Definitions only.
use Rattle.std.specs.Prelude.{◌≡◌, ℕ, ◌+◌, ◌*◌, ◌<◌, ◌≤◌, Option, Result, Ok, MatchOption, MatchResult, List, length, take, drop, ◌≢◌, slice_index}
use Rattle.binary.specs.Polynomial.{degree_of}
use Rattle.words.specs.Decimal.{number_of}
use Rattle.plan.specs.Plan.{Axis}
use Rattle.axis_words.specs.Spelled.{part_at, Given, AxisWord}
use Rattle.axis_words.specs.declared.AxisFault.{AxisFault}

-- the word spells the number, or it spells none that fits a word of 64 bits
abbrev pub NumberRead : List ℕ → Option ℕ → Type 0
NumberRead word r = MatchOption r ((n : ℕ) → number_of word ≢ Ok n) (λ n. number_of word ≡ Ok n)

-- an array of 12 places for each axis, of which what stands before axis i was kept
pub record Kept (i : ℕ) (old new : List ℕ) : Type 0 where
  pub size : length new ≡ length old
  pub front : (j : ℕ) → j < 12 * i → slice_index new j ≡ slice_index old j

-- the parts are d m's, those of axis i now; or the place is, from 1, that of a part that is no number
abbrev pub MsRead : List ℕ → ℕ → ℕ → List ℕ → Result (Unit {0}) ℕ → Type 0
MsRead text d i new r = MatchResult r
    (λ done. (k : ℕ) → k < d → number_of (part_at text k) ≡ Ok (slice_index new (12 * i + k)))
    (λ place. (k : ℕ) × (place ≡ k + 1) × (k < d) × ((n : ℕ) → number_of (part_at text k) ≢ Ok n))

-- the word gives this polynomial with the m's of axis i; or it gives none, and the code is not 0
abbrev pub GivenRead : List ℕ → ℕ → List ℕ → Result ℕ AxisFault → Type 0
GivenRead word i new r = MatchResult r
    (λ p. Given word p (take (degree_of p) (drop (12 * i) new)) × (degree_of p ≤ 12))
    (λ f. ((p : ℕ) (ms : List ℕ) → Given word p ms → ⊥) × (f.code ≢ 0))

-- the word is the axis of this polynomial with the m's of axis i; or the word is no axis, and the code is not 0
abbrev pub AxisRead : List ℕ → ℕ → List ℕ → Result ℕ AxisFault → Type 0
AxisRead word i new r = MatchResult r
    (λ p. AxisWord word (record { polynomial = p; ms = take (degree_of p) (drop (12 * i) new) }) × (degree_of p ≤ 12))
    (λ f. ((x : Axis) → AxisWord word x → ⊥) × (f.code ≢ 0))
