-- The words of a plan, as bytes of ASCII: the family's word, and for each axis a space and its word. Definitions only.
use Rattle.std.specs.Prelude.{◌≡◌, List, [], ◌∷◌, ◌++◌, ℕ, zero, suc, ◌+◌, ◌*◌, ◌^◌, ◌≤◌, ◌<◌, get_or}
use Rattle.binary.specs.Polynomial.{degree_of}
use Rattle.text.specs.Decimal.{decimal}
use Rattle.text.specs.Put.{TextPut}
use Rattle.plan.specs.Plan.{Axis, Plan, halton, sobol, Valid}
use Rattle.axis_words.specs.Spelled.{comma, colon}
use Rattle.plan_words.specs.Says.{family_word}

abbrev pub space : ℕ
space = 32

-- a mark, and a number in decimal
unfoldable pub part : ℕ → ℕ → List ℕ
part mark n = mark ∷ decimal n

unfoldable pub bases_text : List ℕ → List ℕ
bases_text [] = []
bases_text (b ∷ bases) = part space b ++ bases_text bases

-- the mark before m_(k+1)
unfoldable pub mark_at : ℕ → ℕ
mark_at zero = colon
mark_at (suc k) = comma

-- the m's from m_(k+1) on
unfoldable pub ms_text : ℕ → List ℕ → List ℕ
ms_text k [] = []
ms_text k (m ∷ ms) = part (mark_at k) m ++ ms_text (suc k) ms

-- P:M,M,.. or 0
unfoldable pub axis_text : Axis → List ℕ
axis_text x = go x.ms
  where
    go : List ℕ → List ℕ
    go [] = part space 0
    go (m ∷ ms) = part space x.polynomial ++ ms_text 0 (m ∷ ms)

unfoldable pub axes_text : List Axis → List ℕ
axes_text [] = []
axes_text (x ∷ axes) = axis_text x ++ axes_text axes

unfoldable pub plan_text : Plan → List ℕ
plan_text (halton family bases) = family_word family ++ bases_text bases
plan_text (sobol axes) = family_word 2 ++ axes_text axes

-- an axis of arrays whose numbers have at most four digits
pub record GoodAxis (ps ms : List ℕ) (i : ℕ) : Type 0 where
  pub high : get_or ps i 0 < 2 ^ 13
  pub each : (k : ℕ) → k < degree_of (get_or ps i 0) → get_or ms (12 * i + k) 0 < 10000

-- the words of the plan that arrays of s axes hold were put to the front; or they hold no valid plan, and nothing was
pub record WordsPut (s : ℕ) (p : Plan) (old new : List ℕ) (r : ℕ) : Type 0 where
  pub some : s ≤ 6 → Valid p → TextPut old new 0 (plan_text p) r
  pub none : ((s ≤ 6) × Valid p → ⊥) → (r ≡ 0) × (new ≡ old)
