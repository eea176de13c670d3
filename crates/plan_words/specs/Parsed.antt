-- What parsing the words of a line answers. Definitions only.
use Rattle.std.specs.Prelude.{◌≡◌, ◌≢◌, Option, Result, Ok, MatchOption, MatchResult, List, ℕ, ◌+◌, ◌≤◌, ◌<◌, length, get_or, replicate}
use Rattle.words.specs.Decimal.{number_of}
use Rattle.plan.specs.Plan.{Axis, OneToSix, HaltonFamily}
use Rattle.plan.specs.Answer.{axis_at, plan_of}
use Rattle.axis_words.specs.Spelled.{AxisWord}
use Rattle.plan_words.specs.Says.{word_text, word_at, family_word, families, axes_from, axes_said, Says}
use Rattle.plan_check.specs.declared.Fault.{Fault}
use Rattle.plan_words.specs.declared.AxesSaid.{AxesSaid}
use Rattle.plan_words.specs.declared.PlanSaid.{PlanSaid}

-- the family that the word names, or the word names none
abbrev pub FamilyRead : List ℕ → Option ℕ → Type 0
FamilyRead word r = MatchOption r ((f : ℕ) → f < families → word ≡ family_word f → ⊥) (λ f. (f < families) × (word ≡ family_word f))

-- word i is no base, or no axis
unfoldable pub NoBase : List ℕ → ℕ → ℕ → Type 0
NoBase line from i = (b : ℕ) → number_of (word_at line from i) ≡ Ok b → ⊥

unfoldable pub NoAxis : List ℕ → ℕ → ℕ → Type 0
NoAxis line from i = (x : Axis) → AxisWord (word_at line from i) x → ⊥

-- n words are these bases; or the code is 102, and this axis's word is no base
abbrev pub BasesRead : List ℕ → ℕ → ℕ → Result (List ℕ) Fault → Type 0
BasesRead line from n r = MatchResult r
    (λ bases. (length bases ≡ 6) × ((i : ℕ) → i < n → number_of (word_at line from i) ≡ Ok (get_or bases i 0)))
    (λ f. (f.code ≡ 102) × ((i : ℕ) × (f.axis ≡ i + 1) × (i < n) × NoBase line from i))

-- arrays that hold the axes that n words are
pub record AxesHeld (line : List ℕ) (from n : ℕ) (ps ms : List ℕ) : Type 0 where
  pub size : length ps ≡ 6
  pub size_ms : length ms ≡ 72
  pub spelled : (i : ℕ) → i < n → AxisWord (word_at line from i) (axis_at ps ms i)

-- n words are the axes that the arrays hold; or the code is not 0, and this axis's word is no axis
abbrev pub AxesRead : List ℕ → ℕ → ℕ → Result AxesSaid Fault → Type 0
AxesRead line from n r = MatchResult r
    (λ a. AxesHeld line from n a.polynomials a.ms)
    (λ f. (f.code ≢ 0) × ((i : ℕ) × (f.axis ≡ i + 1) × (i < n) × NoAxis line from i))

-- the word at fault, which spells nothing: of the family, 2; their number, 3; or, with its axis, a base, 102, or a Sobol axis
pub data Unspelled (line : List ℕ) (from : ℕ) : ℕ → ℕ → Type 0 where
  bad_family : ((f : ℕ) → f < families → word_text line from ≡ family_word f → ⊥) → Unspelled line from 2 0
  bad_count : (OneToSix (axes_said line from) → ⊥) → Unspelled line from 3 0
  bad_base : (family i : ℕ) → HaltonFamily family → word_text line from ≡ family_word family → i < axes_said line from → NoBase line (axes_from line from) i
      → Unspelled line from 102 (i + 1)
  bad_axis : (code i : ℕ) → word_text line from ≡ family_word 2 → i < axes_said line from → NoAxis line (axes_from line from) i
      → Unspelled line from code (i + 1)

-- a plan in arrays that the words say
pub record PlanHeld (line : List ℕ) (from : ℕ) (r : PlanSaid) : Type 0 where
  pub few : r.axes ≤ 6
  pub size : length r.bases ≡ 6
  pub size_polynomials : length r.polynomials ≡ 6
  pub size_ms : length r.ms ≡ 72
  pub blank : (r.family ≡ 2 → ⊥) → r.polynomials ≡ replicate 6 0
  pub spelled : Says line from (plan_of r.family r.axes r.bases r.polynomials r.ms)

-- the words say the plan that the arrays hold; or a word is at fault, and the code is not 0
abbrev pub Parsed : List ℕ → ℕ → Result PlanSaid Fault → Type 0
Parsed line from r = MatchResult r (PlanHeld line from) (λ f. Unspelled line from f.code f.axis × (f.code ≢ 0))
