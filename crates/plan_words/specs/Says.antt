-- The plan that the words of a line say: the family's word, and then a word for each axis, one to six. Definitions only.
use Rattle.std.specs.Prelude.{◌≡◌, true, Ok, List, [], ◌∷◌, ℕ, zero, suc, ◌-◌, ◌<◌, length, get_or, take, drop}
use Rattle.words.specs.Word.{first_word, words_in}
use Rattle.words.specs.Decimal.{number_of}
use Rattle.plan.specs.Plan.{no_axis, Plan, halton, sobol, OneToSix, HaltonFamily}
use Rattle.axis_words.specs.Spelled.{AxisWord}

-- where word k (from 0) at or after a place is looked for: after the words before it
unfoldable pub word_from : List ℕ → ℕ → ℕ → ℕ
word_from line from zero = from
word_from line from (suc k) = (first_word line (word_from line from k)).end

-- the first word at or after a place, and word k
unfoldable pub word_text : List ℕ → ℕ → List ℕ
word_text line from = take ((first_word line from).end - (first_word line from).start) (drop (first_word line from).start line)

abbrev pub word_at : List ℕ → ℕ → ℕ → List ℕ
word_at line from k = word_text line (word_from line from k)

-- the words of the families, from family 0 on: `halton`, `permuted`, `sobol`, `kocis`
unfoldable pub family_words : List (List ℕ)
family_words =
    (104 ∷ 97 ∷ 108 ∷ 116 ∷ 111 ∷ 110 ∷ [])
    ∷ (112 ∷ 101 ∷ 114 ∷ 109 ∷ 117 ∷ 116 ∷ 101 ∷ 100 ∷ [])
    ∷ (115 ∷ 111 ∷ 98 ∷ 111 ∷ 108 ∷ [])
    ∷ (107 ∷ 111 ∷ 99 ∷ 105 ∷ 115 ∷ [])
    ∷ []

abbrev pub family_word : ℕ → List ℕ
family_word family = get_or family_words family []

abbrev pub families : ℕ
families = 4

-- where the words of the axes begin, and how many there are
abbrev pub axes_from : List ℕ → ℕ → ℕ
axes_from line from = (first_word line from).end

abbrev pub axes_said : List ℕ → ℕ → ℕ
axes_said line from = words_in true (drop (axes_from line from) line)

-- the family's word, and so many axes
pub record Head (line : List ℕ) (from family s : ℕ) : Type 0 where
  pub named : word_text line from ≡ family_word family
  pub count : axes_said line from ≡ s
  pub few : OneToSix s

-- the words from this place on say the plan
unfoldable pub Says : List ℕ → ℕ → Plan → Type 0
Says line from (halton family bases) = HaltonFamily family × Head line from family (length bases)
    × ((i : ℕ) → i < length bases → number_of (word_at line (axes_from line from) i) ≡ Ok (get_or bases i 0))
Says line from (sobol axes) = Head line from 2 (length axes)
    × ((i : ℕ) → i < length axes → AxisWord (word_at line (axes_from line from) i) (get_or axes i no_axis))
