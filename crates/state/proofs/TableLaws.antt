-- The table of direction numbers, as the loop over the axes fills it: 32 words more at each turn. Assumes nothing.
use mathlib.Core.Path.{◌≡◌, refl, sym, ap, ap₂, ◌∙◌}
use mathlib.Core.Logic.{⊎_elim}
use mathlib.Core.List.{List, [], ◌∷◌, ◌++◌, append_assoc, append-nil}
use Prim.Native.Nat.{ℕ, zero, suc, ◌+◌, ◌-◌, ◌*◌, ◌<◌, ◌≤◌}
use native.Mathlib.Numerals.{add-one}
use native.Mathlib.Omega.{arith}
use lib.ListN.{length, take, drop, get_or, replicate, length-append, length-drop, length-replicate, replicate-append-replicate, get_or-append}
use lib.Seq.{take_at, drop_at, drop-drop, get_or_at, get_or-take, length-take-le}
use Rattle.numbers.specs.Listed.{padded}
use Rattle.numbers.proofs.Cases.{lt_or_ge}
use Rattle.binary.specs.Polynomial.{degree_of}
use Rattle.binary.proofs.DegreeLaws.{degree_of_lem}
use Rattle.sobol.specs.Directions.{directions, AllOddBelow}
use Rattle.sobol.proofs.DirectionLaws.{directions_length, directions_given}
use Rattle.bits.specs.Stream.{overwrite}
use Rattle.bits.proofs.OverwriteLaws.{over_is}
use Rattle.plan.specs.Plan.{Axis, no_axis, ValidAxis, sobol, Valid}
use Rattle.plan.specs.Answer.{axis_at, axes_of}
use Rattle.plan.proofs.PlaceLaws.{length_snoc}
use Rattle.points.specs.Point.{axis_directions}
use Rattle.points.specs.Arrays.{directions_in}

-- ---- the first axes of the arrays

module _ (ps ms : List ℕ) where
  axes_of_length : (s : ℕ) → length (axes_of ps ms s) ≡ s
  unfolding axes_of
  axes_of_length zero = refl
  axes_of_length (suc s) = length_snoc (axes_of ps ms s) (axis_at ps ms s) ∙ omega (arith, axes_of_length s)

  axes_of_at : (s i : ℕ) → i < s → get_or (axes_of ps ms s) i no_axis ≡ axis_at ps ms i
  unfolding axes_of
  axes_of_at zero i h = absurd (omega arith)
  axes_of_at (suc s) i h =
      ⊎_elim
      (λ l. get_or-append (axes_of ps ms s) (axis_at ps ms s ∷ []) no_axis i (omega (arith, axes_of_length s)) ∙ axes_of_at s i l)
      (λ l. let e : i ≡ s = omega arith in rw e (get_or_at (axes_of ps ms s) (axis_at ps ms s) [] no_axis s (axes_of_length s)))
      (lt_or_ge i s)

-- ---- one axis by its 12 words, of which those past the degree are not its

-- the words of axis i, as the code cuts them out
abbrev pub words : List ℕ → ℕ → List ℕ
words ms i = take (12 * i + 12 - 12 * i) (drop (12 * i) ms)

pub words_length : (ms : List ℕ) (i : ℕ) → 12 * i + 12 ≤ length ms → length (words ms i) ≡ 12
words_length ms i h = omega (arith, length-take-le (12 * i + 12 - 12 * i) (drop (12 * i) ms) (omega (arith, length-drop (12 * i) ms)))

pub record Turn (ps ms : List ℕ) (i : ℕ) : Type 0 where
  pub degree_high : degree_of (get_or ps i 0) ≤ 12
  pub given : AllOddBelow (degree_of (get_or ps i 0)) (words ms i)
  pub is : directions (degree_of (get_or ps i 0)) (get_or ps i 0) (words ms i) ≡ axis_directions (axis_at ps ms i)

turn_of : (ps ms : List ℕ) (i : ℕ) → ValidAxis (axis_at ps ms i) → Turn ps ms i
unfolding AllOddBelow
turn_of ps ms i v =
    let d : degree_of (get_or ps i 0) ≡ length (axis_at ps ms i).ms = degree_of_lem v.degree in
    let high : degree_of (get_or ps i 0) ≤ 12 = omega (arith, v.degree_high) in
    let same : (j : ℕ) → j < degree_of (get_or ps i 0) → get_or (words ms i) j 0 ≡ get_or (axis_at ps ms i).ms j 0 =
    λ j h. get_or-take (12 * i + 12 - 12 * i) (drop (12 * i) ms) j 0 (omega arith) ∙ sym (get_or-take (degree_of (get_or ps i 0)) (drop (12 * i) ms) j 0 h) in
    record {
      degree_high = high;
      given = λ j h. rw (same j h) (v.given j (omega (arith, d)));
      is = directions_given (degree_of (get_or ps i 0)) (get_or ps i 0) _ _ same ∙ ap (λ (k : ℕ). directions k (get_or ps i 0) (axis_at ps ms i).ms) d;
    }

pub table_turn : (ps ms : List ℕ) (s i : ℕ) → Valid (sobol (axes_of ps ms s)) → i < s → Turn ps ms i
unfolding Valid
table_turn ps ms s i v h = turn_of ps ms i (rw (axes_of_at ps ms s i h) at (v.1.valid i (omega (arith, axes_of_length ps ms s))))

-- ---- the table

directions_in_length : (axes : List Axis) → length (directions_in axes) ≡ 32 * length axes
unfolding directions_in
directions_in_length [] = refl
directions_in_length (x ∷ axes) =
    rw (length-append, directions_length (length x.ms) x.polynomial x.ms, directions_in_length axes) (omega arith)

directions_in_snoc : (axes : List Axis) (x : Axis) → directions_in (axes ++ x ∷ []) ≡ directions_in axes ++ axis_directions x
unfolding directions_in
directions_in_snoc [] x = append-nil (axis_directions x)
directions_in_snoc (y ∷ axes) x = rw (directions_in_snoc axes x) (sym (append_assoc (axis_directions y) (directions_in axes) (axis_directions x)))

drop_zeros : (k m : ℕ) → drop {A = ℕ} k (replicate (k + m) 0) ≡ replicate m 0
drop_zeros k m = rw (← replicate-append-replicate {A = ℕ} k m 0) (drop_at (replicate k 0) (replicate m 0) k (length-replicate k 0))

-- a write over the first zeros
padded_over : (n : ℕ) (l x : List ℕ) (m : ℕ) → length l ≡ m → m + length x ≤ n → overwrite (padded n l) m x ≡ padded n (l ++ x)
unfolding padded
padded_over n l x m e h =
    let c : n - length l ≡ length x + (n - length (l ++ x)) = omega (arith, length-append l x) in
    over_is (padded n l) m x
    ∙ ap₂ (λ (a b : List ℕ). a ++ x ++ b) (take_at l (replicate (n - length l) 0) m e)
    (sym (drop-drop (length x) m (l ++ replicate (n - length l) 0))
    ∙ ap (drop (length x)) (drop_at l (replicate (n - length l) 0) m e ∙ ap (λ (j : ℕ). replicate j 0) c)
    ∙ drop_zeros (length x) (n - length (l ++ x)))

module _ (ps ms : List ℕ) where
  -- the table with the first i axes filled in
  abbrev pub table_at : ℕ → List ℕ
  table_at i = padded 192 (directions_in (axes_of ps ms i))

  pub table_none : replicate 192 0 ≡ table_at 0
  unfolding axes_of directions_in padded
  table_none = refl

  pub table_next : (i : ℕ) (x : List ℕ) → i < 6 → x ≡ axis_directions (axis_at ps ms i) → overwrite (table_at i) (32 * i) x ≡ table_at (i + 1)
  unfolding axes_of
  table_next i x h e =
      let l : length (directions_in (axes_of ps ms i)) ≡ 32 * i = omega (arith, directions_in_length (axes_of ps ms i), axes_of_length ps ms i) in
      let a = axis_at ps ms i in
      let k : length x ≡ 32 = ap length e ∙ directions_length (length a.ms) a.polynomial a.ms in
      padded_over 192 (directions_in (axes_of ps ms i)) x (32 * i) l (omega arith)
      ∙ ap (padded 192) (ap (λ (y : List ℕ). directions_in (axes_of ps ms i) ++ y) e ∙ sym (directions_in_snoc (axes_of ps ms i) a) ∙ ap (λ (j : ℕ). directions_in (axes_of ps ms j)) (sym (add-one i)))
