-- Tables of combinations: one word more doubles a table, and three tables of sixteen give the combinations of twelve words. Assumes nothing.
use mathlib.Core.Path.{◌≡◌, refl, sym, ap, ap₂, ◌∙◌}
use mathlib.Core.List.{List, [], ◌∷◌, ◌++◌, map}
use mathlib.Core.Logic.{⊎_elim}
use Prim.Native.Nat.{ℕ, zero, suc, ◌+◌, ◌-◌, ◌*◌, ◌/◌, ◌%◌, ◌^◌, ◌≤◌, ◌<◌}
use native.Mathlib.Omega.{arith}
use native.Mathlib.Nat.{mod-eq_of_lt, div-eq_of_lt, div-div-eq-div-mul}
use lib.ListN.{length, get_or, take, drop, get_or-append}
use lib.Seq.{take_at, drop_at, get_or-append-add, drop-drop}
use lib.Pow as pow
use lib.Bits.{bit_xor, xor_zero_r}
use Rattle.numbers.specs.Listed.{Begins}
use Rattle.numbers.proofs.Cases.{lt_or_ge}
use Rattle.numbers.proofs.ListedLaws.{zeros_at}
use Rattle.binary.specs.Gf2.{combination}
use Rattle.binary.specs.Polynomial.{Degree}
use Rattle.binary.specs.Power.{power_of_x, Squares}
use Rattle.binary.proofs.XorLaws.{xor_assoc}
use Rattle.binary.proofs.CombinationLaws.{combination_split, combination_past}
use Rattle.binary.proofs.SquareLaws.{power_squared}
use Rattle.primitive.specs.Fours.{by_fours, Fours, Squaring}

-- ---- one word more

-- a digit for the last word
combination_last : (vs : List ℕ) (w g h c : ℕ) → g % 2 ^ length vs ≡ h → g / 2 ^ length vs ≡ c → combination (vs ++ (w ∷ [])) g ≡ bit_xor (combination vs h) (combination (w ∷ []) c)
combination_last vs w g h c e f =
    combination_split (length vs) (vs ++ (w ∷ [])) g
    ∙ ap₂ bit_xor (ap₂ combination (take_at vs (w ∷ []) (length vs) refl) e) (ap₂ combination (drop_at vs (w ∷ []) (length vs) refl) f)

-- every entry with w added
abbrev added : ℕ → List ℕ → List ℕ
added w l = map (λ (x : ℕ). bit_xor x w) l

added_at : (w : ℕ) (l : List ℕ) (j : ℕ) → j < length l → get_or (added w l) j 0 ≡ bit_xor (get_or l j 0) w
added_at w [] j h = absurd (omega arith)
added_at w (x ∷ l) zero h = refl
added_at w (x ∷ l) (suc j) h = added_at w l j (omega arith)

-- the entries there were, and then each of them with the word added
doubled : (vs l : List ℕ) (w n : ℕ) → n ≡ 2 ^ length vs → length l ≡ n → Begins (combination vs) n l
    → Begins (combination (vs ++ (w ∷ []))) (n + n) (l ++ added w l)
unfolding combination
doubled vs l w n e long a = record { at = λ i h. ⊎_elim (first i) (λ q. second i (i - n) (omega arith) (omega arith)) (lt_or_ge i n) }
  where
    first : (i : ℕ) → i < n → get_or (l ++ added w l) i 0 ≡ combination (vs ++ (w ∷ [])) i
    first i h =
        get_or-append l (added w l) 0 i (omega arith) ∙ a.at i h
        ∙ sym (combination_last vs w i i 0 (mod-eq_of_lt (omega arith)) (div-eq_of_lt (omega arith)) ∙ xor_zero_r (combination vs i))

    second : (i j : ℕ) → i ≡ n + j → j < n → get_or (l ++ added w l) i 0 ≡ combination (vs ++ (w ∷ [])) i
    second i j q h =
        let place : i ≡ length l + j = omega arith in
        let digits : i ≡ 1 * 2 ^ length vs + j = omega arith in
        let small : j < 2 ^ length vs = omega arith in
        ap (λ (k : ℕ). get_or (l ++ added w l) k 0) place
        ∙ get_or-append-add l (added w l) j 0 ∙ added_at w l j (omega arith) ∙ ap₂ bit_xor (a.at j h) (sym (xor_zero_r w))
        ∙ sym (combination_last vs w i j 1 (rw digits (pow.low 1 (length vs) small)) (rw digits (pow.high 1 (length vs) small)))

-- the combinations of four words
abbrev table_of : ℕ → ℕ → ℕ → ℕ → List ℕ
table_of a b c d =
    let ab = bit_xor a b in
    let ac = bit_xor a c in
    let bc = bit_xor b c in
    let abc = bit_xor ab c in
    0 ∷ a ∷ b ∷ ab ∷ c ∷ ac ∷ bc ∷ abc ∷ d ∷ bit_xor a d ∷ bit_xor b d ∷ bit_xor ab d ∷ bit_xor c d ∷ bit_xor ac d ∷ bit_xor bc d ∷ bit_xor abc d ∷ []

none : Begins (combination []) 1 (0 ∷ [])
unfolding combination
none = record { at = λ i h. zeros_at 1 i }

table_of_lem : (a b c d : ℕ) → Begins (combination (a ∷ b ∷ c ∷ d ∷ [])) 16 (table_of a b c d)
unfolding combination
table_of_lem a b c d =
    let one = doubled [] (0 ∷ []) a 1 refl refl none in
    let two = doubled (a ∷ []) (0 ∷ a ∷ []) b 2 refl refl one in
    let three = doubled (a ∷ b ∷ []) (0 ∷ a ∷ b ∷ bit_xor a b ∷ []) c 4 refl refl two in
    doubled (a ∷ b ∷ c ∷ []) _ d 8 refl refl three

pub four_at : (vs : List ℕ) → length vs ≡ 4 → Begins (combination vs) 16 (table_of (get_or vs 0 0) (get_or vs 1 0) (get_or vs 2 0) (get_or vs 3 0))
four_at [] h = absurd (omega arith)
four_at (a ∷ []) h = absurd (omega arith)
four_at (a ∷ b ∷ []) h = absurd (omega arith)
four_at (a ∷ b ∷ c ∷ []) h = absurd (omega arith)
four_at (a ∷ b ∷ c ∷ d ∷ []) h = table_of_lem a b c d
four_at (a ∷ b ∷ c ∷ d ∷ e ∷ vs) h = absurd (omega arith)

-- ---- twelve words by three tables

-- the next four words by the next digit in base 16
next_four : (vs l : List ℕ) (g : ℕ) → Begins (combination (take 4 vs)) 16 l → combination vs g ≡ bit_xor (get_or l (g % 16) 0) (combination (drop 4 vs) (g / 16))
next_four vs l g a = combination_split 4 vs g ∙ ap (λ (x : ℕ). bit_xor x (combination (drop 4 vs) (g / 16))) (sym (a.at (g % 16) (omega arith)))

pub by_fours_combination : (words low middle high : List ℕ) → length words ≡ 12 → Fours words low middle high → (g : ℕ) → by_fours low middle high g ≡ combination words g
by_fours_combination words low middle high long f g =
    sym (next_four words low g f.first
    ∙ ap (bit_xor (get_or low (g % 16) 0))
    (next_four (drop 4 words) middle (g / 16) f.second
    ∙ ap (bit_xor (get_or middle (g / 16 % 16) 0))
    (next_four (drop 4 (drop 4 words)) high (g / 16 / 16) (rw (drop-drop 4 4 words) f.third)
    ∙ ap (bit_xor (get_or high (g / 16 / 16 % 16) 0)) past ∙ xor_zero_r (get_or high (g / 16 / 16 % 16) 0)
    ∙ ap (λ (n : ℕ). get_or high (n % 16) 0) (div-div-eq-div-mul g 16 16)))
    ∙ sym (xor_assoc (get_or low (g % 16) 0) (get_or middle (g / 16 % 16) 0) (get_or high (g / 256 % 16) 0)))
  where
    past : combination (drop 4 (drop 4 (drop 4 words))) (g / 16 / 16 / 16) ≡ 0
    past = rw (drop-drop 4 4 words, drop-drop 4 8 words) (combination_past words 12 (g / 16 / 16 / 16) (omega arith))

-- the tables of the squares of 1, x, x^2 and so on
pub squaring : (d p : ℕ) (words low middle high : List ℕ) → 1 ≤ d → d ≤ 12 → Degree d p → length words ≡ 12 → Squares d p words → Fours words low middle high
    → Squaring d p low middle high
squaring d p words low middle high least most degree long squares f =
    record {
      least = least;
      most = most;
      degree = degree;
      squared = λ e. by_fours_combination words low middle high long f (power_of_x (2 ^ d) p e) ∙ power_squared d p least degree words squares e;
    }

pub squared_at : {d p : ℕ} {low middle high : List ℕ} → Squaring d p low middle high → {r s : ℕ} (e : ℕ) → r ≡ power_of_x (2 ^ d) p e → s ≡ by_fours low middle high r
    → s ≡ power_of_x (2 ^ d) p (e * 2)
squared_at {d} {p} {low} {middle} {high} t e power square = square ∙ ap (by_fours low middle high) power ∙ t.squared e
