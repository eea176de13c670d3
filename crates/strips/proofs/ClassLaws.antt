-- One more digit of an axis splits a class: the class of the steps with one remainder is left to what is behind the digit. Assumes nothing.
use mathlib.Core.Path.{◌≡◌, sym, ap, ap₂, ◌∙◌, subst}
use mathlib.Core.Bool.{Bool, ◌&&◌, and_comm}
use Prim.Native.Nat.{ℕ, ◌+◌, ◌*◌, ◌/◌, ◌%◌, ◌^◌, ◌<◌, ◌≤◌}
use native.Mathlib.Nat.{add-mul-div_left, add-mul-mod_self_left}
use native.Mathlib.Numerals.{add-one}
use native.Mathlib.Omega.{arith}
use Rattle.numbers.specs.Count.{count, each}
use Rattle.numbers.specs.Digits.{sum, numerator_to}
use Rattle.numbers.specs.Depth.{depth, denominator}
use Rattle.numbers.proofs.DigitLaws.{sum_ext}
use Rattle.numbers.proofs.CountLaws.{count_ext, count_none, count_all}
use Rattle.halton.specs.Axis.{numerator}
use Rattle.discrepancy.specs.Bound.{halton_axes}
use Rattle.strips.specs.Ends.{within_cut, EndAxis, in_ends, inside_ends, halton_ends}
use Rattle.strips.specs.Classes.{class_size, class_count, within_rest, behind, passes, inside_along, in_class, Reads}
use Rattle.strips.proofs.SizeLaws.{class_in, pool}
use Rattle.strips.proofs.RestLaws.{within_digit, within_nothing, within_whole}

-- ---- one axis more

module _ (σ : ℕ → ℕ → ℕ) (b start l u q : ℕ → ℕ) where
  -- no axis
  pub along_none : (t m k : ℕ) → count (inside_along (halton_ends σ b start 1 l u q) 0 t m) k ≡ k
  unfolding inside_along inside_ends each
  along_none t m k = count_all k

  -- with nothing of its ends taken, the axis reads start + t + m × i
  pub along_axis : (s t m k : ℕ)
      → count (inside_along (halton_ends σ b start 1 l u q) (s + 1) t m) k ≡ count (in_class (halton_ends σ b start 1 l u q) s (l s) (u s) (start s + t) m t m) k
  unfolding inside_along in_class passes inside_ends each in_ends halton_ends halton_axes within_rest numerator denominator
  along_axis s t m k =
      count_ext (inside_along ax (s + 1) t m) (in_class ax s (l s) (u s) (start s + t) m t m) k
      (λ i h. rw (add-one s) (and_comm (inside_ends ax s (t + m * i)) (in_ends (ax s) (t + m * i)) ∙ ap (λ (n : ℕ). within n && inside_ends ax s (t + m * i)) (index i)))
    where
      ax : ℕ → EndAxis
      ax = halton_ends σ b start 1 l u q

      within : ℕ → Bool
      within n = within_cut (numerator_to (σ s) (b s) (depth (b s)) n) (b s ^ depth (b s)) (l s) (u s) (q s)

      index : (i : ℕ) → start s + 1 * (t + m * i) ≡ start s + t + m * i
      index i = omega arith

-- nothing is within two ends whose lower one is not below the upper one
pub class_nothing : (ax : ℕ → EndAxis) (s v u x r t m L : ℕ) → u ≤ v → count (in_class ax s v u x r t m) L ≡ 0
unfolding in_class passes
class_nothing ax s v u x r t m L h =
    count_none (in_class ax s v u x r t m) L
    (λ i. ap (λ (y : Bool). y && inside_ends ax s (t + m * i)) (within_nothing (ax s).axis.image (ax s).axis.base (ax s).axis.q v u (x + r * i) h))

-- ---- one digit more

module _ (ax : ℕ → EndAxis) (s : ℕ) (low : 2 ≤ (ax s).axis.base) (below : (d : ℕ) → d < (ax s).axis.base → (ax s).axis.image d < (ax s).axis.base)
    (first : (ax s).axis.image 0 ≡ 0) (q_pos : 0 < (ax s).axis.q) where
  abbrev b : ℕ
  b = (ax s).axis.base

  abbrev σ : ℕ → ℕ
  σ = (ax s).axis.image

  abbrev q : ℕ
  q = (ax s).axis.q

  module _ (v u x r t m L i : ℕ) (reads : Reads x r L) (h : i < b) where
    -- the image of the digit that all steps of the class have
    abbrev image : ℕ
    image = σ ((x + r * i) % b)

    index : (j : ℕ) → x + r * (i + b * j) ≡ x + r * i + b * (r * j)
    index j = omega arith

    -- a step's digit, what is left of its index, and its reach
    same_digit : (j : ℕ) → (x + r * (i + b * j)) % b ≡ (x + r * i) % b
    same_digit j = ap (λ (n : ℕ). n % b) (index j) ∙ add-mul-mod_self_left (x + r * i) b (r * j)

    left : (j : ℕ) → (x + r * (i + b * j)) / b ≡ (x + r * i) / b + r * j
    left j = ap (λ (n : ℕ). n / b) (index j) ∙ add-mul-div_left (x + r * i) (r * j) (omega arith)

    reach : (j : ℕ) → j < class_size b L i → x + r * (i + b * j) < 2 ^ 32
    reach j l = reads.reach (i + b * j) (class_in b L i j h l)

    step : (j : ℕ) → t + m * (i + b * j) ≡ t + m * i + m * b * j
    step j = omega arith

    abbrev p : ℕ → Bool
    p = in_class ax s v u x r t m

    -- the class is left to what is behind the digit
    pub class_behind : class_count p b L i
        ≡ count (in_class ax s (behind q image (v * b / q) (v * b % q)) (behind q image (u * b / q) (u * b % q)) ((x + r * i) / b) r (t + m * i) (m * b)) (class_size b L i)
    unfolding class_count in_class passes
    class_behind =
        count_ext (λ j. p (i + b * j)) (in_class ax s v' u' ((x + r * i) / b) r (t + m * i) (m * b)) (class_size b L i)
        (λ j k. ap₂ (λ (y : Bool) (n : ℕ). y && inside_ends ax s n) (digit j k) (step j))
      where
        v' : ℕ
        v' = behind q image (v * b / q) (v * b % q)

        u' : ℕ
        u' = behind q image (u * b / q) (u * b % q)

        digit : (j : ℕ) → j < class_size b L i → within_rest σ b q v u (x + r * (i + b * j)) ≡ within_rest σ b q v' u' ((x + r * i) / b + r * j)
        digit j k =
            subst (λ (d : ℕ). within_rest σ b q v u (x + r * (i + b * j)) ≡ within_rest σ b q (behind q (σ d) (v * b / q) (v * b % q)) (behind q (σ d) (u * b / q) (u * b % q)) ((x + r * i) / b + r * j))
            (same_digit j)
            (rw (← left j) (within_digit σ b low below first v u q (x + r * (i + b * j)) q_pos (reach j k)))

  -- everything is within 0 and the whole
  pub class_whole : (x r t m L : ℕ) → count (in_class ax s 0 q x r t m) L ≡ count (inside_along ax s t m) L
  unfolding in_class passes inside_along
  class_whole x r t m L =
      count_ext (in_class ax s 0 q x r t m) (inside_along ax s t m) L
      (λ i l. ap (λ (y : Bool). y && inside_ends ax s (t + m * i)) (within_whole σ b low below first q (x + r * i) q_pos))
