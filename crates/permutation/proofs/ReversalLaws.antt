-- A base b with no binary digit in common with b - 1 is a power of two: there Faure's image has the digit's binary digits in reverse.
-- Assumes nothing.
use mathlib.Core.Path.{◌≡◌, sym, ap, ◌∙◌}
use mathlib.Core.Logic.{⊎_elim}
use Prim.Native.Nat.{ℕ, zero, suc, ◌+◌, ◌-◌, ◌*◌, ◌/◌, ◌%◌, ◌<◌, ◌≤◌}
use native.Mathlib.Nat.{le_refl, mul-le-mul_left}
use native.Mathlib.Omega.{arith}
use lib.Bits.{bit_and, and_shr, and_self}
use Rattle.numbers.proofs.Cases.{lt_or_ge, even_or_odd}
use Rattle.permutation.specs.Faure.{faure}
use Rattle.permutation.proofs.FaureRules.{faure_two, even_lower, even_upper}

-- ---- powers of two

and_half : (a b : ℕ) → bit_and a b / 2 ≡ bit_and (a / 2) (b / 2)
and_half a b = and_shr a b 1

odd_shares : (b : ℕ) → 2 ≤ b → b % 2 ≡ 1 → bit_and b (b - 1) ≡ 0 → ⊥
odd_shares b l e z =
    let h : bit_and b (b - 1) / 2 ≡ b / 2 = and_half b (b - 1) ∙ ap (bit_and (b / 2)) {x = (b - 1) / 2} {y = b / 2} (omega arith) ∙ and_self (b / 2) in
    omega (arith, h, z)

pub power_even : (b : ℕ) → 2 ≤ b → bit_and b (b - 1) ≡ 0 → b % 2 ≡ 0
power_even b l z = ⊎_elim (λ e. e) (λ e. absurd (odd_shares b l e z)) (even_or_odd b)

pub power_half : (b : ℕ) → 2 ≤ b → bit_and b (b - 1) ≡ 0 → bit_and (b / 2) (b / 2 - 1) ≡ 0
power_half b l z =
    let e : b % 2 ≡ 0 = power_even b l z in
    ap (bit_and (b / 2)) {x = b / 2 - 1} {y = (b - 1) / 2} (omega arith) ∙ sym (and_half b (b - 1)) ∙ ap (λ (x : ℕ). x / 2) z

-- ---- the lowest binary digit first

-- the even rule holds at base 2 too, over base 1
lower : (b k : ℕ) → 2 ≤ b → b % 2 ≡ 0 → k < b / 2 → faure b k ≡ 2 * faure (b / 2) k
lower b k l e lt =
    ⊎_elim (λ s. omega (arith, faure_two b k (omega arith), faure_two (b / 2) k (omega arith))) (λ g. even_lower b k g e lt) (lt_or_ge b 3)

upper : (b k : ℕ) → 2 ≤ b → b % 2 ≡ 0 → b / 2 ≤ k → k < b → faure b k ≡ 2 * faure (b / 2) (k - b / 2) + 1
upper b k l e le lt =
    ⊎_elim (λ s. omega (arith, faure_two b k (omega arith), faure_two (b / 2) (k - b / 2) (omega arith))) (λ g. even_upper b k g e le)
    (lt_or_ge b 3)

twice : (q m x : ℕ) → m ≡ 2 * q → m * x ≡ 2 * (q * x)
twice q m x e = rw e (omega arith)

two : (h d : ℕ) → h ≡ 2 → d < h → faure h d ≡ h / 2 * (d % 2) + faure (h / 2) (d / 2)
two h d e lt = omega (arith, ap (λ (x : ℕ). x / 2 * (d % 2)) e, faure_two h d (omega arith), faure_two (h / 2) (d / 2) (omega arith))

module _ (h d : ℕ) (g : 2 < h) (z : bit_and h (h - 1) ≡ 0) (lt : d < h) (again : (x : ℕ) → x < h / 2 → faure (h / 2) x ≡ h / 2 / 2 * (x % 2) + faure (h / 2 / 2) (x / 2)) where
  even : h % 2 ≡ 0
  even = power_even h (omega arith) z

  quarter : h / 2 % 2 ≡ 0
  quarter = power_even (h / 2) (omega (arith, even)) (power_half h (omega arith) z)

  low : d < h / 2 → faure h d ≡ h / 2 * (d % 2) + faure (h / 2) (d / 2)
  low a =
      omega (
        arith,
        even_lower h d g even a,
        again d a,
        twice (h / 2 / 2) (h / 2) (d % 2) (omega (arith, quarter)),
        lower (h / 2) (d / 2) (omega (arith, even)) quarter (omega (arith, quarter)),
      )

  high : h / 2 ≤ d → faure h d ≡ h / 2 * (d % 2) + faure (h / 2) (d / 2)
  high a =
      omega (
        arith,
        even_upper h d g even a,
        again (d - h / 2) (omega (arith, even)),
        ap (λ (x : ℕ). h / 2 / 2 * x) {x = (d - h / 2) % 2} {y = d % 2} (omega (arith, quarter)),
        ap (faure (h / 2 / 2)) {x = (d - h / 2) / 2} {y = d / 2 - h / 2 / 2} (omega (arith, quarter)),
        twice (h / 2 / 2) (h / 2) (d % 2) (omega (arith, quarter)),
        upper (h / 2) (d / 2) (omega (arith, even)) quarter (omega (arith, quarter)) (omega (arith, even)),
      )

lowest_in : (f h d : ℕ) → h ≤ f → 2 ≤ h → bit_and h (h - 1) ≡ 0 → d < h → faure h d ≡ h / 2 * (d % 2) + faure (h / 2) (d / 2)
lowest_in zero h d p l z lt = absurd (omega arith)
lowest_in (suc f) h d p l z lt =
    ⊎_elim (λ s. two h d (omega arith) lt)
    (λ g. let again : (x : ℕ) → x < h / 2 → faure (h / 2) x ≡ h / 2 / 2 * (x % 2) + faure (h / 2 / 2) (x / 2) =
    λ x lx. lowest_in f (h / 2) x (omega arith) (omega (arith, power_even h l z)) (power_half h l z) lx in
    ⊎_elim (low h d g z lt again) (high h d g z lt again) (lt_or_ge d (h / 2))) (lt_or_ge h 3)

lowest_first : (h d : ℕ) → 2 ≤ h → bit_and h (h - 1) ≡ 0 → d < h → faure h d ≡ h / 2 * (d % 2) + faure (h / 2) (d / 2)
lowest_first h d = lowest_in h h d (le_refl h)

-- ---- the loop: r has the digits that have been taken, and the image of d in base h is what is left

pub record Reversing (b k h d r : ℕ) : Type 0 where
  pub some : 1 ≤ h
  pub below : d < h
  pub power : bit_and h (h - 1) ≡ 0
  pub kept : r * h + faure h d ≡ faure b k

pub reversing_none : (b k : ℕ) → 2 ≤ b → bit_and b (b - 1) ≡ 0 → k < b → Reversing b k b k 0
reversing_none b k l z lt = record { some = omega arith; below = lt; power = z; kept = omega arith }

step : (r h m d x y : ℕ) → h ≡ 2 * m → x ≡ m * d + y → (2 * r + d) * m + y ≡ r * h + x
step r h m d x y e f = rw (e, f) (omega arith)

module _ {b k h d r : ℕ} (s : Reversing b k h d r) where
  pub reversing_next : 1 < h → Reversing b k (h / 2) (d / 2) (2 * r + d % 2)
  reversing_next g =
      let e : h % 2 ≡ 0 = power_even h g s.power in
      record {
        some = omega arith;
        below = omega (arith, s.below);
        power = power_half h g s.power;
        kept = step r h (h / 2) (d % 2) (faure h d) (faure (h / 2) (d / 2)) (omega arith) (lowest_first h d g s.power s.below) ∙ s.kept;
      }

  pub reversing_le : r ≤ faure b k
  reversing_le = omega (arith, s.kept, mul-le-mul_left r s.some)

  pub reversing_end : h ≤ 1 → r ≡ faure b k
  reversing_end l =
      omega (arith, s.kept, s.some, s.below, faure_two h d (omega arith), ap (λ (x : ℕ). r * x) {x = h} {y = 1} (omega (arith, s.some)))
