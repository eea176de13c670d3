-- How far the rounded product lies from the exact one, and the product by parts. Assumes nothing.
use mathlib.Core.Path.{◌≡◌, refl, sym, ap, subst, ◌∙◌}
use mathlib.Core.Bool.{true}
use mathlib.Core.List.{List}
use Prim.Native.Nat.{ℕ, zero, suc, ◌+◌, ◌*◌, ◌/◌, ◌%◌, ◌^◌, ◌<◌, ◌≤◌}
use native.Mathlib.Nat.{mul-add-div_right, div-add-mod', mod-lt, div-mul-le_self, lt-mul-div-succ, mul-le-mul_left, mul-le-mul_right, div-le_of_le-mul}
use native.Mathlib.Numerals.{add-one}
use native.Mathlib.Omega.{arith}
use Rattle.numbers.specs.Digits.{product_to}
use Rattle.window.specs.Counting.{Cut, is_window}
use Rattle.window.proofs.PlanLaws.{cuts_at}
use Rattle.window.proofs.RangeLaws.{window_cuts, window_room}
use Rattle.volumes.specs.Volume.{u_at, q_at, finely_to}

module _ (v u q : ℕ) (pos : 1 ≤ q) where
  by_parts : v * u ≡ v / q * u * q + v % q * u
  by_parts = omega (arith, ap (λ (x : ℕ). x * u) (div-add-mod' v q))

  pub cut_parts : v / q * u + v % q * u / q ≡ v * u / q
  cut_parts = sym (ap (λ (x : ℕ). x / q) by_parts ∙ mul-add-div_right (omega arith) (v / q * u) (v % q * u))

  pub cut_least : u ≤ q → v * u / q ≤ v
  cut_least h = div-le_of_le-mul q (omega (arith, mul-le-mul_left v h))

  pub rest_low : v % q < q
  rest_low = mod-lt v {m = q} (omega arith)

module _ (w : List ℕ) where
  pub finely_none : finely_to w 0 ≡ 10 ^ 18
  unfolding finely_to
  finely_none = refl

  pub finely_next : (s : ℕ) → finely_to w (s + 1) ≡ finely_to w s * u_at w s / q_at w s
  unfolding finely_to
  finely_next s = rw add-one refl

-- a window's cuts are such that one more can be taken
module _ (w : List ℕ) (s : ℕ) (h : is_window w s ≡ true) (i : ℕ) (l : i < s) where
  pub cut_fine : (1 ≤ q_at w i) × (q_at w i ≤ 2 ^ 24) × (u_at w i ≤ q_at w i)
  cut_fine = let r = window_room w s h in (r.q_pos i l, r.q_small i l, subst (λ (x : Cut). x.u ≤ x.q) (cuts_at w s i l) ((window_cuts w s h).u_le i l))

-- one cut more: the product is rounded down by less than one
step_low : (v u q U Q : ℕ) → v * Q ≤ 10 ^ 18 * U → v * u / q * (Q * q) ≤ 10 ^ 18 * (U * u)
step_low v u q U Q h =
    let a : v * u / q * q ≤ v * u = div-mul-le_self (v * u) q in
    omega (arith, mul-le-mul_right Q a, mul-le-mul_right u h)

step_high : (v u q U Q s : ℕ) → 1 ≤ q → u ≤ q → 10 ^ 18 * U ≤ (v + s) * Q → 10 ^ 18 * (U * u) ≤ (v * u / q + (s + 1)) * (Q * q)
step_high v u q U Q s pos le h =
    let a : v * u < q * (v * u / q + 1) = lt-mul-div-succ (v * u) (omega arith) in
    let b : v * u ≤ q * (v * u / q + 1) = omega (arith, a) in
    omega (arith, mul-le-mul_right Q b, mul-le-mul_right u h, mul-le-mul_left (s * Q) le)

-- U / Q lies above the rounded product, by at most 10^-18 for each cut
module _ (w : List ℕ) where
  pub volume_low : (s : ℕ) → finely_to w s * product_to (q_at w) s ≤ 10 ^ 18 * product_to (u_at w) s
  unfolding finely_to product_to
  volume_low zero = omega arith
  volume_low (suc s) = step_low (finely_to w s) (u_at w s) (q_at w s) (product_to (u_at w) s) (product_to (q_at w) s) (volume_low s)

  pub volume_high : (s : ℕ) → ((i : ℕ) → i < s → (1 ≤ q_at w i) × (u_at w i ≤ q_at w i)) → 10 ^ 18 * product_to (u_at w) s ≤ (finely_to w s + s) * product_to (q_at w) s
  unfolding finely_to product_to
  volume_high zero c = omega arith
  volume_high (suc s) c =
      rw (← add-one s)
      (step_high (finely_to w s) (u_at w s) (q_at w s) (product_to (u_at w) s) (product_to (q_at w) s) s (c s (omega arith)).0 (c s (omega arith)).1
      (volume_high s (λ i l. c i (omega arith))))
