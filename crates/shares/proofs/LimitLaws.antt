-- The limit by parts: the bound's whole part, and what its rest gives. Assumes nothing.
use mathlib.Core.Path.{◌≡◌, ap, ◌∙◌}
use mathlib.Core.Logic.{⊎_elim}
use Prim.Native.Nat.{ℕ, ◌+◌, ◌*◌, ◌-◌, ◌/◌, ◌%◌, ◌^◌, ◌<◌, ◌≤◌}
use native.Mathlib.Nat.{mul-add-div_right, div-add-mod', mod-lt, div-lt_iff_lt-mul, mul-le-mul_left}
use native.Mathlib.Omega.{arith}
use Rattle.numbers.proofs.Cases.{lt_or_ge}
use Rattle.shares.specs.declared.NineDecimals.{NineDecimals}
use Rattle.shares.specs.Rounding.{limit_of, billionths}

-- what the rest gives, rounded up
abbrev pub up_of : ℕ → ℕ → ℕ
up_of bound n = (bound % n * 10 ^ 9 + (n - 1)) / n

module _ (bound n : ℕ) (pos : 1 ≤ n) where
  by_parts : bound * 10 ^ 9 + (n - 1) ≡ bound / n * 10 ^ 9 * n + (bound % n * 10 ^ 9 + (n - 1))
  by_parts = omega (arith, div-add-mod' bound n)

  pub limit_parts : limit_of bound n ≡ bound / n * 10 ^ 9 + up_of bound n
  unfolding limit_of
  limit_parts = ap (λ (x : ℕ). x / n) by_parts ∙ mul-add-div_right (omega arith) (bound / n * 10 ^ 9) (bound % n * 10 ^ 9 + (n - 1))

  pub rest_low : bound % n ≤ n - 1
  rest_low = omega (arith, mod-lt bound {m = n} (omega arith))

  -- the whole part fits, whatever below n is added to the rest
  pub whole_fits : (t : ℕ) → t ≤ n - 1 → bound < 2 ^ 64 → bound / n + (bound % n * 10 ^ 9 + t) / n / 10 ^ 9 < 2 ^ 64
  whole_fits t low h = ⊎_elim one (λ two. omega (arith, up_low, div-add-mod' bound n, mul-le-mul_left (bound / n) two)) (lt_or_ge n 2)
    where
      up_low : (bound % n * 10 ^ 9 + t) / n < 10 ^ 9 + 1
      up_low = (div-lt_iff_lt-mul {k = n} {x = bound % n * 10 ^ 9 + t} {y = 10 ^ 9 + 1} (omega arith)).1 (omega (arith, rest_low))

      one : n < 2 → bound / n + (bound % n * 10 ^ 9 + t) / n / 10 ^ 9 < 2 ^ 64
      one l =
          let e : n ≡ 1 = omega arith in
          let none : (bound % n * 10 ^ 9 + t) / n < 1 = (div-lt_iff_lt-mul {k = n} {x = bound % n * 10 ^ 9 + t} {y = 1} (omega arith)).1 (omega (arith, rest_low)) in
          let all : bound / n * n ≡ bound / n = rw e (omega arith) in
          omega (arith, div-add-mod' bound n)

pub parts_of : (w u x : ℕ) → x ≡ w * 10 ^ 9 + u → ◌≡◌ {A = NineDecimals} (record { whole = w + u / 10 ^ 9; part = u % 10 ^ 9 }) (billionths x)
parts_of w u x e =
    let whole : w + u / 10 ^ 9 ≡ x / 10 ^ 9 = omega arith in
    let part : u % 10 ^ 9 ≡ x % 10 ^ 9 = omega arith in
    cc
