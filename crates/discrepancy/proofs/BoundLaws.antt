-- The discrepancy bound of demand 3: axis by axis, the test of being inside stays fair, and all N steps are a progression. Assumes nothing.
use mathlib.Core.Path.{◌≡◌}
use mathlib.Core.Logic.{⊎_elim}
use Prim.Native.Nat.{ℕ, zero, suc, ◌*◌, ◌^◌, ◌≤◌, ◌<◌}
use native.Mathlib.Nat.{le_refl, le_of_lt, dvd_refl, dvd-zero, mul-le-mul_right}
use native.Mathlib.Omega.{arith}
use Rattle.numbers.specs.Gcd.{Coprime, Invertible}
use Rattle.numbers.specs.Count.{count, each}
use Rattle.numbers.specs.Digits.{digit_count, product_to}
use Rattle.numbers.proofs.Cases.{lt_or_ge}
use Rattle.numbers.proofs.GcdLaws.{gcd_one_iff_coprime}
use Rattle.numbers.proofs.InverseLaws.{invertible_one, invertible_mul, gcd_one_iff_invertible}
use Rattle.numbers.proofs.DigitLaws.{digit_count_reaches}
use Rattle.numbers.proofs.DepthLaws.{depth_covers}
use Rattle.discrepancy.specs.Bound.{CutAxis, in_cut, inside, factor, bound, base_of, u_of, q_of, Near, Sound, SoundAxes, halton_axes, HaltonRun}
use Rattle.discrepancy.proofs.FairLaws.{Fair, fair_none, fair_near, fair_axis}

pub invertible : (m b : ℕ) → Coprime m b → Invertible m b
invertible m b c = (gcd_one_iff_invertible m b).0 ((gcd_one_iff_coprime m b).1 c)

-- an axis's depth covers the number of steps
steps_le : (N : ℕ) (a : CutAxis) → Sound N a → N ≤ a.base ^ a.depth
steps_le zero a z = omega arith
steps_le (suc n) a z = omega (arith, z.reach n (le_refl (suc n)), mul-le-mul_right n moves)
  where
    still : a.stride ≤ 0 → 0 < a.stride
    still h = absurd (omega (arith, z.base_big, z.stride_coprime a.base (rw stopped (dvd-zero a.base)) (dvd_refl a.base)))
      where
        stopped : a.stride ≡ 0
        stopped = omega arith

    moves : 0 < a.stride
    moves = ⊎_elim (λ h. h) still (lt_or_ge 0 a.stride)

-- without the last axis
pub fewer : {N : ℕ} {ax : ℕ → CutAxis} (s : ℕ) → SoundAxes N ax (suc s) → SoundAxes N ax s
fewer s z = record { sound = λ i l. z.sound i (omega arith); coprime = λ i j l m. z.coprime i j l (omega arith) }

-- M is coprime to each of the s bases
abbrev pub Apart : (ℕ → CutAxis) → ℕ → ℕ → Type 0
Apart ax s M = (i : ℕ) → i < s → Invertible M (ax i).base

pub axes_fair : (N : ℕ) (ax : ℕ → CutAxis) (s : ℕ) → SoundAxes N ax s
    → Fair N (Apart ax s) (inside ax s) (product_to (u_of ax) s) (product_to (q_of ax) s) (bound (base_of ax) s N)
unfolding in_cut inside each product_to factor
axes_fair N ax zero z = fair_none N (Apart ax 0)
axes_fair N ax (suc s) z =
    fair_axis last.permutes (omega (arith, last.base_big)) (axes_fair N ax s (fewer s z)) closed
    a.q last.q_pos (Apart ax (suc s)) (λ M m. (λ i l. m i (omega arith), m s (le_refl (suc s))))
    a.start a.stride a.depth (digit_count a.base N) a.u last.u_le (invertible a.stride a.base last.stride_coprime)
    (le_of_lt (digit_count_reaches a.base N last.base_big)) (steps_le N a last)
  where
    a : CutAxis
    a = ax s

    last : Sound N a
    last = z.sound s (le_refl (suc s))

    closed : (M : ℕ) → Apart ax s M → Apart ax s (M * a.base)
    closed M m i l = invertible_mul (m i l) (invertible a.base (ax i).base (z.coprime s i l (le_refl (suc s))))

pub axes_near : (N : ℕ) (ax : ℕ → CutAxis) (s : ℕ) → SoundAxes N ax s → Near N (count (inside ax s) N) (product_to (u_of ax) s) (product_to (q_of ax) s) (bound (base_of ax) s N)
axes_near N ax s z = fair_near (axes_fair N ax s z) (λ i l. invertible_one (ax i).base)

-- ---- a run with indexes below 2^32

module _ (N s : ℕ) (σ : ℕ → ℕ → ℕ) (b start : ℕ → ℕ) (r : ℕ) (u q : ℕ → ℕ) (z : HaltonRun N s σ b start r u q) where
  pub halton_sound : SoundAxes N (halton_axes σ b start r u q) s
  unfolding halton_axes
  halton_sound =
      record {
        sound = λ i l.
            record {
              base_big = z.base_big i l;
              permutes = z.permutes i l;
              stride_coprime = z.stride_coprime i l;
              reach = λ t h. depth_covers (b i) _ (z.base_big i l) (z.index i t l h);
              q_pos = z.q_pos i l;
              u_le = z.u_le i l;
            };
        coprime = z.coprime;
      }

  -- Demand 3: of N steps as many are inside as the window's share of N, to within the bound.
  pub halton_near : Near N (count (inside (halton_axes σ b start r u q) s) N) (product_to u s) (product_to q s) (bound b s N)
  unfolding halton_axes
  halton_near = axes_near N (halton_axes σ b start r u q) s halton_sound
