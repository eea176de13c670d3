-- The leading cut takes the first points of a day set: as many as the least number m with u × N at most m × q. Assumes nothing.
use mathlib.Core.Path.{◌≡◌, refl}
use mathlib.Core.List.{List}
use Prim.Native.Nat.{ℕ, suc, ◌+◌, ◌-◌, ◌*◌, ◌≤◌, ◌<◌}
use native.Mathlib.Nat.{le_of_suc-le-suc, mul-le-mul_right, div-mul-le_self, lt-div-mul-add, div-lt_iff_lt-mul}
use native.Mathlib.Omega.{arith}
use lib.ListN.{drop}
use Rattle.numbers.proofs.CountLaws.{count_first}
use Rattle.plan.specs.Plan.{Plan}
use Rattle.points.specs.Run.{one_start, index_at, run_numerator}
use Rattle.day_set.specs.DaySet.{day_run}
use Rattle.window.specs.Counting.{Cut, u_of, q_of, axis_inside, step_inside, inside_count}
use Rattle.inside_count.specs.Flagging.{cut_limit}
use Rattle.inside_count.proofs.FlagLaws.{limit_cut}
use Rattle.day_count.specs.Count.{day_inside, day_inside_count}

module _ (u q N : ℕ) (pos : 0 < q) where
  pub limit_reaches : u * N ≤ cut_limit u q N * q
  unfolding cut_limit
  limit_reaches = omega (arith, lt-div-mul-add {a = u * N + (q - 1)} {b = q} pos)

  pub limit_near : cut_limit u q N * q < u * N + q
  unfolding cut_limit
  limit_near = omega (arith, div-mul-le_self (u * N + (q - 1)) q)

  pub limit_within : u ≤ q → cut_limit u q N ≤ N
  unfolding cut_limit
  limit_within h = le_of_suc-le-suc ((div-lt_iff_lt-mul {k = q} {x = u * N + (q - 1)} {y = suc N} pos).1 (omega (arith, mul-le-mul_right N h)))

-- how many of N points the leading cut takes
abbrev pub first_of : List Cut → ℕ → ℕ
first_of w N = cut_limit (u_of w 0) (q_of w 0) N

-- those of them that are inside the other cuts are all that are inside
pub day_first : (p : Plan) (w : List Cut) (N : ℕ) → 0 < q_of w 0 → u_of w 0 ≤ q_of w 0
    → day_inside_count p w N ≡ inside_count p (drop 1 w) (day_run p (first_of w N))
unfolding day_inside_count day_inside inside_count step_inside axis_inside run_numerator index_at one_start
day_first p w N pos h =
    count_first (day_inside p w N) (step_inside p (drop 1 w) (day_run p (first_of w N))) (first_of w N) N (limit_within (u_of w 0) (q_of w 0) N pos h)
    (λ n. rw (limit_cut n N (u_of w 0) (q_of w 0) pos) refl)
