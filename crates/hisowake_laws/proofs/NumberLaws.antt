-- Number 2 (family) is answered by no C call, whatever it is handed (02's K5). Assumes nothing.
use mathlib.Core.Path.{◌≡◌, refl}
use mathlib.Core.List.{List}
use Prim.Native.Nat.{ℕ}
use native.Mathlib.Omega.{arith}
use Rattle.plan.specs.Reading.{Reading, refused, accepted, read_plan}
use Rattle.plan.proofs.OrderLaws.{other_due, none_given}
use Rattle.plan.proofs.RefusalLaws.{refused_range}
use Rattle.hisowake.specs.Calls.{point_code_by, point_code, count_code_by, count_code}

module _ (plan out : List ℕ) where
  pub point_never_two : (index : ℕ) → point_code plan index out ≡ 2 → ⊥
  unfolding point_code point_code_by
  point_never_two index z = go (read_plan plan) refl
    where
      go : (a : Reading) → read_plan plan ≡ a → ⊥
      go (refused n) e = (refused_range plan n e).2 (rw e at z)
      go (accepted p) e = other_due _ _ _ 2 (omega arith) (other_due _ _ _ 2 (omega arith) (none_given 2 (omega arith))) (rw e at z)

  pub count_never_two : (start many : ℕ) (window : List ℕ) → count_code plan start many window out ≡ 2 → ⊥
  unfolding count_code count_code_by
  count_never_two start many window z = go (read_plan plan) refl
    where
      go : (a : Reading) → read_plan plan ≡ a → ⊥
      go (refused n) e = (refused_range plan n e).2 (rw e at z)
      go (accepted p) e =
          other_due _ _ _ 2 (omega arith) (other_due _ _ _ 2 (omega arith) (other_due _ _ _ 2 (omega arith) (none_given 2 (omega arith)))) (rw e at z)
