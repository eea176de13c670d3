-- The first weight times the base is the denominator, which fits a word. Assumes nothing.
use mathlib.Core.Path.{◌≡◌, ap, ◌∙◌}
use Prim.Native.Nat.{ℕ, ◌*◌}
use native.Mathlib.Omega.{arith}
use Rattle.numbers.specs.Depth.{denominator}
use Rattle.numbers.proofs.DepthLaws.{denominator_lt, weight_times}
use Rattle.numbers.proofs.denominator.Goals as goal
use Rattle.numbers.proofs.denominator.Goals.{After-first_weight}

pub first_weight-requires : goal.first_weight-requires
first_weight-requires c = c.requires

-- it is the denominator
whole : (c : After-first_weight) → c.first_weight.result * c.args.b ≡ denominator c.args.b
whole c = let b = c.args.b in ap (λ (w : ℕ). w * b) c.first_weight.ensures ∙ weight_times b (omega arith)

pub overflow_mul-result : goal.overflow_mul-result
overflow_mul-result c = omega (arith, whole c, denominator_lt c.args.b (omega arith) (omega arith))

pub returns : goal.returns
returns c = whole c
