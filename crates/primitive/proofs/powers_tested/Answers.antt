-- `primitive::powers_tested` meets its contract: the tables are those of the squares, and the exponents are below 2^d. Assumes nothing.
use mathlib.Core.Path.{◌≡◌, ap}
use Prim.Native.Nat.{ℕ, ◌-◌, ◌*◌, ◌%◌, ◌^◌}
use native.Mathlib.Omega.{arith}
use Rattle.primitive.proofs.TopLaws.{top_is}
use Rattle.primitive.proofs.FourLaws.{squaring}
use Rattle.primitive.proofs.ExponentLaws.{five_below, five_powers}
use Rattle.primitive.proofs.powers_tested.Goals as goal
use Rattle.primitive.proofs.powers_tested.Goals.{Start}

-- the first exponent
whole : (s : Start) → 1 * 2 ^ s.args.d % 2 ^ 64 - 1 ≡ 2 ^ s.args.d - 1
whole s = ap (λ (n : ℕ). n - 1) (top_is s.args.d s.requires.1)

pub powers_of_x-requires : goal.powers_of_x-requires
powers_of_x-requires c =
    let below = c.requires.3.below in (
      squaring _ _ c.squares-words.result _ _ _ c.requires.0 c.requires.1 c.requires.2 (omega arith) c.squares-words.ensures
          (record { first = c.four-low.ensures; second = c.four-middle.ensures; third = c.four-high.ensures }),
      five_below _ _ _ _ _ _ (whole (goal.at.powers_of_x-requires c).Start) (below _ (omega arith)) (below _ (omega arith)) (below _ (omega arith)) (below _ (omega arith)),
    )

pub returns : goal.returns
returns c =
    five_powers _ _ _ _ _ (whole (goal.at.returns c).Start) c.powers_of_x.ensures
