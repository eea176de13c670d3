-- `sobol::jump` meets its contract: what the digits of the Gray code pick is the stepping rule's point. Assumes nothing.
use mathlib.Core.Path.{◌≡◌, ◌∙◌}
use mathlib.Core.List.{List}
use Prim.Native.Nat.{ℕ}
use Rattle.binary.specs.Gray.{gray}
use Rattle.binary.specs.Gf2.{combination}
use Rattle.sobol.specs.Stepping.{stepped, jumped}
use Rattle.sobol.proofs.SteppingLaws.{jump_is_stepped}
use Rattle.sobol.proofs.jump.Goals as goal

whole : (vs : List ℕ) (n : ℕ) → combination vs (gray n) ≡ stepped vs n
unfolding jumped
whole vs n = jump_is_stepped vs n

pub returns : goal.returns
returns c = c.combine.ensures ∙ whole c.args.v.now c.args.n
