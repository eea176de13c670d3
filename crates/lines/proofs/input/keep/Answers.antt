-- One byte is stored, or none. Assumes nothing.
use mathlib.Core.Path.{refl}
use native.Mathlib.Omega.{arith}
use lib.ListN.{length-set}
use Rattle.lines.proofs.input.keep.Goals as goal

pub returns-then-size-lt1024 : goal.returns-then-size-lt1024
returns-then-size-lt1024 c = record { below = λ h. (refl, refl); above = λ h. absurd (omega arith); most = omega arith; size = simp length-set }

pub returns-then-b-eq13 : goal.returns-then-b-eq13
returns-then-b-eq13 c = record { below = λ h. absurd (omega arith); above = λ h. (omega arith, refl); most = omega arith; size = refl }

pub returns-else-b-eq13 : goal.returns-else-b-eq13
returns-else-b-eq13 c = record { below = λ h. absurd (omega arith); above = λ h. (omega arith, refl); most = omega arith; size = refl }

pub returns-else-size-eq1024 : goal.returns-else-size-eq1024
returns-else-size-eq1024 c = record { below = λ h. absurd (omega arith); above = λ h. (omega arith, refl); most = omega arith; size = refl }
