-- A point is compared where one is left, and zeros where none is. Assumes nothing.
use native.Mathlib.Omega.{arith}
use Rattle.points.specs.Run.{index_at}
use Rattle.points.proofs.RunLaws.{within_less}
use Rattle.fitting.proofs.AnswerLaws.{rests}
use Rattle.genuine.proofs.is_next.Goals as goal

pub is_point-requires : goal.is_point-requires
is_point-requires c =
    (c.requires.0, within_less c.requires.1 (omega arith))

pub returns-then-s : goal.returns-then-s
unfolding index_at
returns-then-s c = rests c.is_point.ensures (λ z. record { some = λ h. z; none = λ h. absurd (omega arith) }) (λ f. f.some (omega arith))

pub returns : goal.returns
returns c = rests c.is_zero.ensures (λ z. record { some = λ h. absurd (omega arith); none = λ h. z }) (λ f. f.none (omega arith))
