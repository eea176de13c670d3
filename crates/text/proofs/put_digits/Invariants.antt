-- After i turns the first i digits are put, and the next one has the weight at hand. Assumes nothing.
use mathlib.Core.Path.{◌≡◌}
use Rattle.text.specs.Decimal.{decimal_digits}
use Rattle.bits.proofs.OverwriteLaws.{Copied}
use Rattle.text.proofs.DecimalLaws.{weight_of}
use Rattle.text.proofs.put_digits.Given as goal

abbrev pub invariant-loop-i : goal.invariant-loop-i
invariant-loop-i l = (l.weight ≡ weight_of l.k l.i) × Copied l.initial.out l.at (decimal_digits l.k l.n) l.i l.out
