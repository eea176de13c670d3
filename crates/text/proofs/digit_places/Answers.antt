-- A number below 2^40 has at most thirteen decimal digits. Assumes nothing.
use native.Mathlib.Omega.{arith}
use Rattle.text.proofs.DecimalLaws.{places_few}
use Rattle.text.proofs.digit_places.Goals as goal

pub returns-else-k-eq0 : goal.returns-else-k-eq0
returns-else-k-eq0 c = omega (arith, places_few c.args.n (omega arith))
