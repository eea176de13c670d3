-- `sobol_tables::table_size` meets its contract: 2^3 and 2^8. Assumes nothing.
use mathlib.Core.Path.{refl}
use native.Mathlib.Omega.{arith}
use Rattle.sobol_tables.proofs.table_size.Goals as goal

pub returns-then-m-lt64 : goal.returns-then-m-lt64
returns-then-m-lt64 c = (omega arith, record { exponent = 3; is = refl })

pub returns-else-m-lt64 : goal.returns-else-m-lt64
returns-else-m-lt64 c = (omega arith, record { exponent = 8; is = refl })
