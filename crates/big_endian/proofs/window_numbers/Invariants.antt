-- `big_endian::window_numbers` meets its contract: the first k numbers are stored. Assumes nothing.
use mathlib.Core.Path.{◌≡◌}
use Rattle.numbers.specs.Listed.{listed, padded}
use Rattle.big_endian.specs.Bytes.{quad_at}
use Rattle.big_endian.proofs.window_numbers.Given as goal

abbrev pub invariant-loop-k : goal.invariant-loop-k
invariant-loop-k l = l.w ≡ padded 12 (listed (quad_at l.bytes) l.k)
