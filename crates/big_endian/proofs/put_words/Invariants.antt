-- After i turns the first i words are written, 8 bytes each. Assumes nothing.
use mathlib.Core.Path.{◌≡◌}
use lib.ListN.{take}
use Rattle.bits.specs.Stream.{overwrite}
use Rattle.big_endian.specs.Bytes.{word_bytes}
use Rattle.big_endian.proofs.put_words.Given as goal

abbrev pub invariant-loop-i : goal.invariant-loop-i
invariant-loop-i l = l.out ≡ overwrite l.initial.out 0 (word_bytes (take l.i l.words))
