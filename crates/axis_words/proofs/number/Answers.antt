-- What the word spells, or none. Assumes nothing.
use Rattle.std.proofs.Common.{sym}
use Rattle.axis_words.proofs.PartLaws.{number_read}
use Rattle.axis_words.proofs.number.Goals as goal

pub returns : goal.returns
returns c = rw c.ok.ensures.value (number_read _ _ (sym c.decimal.ensures))
