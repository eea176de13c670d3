-- `primitive::four` meets its contract: the entries are a table that is doubled word by word. Assumes nothing.
use Rattle.primitive.proofs.FourLaws.{four_at}
use Rattle.primitive.proofs.four.Goals as goal

pub returns : goal.returns
returns c = four_at c.args.words.now c.requires
