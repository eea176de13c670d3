-- The words with one of them set are those of the answer. Assumes nothing.
use Rattle.state_words.specs.Words.{poked}
use borrow.Author.Rules.{rules}
use Rattle.state_words.proofs.poke.Goals as goal

pub returns : goal.returns
unfolding poked
returns c = rw c.words_of-words.ensures at c.state_of.ensures
