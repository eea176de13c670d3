-- Each field is its part of the words. Assumes nothing.
use mathlib.Core.Path.{refl}
use Rattle.state_words.specs.Words.{from_words}
use borrow.Author.Rules.{rules}
use Rattle.state_words.proofs.state_of.Goals as goal

pub returns : goal.returns
unfolding from_words
returns c =
    rw (c.part-5.ensures, c.part-4.ensures, c.part-3.ensures, c.part-2.ensures, c.part.ensures) refl
