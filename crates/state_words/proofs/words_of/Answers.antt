-- Seven stores in a row are one, of the words of the state. Assumes nothing.
-- the places after the stores, from the last to the start
use mathlib.Core.Path.{refl, sym}
use native.Mathlib.Omega.{arith}
use Rattle.fitting.specs.Fits.{Sized}
use Rattle.state_words.proofs.WordLaws.{stored_plan, stored}
use borrow.Author.Rules.{rules}
use Rattle.state_words.proofs.words_of.Goals as goal
use Rattle.state_words.proofs.words_of.Goals.{After-store}

sized : (c : After-store) → Sized c.args.s
sized c =
    record { bases = search rules; polynomials = search rules; directions = search rules; starts = search rules; numerators = search rules }

pub store-requires-2 : goal.store-requires-2
store-requires-2 c = omega (arith, (sized (goal.at.store-requires-2 c).After-store).bases)

pub store-requires-3 : goal.store-requires-3
store-requires-3 c = omega (arith, (sized (goal.at.store-requires-3 c).After-store).polynomials)

pub store-requires-4 : goal.store-requires-4
store-requires-4 c = omega (arith, (sized (goal.at.store-requires-4 c).After-store).directions)

pub slice_bounds-store-end-10 : goal.slice_bounds-store-end-10
slice_bounds-store-end-10 c = sym (sized (goal.at.slice_bounds-store-end-10 c).After-store).starts

pub store-requires-5 : goal.store-requires-5
store-requires-5 c = omega (arith, (sized (goal.at.store-requires-5 c).After-store).starts)

pub slice_bounds-store-end-14 : goal.slice_bounds-store-end-14
slice_bounds-store-end-14 c = sym (sized (goal.at.slice_bounds-store-end-14 c).After-store).numerators

pub store-requires-7 : goal.store-requires-7
store-requires-7 c = omega (arith, (sized (goal.at.store-requires-7 c).After-store).numerators)

pub returns : goal.returns
returns c =
    let z = sized (goal.at.returns c).After-store in
    stored _ _ refl z (stored_plan _ _ refl z c.store.ensures c.store-2.ensures c.store-3.ensures c.store-4.ensures)
    c.store-5.ensures c.store-6.ensures c.store-7.ensures
