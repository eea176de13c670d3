-- `state::moved_on` meets its contract: a genuine state's arrays and starts are its plan's and its run's. Assumes nothing.
use mathlib.Core.Path.{refl}
use Rattle.state.specs.State.{run_in}
use Rattle.state.proofs.GenuineLaws.{genuine_is}
use Rattle.state.proofs.StateLaws.{holds_made, genuine_holds, genuine_polynomials, genuine_starts}
use Rattle.state.proofs.moved_on.Goals as goal

pub returns : goal.returns
returns c =
    let a = c.args in
    let g = genuine_is a.s c.requires.0 in
    holds_made (genuine_holds g) a.s.polynomials a.s.starts a.s.count a.taken a.next (run_in a.s) (genuine_polynomials g) (genuine_starts g) refl c.requires.1
