-- `state::with_run` meets its contract: a genuine state's arrays are its plan's; the run and the next point are stored. Assumes nothing.
use Rattle.state.proofs.GenuineLaws.{genuine_is}
use Rattle.state.proofs.StateLaws.{holds_made, genuine_holds, genuine_polynomials}
use Rattle.state.proofs.with_run.Goals as goal

pub returns : goal.returns
returns c =
    let a = c.args in
    let g = genuine_is a.s c.requires in
    λ run e n f. holds_made (genuine_holds g) a.s.polynomials a.starts a.count 0 a.next run (genuine_polynomials g) e n f
