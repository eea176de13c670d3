-- The loop has read and stored the first i axes, and the rest of the reading decides. Assumes nothing.
use mathlib.Core.Path.{sym}
use native.Mathlib.Omega.{arith}
use Rattle.std.proofs.lemmas.Result.{err_from_is_err_and}
use Rattle.sobol_reader.proofs.AxesLaws.{axes_start, axes_end, axes_stop, axes_next}
use Rattle.sobol_reader.proofs.read_axes.Goals as goal

pub loop-i-init : goal.loop-i-init
loop-i-init c = axes_start _ _ (omega arith)

pub slice_bounds-read_axis-end : goal.slice_bounds-read_axis-end
slice_bounds-read_axis-end c = sym c.loop-i.invariant.size_ps

pub returns-in_err-x : goal.returns-in_err-x
returns-in_err-x c =
    let p = err_from_is_err_and c.from_residual.result c.from_residual.ensures.1 in
    rw (p.1, p.2) (axes_stop c.loop-i.invariant (omega arith) (omega arith) c.in_err-x.ensures)

pub slice_bounds-store-end : goal.slice_bounds-store-end
slice_bounds-store-end c = sym c.loop-i.invariant.size_ms

pub slice_bounds-store-end-in-loop-i : goal.slice_bounds-store-end-in-loop-i
slice_bounds-store-end-in-loop-i c = sym c.in_ok-x.ensures.size

pub loop-i-preserved : goal.loop-i-preserved
loop-i-preserved c =
    rw c.store.ensures (axes_next c.loop-i.invariant (omega arith) (omega arith) c.in_ok-x.ensures)

pub returns : goal.returns
returns c = axes_end c.loop-i.invariant (omega arith) (omega arith)
