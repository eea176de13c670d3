-- None of the first polynomials is p; where one is, it decides for all of them. Assumes nothing.
use native.Mathlib.Omega.{arith}
use mathlib.Core.Path.{◌≡◌, sym, ◌∙◌}
use lib.ListN.{length, take}
use lib.Seq.{get_or-take, length-take-le}
use Rattle.sobol_reader.proofs.AxisLaws.{repeated_none, repeated_stop, repeated_next}
use Rattle.sobol_reader.proofs.is_repeated.Goals as goal

pub loop-q-init : goal.loop-q-init
loop-q-init c = repeated_none _ _

pub returns-then-p-q : goal.returns-then-p-q
returns-then-p-q c =
    let a = c.args in
    let i = c.loop-q.q-index in
    let long : length (take a.n a.polynomials.now) ≡ a.n = length-take-le _ _ (omega arith) in
    λ ms. repeated_stop a.p a.polynomials.now ms i a.n (omega arith) (c.if-p-q.true ∙ get_or-take a.n a.polynomials.now i 0 (omega arith))

pub loop-q-preserved : goal.loop-q-preserved
loop-q-preserved c =
    let a = c.args in
    let i = c.loop-q.q-index in
    let long : length (take a.n a.polynomials.now) ≡ a.n = length-take-le _ _ (omega arith) in
    repeated_next c.loop-q.invariant (λ e. omega (arith, get_or-take a.n a.polynomials.now i 0 (omega arith)))

pub returns : goal.returns
returns c =
    let a = c.args in
    let long : length (take a.n a.polynomials.now) ≡ a.n = length-take-le _ _ (omega arith) in
    let end : c.loop-q.q-index ≡ a.n = omega arith in
    λ ms. sym (rw end at (c.loop-q.invariant.none ms))
