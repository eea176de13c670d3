-- `points::has_starts` meets its contract: the number of starts, then the family, then the starts. Assumes nothing.
use mathlib.Core.Path.{sym, ◌∙◌}
use native.Mathlib.Omega.{arith}
use Rattle.points.proofs.RunLaws.{starts_many, starts_free, starts_shared}
use Rattle.points.proofs.has_starts.Goals as goal

pub returns-then-starts-axes : goal.returns-then-starts-axes
returns-then-starts-axes c = let a = c.args in sym (starts_many a.starts.now a.family a.axes (λ e. omega arith))

pub returns-then-family-ne2 : goal.returns-then-family-ne2
returns-then-family-ne2 c =
    let a = c.args in
    sym (starts_free a.starts.now a.family a.axes (omega arith) (λ e. omega arith))

pub same_starts-requires : goal.same_starts-requires
same_starts-requires c = tt

pub returns : goal.returns
returns c =
    let a = c.args in
    c.same_starts.ensures ∙ starts_shared a.starts.now a.family a.axes (omega arith) (omega arith)
