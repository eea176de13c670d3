-- `state::plan_directions` meets its contract: the plan of the answer is the one whose family decides. Assumes nothing.
use mathlib.Core.Path.{◌≡◌, ◌∙◌, subst}
use native.Mathlib.Omega.{arith}
use borrow.Author.Rules.{rules}
use lib.ListN.{length}
use Rattle.plan.specs.Plan.{Valid}
use Rattle.state.proofs.StateLaws.{accepted_few, answered_sobol, directions_sobol, directions_halton}
use Rattle.state.proofs.plan_directions.Goals as goal

pub returns-then-a-ne2 : goal.returns-then-a-ne2
returns-then-a-ne2 c = directions_halton c.args.a (λ e. omega arith)

pub direction_table-requires : goal.direction_table-requires
direction_table-requires c =
    let a = c.args.a in
    let six : length a.polynomials ≡ 6 = search rules in
    let all : length a.ms ≡ 72 = search rules in
    (accepted_few c.requires, omega (arith, accepted_few c.requires), omega arith, subst Valid (answered_sobol a (omega arith)) c.requires.valid)

pub returns : goal.returns
returns c =
    c.direction_table.ensures ∙ directions_sobol c.args.a (omega arith)
