-- `class_count::is_inside` meets its contract: the step is inside on all axes where it is on those that are left. Assumes nothing.
use mathlib.Core.Path.{◌≡◌, sym, ap, ◌∙◌}
use mathlib.Core.Bool.{Bool, ◌&&◌}
use Prim.Native.Nat.{ℕ, ◌-◌}
use native.Mathlib.Omega.{arith}
use Rattle.strips.specs.Ends.{inside_ends}
use Rattle.strips.specs.Classes.{table_axes}
use Rattle.strips.proofs.TableLaws.{table_none, table_more}
use Rattle.class_count.proofs.is_inside.Goals as goal
use Rattle.class_count.proofs.is_inside.Goals.{After-within_rest, In-loop-a}

-- the step is inside on the axes that a turn leaves
abbrev left : (c : After-within_rest) → Bool
left c =
    let a = c.args in
    inside_ends (table_axes a.l.now a.rows.now) (c.loop-a.a - 1) a.o

turn : (c : After-within_rest) →
    let a = c.args in
    inside_ends (table_axes a.l.now a.rows.now) a.s a.o ≡ c.within_rest.result && left c
turn c =
    let a = c.args in
    c.loop-a.invariant
    ∙ table_more a.l.now a.rows.now c.loop-a.a a.o (omega arith)
    ∙ ap (λ (y : Bool). y && left c) (sym c.within_rest.ensures)

pub returns-then-not-within_rest : goal.returns-then-not-within_rest
returns-then-not-within_rest c = sym (turn (goal.at.returns-then-not-within_rest c).After-within_rest ∙ ap (λ (y : Bool). y && left (goal.at.returns-then-not-within_rest c).After-within_rest) c.if-not-within_rest.true)

pub loop-a-preserved : goal.loop-a-preserved
loop-a-preserved c = turn (goal.at.loop-a-preserved c).After-within_rest ∙ ap (λ (y : Bool). y && left (goal.at.loop-a-preserved c).After-within_rest) c.if-not-within_rest.false

pub returns : goal.returns
returns c = let a = c.args in
    let l = c.loop-a in
    let ax = table_axes a.l.now a.rows.now in
    sym (l.invariant ∙ ap (λ (j : ℕ). inside_ends ax j a.o) {x = l.a} {y = 0} (omega arith) ∙ table_none a.l.now a.rows.now a.o)
