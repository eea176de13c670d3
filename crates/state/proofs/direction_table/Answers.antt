-- `state::direction_table` meets its contract. The loop's invariant: the table holds the direction numbers of the first i axes, and zeros
-- follow. Assumes nothing.
use mathlib.Core.Path.{◌≡◌, ap, ◌∙◌}
use mathlib.Core.List.{List}
use Prim.Native.Nat.{ℕ, ◌*◌}
use native.Mathlib.Omega.{arith}
use borrow.Author.Rules.{rules}
use lib.ListN.{get_or}
use Rattle.sobol.specs.Directions.{directions}
use Rattle.bits.specs.Stream.{overwrite}
use Rattle.plan.specs.Answer.{axis_at}
use Rattle.points.specs.Point.{axis_directions}
use Rattle.state.proofs.TableLaws.{words, words_length, Turn, table_turn, table_at, table_none, table_next}
use Rattle.state.proofs.direction_table.Goals as goal
use Rattle.state.proofs.direction_table.Goals.{After-direction_numbers-v, In-loop-i}

pub loop-i-init : goal.loop-i-init
loop-i-init c =
    let a = c.args in
    (search rules, table_none a.polynomials.now a.ms.now)

-- the turn's axis
turn : (c : In-loop-i)
    → let a = c.args in Turn a.polynomials.now a.ms.now c.loop-i.i
turn c =
    table_turn c.args.polynomials.now c.args.ms.now c.args.axes c.loop-i.i c.requires.3 (omega arith)

pub degree-requires : goal.degree-requires
degree-requires c = (turn (goal.at.degree-requires c).In-loop-i).degree_high

pub direction_numbers-v-requires : goal.direction_numbers-v-requires
direction_numbers-v-requires c =
    let i = c.loop-i.i in
    let t = turn (goal.at.direction_numbers-v-requires c).In-loop-i in
    let e = c.degree.ensures in
    (rw e t.degree_high, rw e (omega (arith, t.degree_high, words_length c.args.ms.now i (omega arith))), rw e t.given)

-- what is stored
drawn : (c : After-direction_numbers-v)
    → let a = c.args in
    c.direction_numbers-v.result ≡ axis_directions (axis_at a.polynomials.now a.ms.now c.loop-i.i)
drawn c = let turn : let a = c.args in Turn a.polynomials.now a.ms.now c.loop-i.i = table_turn c.args.polynomials.now c.args.ms.now c.args.axes c.loop-i.i c.requires.3 (omega arith) in
    let a = c.args in
    let i = c.loop-i.i in
    c.direction_numbers-v.ensures
    ∙ ap (λ (d : ℕ). directions d (get_or a.polynomials.now i 0) (words a.ms.now i)) c.degree.ensures
    ∙ (turn).is

pub loop-i-preserved : goal.loop-i-preserved
loop-i-preserved c =
    let a = c.args in
    let l = c.loop-i in
    let v = c.direction_numbers-v.result in (
      search rules,
      c.store.ensures ∙ ap (λ (t : List ℕ). overwrite t (32 * l.i) v) l.invariant.1
          ∙ table_next a.polynomials.now a.ms.now l.i v (omega arith) (drawn (goal.at.loop-i-preserved c).After-direction_numbers-v),
    )

pub returns : goal.returns
returns c =
    let a = c.args in
    let l = c.loop-i in
    let e : l.i ≡ a.axes = omega arith in
    l.invariant.1 ∙ ap (table_at a.polynomials.now a.ms.now) e
