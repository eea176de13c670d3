-- `class_count::within_rest` meets its contract. Assumes nothing.
use Rattle.strips.proofs.TableLaws.{rest_out, rest_in, rest_free}
use Rattle.class_count.proofs.within_rest.Goals as goal

pub returns-then-not-below_rest : goal.returns-then-not-below_rest
returns-then-not-below_rest c = let a = c.args in
    rest_out a.l.now a.rows.now a.s a.v a.u a.x c.below_rest.ensures c.if-not-below_rest.true

pub returns-then-v-eq0 : goal.returns-then-v-eq0
returns-then-v-eq0 c = let a = c.args in
    rest_free a.l.now a.rows.now a.s a.v a.u a.x c.below_rest.ensures c.if-not-below_rest.false c.if-v-eq0.true

pub returns : goal.returns
returns c = let a = c.args in
    rest_in a.l.now a.rows.now a.s a.v a.u a.x c.below_rest.ensures c.if-not-below_rest.false c.below_rest-2.ensures
