-- The loop's invariant: x is the shifted word xor the first k terms. Assumes nothing.
use mathlib.Core.Path.{◌≡◌, refl, ap, ◌∙◌}
use Prim.Native.Nat.{◌+◌, ◌-◌, ◌/◌, ◌^◌, ◌≤◌}
use native.Mathlib.Omega.{arith}
use lib.ListN.{get_or}
use Rattle.fitting.specs.Fits.{v_terms}
use Rattle.fitting.proofs.WordLaws.{digit_times_lt, terms_next, rule_terms, rule_shift}
use Rattle.axis_test.proofs.by_rule.Goals as goal

pub returns-then-d-eq0 : goal.returns-then-d-eq0
returns-then-d-eq0 c = let a = c.args in rule_shift a.d a.p a.v.now a.i (omega arith)

pub loop-k-init : goal.loop-k-init
unfolding v_terms
loop-k-init c = refl

pub overflow_mul-x : goal.overflow_mul-x
overflow_mul-x c =
    let a = c.args in
    let l = c.loop-k in
    let j = l.k + 1 in
    omega (arith, digit_times_lt (a.p / 2 ^ (a.d - j)) (get_or a.v.now (a.i - j) 0) (omega (arith, c.shared_slice_known-in-loop-k-1.given (a.i - j))))

pub loop-k-preserved : goal.loop-k-preserved
loop-k-preserved c =
    let a = c.args in
    let l = c.loop-k in
    terms_next a.d a.p a.v.now a.i l.k l.x l.invariant

pub returns : goal.returns
returns c =
    let a = c.args in
    let l = c.loop-k in
    let e : l.k ≡ a.d = omega arith in
    l.invariant ∙ ap (v_terms a.d a.p a.v.now a.i) e ∙ rule_terms a.d a.p a.v.now a.i (λ z. omega arith)
