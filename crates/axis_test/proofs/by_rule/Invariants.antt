-- The loop's invariant: x is the shifted word xor the first k terms. Assumes nothing.
use mathlib.Core.Path.{◌≡◌, refl, ap, ◌∙◌}
use Prim.Native.Nat.{◌+◌, ◌-◌, ◌/◌, ◌^◌, ◌≤◌}
use native.Mathlib.Omega.{arith}
use lib.ListN.{get_or}
use Rattle.fitting.specs.Fits.{v_terms}
use Rattle.fitting.proofs.WordLaws.{digit_times_lt, terms_next, rule_terms, rule_shift}
use Rattle.axis_test.proofs.by_rule.Given as goal

abbrev pub invariant-loop-k : goal.invariant-loop-k
invariant-loop-k l = l.x ≡ v_terms l.d l.p l.v l.i l.k
