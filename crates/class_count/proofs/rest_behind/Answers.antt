-- `class_count::rest_behind` meets its contract. Assumes nothing.
use mathlib.Core.Path.{refl}
use native.Mathlib.Nat.{le_refl}
use native.Mathlib.Omega.{arith}
use borrow.Author.Tests.{lt-ltb, le-ltb}
use Rattle.strips.specs.Classes.{behind}
use Rattle.class_count.proofs.rest_behind.Goals as goal

pub returns-then-d-c : goal.returns-then-d-c
unfolding behind
returns-then-d-c c = let a = c.args in (rw (lt-ltb a.d a.c c.if-d-c.true) refl, λ h. le_refl a.q)

pub returns-then-c-d : goal.returns-then-c-d
unfolding behind
returns-then-c-d c = let a = c.args in (rw (le-ltb a.d a.c (omega arith), lt-ltb a.c a.d c.if-c-d.true) refl, λ h. omega arith)

pub returns : goal.returns
unfolding behind
returns c = let a = c.args in (rw (le-ltb a.d a.c (omega arith), le-ltb a.c a.d (omega arith)) refl, λ h. h)
