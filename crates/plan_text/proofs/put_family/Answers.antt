-- Each family's own word. Assumes nothing.
use mathlib.Core.Path.{◌≡◌}
use native.Mathlib.Omega.{arith}
use Rattle.plan_words.specs.Says.{family_words}
use Rattle.plan_text.proofs.put_family.Goals as goal

pub returns-in-0 : goal.returns-in-0
unfolding family_words
returns-in-0 c =
    let e : c.args.family ≡ 0 = omega arith in
    rw e (c.put.ensures, omega (arith, c.put.ensures.after))

pub returns-in-1 : goal.returns-in-1
unfolding family_words
returns-in-1 c =
    let e : c.args.family ≡ 1 = omega arith in
    rw e (c.put-in-1.ensures, omega (arith, c.put-in-1.ensures.after))

pub returns-in-2 : goal.returns-in-2
unfolding family_words
returns-in-2 c =
    let e : c.args.family ≡ 2 = omega arith in
    rw e (c.put-in-2.ensures, omega (arith, c.put-in-2.ensures.after))

pub returns-in_default : goal.returns-in_default
unfolding family_words
returns-in_default c =
    let e : c.args.family ≡ 3 = omega arith in
    rw e (c.put-in_default.ensures, omega (arith, c.put-in_default.ensures.after))
