-- The words counted, with those that begin from the byte at hand on, are all. Assumes nothing.
use mathlib.Core.Path.{refl}
use mathlib.Core.Bool.{true, false}
use Prim.Native.Nat.{◌-◌}
use native.Mathlib.Omega.{arith}
use lib.ListN.{length, take, drop}
use Rattle.words.proofs.WordLaws.{words_more, words_end}
use Rattle.words.proofs.count.Goals as goal
use Rattle.words.proofs.count.Goals.{then-outside+then-not-blank, else-outside, else-outside-via-then-outside+else-not-blank, else-outside-via-else-outside}

pub loop-b-preserved : goal.loop-b-preserved
loop-b-preserved c =
    let line = c.args.line.now in
    let rest = take (length line - c.args.from) (drop c.args.from line) in
    let more = words_more rest c.loop-b.b-index (omega arith) c.loop-b.outside c.is_blank-blank.result in
    elim c.if-outside.branch [
      | then-outside+then-not-blank w ↦ (
        omega arith,
        rw w.outside-is
            (omega (arith, c.loop-b.invariant.1, w.n-is, more true c.is_blank-blank.ensures (rw (w.if-outside.true, w.if-not-blank.true)))),
      )
      | else-outside w ↦ (
        omega arith,
        rw w.outside-is
            (omega (
              arith,
              c.loop-b.invariant.1,
              w.n-is,
              more false c.is_blank-blank.ensures
                  (elim w.else-outside.branch [
                    | else-outside-via-then-outside+else-not-blank v ↦ rw (v.if-outside.true, v.if-not-blank.false)
                    | else-outside-via-else-outside v ↦ rw v.if-outside.false refl
                  ]),
            )),
      )
    ]

pub returns : goal.returns
returns c =
    let line = c.args.line.now in
    let rest = take (length line - c.args.from) (drop c.args.from line) in
    omega (arith, c.loop-b.invariant.1, words_end rest c.loop-b.b-index (omega arith) c.loop-b.outside)
