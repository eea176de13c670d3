-- `big_endian::window_numbers` meets its contract: the first k numbers are stored. Assumes nothing.
use mathlib.Core.Path.{◌≡◌, ap, ◌∙◌}
use mathlib.Core.List.{List}
use Prim.Native.Nat.{ℕ, ◌*◌}
use native.Mathlib.Omega.{arith}
use lib.ListN.{set, replicate}
use Rattle.numbers.specs.Listed.{listed, padded}
use Rattle.numbers.proofs.ListedLaws.{listed_store, padded_none}
use Rattle.big_endian.specs.Bytes.{quad_at, window_in}
use Rattle.big_endian.proofs.window_numbers.Goals as goal

numbers_none : (f : ℕ → ℕ) → replicate 12 0 ≡ padded 12 (listed f 0)
unfolding listed
numbers_none f = padded_none 12

pub loop-k-init : goal.loop-k-init
loop-k-init c = numbers_none _

pub loop-k-preserved : goal.loop-k-preserved
loop-k-preserved c =
    let a = c.args in
    let l = c.loop-k in
    ap (λ (x : List ℕ). set x l.k c.quad-x.result) l.invariant ∙ listed_store 12 (quad_at a.bytes.now) l.k c.quad-x.result (omega arith) c.quad-x.ensures

pub returns : goal.returns
unfolding window_in
returns c =
    let a = c.args in
    let l = c.loop-k in
    let e : l.k ≡ 2 * a.axes = omega arith in
    l.invariant ∙ ap (λ (k : ℕ). padded 12 (listed (quad_at a.bytes.now) k)) e
