-- After i turns the first i bytes are those of the first i pairs. Assumes nothing.
use mathlib.Core.Path.{◌≡◌, refl, sym, ap₂}
use Prim.Native.Nat.{ℕ, ◌+◌, ◌*◌, ◌/◌, ◌%◌}
use native.Mathlib.Omega.{arith}
use lib.ListN.{length}
use lib.Seq.{length-take-le}
use Rattle.numbers.specs.Listed.{listed}
use Rattle.words.specs.Hexadecimal.{hex_byte, hex_bytes}
use Rattle.words.proofs.HexLaws.{store_next}
use Rattle.words.proofs.hex.Goals as goal

pub loop-i-init : goal.loop-i-init
unfolding listed
loop-i-init c = refl

pub loop-i-preserved : goal.loop-i-preserved
unfolding hex_byte
loop-i-preserved c =
    let a = c.args in
    let byte = ap₂ (λ (x y : ℕ). x % 16 * 16 + y % 16) c.hex_digit-high.ensures c.hex_digit-low.ensures in
    rw c.loop-i.invariant (store_next (hex_byte a.word.now) a.out.now c.loop-i.i _ (omega arith) byte)

pub returns : goal.returns
unfolding hex_bytes
returns c =
    let done : c.loop-i.i ≡ length c.args.word.now / 2 = omega arith in
    record {
      size = refl;
      is = rw done at c.loop-i.invariant;
      counts = (omega arith, sym (length-take-le _ _ (omega arith)));
    }
