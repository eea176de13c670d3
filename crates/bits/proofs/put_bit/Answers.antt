-- The bits above, the new bit and the bits below make the byte with its one bit replaced. Assumes nothing.
use mathlib.Core.Path.{◌≡◌, ap, ◌∙◌}
use Prim.Native.Nat.{ℕ, ◌-◌, ◌/◌, ◌%◌, ◌<◌}
use native.Mathlib.Omega.{arith}
use lib.ListN.{get_or}
use Rattle.bits.proofs.ByteLaws.{poked, joined, joined_poked, mask_pos, poked_fits, poked_stream}
use Rattle.bits.proofs.put_bit.Goals as goal
use Rattle.bits.proofs.put_bit.Goals.{After-wide-old}

pub overflow_sub-new : goal.overflow_sub-new
overflow_sub-new c = mask_pos (7 - c.args.i % 8) (omega arith)

small : (c : After-wide-old) → get_or c.args.out.now (c.args.i / 8) 0 < 256
small c = omega (arith, c.slice_known-2-1.given (c.args.i / 8))

-- the byte that is stored
stored : (c : After-wide-old) → let a = c.args in joined c.wide-old.result (7 - a.i % 8) a.b ≡ poked (get_or a.out.now (a.i / 8) 0) (7 - a.i % 8) a.b
stored c =
    let a = c.args in
    joined_poked c.wide-old.result (7 - a.i % 8) a.b (omega arith) (omega (arith, small c)) (omega arith)
    ∙ ap (λ (o : ℕ). poked o (7 - a.i % 8) a.b) c.wide-old.ensures

pub overflow_cast-out : goal.overflow_cast-out
overflow_cast-out c =
    let a = c.args in
    record { fits = poked_fits a.out.now a.i a.b _ (omega arith) (stored c) (small c) }

pub returns : goal.returns
returns c =
    let a = c.args in
    poked_stream a.out.now a.i a.b _ (omega arith) (stored c) (omega arith)
