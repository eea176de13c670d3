-- `images::odd_images` meets its contract: as an even base goes, each image raised, and the centre last. Assumes nothing.
use mathlib.Core.Path.{◌≡◌, refl, ap, ◌∙◌}
use Prim.Native.Nat.{ℕ, ◌+◌, ◌*◌, ◌/◌, ◌<◌}
use native.Mathlib.Omega.{arith}
use lib.ListN.{get_or}
use Rattle.permutation.specs.Faure.{open_gap, faure}
use Rattle.permutation.proofs.FaureRules.{odd_middle}
use Rattle.permutation.proofs.FaureLaws.{faure_below}
use Rattle.images.proofs.ImageLaws.{halves_more, halves_centre}
use Rattle.images.proofs.HalfLaws.{odd_low, odd_high}
use Rattle.images.proofs.odd_images.Goals as goal
use Rattle.images.proofs.odd_images.Goals.{In-loop-k}

-- the entry that a turn reads
entry : (c : In-loop-k) →
    let a = c.args in
    let l = c.loop-k in (get_or l.l l.k 0 ≡ faure (a.b / 2) l.k) × (get_or l.l l.k 0 < a.b / 2)
entry c =
    let a = c.args in
    let l = c.loop-k in
    let e = l.invariant.rest l.k (omega arith) (omega arith) in
    (e, omega (arith, e, faure_below (a.b / 2) l.k (omega arith) (omega arith)))

pub overflow_mul-x : goal.overflow_mul-x
overflow_mul-x c = omega (arith, entry (goal.at.overflow_mul-x c).In-loop-k)

pub raise-low-requires : goal.raise-low-requires
raise-low-requires c = omega (arith, entry (goal.at.raise-low-requires c).In-loop-k)

pub raise-high-requires : goal.raise-high-requires
raise-high-requires c = omega (arith, entry (goal.at.raise-high-requires c).In-loop-k)

pub loop-k-preserved : goal.loop-k-preserved
loop-k-preserved c =
    let a = c.args in
    let l = c.loop-k in
    let e = (entry (goal.at.loop-k-preserved c).In-loop-k).0 in
    let low : c.raise-low.result ≡ faure a.b l.k =
    c.raise-low.ensures ∙ ap (λ (x : ℕ). open_gap (a.b / 2) (2 * x)) e ∙ odd_low (omega arith) c.requires.2 (omega arith) in
    let high : c.raise-high.result ≡ faure a.b (a.b / 2 + 1 + l.k) =
    c.raise-high.ensures ∙ ap (λ (x : ℕ). open_gap (a.b / 2) (2 * x + 1)) e ∙ odd_high (omega arith) c.requires.2 (omega arith) in
    halves_more l.invariant (omega arith) (omega arith) (omega arith) (omega arith) (omega arith) (omega arith) (omega arith)

pub returns : goal.returns
returns c =
    let b = c.args.b in
    halves_centre c.loop-k.invariant (omega arith) (omega arith) (omega arith) (omega arith)
    (omega (arith, odd_middle b (b / 2) (omega arith) c.requires.2 refl))
