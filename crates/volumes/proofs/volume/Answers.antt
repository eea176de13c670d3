-- After i turns v is the product of i cuts. Assumes nothing.
use mathlib.Core.Path.{◌≡◌, sym, ap, ◌∙◌}
use Prim.Native.Nat.{ℕ, ◌+◌, ◌*◌, ◌/◌, ◌^◌}
use native.Mathlib.Omega.{arith}
use Rattle.window.proofs.RangeLaws.{window_room}
use Rattle.volumes.specs.Volume.{u_at, q_at, finely_to, volume_of}
use Rattle.volumes.proofs.VolumeLaws.{finely_none, finely_next, cut_fine}
use Rattle.volumes.proofs.volume.Goals as goal

pub loop-i-init : goal.loop-i-init
loop-i-init c = (sym (finely_none _), omega arith)

pub bounds-w-i : goal.bounds-w-i
bounds-w-i c =
    omega (arith, (window_room c.args.w.now c.args.axes c.requires.1).enough)

pub bounds-w-i-in-loop-i : goal.bounds-w-i-in-loop-i
bounds-w-i-in-loop-i c =
    omega (arith, (window_room c.args.w.now c.args.axes c.requires.1).enough)

pub cut-v-requires : goal.cut-v-requires
cut-v-requires c =
    let f = cut_fine c.args.w.now c.args.axes c.requires.1 c.loop-i.i (omega arith) in
    (c.loop-i.invariant.1, f.0, f.1, f.2)

pub loop-i-preserved : goal.loop-i-preserved
loop-i-preserved c =
    let a = c.args in
    (c.cut-v.ensures.0 ∙ ap (λ (v : ℕ). v * u_at a.w.now c.loop-i.i / q_at a.w.now c.loop-i.i) c.loop-i.invariant.0 ∙ sym (finely_next a.w.now c.loop-i.i), omega arith)

pub returns : goal.returns
unfolding volume_of
returns c =
    let a = c.args in
    let e : c.loop-i.i ≡ a.axes = omega arith in
    (ap (λ (v : ℕ). (v + 5 * 10 ^ 8) / 10 ^ 9) (c.loop-i.invariant.0 ∙ ap (finely_to a.w.now) e), omega arith)
