-- `window::is_window` meets its contract: the cuts of the first i axes are in range. Assumes nothing.
use native.Mathlib.Omega.{arith}
use mathlib.Core.Path.{◌≡◌, sym, ◌∙◌, subst}
use mathlib.Core.Bool.{true}
use Prim.Native.Nat.{ℕ}
use Rattle.numbers.specs.Count.{each}
use Rattle.numbers.proofs.EachLaws.{each_none, each_more}
use Rattle.window.specs.Counting.{is_cut_at}
use Rattle.window.proofs.RangeLaws.{window_long, window_off, window_is}
use Rattle.window.proofs.is_window.Goals as goal

pub returns-then-w-axes : goal.returns-then-w-axes
returns-then-w-axes c = sym (window_long _ _ (λ e. omega arith))

pub loop-i-init : goal.loop-i-init
loop-i-init c = each_none _

pub returns-then-not-is_cut : goal.returns-then-not-is_cut
returns-then-not-is_cut c = sym (window_off _ _ c.loop-i.i (omega arith) (omega arith) (sym c.is_cut.ensures ∙ c.if-not-is_cut.true))

pub loop-i-preserved : goal.loop-i-preserved
loop-i-preserved c = each_more _ _ c.loop-i.invariant (sym c.is_cut.ensures ∙ c.if-not-is_cut.false)

pub returns : goal.returns
returns c =
    let a = c.args in
    let e : c.loop-i.i ≡ a.axes = omega arith in
    sym (window_is a.w.now a.axes (omega arith) (subst (λ (k : ℕ). each (is_cut_at a.w.now) k ≡ true) e c.loop-i.invariant))
