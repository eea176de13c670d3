-- `window::bound` meets its contract: the product of the first i factors. Assumes nothing.
use native.Mathlib.Omega.{arith}
use mathlib.Core.Path.{◌≡◌, sym, ap, ap₂, ◌∙◌}
use Prim.Native.Nat.{ℕ, ◌+◌, ◌-◌, ◌*◌, ◌^◌, ◌≤◌, ◌<◌}
use Rattle.points.proofs.ArrayLaws.{base_range}
use Rattle.discrepancy.specs.Bound.{bound}
use Rattle.window.specs.Counting.{base_at}
use Rattle.window.proofs.RangeLaws.{bound_over_none, bound_over_more, bound_over_fits, bound_sobol, bound_halton}
use Rattle.window.proofs.bound.Goals as goal
use Rattle.window.proofs.bound.Goals.{After-bound_factor-product}

-- the product so far, and that it is a word
next : (c : After-bound_factor-product)
    → let a = c.args in
    let l = c.loop-i in
    (l.product * c.bound_factor-product.result ≡ bound (base_at a.p.bases.now) (l.i + 1) a.n) × (bound (base_at a.p.bases.now) (l.i + 1) a.n < 2 ^ 63)
next c =
    let a = c.args in
    let l = c.loop-i in (
      ap₂ ◌*◌ l.invariant c.bound_factor-product.ensures ∙ sym (bound_over_more a.p.bases.now a.n l.i),
      bound_over_fits a.p.bases.now a.n (omega arith) (l.i + 1) (omega (arith, c.args.p.fit.few)) (λ i h. base_range c.args.p.fit i (omega arith) (λ e. omega arith)),
    )

pub returns-then-p-eq2 : goal.returns-then-p-eq2
returns-then-p-eq2 c = let a = c.args in bound_sobol a.p.family a.p.bases.now a.n a.p.axes (omega arith)

pub loop-i-init : goal.loop-i-init
loop-i-init c = let a = c.args in bound_over_none a.p.bases.now a.n

pub offset_bounds-p-i : goal.offset_bounds-p-i
offset_bounds-p-i c = omega (arith, c.args.p.fit.few)

pub bounds-p-i : goal.bounds-p-i
bounds-p-i c = omega (arith, c.args.p.fit.few, c.args.p.fit.bases_long)

pub bound_factor-product-requires : goal.bound_factor-product-requires
bound_factor-product-requires c =
    omega (arith, base_range c.args.p.fit c.loop-i.i (omega arith) (λ e. omega arith))

pub overflow_mul-product : goal.overflow_mul-product
overflow_mul-product c = omega (arith, next c)

pub loop-i-preserved : goal.loop-i-preserved
loop-i-preserved c = (next c).0

pub returns : goal.returns
returns c =
    let a = c.args in
    let e : c.loop-i.i ≡ a.p.axes = omega arith in
    c.loop-i.invariant ∙ ap (λ (s : ℕ). bound (base_at a.p.bases.now) s a.n) e ∙ bound_halton a.p.family a.p.bases.now a.n a.p.axes (λ e. omega arith)
