-- `big_endian::quad` meets its contract: each byte is below 256, so that no sum passes 2^32. Assumes nothing.
use mathlib.Core.Path.{refl}
use Prim.Native.Nat.{◌+◌, ◌*◌}
use native.Mathlib.Omega.{arith}
use Rattle.big_endian.specs.Bytes.{quad_at}
use Rattle.big_endian.proofs.quad.Goals as goal

pub overflow_cast-high : goal.overflow_cast-high
overflow_cast-high c = omega (arith, c.shared_slice_known-1.given (4 * c.args.k))

pub overflow_mul-high-2 : goal.overflow_mul-high-2
overflow_mul-high-2 c = omega (arith, c.shared_slice_known-1.given (4 * c.args.k))

pub overflow_cast-high-2 : goal.overflow_cast-high-2
overflow_cast-high-2 c = omega (arith, c.shared_slice_known-1.given (4 * c.args.k), c.shared_slice_known-2-1.given (4 * c.args.k + 1))

pub overflow_mul-high-4 : goal.overflow_mul-high-4
overflow_mul-high-4 c = omega (arith, c.shared_slice_known-1.given (4 * c.args.k), c.shared_slice_known-2-1.given (4 * c.args.k + 1))

pub overflow_add-high-2 : goal.overflow_add-high-2
overflow_add-high-2 c = omega (arith, c.shared_slice_known-1.given (4 * c.args.k), c.shared_slice_known-2-1.given (4 * c.args.k + 1))

pub overflow_cast-result : goal.overflow_cast-result
overflow_cast-result c = omega (arith, c.shared_slice_known-1.given (4 * c.args.k), c.shared_slice_known-2-1.given (4 * c.args.k + 1), c.shared_slice_known-3-1.given (4 * c.args.k + 2))

pub overflow_mul-result-2 : goal.overflow_mul-result-2
overflow_mul-result-2 c = omega (arith, c.shared_slice_known-1.given (4 * c.args.k), c.shared_slice_known-2-1.given (4 * c.args.k + 1), c.shared_slice_known-3-1.given (4 * c.args.k + 2))

pub overflow_add-result-2 : goal.overflow_add-result-2
overflow_add-result-2 c = omega (arith, c.shared_slice_known-1.given (4 * c.args.k), c.shared_slice_known-2-1.given (4 * c.args.k + 1), c.shared_slice_known-3-1.given (4 * c.args.k + 2))

pub overflow_cast-result-2 : goal.overflow_cast-result-2
overflow_cast-result-2 c = omega (arith, c.shared_slice_known-1.given (4 * c.args.k), c.shared_slice_known-2-1.given (4 * c.args.k + 1), c.shared_slice_known-3-1.given (4 * c.args.k + 2), c.shared_slice_known-4-1.given (4 * c.args.k + 3))

pub overflow_add-result-4 : goal.overflow_add-result-4
overflow_add-result-4 c = omega (arith, c.shared_slice_known-1.given (4 * c.args.k), c.shared_slice_known-2-1.given (4 * c.args.k + 1), c.shared_slice_known-3-1.given (4 * c.args.k + 2), c.shared_slice_known-4-1.given (4 * c.args.k + 3))

pub returns : goal.returns
unfolding quad_at
returns c = refl
