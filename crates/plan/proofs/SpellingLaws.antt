-- The bits of a plan: how they grow by one base, m or axis, how many they are, and that each is 0 or 1. Assumes nothing.
use mathlib.Core.Path.{◌≡◌, refl, ◌∙◌}
use mathlib.Core.List.{List, [], ◌∷◌, ◌++◌, append_assoc, append-nil}
use Prim.Native.Nat.{ℕ, suc, ◌+◌, ◌-◌, ◌*◌, ◌/◌, ◌≤◌, ◌<◌}
use native.Mathlib.Nat.{add-zero, mul-le-mul}
use native.Mathlib.Omega.{arith}
use lib.ListN.{length, get_or, length-append}
use Rattle.bits.specs.Stream.{to_bits, AllBelow, bytes_for}
use Rattle.bits.proofs.StreamLaws.{length_to_bits, below_append, below_to_bits}
use Rattle.bits.proofs.PackLaws.{length_packed, below_packed}
use Rattle.plan.specs.Plan.{Axis, no_axis, Plan, halton, sobol, Valid, header_bits, bases_bits, ms_bits, axis_bits, axes_bits, plan_bits, spell}

-- ---- one more at the end

pub bases_bits_snoc : (bases : List ℕ) (b : ℕ) → bases_bits (bases ++ b ∷ []) ≡ bases_bits bases ++ to_bits 8 (b - 1)
unfolding bases_bits
bases_bits_snoc [] b = append-nil (to_bits 8 (b - 1))
bases_bits_snoc (a ∷ bases) b = rw (bases_bits_snoc bases b, append_assoc)

pub ms_bits_snoc : (i : ℕ) (ms : List ℕ) (m : ℕ) → ms_bits i (ms ++ m ∷ []) ≡ ms_bits i ms ++ to_bits (i + length ms) m
unfolding ms_bits
ms_bits_snoc i [] m = rw add-zero (append-nil (to_bits i m))
ms_bits_snoc i (n ∷ ms) m =
    let e : i + 1 + length ms ≡ i + suc (length ms) = omega arith in
    rw (ms_bits_snoc (i + 1) ms m, append_assoc, e)

pub axes_bits_snoc : (axes : List Axis) (x : Axis) → axes_bits (axes ++ x ∷ []) ≡ axes_bits axes ++ axis_bits x
unfolding axes_bits
axes_bits_snoc [] x = append-nil (axis_bits x)
axes_bits_snoc (y ∷ axes) x = rw (axes_bits_snoc axes x, append_assoc)

-- ---- lengths

pub length_header : (family s : ℕ) → length (header_bits family s) ≡ 5
length_header family s = length-append (to_bits 2 family) (to_bits 3 s) ∙ omega (arith, length_to_bits 2 family, length_to_bits 3 s)

pub length_bases_bits : (bases : List ℕ) → length (bases_bits bases) ≡ 8 * length bases
unfolding bases_bits
length_bases_bits [] = refl
length_bases_bits (b ∷ bases) = length-append (to_bits 8 (b - 1)) (bases_bits bases) ∙ omega (arith, length_to_bits 8 (b - 1), length_bases_bits bases)

-- the sum of i, i + 1 and so on, twice
pub length_ms_bits : (i : ℕ) (ms : List ℕ) → 2 * length (ms_bits i ms) + length ms ≡ length ms * (length ms + 2 * i)
unfolding ms_bits
length_ms_bits i [] = omega arith
length_ms_bits i (m ∷ ms) = omega (arith, length-append (to_bits i m) (ms_bits (i + 1) ms), length_to_bits i m, length_ms_bits (i + 1) ms)

pub length_axis_bits : (x : Axis) → length (axis_bits x) ≡ 4 + (length x.ms - 1) + length (ms_bits 1 x.ms)
unfolding axis_bits
length_axis_bits x =
    let d : ℕ = length x.ms in
    length-append (to_bits 4 d ++ to_bits (d - 1) (x.polynomial / 2)) (ms_bits 1 x.ms)
    ∙ omega (arith, length-append (to_bits 4 d) (to_bits (d - 1) (x.polynomial / 2)), length_to_bits 4 d, length_to_bits (d - 1) (x.polynomial / 2))

-- 4 for the degree, 11 coefficients, and 1 + 2 + .. + 12
axis_bits_most : (x : Axis) → length x.ms ≤ 12 → length (axis_bits x) ≤ 93
axis_bits_most x h =
    let d : ℕ = length x.ms in
    let square : d * d ≤ 12 * 12 = mul-le-mul h h in
    omega (arith, length_axis_bits x, length_ms_bits 1 x.ms)

axes_bits_most : (axes : List Axis) → ((i : ℕ) → i < length axes → length (get_or axes i no_axis).ms ≤ 12) → length (axes_bits axes) ≤ 93 * length axes
unfolding axes_bits
axes_bits_most [] h = omega arith
axes_bits_most (x ∷ axes) h =
    omega (arith, length-append (axis_bits x) (axes_bits axes), axis_bits_most x (h 0 (omega arith)), axes_bits_most axes (λ i k. h (suc i) (omega arith)))

plan_bits_most : (p : Plan) → Valid p → length (plan_bits p) ≤ 563
unfolding plan_bits Valid
plan_bits_most (halton family bases) v =
    omega (arith, length-append (header_bits family (length bases)) (bases_bits bases), length_header family (length bases), length_bases_bits bases)
plan_bits_most (sobol axes) v =
    omega (arith, length-append (header_bits 2 (length axes)) (axes_bits axes), length_header 2 (length axes), axes_bits_most axes (λ i k. (v.1.valid i k).degree_high))

pub length_spell : (p : Plan) → length (spell p) ≡ bytes_for (length (plan_bits p))
unfolding spell
length_spell p = length_packed (plan_bits p)

pub spell_length : (p : Plan) → Valid p → length (spell p) ≤ 71
unfolding bytes_for
spell_length p v = omega (arith, length_spell p, plan_bits_most p v)

-- ---- bits are 0 or 1, and bytes below 256

below_bases_bits : (bases : List ℕ) → AllBelow 2 (bases_bits bases)
unfolding bases_bits AllBelow
below_bases_bits [] = tt
below_bases_bits (b ∷ bases) = below_append 2 (to_bits 8 (b - 1)) (bases_bits bases) (below_to_bits 8 (b - 1)) (below_bases_bits bases)

below_ms_bits : (i : ℕ) (ms : List ℕ) → AllBelow 2 (ms_bits i ms)
unfolding ms_bits AllBelow
below_ms_bits i [] = tt
below_ms_bits i (m ∷ ms) = below_append 2 (to_bits i m) (ms_bits (i + 1) ms) (below_to_bits i m) (below_ms_bits (i + 1) ms)

below_axis_bits : (x : Axis) → AllBelow 2 (axis_bits x)
unfolding axis_bits
below_axis_bits x =
    below_append 2 _ _ (below_append 2 _ _ (below_to_bits 4 (length x.ms)) (below_to_bits (length x.ms - 1) (x.polynomial / 2))) (below_ms_bits 1 x.ms)

below_axes_bits : (axes : List Axis) → AllBelow 2 (axes_bits axes)
unfolding axes_bits AllBelow
below_axes_bits [] = tt
below_axes_bits (x ∷ axes) = below_append 2 (axis_bits x) (axes_bits axes) (below_axis_bits x) (below_axes_bits axes)

below_header : (family s : ℕ) → AllBelow 2 (header_bits family s)
below_header family s = below_append 2 (to_bits 2 family) (to_bits 3 s) (below_to_bits 2 family) (below_to_bits 3 s)

pub below_plan_bits : (p : Plan) → AllBelow 2 (plan_bits p)
unfolding plan_bits
below_plan_bits (halton family bases) = below_append 2 _ _ (below_header family (length bases)) (below_bases_bits bases)
below_plan_bits (sobol axes) = below_append 2 _ _ (below_header 2 (length axes)) (below_axes_bits axes)

pub spell_below : (p : Plan) → AllBelow 256 (spell p)
unfolding spell
spell_below p = below_packed (plan_bits p) (below_plan_bits p)
