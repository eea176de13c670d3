-- The way through the b classes that a class splits into: none yet, one more of each kind, and all. Assumes nothing.
use mathlib.Core.Path.{◌≡◌, refl, sym, ap, ap₂, ◌∙◌, subst}
use mathlib.Core.Bool.{Bool}
use mathlib.Core.List.{List}
use Prim.Native.Nat.{ℕ, ◌+◌, ◌-◌, ◌*◌, ◌/◌, ◌%◌, ◌<◌, ◌≤◌}
use native.Mathlib.Nat.{add-zero, add-mod, mod-lt}
use native.Mathlib.Omega.{arith}
use lib.ListN.{length}
use lib.Dec.{ltb}
use Rattle.numbers.specs.Count.{bit, count}
use Rattle.numbers.specs.Digits.{sum}
use Rattle.discrepancy.specs.Bound.{halton_axes}
use Rattle.strips.specs.Ends.{inside_ends, halton_ends}
use Rattle.strips.specs.Classes.{class_size, class_count, behind, passes, inside_along, in_class, base_in, start_in, l_in, u_in, q_in, image_from, table_axes, Held, Reads, Split}
use Rattle.strips.proofs.SizeLaws.{count_one, pool, pool_short, pool_le, pool_none, pool_more}
use Rattle.strips.proofs.RestLaws.{behind_below, behind_above, behind_outside}
use Rattle.strips.proofs.ClassLaws.{along_none, along_axis, class_behind, class_nothing, class_whole}
use Rattle.strips.proofs.HeldLaws.{held_digits, held_ends, held_image}

-- ---- a class that is not split

pub first : (t m : ℕ) → t + m * 0 ≡ t
first t m = omega arith

-- the lower end is not below the upper one
pub split_nothing : (l rows : List ℕ) (s v u x r t m k : ℕ) → u ≤ v → 0 ≡ count (in_class (table_axes l rows) s v u x r t m) k
split_nothing l rows s v u x r t m k h = sym (class_nothing (table_axes l rows) s v u x r t m k h)

-- neither end binds
pub split_whole : (l rows : List ℕ) (s x r t m k : ℕ) {v u : ℕ} → Held l rows (s + 1) → v ≡ 0 → u ≡ q_in rows s
    → count (inside_along (table_axes l rows) s t m) k ≡ count (in_class (table_axes l rows) s v u x r t m) k
unfolding table_axes halton_ends halton_axes
split_whole l rows s x r t m k h e f =
    let d = held_digits h s (omega arith) in
    rw (e, f) (sym (class_whole (table_axes l rows) s d.low d.below d.first (held_ends h s (omega arith)).q_pos x r t m k))

-- of one step
pub split_one : (l rows : List ℕ) (s v u x r t m : ℕ) {k : ℕ} → k ≡ 1 → bit (passes (table_axes l rows) s v u x t) ≡ count (in_class (table_axes l rows) s v u x r t m) k
unfolding in_class
split_one l rows s v u x r t m e = rw (e, count_one (in_class (table_axes l rows) s v u x r t m), first x r, first t m)

-- ---- the way through

-- none yet
pub split_none : (l rows : List ℕ) (s v u x r t m k : ℕ) → Split l rows s v u x r t m k (x % base_in rows s) 0 0
split_none l rows s v u x r t m k =
    record { within = omega arith; digit = ap (λ (y : ℕ). y % base_in rows s) {x = x} {y = x + r * 0} (omega arith); made = pool_none _ _ _ }

module _ {l rows : List ℕ} {s v u x r t m k e n i : ℕ} (a : Split l rows s v u x r t m k e n i) where
  -- so many so far
  pub split_le : n ≤ k
  split_le = omega (arith, a.made, pool_le (base_in rows s) (in_class (table_axes l rows) s v u x r t m) k i a.within)

  -- all that have a step
  pub split_all : k ≤ i → n ≡ count (in_class (table_axes l rows) s v u x r t m) k
  split_all all = a.made ∙ pool_short (base_in rows s) (in_class (table_axes l rows) s v u x r t m) k i a.within all

  -- all that there are
  pub split_full : 0 < base_in rows s → i ≡ base_in rows s → n ≡ count (in_class (table_axes l rows) s v u x r t m) k
  split_full pos all = a.made ∙ ap (sum (class_count p b k)) {x = i} {y = b} all ∙ pool b pos p k
    where
      b : ℕ
      b = base_in rows s

      p : ℕ → Bool
      p = in_class (table_axes l rows) s v u x r t m

  -- the digit that is read next: its place, and its image
  pub split_image : Held l rows (s + 1) → (256 * s + e < length l) × (image_from l (256 * s) e < 256) × (e < base_in rows s)
  split_image h =
      let z = held_image h s (omega arith) (x + r * i) in
      rw a.digit (z.0, z.1, mod-lt (x + r * i) (omega (arith, (held_digits h s (omega arith)).low)))

  module _ (more : i < base_in rows s) where
    -- one more, whose count is y
    with_one : {y e' : ℕ} → e' ≡ (e + r % base_in rows s) % base_in rows s
        → class_count (in_class (table_axes l rows) s v u x r t m) (base_in rows s) k i ≡ y → Split l rows s v u x r t m k e' (n + y) (i + 1)
    with_one {y} {e'} f g =
        record {
          within = omega arith;
          digit = f ∙ rw (a.digit, ← add-mod (x + r * i) r b) (ap (λ (z : ℕ). z % b) (omega arith));
          made = sym (pool_more b p k i ∙ ap₂ ◌+◌ (sym a.made) g);
        }
      where
        b : ℕ
        b = base_in rows s

        p : ℕ → Bool
        p = in_class (table_axes l rows) s v u x r t m

    module _ (h : Held l rows (s + 1)) (reads : Reads x r k) {e' size : ℕ} (f : e' ≡ (e + r % base_in rows s) % base_in rows s) (g : size ≡ class_size (base_in rows s) k i) where
      -- what is left of an end behind the digit
      abbrev rest : ℕ → ℕ
      rest y = behind (q_in rows s) (image_from l (256 * s) e) (y * base_in rows s / q_in rows s) (y * base_in rows s % q_in rows s)

      -- left to that
      pub split_behind : {y v' u' : ℕ} → v' ≡ rest v → u' ≡ rest u
          → y ≡ count (in_class (table_axes l rows) s v' u' ((x + r * i) / base_in rows s) r (t + m * i) (m * base_in rows s)) size
          → Split l rows s v u x r t m k e' (n + y) (i + 1)
      unfolding table_axes halton_ends halton_axes
      split_behind {y} c c' made =
          let d = held_digits h s (omega arith) in
          with_one f
          (class_behind (table_axes l rows) s d.low d.below d.first (held_ends h s (omega arith)).q_pos v u x r t m k i reads more
          ∙ sym (rw (c, c', a.digit, g) at made))

      -- the digit of an end, and its rest
      abbrev own : ℕ → ℕ
      own y = y * base_in rows s / q_in rows s

      abbrev left : ℕ → ℕ
      left y = y * base_in rows s % q_in rows s

      abbrev image : ℕ
      image = image_from l (256 * s) e

      -- wholly inside
      pub split_inside : {y : ℕ} → own v + bit (ltb 0 (left v)) ≤ image → image < own u
          → y ≡ count (inside_along (table_axes l rows) s (t + m * i) (m * base_in rows s)) size → Split l rows s v u x r t m k e' (n + y) (i + 1)
      split_inside c c' made =
          split_behind refl refl
          (made
          ∙ split_whole l rows s ((x + r * i) / base_in rows s) r (t + m * i) (m * base_in rows s) size h (behind_above (q_in rows s) image (own v) (left v) c)
          (behind_below (q_in rows s) image (own u) (left u) c'))

      -- wholly outside
      pub split_outside : (image ≡ own u → ⊥) → (0 < left v → image ≡ own v → ⊥) → (own v + bit (ltb 0 (left v)) ≤ image → own u ≤ image)
          → Split l rows s v u x r t m k e' n (i + 1)
      split_outside c c' c'' =
          subst (λ (y : ℕ). Split l rows s v u x r t m k e' y (i + 1)) (add-zero n)
          (split_behind refl refl
          (split_nothing l rows s (rest v) (rest u) ((x + r * i) / base_in rows s) r (t + m * i) (m * base_in rows s) size
          (behind_outside (q_in rows s) image (own v) (left v) (own u) (left u) c c' c'')))

-- ---- axes

module _ (l rows : List ℕ) where
  -- no axis is left
  pub axes_none : (t m k : ℕ) → k ≡ count (inside_along (table_axes l rows) 0 t m) k
  unfolding table_axes
  axes_none t m k = sym (along_none _ _ _ _ _ _ t m k)

  -- of s axes, where s is 0, and where it is one more than another number
  pub axes_last : (t m k : ℕ) {s : ℕ} → s ≡ 0 → k ≡ count (inside_along (table_axes l rows) s t m) k
  axes_last t m k e = axes_none t m k ∙ ap (λ (j : ℕ). count (inside_along (table_axes l rows) j t m) k) (sym e)

  pub axes_same : (t m k : ℕ) {s : ℕ} → 0 < s → count (inside_along (table_axes l rows) (s - 1 + 1) t m) k ≡ count (inside_along (table_axes l rows) s t m) k
  axes_same t m k {s} h = ap (λ (j : ℕ). count (inside_along (table_axes l rows) j t m) k) {x = s - 1 + 1} {y = s} (omega arith)

  -- a class of one step
  pub axes_one : (s t m : ℕ) {k : ℕ} → k ≡ 1 → bit (inside_ends (table_axes l rows) s t) ≡ count (inside_along (table_axes l rows) s t m) k
  unfolding inside_along
  axes_one s t m e = rw (e, count_one (inside_along (table_axes l rows) s t m), first t m)

  -- axis s is the last of s + 1
  pub axes_more : (s t m k : ℕ) → count (inside_along (table_axes l rows) (s + 1) t m) k
      ≡ count (in_class (table_axes l rows) s (l_in rows s) (u_in rows s) (start_in rows s + t) m t m) k
  unfolding table_axes
  axes_more s t m k = along_axis _ _ _ _ _ _ s t m k
