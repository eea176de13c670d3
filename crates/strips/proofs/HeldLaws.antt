-- What the arrays at some axes say of the last axis and of the others, and what a class says of the classes that it splits into. Assumes
-- nothing.
use mathlib.Core.Path.{◌≡◌, sym, ap, ◌∙◌}
use mathlib.Core.List.{List}
use Prim.Native.Nat.{ℕ, ◌+◌, ◌*◌, ◌/◌, ◌%◌, ◌^◌, ◌<◌, ◌≤◌}
use native.Mathlib.Nat.{mod-lt, div-le_self, mul-le-mul, add-mul-div_left}
use native.Mathlib.Omega.{arith}
use lib.ListN.{length}
use Rattle.strips.specs.Classes.{class_size, base_in, start_in, image_from, Digits, EndsAt, Held, Step, Steps, Reads}
use Rattle.strips.proofs.SizeLaws.{class_in, class_le}

-- ---- the arrays

-- at one of the axes
module _ {l rows : List ℕ} {n : ℕ} (h : Held l rows n) (s : ℕ) (within : s < n) where
  pub held_digits : Digits l (256 * s) (base_in rows s)
  held_digits = h.digits s within

  pub held_places : 5 * s + 4 < length rows
  held_places = omega (arith, h.long)

  pub held_ends : EndsAt rows s
  held_ends = h.ends s within

  -- the place of a digit's image, and the image
  pub held_image : (x : ℕ) → let b = base_in rows s in (256 * s + x % b < length l) × (image_from l (256 * s) (x % b) < 256)
  held_image x =
      let d = held_digits in
      let k : x % base_in rows s < base_in rows s = mod-lt x (omega (arith, d.low)) in
      (omega (arith, d.long), omega (arith, d.below (x % base_in rows s) k, d.high))

  -- the rest of a cut times the base
  pub held_times : (u : ℕ) → u ≤ 2 ^ 24 → u * base_in rows s ≤ 2 ^ 32
  held_times u k = omega (arith, mul-le-mul {n₁ = u} {m₁ = base_in rows s} {n₂ = 2 ^ 24} {m₂ = 256} k held_digits.high)

-- at fewer axes
pub held_less : {l rows : List ℕ} {n : ℕ} → Held l rows n → (s : ℕ) → s ≤ n → Held l rows s
held_less h s less =
    record { long = omega (arith, h.long); ends = λ i k. h.ends i (omega arith); digits = λ i k. h.digits i (omega arith) }

-- ---- a step

step_less : {rows : List ℕ} {n o : ℕ} → Step rows n o → (s : ℕ) → s ≤ n → Step rows s o
step_less h s less = record { index = λ i k. h.index i (omega arith) }

-- ---- a class

-- with nothing of an axis's cut taken
module _ {rows : List ℕ} {n t m k : ℕ} (h : Steps rows n t m k) (s : ℕ) where
  pub steps_less : s ≤ n → Steps rows s t m k
  steps_less less = record { few = h.few; low = h.low; at = λ i l. step_less (h.at i l) s less }

  pub steps_reads : s < n → Reads (start_in rows s + t) m k
  steps_reads within = record { reach = λ i l. omega (arith, (h.at i l).index s within) }

-- two steps are less than 2^32 apart
pub steps_times : {rows : List ℕ} {s t m k b : ℕ} → Steps rows s t m k → 1 < k → b ≤ 256 → m * b ≤ 2 ^ 40
steps_times {m = m} {b = b} h more high = omega (arith, mul-le-mul {n₁ = m} {m₁ = b} {n₂ = 2 ^ 32} {m₂ = 256} (omega (arith, h.low 1 more)) high)

-- split into the classes of i modulo b
module _ {b i k size : ℕ} (few : i < b) (g : size ≡ class_size b k i) where
  pub steps_split : {rows : List ℕ} {s t m : ℕ} → Steps rows s t m k → Steps rows s (t + m * i) (m * b) size
  steps_split {rows} {s} {t} {m} h =
      record {
        few = omega (arith, g, h.few, class_le b k i (omega arith) few);
        low = λ j l. rw (step j) (h.low (i + b * j) (class_in b k i j few (omega (arith, g))));
        at = λ j l. rw (step j) (h.at (i + b * j) (class_in b k i j few (omega (arith, g))));
      }
    where
      step : (j : ℕ) → t + m * i + m * b * j ≡ t + m * (i + b * j)
      step j = omega arith

  pub reads_split : {x r : ℕ} → Reads x r k → Reads ((x + r * i) / b) r size
  reads_split {x} {r} h = record {
    reach = λ j l. rw (left j) (omega (arith, div-le_self (x + r * (i + b * j)) b, h.reach (i + b * j) (class_in b k i j few (omega (arith, g)))));
  }
    where
      left : (j : ℕ) → (x + r * i) / b + r * j ≡ (x + r * (i + b * j)) / b
      left j = sym (add-mul-div_left (x + r * i) (r * j) (omega arith)) ∙ ap (λ (n : ℕ). n / b) (omega arith)
