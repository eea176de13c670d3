-- A byte's value as a hexadecimal digit, by the range that it lies in; the bytes of pairs, one store after another. Assumes nothing.
use mathlib.Core.Path.{◌≡◌, refl}
use mathlib.Core.Bool.{true, false}
use mathlib.Core.List.{List, ◌++◌}
use Prim.Native.Nat.{ℕ, suc, ◌+◌, ◌-◌, ◌<◌, ◌≤◌}
use native.Mathlib.Numerals.{add-one}
use native.Mathlib.Omega.{arith}
use borrow.Author.Tests.{le-leb, lt-leb}
use lib.ListN.{length, drop, set, get_or}
use lib.Seq.{drop-cons, set_at, append_snoc}
use Rattle.numbers.specs.Listed.{listed}
use Rattle.numbers.proofs.ListedLaws.{listed_length, listed_more}
use Rattle.words.specs.Hexadecimal.{between, hex_value}

module _ (low high b : ℕ) where
  within : low ≤ b → b ≤ high → between low high b ≡ true
  within l h = rw (le-leb low b l, le-leb b high h) refl

  below : b < low → between low high b ≡ false
  below h = rw (lt-leb low b h) refl

  above : high < b → low ≤ high → between low high b ≡ false
  above h l = rw (le-leb low b (omega arith), lt-leb b high h) refl

-- ---- the ranges from the lowest up

module _ (b : ℕ) where
  pub hex_before : b < 48 → 16 ≡ hex_value b
  unfolding hex_value
  hex_before h = rw (below 48 57 b h, below 65 70 b (omega arith), below 97 102 b (omega arith)) refl

  pub hex_decimal : 48 ≤ b → b ≤ 57 → b - 48 ≡ hex_value b
  unfolding hex_value
  hex_decimal l h = rw (within 48 57 b l h) refl

  module _ (first : 57 < b) where
    past_decimal : between 48 57 b ≡ false
    past_decimal = above 48 57 b first (omega arith)

    pub hex_between : b < 65 → 16 ≡ hex_value b
    unfolding hex_value
    hex_between h = rw (past_decimal, below 65 70 b h, below 97 102 b (omega arith)) refl

    pub hex_upper : 65 ≤ b → b ≤ 70 → b - 55 ≡ hex_value b
    unfolding hex_value
    hex_upper l h = rw (past_decimal, within 65 70 b l h) refl

    module _ (second : 70 < b) where
      past_upper : between 65 70 b ≡ false
      past_upper = above 65 70 b second (omega arith)

      pub hex_middle : b < 97 → 16 ≡ hex_value b
      unfolding hex_value
      hex_middle h = rw (past_decimal, past_upper, below 97 102 b h) refl

      pub hex_lower : 97 ≤ b → b ≤ 102 → b - 87 ≡ hex_value b
      unfolding hex_value
      hex_lower l h = rw (past_decimal, past_upper, within 97 102 b l h) refl

      pub hex_after : 102 < b → 16 ≡ hex_value b
      unfolding hex_value
      hex_after h = rw (past_decimal, past_upper, above 97 102 b h (omega arith)) refl

-- ---- one value more in front of a buffer

pub store_next : (f : ℕ → ℕ) (old : List ℕ) (i x : ℕ) → i < length old → x ≡ f i
    → set (listed f i ++ drop i old) i x ≡ listed f (i + 1) ++ drop (i + 1) old
store_next f old i x h e =
    rw (drop-cons old i 0 h, e, listed_more, add-one, append_snoc) (set_at (listed f i) (get_or old i 0) (drop (suc i) old) (f i) i (listed_length f i))
