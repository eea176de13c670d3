-- A lent table of images: one that is too short leaves each digit to the family, one of the whole base is asked for each. Assumes nothing.
use mathlib.Core.Path.{◌≡◌, refl, ap, ◌∙◌}
use mathlib.Core.List.{List, []}
use mathlib.Core.Logic.{⊎_elim}
use Prim.Native.Nat.{ℕ, ◌<◌, ◌≤◌}
use lib.ListN.{length}
use borrow.Author.Tests.{lt-ltb, le-ltb}
use Rattle.numbers.specs.Listed.{Begins}
use Rattle.numbers.proofs.Cases.{lt_or_ge}
use Rattle.permutation.specs.Families.{image_of}
use Rattle.permutation.proofs.FamilyLaws.{image_permutes}
use Rattle.halton.specs.Axis.{numerator}
use Rattle.halton.specs.Images.{image_in, image_by, DigitMap}

module _ (family b : ℕ) where
  pub image_by_family : (l : List ℕ) → length l < b → image_by family b l ≡ image_of family b
  unfolding image_by
  image_by_family l h = rw (lt-ltb (length l) b h) refl

  pub image_by_table : (l : List ℕ) → b ≤ length l → image_by family b l ≡ image_in l
  unfolding image_by
  image_by_table l h = rw (le-ltb (length l) b h) refl

  -- ---- the numerators by an empty table, and by one of the whole base

  pub numerator_by_family : 0 < b → (n : ℕ) → numerator (image_by family b []) b n ≡ numerator (image_of family b) b n
  numerator_by_family h n = ap (λ (σ : ℕ → ℕ). numerator σ b n) (image_by_family [] h)

  pub numerator_by_table : (l : List ℕ) → b ≤ length l → (n : ℕ) → numerator (image_by family b l) b n ≡ numerator (image_in l) b n
  numerator_by_table l h n = ap (λ (σ : ℕ → ℕ). numerator σ b n) (image_by_table l h)

  -- ---- digits go to digits

  pub image_digits : 2 ≤ b → DigitMap b (image_of family b)
  image_digits h = let p = image_permutes family b h in record { below = p.below; zero_first = p.zero_first }

  pub image_by_digits : (l : List ℕ) → 2 ≤ b → DigitMap b (image_in l) → DigitMap b (image_by family b l)
  image_by_digits l h a =
      ⊎_elim (λ q. rw (image_by_family l q) (image_digits h)) (λ q. rw (image_by_table l q) a) (lt_or_ge (length l) b)

-- a table that begins with the images of a digit map
pub table_digits : {σ : ℕ → ℕ} {b : ℕ} {l : List ℕ} → Begins σ b l → DigitMap b σ → 0 < b → DigitMap b (image_in l)
table_digits a m h = record { below = λ d q. rw (a.at d q) (m.below d q); zero_first = a.at 0 h ∙ m.zero_first }
