-- `halton::digit_image` meets its contract: one law of the families, or of the lent table, an arm. Assumes nothing.
use mathlib.Core.Path.{◌≡◌, sym, ap, ◌∙◌}
use Prim.Native.Nat.{ℕ}
use native.Mathlib.Omega.{arith}
use borrow.Author.Rules.{rules}
use Rattle.permutation.specs.Families.{image_of}
use Rattle.permutation.proofs.FamilyLaws.{image_permuted, image_kocis, image_plain}
use Rattle.halton.specs.Images.{image_by}
use Rattle.halton.proofs.ImageLaws.{image_by_family, image_by_table}
use Rattle.halton.proofs.digit_image.Goals as goal
use Rattle.halton.proofs.digit_image.Goals.{Then-images-b}

-- where the table is too short, the family's image is right
family : (c : Then-images-b) → let a = c.args in image_of a.family a.b a.d ≡ image_by a.family a.b a.images.now a.d
family c =
    let a = c.args in
    sym (ap (λ (σ : ℕ → ℕ). σ a.d) (image_by_family a.family a.b a.images.now (omega arith)))

pub returns-in-1 : goal.returns-in-1
returns-in-1 c = c.faure_image.ensures ∙ image_permuted _ _ _ (omega arith) ∙ family (goal.at.returns-in-1 c).Then-images-b

pub returns-in-3 : goal.returns-in-3
returns-in-3 c = c.kocis_image.ensures ∙ image_kocis _ _ _ (omega arith) ∙ family (goal.at.returns-in-3 c).Then-images-b

pub returns-in_default : goal.returns-in_default
returns-in_default c = image_plain _ _ _ (λ e. omega arith) (λ e. omega arith) ∙ family (goal.at.returns-in_default c).Then-images-b

pub overflow_cast-result : goal.overflow_cast-result
overflow_cast-result c = omega (arith, c.shared_slice_known-2-1.given c.args.d)

pub returns : goal.returns
returns c =
    let a = c.args in
    sym (ap (λ (σ : ℕ → ℕ). σ a.d) (image_by_table a.family a.b a.images.now (omega arith)))
