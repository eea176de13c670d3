-- Every family permutes the digits of every base, with 0 first. Assumes nothing.
use mathlib.Core.Path.{◌≡◌, refl}
use Prim.Native.Nat.{ℕ, zero, suc, ◌≤◌}
use Rattle.permutation.specs.Permutes.{Permutes}
use Rattle.permutation.specs.Faure.{faure}
use Rattle.permutation.specs.Kocis.{kocis}
use Rattle.permutation.specs.Families.{image_of}
use Rattle.permutation.proofs.PermutationLaws.{identity_permutes}
use Rattle.permutation.proofs.FaureLaws.{faure_permutes}
use Rattle.permutation.proofs.KocisLaws.{kocis_permutes}

pub image_permutes : (family b : ℕ) → 2 ≤ b → Permutes b (image_of family b)
unfolding image_of
image_permutes zero b l = identity_permutes b
image_permutes (suc zero) b l = faure_permutes b l
image_permutes (suc (suc zero)) b l = identity_permutes b
image_permutes (suc (suc (suc zero))) b l = kocis_permutes b
image_permutes (suc (suc (suc (suc f)))) b l = identity_permutes b

-- ---- one line a family

pub image_permuted : (family b d : ℕ) → family ≡ 1 → faure b d ≡ image_of family b d
unfolding image_of
image_permuted family b d e = rw e refl

pub image_kocis : (family b d : ℕ) → family ≡ 3 → kocis b d ≡ image_of family b d
unfolding image_of
image_kocis family b d e = rw e refl

pub image_plain : (family b d : ℕ) → (family ≡ 1 → ⊥) → (family ≡ 3 → ⊥) → d ≡ image_of family b d
unfolding image_of
image_plain zero b d f k = refl
image_plain (suc zero) b d f k = absurd (f refl)
image_plain (suc (suc zero)) b d f k = refl
image_plain (suc (suc (suc zero))) b d f k = absurd (k refl)
image_plain (suc (suc (suc (suc n)))) b d f k = refl
