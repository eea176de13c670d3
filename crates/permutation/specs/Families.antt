-- The families of Halton plans, by their number in a plan: what each does to a digit. One line a family. Definitions only.
use Rattle.std.specs.Prelude.{ℕ, zero, suc}
use Rattle.permutation.specs.Faure.{faure}
use Rattle.permutation.specs.Kocis.{kocis}

-- The image of digit d in base b: family 0 (Halton) itself, family 1 (permuted Halton) by Faure's permutation, family 3 by that of Kocis and Whiten. No
-- plan with bases has family 2 or one from 4 up; there the digit stays.
unfoldable pub image_of : ℕ → ℕ → ℕ → ℕ
image_of zero b d = d
image_of (suc zero) b d = faure b d
image_of (suc (suc zero)) b d = d
image_of (suc (suc (suc zero))) b d = kocis b d
image_of (suc (suc (suc (suc f)))) b d = d
