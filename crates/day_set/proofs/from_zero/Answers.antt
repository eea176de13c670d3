-- Six words are all 0 exactly where they are six zeros. Assumes nothing.
use mathlib.Core.Path.{◌≡◌, refl, sym, ap, ◌∙◌}
use mathlib.Core.Bool.{Bool, true, false}
use mathlib.Core.Logic.{◌↔◌, ⊎_elim}
use mathlib.Core.List.{List}
use Prim.Native.Nat.{ℕ}
use native.Mathlib.Omega.{arith}
use borrow.Author.Rules.{rules}
use lib.ListN.{length, get_or, replicate}
use lib.Seq.{ext_get_or}
use Rattle.numbers.proofs.Cases.{true_or_false}
use Rattle.numbers.proofs.ListedLaws.{zeros_at}
use Rattle.fitting.specs.Fits.{ZeroFrom}
use Rattle.state.proofs.SameLaws.{same_words_refl, same_words_is}
use Rattle.day_set.specs.DaySet.{from_zero}
use Rattle.day_set.proofs.from_zero.Goals as goal

tested : (r : Bool) (l : List ℕ) → length l ≡ 6 → (r ≡ true) ↔ ZeroFrom 0 l → r ≡ from_zero l
tested true l six z =
    let is : l ≡ replicate 6 0 = ext_get_or 0 l (replicate 6 0) six (λ i h. z.0 refl i (omega arith) ∙ sym (zeros_at 6 i)) in
    sym (ap from_zero is ∙ same_words_refl (replicate 6 0))
tested false l six z =
    ⊎_elim
    (λ t. z.1 (λ i h. ap (λ (x : List ℕ). get_or x i 0) (same_words_is l (replicate 6 0) t) ∙ zeros_at 6 i) ∙ sym t)
    (λ t. sym t) (true_or_false (from_zero l))

pub returns : goal.returns
returns c = tested _ _ c.requires c.is_zero.ensures
