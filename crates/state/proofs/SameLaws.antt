-- The tests of sameness say just that two states are equal. Assumes nothing.
use mathlib.Core.Path.{◌≡◌, refl, sym, ap₂}
use mathlib.Core.Bool.{Bool, true, false, true≢false}
use mathlib.Core.List.{List, [], ◌∷◌}
use Prim.Native.Nat.{ℕ}
use lib.Dec.{eqb}
use borrow.Author.Tests.{eq-eqb, eqb-true}
use Rattle.state.specs.State.{both, same_words, same_plan, same_run, same_state}
use Rattle.state.specs.declared.Sampler.{Sampler}

pub both_true : (a b : Bool) → both a b ≡ true → (a ≡ true) × (b ≡ true)
unfolding both
both_true true b e = (refl, e)
both_true false b e = (e, absurd (true≢false (sym e)))

pub true_both : {a b : Bool} → a ≡ true → b ≡ true → both a b ≡ true
unfolding both
true_both e f = rw (e, f) refl

same : (n : ℕ) → eqb n n ≡ true
same n = eq-eqb n n refl

pub same_words_refl : (l : List ℕ) → same_words l l ≡ true
unfolding same_words
same_words_refl [] = refl
same_words_refl (x ∷ l) = true_both (same x) (same_words_refl l)

pub same_words_is : (a b : List ℕ) → same_words a b ≡ true → a ≡ b
unfolding same_words
same_words_is [] [] e = refl
same_words_is [] (y ∷ b) e = absurd (true≢false (sym e))
same_words_is (x ∷ a) [] e = absurd (true≢false (sym e))
same_words_is (x ∷ a) (y ∷ b) e =
    let h = both_true (eqb x y) (same_words a b) e in ap₂ ◌∷◌ (eqb-true x y h.0) (same_words_is a b h.1)

pub same_state_refl : (s : Sampler) → same_state s s ≡ true
unfolding same_state same_plan same_run
same_state_refl s =
    true_both
    (true_both (same s.family)
    (true_both (same s.axes)
    (true_both (same_words_refl s.bases) (true_both (same_words_refl s.polynomials) (same_words_refl s.directions)))))
    (true_both (same_words_refl s.starts) (true_both (same s.count) (true_both (same s.taken) (same_words_refl s.numerators))))

pub same_state_is : (s t : Sampler) → same_state s t ≡ true → s ≡ t
unfolding same_state same_plan same_run
same_state_is s t e =
    let h = both_true _ _ e in
    let p1 = both_true _ _ h.0 in
    let p2 = both_true _ _ p1.1 in
    let p3 = both_true _ _ p2.1 in
    let p4 = both_true _ _ p3.1 in
    let r1 = both_true _ _ h.1 in
    let r2 = both_true _ _ r1.1 in
    let r3 = both_true _ _ r2.1 in
    λ j.
    record {
      family = eqb-true s.family t.family p1.0 j;
      axes = eqb-true s.axes t.axes p2.0 j;
      bases = same_words_is s.bases t.bases p3.0 j;
      polynomials = same_words_is s.polynomials t.polynomials p4.0 j;
      directions = same_words_is s.directions t.directions p4.1 j;
      starts = same_words_is s.starts t.starts r1.0 j;
      count = eqb-true s.count t.count r2.0 j;
      taken = eqb-true s.taken t.taken r3.0 j;
      numerators = same_words_is s.numerators t.numerators r3.1 j;
    }
