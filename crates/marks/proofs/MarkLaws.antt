-- One flag, and flags in a row: none tested yet, one more, up to another end, by an equal test, and parts joined. Assumes nothing.
use mathlib.Core.Path.{◌≡◌, refl, ap, ◌∙◌, subst}
use mathlib.Core.Bool.{cond}
use mathlib.Core.Logic.{inl, inr, ⊎_elim}
use mathlib.Core.List.{List}
use Prim.Native.Nat.{ℕ, ◌+◌, ◌<◌, ◌≤◌}
use native.Mathlib.Omega.{arith}
use lib.Dec.{ltb}
use lib.ListN.{length, get_or, set, length-set}
use lib.Seq.{get_or-set_same, get_or-set_other}
use borrow.Author.Tests.{lt-ltb, le-ltb}
use Rattle.numbers.proofs.Cases.{lt_or_ge}
use Rattle.marks.specs.Marking.{Marked}

pub keep_yes : (a b f : ℕ) → a < b → f ≡ cond (ltb a b) f 0
keep_yes a b f h = rw (lt-ltb a b h) refl

pub keep_no : (a b f : ℕ) → b ≤ a → 0 ≡ cond (ltb a b) f 0
keep_no a b f h = rw (le-ltb a b h) refl

-- ---- flags in a row

pub marked_none : (g : ℕ → ℕ) (limit lo : ℕ) (l : List ℕ) → Marked g limit lo lo l l
marked_none g limit lo l = record { same_length = refl; tested = λ i a h. absurd (omega arith); kept = λ i f. refl }

-- no flag to clear
pub marked_all : (g : ℕ → ℕ) (limit lo hi : ℕ) (l : List ℕ) → ((i : ℕ) → lo ≤ i → i < hi → g i < limit) → Marked g limit lo hi l l
marked_all g limit lo hi l f = record { same_length = refl; tested = λ i a h. keep_yes (g i) limit (get_or l i 0) (f i a h); kept = λ i q. refl }

module _ {g : ℕ → ℕ} {limit lo i : ℕ} {old new : List ℕ} (c : Marked g limit lo i old new) where
  pub marked_more : (v : ℕ) → lo ≤ i → i < length old → v ≡ cond (ltb (g i) limit) (get_or new i 0) 0 → Marked g limit lo (i + 1) old (set new i v)
  marked_more v h fits e = record {
    same_length = length-set new i v ∙ c.same_length;
    tested = λ k a l. ⊎_elim (λ q. get_or-set_other new i k v 0 (omega arith) ∙ c.tested k a q) (λ q. here k (omega arith)) (lt_or_ge k i);
    kept = λ k f. get_or-set_other new i k v 0 (⊎_elim (λ q. omega arith) (λ q. omega arith) f) ∙ c.kept k (⊎_elim (λ q. inl q) (λ q. inr (omega arith)) f);
  }
    where
      here : (k : ℕ) → k ≡ i → get_or (set new i v) k 0 ≡ cond (ltb (g k) limit) (get_or old k 0) 0
      here k q = rw q (get_or-set_same new i v 0 (omega (arith, c.same_length)) ∙ e ∙ ap (λ (f : ℕ). cond (ltb (g i) limit) f 0) (c.kept i (inr (omega arith))))

  pub marked_to : {hi : ℕ} → i ≡ hi → Marked g limit lo hi old new
  marked_to e = subst (λ (k : ℕ). Marked g limit lo k old new) e c

  pub marked_as : (h : ℕ → ℕ) → ((k : ℕ) → lo ≤ k → k < i → g k ≡ h k) → Marked h limit lo i old new
  marked_as h f = record {
    same_length = c.same_length;
    tested = λ k a l. c.tested k a l ∙ ap (λ (x : ℕ). cond (ltb x limit) (get_or old k 0) 0) (f k a l);
    kept = c.kept;
  }

  pub marked_join : {hi : ℕ} {last : List ℕ} → Marked g limit i hi new last → lo ≤ i → i ≤ hi → Marked g limit lo hi old last
  marked_join {hi} {last} d h m = record {
    same_length = d.same_length ∙ c.same_length;
    tested = λ k a l. ⊎_elim (λ q. d.kept k (inl q) ∙ c.tested k a q)
        (λ q. d.tested k q l ∙ ap (λ (f : ℕ). cond (ltb (g k) limit) f 0) (c.kept k (inr q))) (lt_or_ge k i);
    kept = λ k f. d.kept k (⊎_elim (λ q. inl (omega arith)) (λ q. inr q) f) ∙ c.kept k (⊎_elim (λ q. inl q) (λ q. inr (omega arith)) f);
  }
