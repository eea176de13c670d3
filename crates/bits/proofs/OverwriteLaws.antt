-- Writing over a part of a list: two writes in a row are one, and a loop may write element by element. Assumes nothing.
use mathlib.Core.Path.{◌≡◌, refl, sym, ap, ap₂, ◌∙◌}
use mathlib.Core.List.{List, [], ◌++◌, append_assoc}
use Prim.Native.Nat.{ℕ, ◌+◌, ◌<◌, ◌≤◌}
use native.Mathlib.Nat.{zero-add, le_refl}
use native.Mathlib.Numerals.{add-one}
use native.Mathlib.Omega.{arith}
use lib.ListN.{length, take, drop, get_or, set, length-append, length-set}
use lib.Seq.{take-length, drop-drop, paste, paste-zero, paste-suc, length-paste, take-paste, drop-paste}
use borrow.Rule.Slice.PartMut.{put_mid}
use Rattle.std.proofs.lemmas.Slice.{put_mid-paste}
use Rattle.bits.specs.Stream.{overwrite}

pub over_is : (l : List ℕ) (p : ℕ) (x : List ℕ) → overwrite l p x ≡ take p l ++ x ++ drop (p + length x) l
unfolding overwrite
over_is l p x = rw take-length refl

module _ (l : List ℕ) (p : ℕ) where
  pub over_none : l ≡ overwrite l p []
  unfolding overwrite
  over_none = paste-zero l p []

  pub length_over : (x : List ℕ) → p + length x ≤ length l → length (overwrite l p x) ≡ length l
  unfolding overwrite
  length_over x h = length-paste l p x (length x) h (le_refl (length x))

  module _ (x : List ℕ) (q : ℕ) (h : p ≤ length l) (e : q ≡ p + length x) where
    pub take_over : take q (overwrite l p x) ≡ take p l ++ x
    unfolding overwrite
    take_over = rw e (take-paste l p x (length x) h (le_refl (length x)) ∙ rw take-length refl)

    pub drop_over : drop q (overwrite l p x) ≡ drop q l
    unfolding overwrite
    drop_over = rw e (drop-paste l p x (length x) h (le_refl (length x)))

    -- two writes in a row are one
    pub over_append : (y : List ℕ) → overwrite (overwrite l p x) q y ≡ overwrite l p (x ++ y)
    over_append y =
        let n : q + length y ≡ p + length (x ++ y) = omega (arith, length-append x y) in
        let rest : drop (q + length y) (overwrite l p x) ≡ drop (p + length (x ++ y)) l =
        sym (drop-drop (length y) q (overwrite l p x)) ∙ ap (drop (length y)) drop_over ∙ drop-drop (length y) q l ∙ ap (λ (k : ℕ). drop k l) n in
        over_is (overwrite l p x) q y ∙ ap₂ (λ (a b : List ℕ). a ++ y ++ b) take_over rest
        ∙ ap (λ (a : List ℕ). a ++ drop (p + length (x ++ y)) l) (append_assoc (take p l) x y) ∙ sym (over_is l p (x ++ y))

-- from the start of the list
pub over_start : (l x : List ℕ) (n : ℕ) → length x ≡ n → overwrite l 0 x ≡ x ++ drop n l
over_start l x n e = over_is l 0 x ∙ ap (λ (k : ℕ). x ++ drop k l) (zero-add (length x) ∙ e)

-- a part of the list whose elements are now those of x
pub over_part : (l : List ℕ) (at n : ℕ) (x y : List ℕ) → y ≡ x → length x ≡ n → put_mid at n l y ≡ overwrite l at x
unfolding overwrite
over_part l at n x y same e = put_mid-paste at n l y x (length x) same e refl

-- ---- element by element

-- `new` has the first i elements of x from place `at` on, and all else as `old` has it
pub record Copied (old : List ℕ) (at : ℕ) (x : List ℕ) (i : ℕ) (new : List ℕ) : Type 0 where
  pub size : length new ≡ length old
  pub is : new ≡ paste old at x i

module _ (old : List ℕ) (at : ℕ) (x : List ℕ) where
  pub copied_none : Copied old at x 0 old
  copied_none = record { size = refl; is = paste-zero old at x }

  -- the next one is stored at place p
  pub copied_next : {new : List ℕ} (i p b : ℕ) → i < length x → p < length old → p ≡ at + i → b ≡ get_or x i 0 → Copied old at x i new
      → Copied old at x (i + 1) (set new p b)
  copied_next {new} i p b h k ep eb c =
      record { size = length-set new p b ∙ c.size; is = rw (c.is, ep, eb, add-one) (paste-suc old at x i 0 (omega arith) h) }

  pub copied_all : {new : List ℕ} (i : ℕ) → i ≡ length x → Copied old at x i new → new ≡ overwrite old at x
  unfolding overwrite
  copied_all i e c = c.is ∙ ap (paste old at x) e
