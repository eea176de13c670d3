-- What holds at every place of a list holds at every place of the list with one more at its end if it holds there, and what holds of any two
-- places likewise. Assumes nothing.
use mathlib.Core.Path.{◌≡◌}
use mathlib.Core.List.{List, [], ◌∷◌, ◌++◌}
use mathlib.Core.Logic.{⊎_elim}
use Prim.Native.Nat.{ℕ, ◌+◌, ◌<◌}
use native.Mathlib.Omega.{arith}
use lib.ListN.{length, get_or, length-append, get_or-append}
use lib.Seq.{get_or-append_seam}
use Rattle.numbers.proofs.Cases.{lt_or_ge}

pub length_snoc : {A : Type 0} (l : List A) (x : A) → length (l ++ x ∷ []) ≡ length l + 1
length_snoc l x = length-append l (x ∷ [])

module _ {A : Type 0} (d : A) where
  -- P holds of each place and what stands there
  abbrev pub AtPlaces : (ℕ → A → Type 0) → List A → Type 0
  AtPlaces P l = (i : ℕ) → i < length l → P i (get_or l i d)

  -- R holds of what stands at a place and what stands at an earlier one
  abbrev pub AtPairs : (A → A → Type 0) → List A → Type 0
  AtPairs R l = (i j : ℕ) → j < i → i < length l → R (get_or l i d) (get_or l j d)

  pub places_snoc : (P : ℕ → A → Type 0) (l : List A) (x : A) → AtPlaces P l → P (length l) x → AtPlaces P (l ++ x ∷ [])
  places_snoc P l x h k i m =
      ⊎_elim (λ (n : i < length l). rw (get_or-append l (x ∷ []) d i n) (h i n))
      (λ n. let e : i ≡ length l = omega (arith, length_snoc l x) in rw (e, get_or-append_seam l x [] d) k)
      (lt_or_ge i (length l))

  pub pairs_snoc : (R : A → A → Type 0) (l : List A) (x : A) → AtPairs R l → ((j : ℕ) → j < length l → R x (get_or l j d)) → AtPairs R (l ++ x ∷ [])
  pairs_snoc R l x h k i j m n =
      rw (get_or-append l (x ∷ []) d j (omega (arith, length_snoc l x)))
      (places_snoc (λ i y. (j : ℕ) → j < i → R y (get_or l j d)) l x (λ i n j m. h i j m n) k i n j m)

  pub places_middle : (P : ℕ → A → Type 0) (a : List A) (x : A) (b : List A) → AtPlaces P (a ++ x ∷ b) → P (length a) x
  places_middle P a x b h = rw (get_or-append_seam a x b d) at (h (length a) (omega (arith, length-append a (x ∷ b))))

  pub pairs_middle : (R : A → A → Type 0) (a : List A) (x : A) (b : List A) → AtPairs R (a ++ x ∷ b) → (j : ℕ) → j < length a → R x (get_or a j d)
  pairs_middle R a x b h j m =
      rw (get_or-append_seam a x b d, get_or-append a (x ∷ b) d j m) at (h (length a) j m (omega (arith, length-append a (x ∷ b))))
