-- The words of a state and back; a word that is set is the one word that changes. Assumes nothing.
use mathlib.Core.Path.{◌≡◌, refl, sym, ap, ◌∙◌}
use mathlib.Core.Logic.{◌≢◌}
use mathlib.Core.List.{List, [], ◌∷◌, ◌++◌, append-nil}
use Prim.Native.Nat.{ℕ, suc, ◌+◌, ◌<◌, ◌≤◌}
use native.Mathlib.Omega.{arith}
use native.Mathlib.Numerals.{add-one}
use lib.ListN.{length, take, drop, get_or, set, length-append, length-drop, length-set}
use lib.Seq.{take-add, take_all, drop-length, drop-cons, length-take-le, get_or-set_same, get_or-set_other}
use Rattle.bits.specs.Stream.{overwrite}
use Rattle.bits.proofs.OverwriteLaws.{over_append, over_start}
use Rattle.state.specs.declared.Sampler.{Sampler}
use Rattle.fitting.specs.Fits.{Sized}
use Rattle.state_words.specs.Words.{words_of, part, from_words, word_of, poked}

pub words_length : (s : Sampler) → Sized s → length (words_of s) ≡ 220
unfolding words_of
words_length s z = simp length-append (omega (arith, z.bases, z.polynomials, z.directions, z.starts, z.numerators))

pub part_length : (l : List ℕ) (at n : ℕ) → at + n ≤ length l → length (part l at n) ≡ n
part_length l at n h = length-take-le n (drop at l) (omega (arith, length-drop at l))

-- ---- stores

-- a block that is as long as the list is the list afterwards
pub whole_store : (old x : List ℕ) → length x ≡ length old → overwrite old 0 x ≡ x
whole_store old x e = over_start old x (length old) e ∙ ap (λ (y : List ℕ). x ++ y) (drop-length old) ∙ append-nil x

-- a store after what was stored from the start on
then : (old : List ℕ) {l m : List ℕ} (x y : List ℕ) (q : ℕ) → l ≡ overwrite old 0 x → length x ≡ q → m ≡ overwrite l q y → m ≡ overwrite old 0 (x ++ y)
then old x y q e h f = f ∙ rw e (over_append old 0 x q (omega arith) (omega arith) y)

-- the words of a state, stored part by part
module _ (old : List ℕ) (s : Sampler) (long : length old ≡ 220) (z : Sized s) where
  abbrev plan : List ℕ
  plan = (s.family ∷ s.axes ∷ []) ++ s.bases ++ s.polynomials ++ s.directions

  pub stored_plan : {l₁ l₂ l₃ l₄ : List ℕ} → l₁ ≡ overwrite old 0 (s.family ∷ s.axes ∷ []) → l₂ ≡ overwrite l₁ 2 s.bases
      → l₃ ≡ overwrite l₂ 8 s.polynomials → l₄ ≡ overwrite l₃ 14 s.directions → l₄ ≡ overwrite old 0 plan
  stored_plan e₁ e₂ e₃ e₄ =
      let a = s.family ∷ s.axes ∷ [] in
      let n₂ : length (a ++ s.bases) ≡ 8 = simp length-append (omega (arith, z.bases)) in
      let n₃ : length (a ++ s.bases ++ s.polynomials) ≡ 14 = simp length-append (omega (arith, z.bases, z.polynomials)) in
      let f₂ = then old a s.bases 2 e₁ refl e₂ in
      let f₃ = then old (a ++ s.bases) s.polynomials 8 f₂ n₂ e₃ in
      then old (a ++ s.bases ++ s.polynomials) s.directions 14 f₃ n₃ e₄

  pub stored : {l₄ l₅ l₆ l₇ : List ℕ} → l₄ ≡ overwrite old 0 plan → l₅ ≡ overwrite l₄ 206 s.starts
      → l₆ ≡ overwrite l₅ 212 (s.count ∷ s.taken ∷ []) → l₇ ≡ overwrite l₆ 214 s.numerators → l₇ ≡ words_of s
  unfolding words_of
  stored e₄ e₅ e₆ e₇ =
      let r = s.count ∷ s.taken ∷ [] in
      let n₄ : length plan ≡ 206 = simp length-append (omega (arith, z.bases, z.polynomials, z.directions)) in
      let n₅ : length (plan ++ s.starts) ≡ 212 = simp length-append (omega (arith, n₄, z.starts)) in
      let n₆ : length (plan ++ s.starts ++ r) ≡ 214 = simp length-append (omega (arith, n₄, z.starts)) in
      let f₅ = then old plan s.starts 206 e₄ n₄ e₅ in
      let f₆ = then old (plan ++ s.starts) r 212 f₅ n₅ e₆ in
      let f₇ = then old (plan ++ s.starts ++ r) s.numerators 214 f₆ n₆ e₇ in
      f₇ ∙ whole_store old _ (words_length s z ∙ sym long)

-- ---- the words of a row, and the row as parts

module _ (l : List ℕ) where
  -- words of a row one by one
  part_suc : (at n : ℕ) → at < length l → part l at (suc n) ≡ get_or l at 0 ∷ part l (at + 1) n
  part_suc at n h = rw (drop-cons l at 0 h, add-one) refl

  two : (at : ℕ) → at + 2 ≤ length l → part l at 2 ≡ get_or l at 0 ∷ get_or l (at + 1) 0 ∷ []
  two at h = part_suc at 1 (omega arith) ∙ ap (λ (x : List ℕ). get_or l at 0 ∷ x) (part_suc (at + 1) 0 (omega arith))

  -- the row up to a place, and the part after it
  grown : (n m : ℕ) (x y : List ℕ) → x ≡ take n l → y ≡ part l n m → x ++ y ≡ take (n + m) l
  grown n m x y e f = rw (e, f) (sym (take-add n m l))

  -- the words of the state that has the words l are l
  pub words_of_state : length l ≡ 220 → words_of (from_words l) ≡ l
  unfolding words_of from_words
  words_of_state e =
      let a = sym (two 0 (omega arith)) in
      let b = grown 2 6 _ (part l 2 6) a refl in
      let c = grown 8 6 _ (part l 8 6) b refl in
      let d = grown 14 192 _ (part l 14 192) c refl in
      let f = grown 206 6 _ (part l 206 6) d refl in
      let g = grown 212 2 _ _ f (sym (two 212 (omega arith))) in
      grown 214 6 _ (part l 214 6) g refl ∙ take_all 220 l (omega arith)

module _ (s : Sampler) (z : Sized s) (i v : ℕ) where
  poked_words : words_of (poked s i v) ≡ set (words_of s) i v
  unfolding poked
  poked_words = words_of_state (set (words_of s) i v) (length-set (words_of s) i v ∙ words_length s z)

  -- the word that is set has the value
  pub poked_there : i < 220 → word_of (poked s i v) i ≡ v
  poked_there h = rw poked_words (get_or-set_same (words_of s) i v 0 (omega (arith, words_length s z)))

  -- every other word stays
  pub poked_elsewhere : (j : ℕ) → j ≢ i → word_of (poked s i v) j ≡ word_of s j
  poked_elsewhere j n = rw poked_words (get_or-set_other (words_of s) i j v 0 n)
