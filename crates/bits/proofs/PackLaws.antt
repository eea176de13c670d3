-- Bits packed into bytes and bytes taken apart into bits undo each other, so that bits have one packing. Assumes nothing.
use mathlib.Core.Path.{◌≡◌, refl, sym, ap, ap₂, ◌∙◌}
use mathlib.Core.List.{List, [], ◌∷◌, ◌++◌}
use mathlib.Core.Logic.{◌↔◌}
use Prim.Native.Nat.{ℕ, zero, suc, ◌+◌, ◌-◌, ◌*◌, ◌/◌, ◌<◌, ◌≤◌}
use native.Mathlib.Nat.{mod-eq_of_lt}
use native.Mathlib.Omega.{arith}
use lib.ListN.{length, take, drop, replicate, length-append, length-drop, length-replicate}
use lib.Seq.{take_at, drop_at, take-nil, take-append-add}
use Rattle.bits.specs.Stream.{to_bits, of_bits, bits_of, AllBelow, overwrite, bytes_for, pack, packed}
use Rattle.bits.proofs.OverwriteLaws.{take_over}
use Rattle.bits.proofs.StreamLaws.{length_to_bits, length_bits, of_bits_to_bits, to_bits_front, to_bits_zero, of_bits_take_lt, below_append, below_drop, below_zeros}

-- ---- the bits of the first bytes

eight_more : (x n : ℕ) → 8 * suc n ≡ length (to_bits 8 x) + 8 * n
eight_more x n = omega (arith, length_to_bits 8 x)

pub bits_take : (n : ℕ) (bs : List ℕ) → bits_of (take n bs) ≡ take (8 * n) (bits_of bs)
unfolding bits_of
bits_take zero bs = refl
bits_take (suc n) [] = sym (take-nil (8 * suc n))
bits_take (suc n) (x ∷ bs) =
    ap (λ (l : List ℕ). to_bits 8 x ++ l) (bits_take n bs) ∙ sym (rw (eight_more x n) (take-append-add (to_bits 8 x) (bits_of bs) (8 * n)))

-- ---- whole bytes

pub length_pack : (n : ℕ) (l : List ℕ) → length (pack n l) ≡ n
unfolding pack
length_pack zero l = refl
length_pack (suc n) l = ap suc (length_pack n (drop 8 l))

pub below_pack : (n : ℕ) (l : List ℕ) → AllBelow 2 l → AllBelow 256 (pack n l)
unfolding pack AllBelow
below_pack zero l h = tt
below_pack (suc n) l h = (of_bits_take_lt 8 l h, below_pack n (drop 8 l) (below_drop 2 8 l h))

pub pack_bits : (bs : List ℕ) → AllBelow 256 bs → pack (length bs) (bits_of bs) ≡ bs
unfolding pack bits_of AllBelow
pack_bits [] h = refl
pack_bits (b ∷ bs) h =
    ap₂ ◌∷◌ (ap of_bits (take_at (to_bits 8 b) (bits_of bs) 8 (length_to_bits 8 b)) ∙ of_bits_to_bits 8 b ∙ mod-eq_of_lt h.0)
    (ap (pack (length bs)) (drop_at (to_bits 8 b) (bits_of bs) 8 (length_to_bits 8 b)) ∙ pack_bits bs h.1)

pub bits_pack : (n : ℕ) (l : List ℕ) → AllBelow 2 l → length l ≡ 8 * n → bits_of (pack n l) ≡ l
unfolding pack bits_of
bits_pack zero [] h e = refl
bits_pack zero (x ∷ l) h e = absurd (omega arith)
bits_pack (suc n) l h e =
    ap (λ (y : List ℕ). to_bits 8 (of_bits (take 8 l)) ++ y) (bits_pack n (drop 8 l) (below_drop 2 8 l h) (omega (arith, length-drop 8 l)))
    ∙ sym (to_bits_front 8 l h (omega arith))

-- bytes with the same bits are the same bytes
pub bits_inj : (a b : List ℕ) → AllBelow 256 a → AllBelow 256 b → bits_of a ≡ bits_of b → a ≡ b
bits_inj a b ha hb e =
    let n : length a ≡ length b = omega (arith, length_bits a, length_bits b, ap length e) in
    sym (pack_bits a ha) ∙ ap₂ pack n e ∙ pack_bits b hb

-- ---- the last byte filled with zero bits

pub as_bytes : (n : ℕ) → (n + 7) / 8 ≡ bytes_for n
unfolding bytes_for
as_bytes n = refl

-- the bytes hold the bits, with fewer than eight to spare
pub bytes_hold : (n : ℕ) → n ≤ 8 * bytes_for n
unfolding bytes_for
bytes_hold n = omega arith

pub filling_lt : (n : ℕ) → 8 * bytes_for n - n < 8
unfolding bytes_for
filling_lt n = omega arith

pub length_packed : (l : List ℕ) → length (packed l) ≡ bytes_for (length l)
unfolding packed
length_packed l = length_pack _ _

module _ (l : List ℕ) (h : AllBelow 2 l) where
  filled : AllBelow 2 (l ++ replicate (8 * bytes_for (length l) - length l) 0)
  filled = below_append 2 l _ h (below_zeros (8 * bytes_for (length l) - length l))

  pub below_packed : AllBelow 256 (packed l)
  unfolding packed
  below_packed = below_pack (bytes_for (length l)) _ filled

  pub bits_packed : bits_of (packed l) ≡ l ++ replicate (8 * bytes_for (length l) - length l) 0
  unfolding packed
  bits_packed =
      let k : ℕ = 8 * bytes_for (length l) - length l in
      bits_pack (bytes_for (length l)) (l ++ replicate k 0) filled
      (omega (arith, bytes_hold (length l), length-append l (replicate k 0), length-replicate {A = ℕ} k 0))

  -- the same, the zero bits as a field of them
  pub bits_packed_field : (n : ℕ) → n ≡ length l → bits_of (packed l) ≡ l ++ to_bits (8 * bytes_for n - n) 0
  bits_packed_field n e = rw (to_bits_zero, e) bits_packed

-- bytes whose bits are l and fewer than eight zero bits are the packing of l
pub packed_bits : (bs l r : List ℕ) → AllBelow 256 bs → bits_of bs ≡ l ++ r → length r < 8 → r ≡ replicate (length r) 0 → packed l ≡ bs
unfolding packed bytes_for
packed_bits bs l r h e few zero-r =
    let n : 8 * length bs ≡ length l + length r = sym (length_bits bs) ∙ ap length e ∙ length-append l r in
    let eb : (length l + 7) / 8 ≡ length bs = omega arith in
    let ef : 8 * length bs - length l ≡ length r = omega arith in
    rw (eb, ef, ← zero-r, ← e) (pack_bits bs h)

-- and no others are
pub packed_unique : (bs l : List ℕ) → AllBelow 2 l → AllBelow 256 bs → packed l ≡ bs ↔ ((k : ℕ) × (k < 8) × (bits_of bs ≡ l ++ replicate k 0))
packed_unique bs l h hb = (to, from)
  where
    to : packed l ≡ bs → (k : ℕ) × (k < 8) × (bits_of bs ≡ l ++ replicate k 0)
    to e = (8 * bytes_for (length l) - length l, filling_lt (length l), ap bits_of (sym e) ∙ bits_packed l h)

    from : (k : ℕ) × (k < 8) × (bits_of bs ≡ l ++ replicate k 0) → packed l ≡ bs
    from (k, few, e) =
        let n : length {A = ℕ} (replicate k 0) ≡ k = length-replicate {A = ℕ} k 0 in
        packed_bits bs l (replicate k 0) hb e (omega arith) (ap (λ (j : ℕ). replicate j 0) (sym n))

-- ---- a packing written over the front of bytes

-- is the front of the bytes
pub packed_front : (l old new : List ℕ) (n : ℕ) → AllBelow 2 l → AllBelow 256 (take (bytes_for n) new) → n ≡ length l
    → bits_of new ≡ overwrite (bits_of old) 0 (l ++ to_bits (8 * bytes_for n - n) 0) → take (bytes_for n) new ≡ packed l
packed_front l old new n h hn en e =
    let es : bits_of (packed l) ≡ l ++ to_bits (8 * bytes_for n - n) 0 = bits_packed_field l h n en in
    let lx : length (l ++ to_bits (8 * bytes_for n - n) 0) ≡ 8 * bytes_for n =
    sym (ap length es) ∙ length_bits (packed l) ∙ ap (λ (k : ℕ). 8 * k) (length_packed l ∙ ap bytes_for (sym en)) in
    bits_inj (take (bytes_for n) new) (packed l) hn (below_packed l h)
    (bits_take (bytes_for n) new
    ∙ ap (take (8 * bytes_for n)) e
    ∙ take_over (bits_of old) 0 (l ++ to_bits (8 * bytes_for n - n) 0) (8 * bytes_for n) (omega arith) (omega arith)
    ∙ sym es)
