-- One bit of a byte replaced: as a number, as shifts and masks compute it, and in the stream. Assumes nothing.
use mathlib.Core.Path.{◌≡◌, sym, ap, ap₂, ◌∙◌, subst}
use mathlib.Core.List.{List, [], ◌∷◌, ◌++◌}
use Prim.Native.Nat.{ℕ, zero, suc, ◌+◌, ◌-◌, ◌*◌, ◌/◌, ◌%◌, ◌^◌, ◌<◌, ◌≤◌}
use native.Mathlib.Nat.{mod-eq_of_lt, mod-lt, suc-add, pow-suc, lt_of_lt_of_le, one-mul, zero-add, le_of_eq}
use native.Mathlib.Numerals.{add-one}
use native.Mathlib.Omega.{arith}
use lib.ListN.{length, get_or, set}
use lib.Seq.{set_at, set-append_left}
use lib.Bits.{bit_or, bit_and, or_shifted, and_mask}
use lib.Arith.{digits_lt}
use lib.Pow.{pow_pos, pow-add, pow-lt, shr_lt, pow_mono, shr-shr, high, shl_lt, shr_le}
use Rattle.bits.specs.Stream.{to_bits, bits_of}
use Rattle.bits.proofs.StreamLaws.{length_to_bits, to_bits_add, to_bits_low, to_bits_split}

-- the number `old` with b as its bit of weight 2 ^ s
abbrev pub poked : ℕ → ℕ → ℕ → ℕ
poked old s b = (old / 2 ^ suc s * 2 + b) * 2 ^ s + old % 2 ^ s

to_bits_poked : (j s old b : ℕ) → b < 2 → to_bits (j + suc s) (poked old s b) ≡ set (to_bits (j + suc s) old) j b
unfolding to_bits
to_bits_poked j s old b hb =
    let x : ℕ = poked old s b in
    let hi : ℕ = old / 2 ^ suc s in
    let e0 : x / 2 ^ s ≡ hi * 2 + b = high (hi * 2 + b) s (mod-lt old (pow_pos s)) in
    let e1 : x / 2 ^ suc s ≡ hi = ap (λ (k : ℕ). x / 2 ^ k) (sym (add-one s)) ∙ sym (shr-shr x s 1) ∙ ap (λ (y : ℕ). y / 2) e0 ∙ omega arith in
    let e2 : x / 2 ^ s % 2 ≡ b = ap (λ (y : ℕ). y % 2) e0 ∙ omega arith in
    let e3 : to_bits s x ≡ to_bits s old = to_bits_add s (hi * 2 + b) (old % 2 ^ s) ∙ sym (to_bits_low s old) in
    to_bits_split j (suc s) x
    ∙ ap₂ (λ (p q : List ℕ). p ++ q) (ap (to_bits j) e1) (ap₂ ◌∷◌ e2 e3)
    ∙ sym
    (ap (λ (l : List ℕ). set l j b) (to_bits_split j (suc s) old)
    ∙ set_at (to_bits j hi) (old / 2 ^ s % 2) (to_bits s old) b j (length_to_bits j hi))

poked_lt : (j s old b : ℕ) → b < 2 → j + suc s ≡ 8 → old < 256 → poked old s b < 256
poked_lt j s old b hb e h =
    let q : old / 2 ^ suc s < 2 ^ j = shr_lt j (suc s) (rw e h) in
    let t : old / 2 ^ suc s * 2 + b < 2 ^ j * 2 = digits_lt q hb in
    let k : suc j + s ≡ 8 = omega arith in
    lt_of_lt_of_le (digits_lt t (mod-lt old (pow_pos s)))
    (le_of_eq (ap (λ (m : ℕ). m * 2 ^ s) (sym (pow-suc 2 j)) ∙ sym (pow-add 2 (suc j) s) ∙ ap (λ (m : ℕ). 2 ^ m) k))

-- ---- what the code computes

one_shifted : (s : ℕ) → s ≤ 7 → 1 * 2 ^ s % 2 ^ 64 ≡ 2 ^ s
one_shifted s h = ap (λ (x : ℕ). x % 2 ^ 64) (one-mul (2 ^ s)) ∙ mod-eq_of_lt (pow-lt {i = s} {j = 64} (omega arith))

pub mask_pos : (s : ℕ) → s ≤ 7 → 1 ≤ 1 * 2 ^ s % 2 ^ 64
mask_pos s h = rw (one_shifted s h) (pow_pos s)

-- the bits above, the new bit and the bits below, put together in a word
abbrev pub joined : ℕ → ℕ → ℕ → ℕ
joined old s b = bit_or (bit_or (old / 2 ^ (s + 1) * 2 % 2 ^ 64) b * 2 ^ s % 2 ^ 64) (bit_and old (1 * 2 ^ s % 2 ^ 64 - 1))

pub joined_poked : (old s b : ℕ) → s ≤ 7 → old < 256 → b < 2 → joined old s b ≡ poked old s b
joined_poked old s b hs ho hb =
    let q : ℕ = old / 2 ^ (s + 1) in
    let hq : q ≤ old = shr_le old (s + 1) in
    let e1 : q * 2 % 2 ^ 64 ≡ q * 2 = mod-eq_of_lt {n = q * 2} {m = 2 ^ 64} (omega arith) in
    let e2 : bit_or (q * 2) b ≡ q * 2 + b = or_shifted q 1 b hb in
    let small : (q * 2 + b) * 2 ^ s < 2 ^ 64 =
    lt_of_lt_of_le (shl_lt {a = q * 2 + b} 9 s (omega arith)) (pow_mono {i = 9 + s} {j = 64} (omega arith)) in
    let e3 : (q * 2 + b) * 2 ^ s % 2 ^ 64 ≡ (q * 2 + b) * 2 ^ s = mod-eq_of_lt small in
    let e4 : 1 * 2 ^ s % 2 ^ 64 ≡ 2 ^ s = one_shifted s hs in
    let e5 : bit_and old (2 ^ s - 1) ≡ old % 2 ^ s = and_mask old s in
    rw (e1, e2, e3, e4, e5)
    (or_shifted (q * 2 + b) s (old % 2 ^ s) (mod-lt old (pow_pos s))
    ∙ ap (λ (k : ℕ). (old / 2 ^ k * 2 + b) * 2 ^ s + old % 2 ^ s) (add-one s))

-- the lowest bit, by a mask
pub lowest_bit : (n : ℕ) → bit_and n 1 ≡ n % 2
lowest_bit n = and_mask n 1

-- ---- a bit of one byte is a bit of the stream

set_append_right : (xs ys : List ℕ) (i a : ℕ) → set (xs ++ ys) (length xs + i) a ≡ xs ++ set ys i a
set_append_right [] ys i a = ap (λ (k : ℕ). set ys k a) (zero-add i)
set_append_right (x ∷ xs) ys i a = rw suc-add (ap (λ (l : List ℕ). x ∷ l) (set_append_right xs ys i a))

pub bits_set : (bs : List ℕ) (k j x b : ℕ) → k < length bs → j < 8 → to_bits 8 x ≡ set (to_bits 8 (get_or bs k 0)) j b → bits_of (set bs k x) ≡ set (bits_of bs) (8 * k + j) b
unfolding bits_of
bits_set [] k j x b h g e = absurd (omega arith)
bits_set (y ∷ bs) zero j x b h g e =
    ap (λ (l : List ℕ). l ++ bits_of bs) e
    ∙ sym
    (ap (λ (i : ℕ). set (to_bits 8 y ++ bits_of bs) i b) (omega arith)
    ∙ set-append_left (to_bits 8 y) (bits_of bs) j b (omega (arith, length_to_bits 8 y)))
bits_set (y ∷ bs) (suc k) j x b h g e =
    ap (λ (l : List ℕ). to_bits 8 y ++ l) (bits_set bs k j x b (omega arith) g e)
    ∙ sym
    (ap (λ (i : ℕ). set (to_bits 8 y ++ bits_of bs) i b) (omega (arith, length_to_bits 8 y))
    ∙ set_append_right (to_bits 8 y) (bits_of bs) (8 * k + j) b)

-- the byte that holds bit i of the stream, with b as that bit
module _ (bs : List ℕ) (i b x : ℕ) (hb : b < 2) (e : x ≡ poked (get_or bs (i / 8) 0) (7 - i % 8) b) where
  eight : i % 8 + suc (7 - i % 8) ≡ 8
  eight = omega arith

  pub poked_fits : get_or bs (i / 8) 0 < 256 → x < 256
  poked_fits small = rw e (poked_lt (i % 8) (7 - i % 8) (get_or bs (i / 8) 0) b hb eight small)

  pub poked_stream : i < 8 * length bs → bits_of (set bs (i / 8) x) ≡ set (bits_of bs) i b
  poked_stream h =
      let s : ℕ = 7 - i % 8 in
      let old : ℕ = get_or bs (i / 8) 0 in
      let p : 8 * (i / 8) + i % 8 ≡ i = omega arith in
      let q : to_bits 8 x ≡ set (to_bits 8 old) (i % 8) b =
      rw e (subst (λ (n : ℕ). to_bits n (poked old s b) ≡ set (to_bits n old) (i % 8) b) eight (to_bits_poked (i % 8) s old b hb)) in
      bits_set bs (i / 8) (i % 8) x b (omega arith) (omega arith) q ∙ ap (λ (n : ℕ). set (bits_of bs) n b) p
