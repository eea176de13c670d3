-- Bits, the numbers they spell and the fields of a stream: lengths, bounds, and the two ways between numbers and bits. Assumes nothing.
use mathlib.Core.Path.{◌≡◌, refl, sym, ap, ap₂, ◌∙◌, subst}
use mathlib.Core.List.{List, [], ◌∷◌, ◌++◌}
use mathlib.Core.Logic.{⊎_elim}
use Prim.Native.Nat.{ℕ, zero, suc, ◌+◌, ◌-◌, ◌*◌, ◌/◌, ◌%◌, ◌^◌, ◌<◌, ◌≤◌}
use native.Mathlib.Nat.{add-mul-div_right, add_comm, mul_assoc, mul_comm, pow-suc, add-mul, add_assoc, mod-eq_of_lt, mod-one, zero-mul, zero-add, zero-div, suc-add, lt_of_lt_of_le}
use native.Mathlib.Numerals.{add-one, one-add}
use native.Mathlib.Omega.{arith}
use lib.ListN.{length, take, drop, get_or, replicate, length-append, length-take, length-drop, take-append-drop, get_or-append}
use lib.Seq.{take-suc, get_or-drop, get_or-append-add, length-take-le}
use lib.Pow.{pow_pos, pow_mono, mod-pow-add, pow-add, shr-shr, high, split}
use lib.Arith.{digits_lt}
use Rattle.numbers.proofs.Cases.{lt_or_ge}
use Rattle.bits.specs.Stream.{to_bits, of_bits, bits_of, bit_at, field_at, AllBelow}

-- ---- lengths

pub length_to_bits : (w n : ℕ) → length (to_bits w n) ≡ w
unfolding to_bits
length_to_bits zero n = refl
length_to_bits (suc w) n = ap suc (length_to_bits w n)

pub length_bits : (bs : List ℕ) → length (bits_of bs) ≡ 8 * length bs
unfolding bits_of
length_bits [] = refl
length_bits (b ∷ bs) = omega (arith, length-append (to_bits 8 b) (bits_of bs), length_to_bits 8 b, length_bits bs)

-- ---- every element below a number

pub below_one : (m b : ℕ) → b < m → AllBelow m (b ∷ [])
unfolding AllBelow
below_one m b h = (h, tt)

pub below_append : (m : ℕ) (a b : List ℕ) → AllBelow m a → AllBelow m b → AllBelow m (a ++ b)
unfolding AllBelow
below_append m [] b h k = k
below_append m (x ∷ a) b h k = (h.0, below_append m a b h.1 k)

pub below_right : (m : ℕ) (a b : List ℕ) → AllBelow m (a ++ b) → AllBelow m b
unfolding AllBelow
below_right m [] b h = h
below_right m (x ∷ a) b h = below_right m a b h.1

pub below_take : (m n : ℕ) (a : List ℕ) → AllBelow m a → AllBelow m (take n a)
unfolding AllBelow
below_take m zero a h = tt
below_take m (suc n) [] h = tt
below_take m (suc n) (x ∷ a) h = (h.0, below_take m n a h.1)

pub below_drop : (m n : ℕ) (a : List ℕ) → AllBelow m a → AllBelow m (drop n a)
unfolding AllBelow
below_drop m zero a h = h
below_drop m (suc n) [] h = tt
below_drop m (suc n) (x ∷ a) h = below_drop m n a h.1

pub below_none : (m : ℕ) (l : List ℕ) → AllBelow m (take 0 l)
unfolding AllBelow
below_none m l = tt

-- one more of a list
pub below_next : (m : ℕ) (l : List ℕ) (i : ℕ) → i < length l → get_or l i 0 < m → AllBelow m (take i l) → AllBelow m (take (i + 1) l)
below_next m l i h b k = rw (add-one, take-suc l i 0) (below_append m (take i l) (get_or l i 0 ∷ []) k (below_one m (get_or l i 0) b))

pub below_of : (m : ℕ) (l : List ℕ) → ((i : ℕ) → get_or l i 0 < m) → AllBelow m l
unfolding AllBelow
below_of m [] h = tt
below_of m (x ∷ l) h = (h 0, below_of m l (λ i. h (suc i)))

pub below_zeros : (n : ℕ) → AllBelow 2 (replicate n 0)
unfolding AllBelow
below_zeros zero = tt
below_zeros (suc n) = (omega arith, below_zeros n)

pub below_to_bits : (w n : ℕ) → AllBelow 2 (to_bits w n)
unfolding AllBelow to_bits
below_to_bits zero n = tt
below_to_bits (suc w) n = (omega arith, below_to_bits w n)

pub below_bits : (bs : List ℕ) → AllBelow 2 (bits_of bs)
unfolding AllBelow bits_of
below_bits [] = tt
below_bits (b ∷ bs) = below_append 2 (to_bits 8 b) (bits_of bs) (below_to_bits 8 b) (below_bits bs)

-- ---- the number that bits spell

pub of_bits_append : (a b : List ℕ) → of_bits (a ++ b) ≡ of_bits a * 2 ^ length b + of_bits b
unfolding of_bits
of_bits_append [] b = rw (zero-mul, zero-add)
of_bits_append (x ∷ a) b = rw (of_bits_append a b, length-append a b) (simp (pow-add, add-mul, mul_assoc, add_assoc))

pub of_bits_snoc : (a : List ℕ) (b : ℕ) → of_bits (a ++ b ∷ []) ≡ of_bits a * 2 + b
unfolding of_bits
of_bits_snoc a b = of_bits_append a (b ∷ []) ∙ omega arith

pub of_bits_lt : (l : List ℕ) → AllBelow 2 l → of_bits l < 2 ^ length l
unfolding of_bits AllBelow
of_bits_lt [] h = omega arith
of_bits_lt (b ∷ l) h = rw (pow-suc, mul_comm (2 ^ length l) 2) (digits_lt h.0 (of_bits_lt l h.1))

pub of_bits_take_lt : (w : ℕ) (l : List ℕ) → AllBelow 2 l → of_bits (take w l) < 2 ^ w
of_bits_take_lt w l h = lt_of_lt_of_le (of_bits_lt (take w l) (below_take 2 w l h)) (pow_mono (omega (arith, length-take w l)))

pub of_bits_zeros : (n : ℕ) → of_bits (replicate n 0) ≡ 0
unfolding of_bits
of_bits_zeros zero = refl
of_bits_zeros (suc n) = omega (arith, of_bits_zeros n)

-- bits that spell 0 are all 0
pub zeros_of_bits : (l : List ℕ) → AllBelow 2 l → of_bits l ≡ 0 → l ≡ replicate (length l) 0
unfolding of_bits AllBelow
zeros_of_bits [] h e = refl
zeros_of_bits (zero ∷ l) h e = ap (λ (y : List ℕ). 0 ∷ y) (zeros_of_bits l h.1 (omega (arith, e)))
zeros_of_bits (suc b ∷ l) h e = absurd (omega (arith, e, pow_pos (length l)))

-- ---- the bits of a number

-- those of weight 2 ^ w and above don't count
pub to_bits_add : (w a m : ℕ) → to_bits w (a * 2 ^ w + m) ≡ to_bits w m
unfolding to_bits
to_bits_add zero a m = refl
to_bits_add (suc w) a m = rw shape (ap₂ ◌∷◌ first (to_bits_add w (a * 2) m))
  where
    shape : a * 2 ^ suc w + m ≡ (a * 2) * 2 ^ w + m
    shape = rw pow-suc (simp (mul_assoc, mul_comm (2 ^ w) 2))

    first : ((a * 2) * 2 ^ w + m) / 2 ^ w % 2 ≡ m / 2 ^ w % 2
    first =
        ap (λ (x : ℕ). x / 2 ^ w % 2) (add_comm ((a * 2) * 2 ^ w) m)
        ∙ ap (λ (x : ℕ). x % 2) (add-mul-div_right m (a * 2) (pow_pos w))
        ∙ omega arith

pub to_bits_low : (w n : ℕ) → to_bits w n ≡ to_bits w (n % 2 ^ w)
to_bits_low w n = ap (to_bits w) (sym (split n w)) ∙ to_bits_add w (n / 2 ^ w) (n % 2 ^ w)

pub to_bits_split : (a w n : ℕ) → to_bits (a + w) n ≡ to_bits a (n / 2 ^ w) ++ to_bits w n
unfolding to_bits
to_bits_split zero w n = ap (λ (k : ℕ). to_bits k n) (zero-add w)
to_bits_split (suc a) w n =
    rw suc-add
    (ap₂ ◌∷◌ (ap (λ (x : ℕ). x % 2) (ap (λ (k : ℕ). n / 2 ^ k) (add_comm a w) ∙ sym (shr-shr n w a))) (to_bits_split a w n))

pub to_bits_zero : (w : ℕ) → to_bits w 0 ≡ replicate w 0
unfolding to_bits
to_bits_zero zero = refl
to_bits_zero (suc w) = ap₂ ◌∷◌ (ap (λ (x : ℕ). x % 2) (zero-div (2 ^ w))) (to_bits_zero w)

-- ---- the two are inverse to each other

pub of_bits_to_bits : (w n : ℕ) → of_bits (to_bits w n) ≡ n % 2 ^ w
unfolding to_bits of_bits
of_bits_to_bits zero n = sym (mod-one n)
of_bits_to_bits (suc w) n =
    rw (length_to_bits w n, of_bits_to_bits w n)
    (subst (λ (k : ℕ). n / 2 ^ w % 2 * 2 ^ w + n % 2 ^ w ≡ n % 2 ^ k) (one-add w) (sym (mod-pow-add n 1 w)))

pub to_bits_of_bits : (l : List ℕ) → AllBelow 2 l → to_bits (length l) (of_bits l) ≡ l
unfolding to_bits of_bits AllBelow
to_bits_of_bits [] h = refl
to_bits_of_bits (b ∷ l) h =
    ap₂ ◌∷◌ (rw (high b (length l) (of_bits_lt l h.1)) (mod-eq_of_lt h.0))
    (to_bits_add (length l) b (of_bits l) ∙ to_bits_of_bits l h.1)

-- what a field of w bits takes off the front is its spelling
pub to_bits_front : (w : ℕ) (l : List ℕ) → AllBelow 2 l → w ≤ length l → l ≡ to_bits w (of_bits (take w l)) ++ drop w l
to_bits_front w l h k = sym (ap (λ (x : List ℕ). x ++ drop w l) spelled ∙ take-append-drop w l)
  where
    spelled : to_bits w (of_bits (take w l)) ≡ take w l
    spelled = ap (λ (x : ℕ). to_bits x (of_bits (take w l))) (sym (length-take-le w l k)) ∙ to_bits_of_bits (take w l) (below_take 2 w l h)

-- ---- a bit of the stream

pub get_or_to_bits : (w n i : ℕ) → i < w → get_or (to_bits w n) i 0 ≡ n / 2 ^ (w - suc i) % 2
unfolding to_bits
get_or_to_bits zero n i h = absurd (omega arith)
get_or_to_bits (suc w) n zero h = ap (λ (k : ℕ). n / 2 ^ k % 2) (omega arith)
get_or_to_bits (suc w) n (suc i) h = get_or_to_bits w n i (omega arith) ∙ ap (λ (k : ℕ). n / 2 ^ k % 2) (omega arith)

-- of the first byte, and of those after it
first_byte : (b : ℕ) (bs : List ℕ) (i : ℕ) → i < 8 → get_or (bits_of (b ∷ bs)) i 0 ≡ bit_at (b ∷ bs) i
unfolding bits_of
first_byte b bs i h =
    let e : i / 8 ≡ 0 = omega arith in
    let f : i % 8 ≡ i = omega arith in
    get_or-append (to_bits 8 b) (bits_of bs) 0 i (omega (arith, length_to_bits 8 b))
    ∙ get_or_to_bits 8 b i h
    ∙ rw (e, f) (ap (λ (k : ℕ). b / 2 ^ k % 2) (omega arith))

later_byte : (b : ℕ) (bs : List ℕ) (i : ℕ) → 8 ≤ i → get_or (bits_of bs) (i - 8) 0 ≡ bit_at bs (i - 8) → get_or (bits_of (b ∷ bs)) i 0 ≡ bit_at (b ∷ bs) i
unfolding bits_of
later_byte b bs i h ih =
    let e : i / 8 ≡ suc ((i - 8) / 8) = omega arith in
    let f : i % 8 ≡ (i - 8) % 8 = omega arith in
    let g : i ≡ length (to_bits 8 b) + (i - 8) = omega (arith, length_to_bits 8 b) in
    ap (λ (k : ℕ). get_or (to_bits 8 b ++ bits_of bs) k 0) g ∙ get_or-append-add (to_bits 8 b) (bits_of bs) (i - 8) 0 ∙ ih ∙ rw (e, f) refl

pub get_d_bits : (bs : List ℕ) (i : ℕ) → i < 8 * length bs → get_or (bits_of bs) i 0 ≡ bit_at bs i
unfolding bits_of
get_d_bits [] i h = absurd (omega arith)
get_d_bits (b ∷ bs) i h =
    ⊎_elim (first_byte b bs i) (λ (k : 8 ≤ i). later_byte b bs i k (get_d_bits bs (i - 8) (omega arith))) (lt_or_ge i 8)

-- ---- a field

pub field_zero : (bs : List ℕ) (p : ℕ) → field_at bs p 0 ≡ 0
unfolding field_at of_bits
field_zero bs p = refl

-- one more bit
pub field_next : (bs : List ℕ) (p w : ℕ) → p + w < 8 * length bs → field_at bs p (w + 1) ≡ field_at bs p w * 2 + bit_at bs (p + w)
unfolding field_at
field_next bs p w h =
    rw (add-one, take-suc (drop p (bits_of bs)) w 0 (simp (length-drop, length_bits) (omega arith)))
    (of_bits_snoc _ _
    ∙ ap (λ (x : ℕ). of_bits (take w (drop p (bits_of bs))) * 2 + x) (get_or-drop p (bits_of bs) w 0 ∙ get_d_bits bs (p + w) h))

pub field_lt : (bs : List ℕ) (p w : ℕ) → field_at bs p w < 2 ^ w
unfolding field_at
field_lt bs p w = of_bits_take_lt w (drop p (bits_of bs)) (below_drop 2 p (bits_of bs) (below_bits bs))

-- twelve bits at most
pub field_small : (bs : List ℕ) (p w : ℕ) → w ≤ 12 → field_at bs p w < 4096
field_small bs p w h = lt_of_lt_of_le (field_lt bs p w) (pow_mono {i = w} {j = 12} h)
