-- The steps in digit strips add up: over the strips of one axis's cut, and over the combinations of strips of all axes, to the number of points
-- inside. Assumes nothing.
use mathlib.Core.Path.{◌≡◌, refl, sym, ap, ap₂, ◌∙◌}
use mathlib.Core.Logic.{◌⊎◌, inl, inr}
use mathlib.Core.Bool.{Bool, true, false, cond, ◌&&◌, and-true, and-false, and_assoc, and_comm}
use Prim.Native.Nat.{ℕ, zero, suc, ◌+◌, ◌*◌, ◌/◌, ◌%◌, ◌<◌, ◌≤◌}
use native.Mathlib.Nat.{le_refl, le_of_lt, le_of_suc-le-suc, eq-or-lt_of_le, add_comm, zero-mul, mul-zero, mul-one, mul_comm, zero-div, zero-mod, div-one, mod-one, mod-lt, mul-le-mul_right, div-add-mod', div-div-eq-div-mul, div-le_of_le-mul, pow-zero}
use native.Mathlib.Omega.{arith}
use lib.Dec.{ltb, eqb}
use lib.Arith.{digits_lt, digits_div, mod-mul}
use borrow.Author.Tests.{eq-eqb, ne_eqb, le-leb, lt-leb}
use Rattle.numbers.specs.Digits.{sum}
use Rattle.numbers.specs.Count.{bit, count, each}
use Rattle.numbers.specs.Cut.{below_cut}
use Rattle.numbers.proofs.Cases.{eq_or_ne, eq_iff, lt_or_ge}
use Rattle.numbers.proofs.DigitLaws.{sum_ext}
use Rattle.numbers.proofs.NumeratorLaws.{numerator_none}
use Rattle.numbers.proofs.CountLaws.{count_ext, count_split, count_none}
use Rattle.permutation.specs.Permutes.{Permutes}
use Rattle.discrepancy.specs.Bound.{CutAxis, index_at, in_cut, inside, Sound}
use Rattle.discrepancy.proofs.CutLaws.{decided_split, count_below_none, count_below_more, index_in_cut, in_cut_digit, in_cut_whole}
use Rattle.strips.specs.Strips.{Strip, everything, in_strip, digit_for, narrowed, sum_strips, axis_strips, sum_combinations, strips_within}

-- ---- sums

sum_none : (f : ℕ → ℕ) (k : ℕ) → ((j : ℕ) → j < k → f j ≡ 0) → sum f k ≡ 0
unfolding sum
sum_none f zero h = refl
sum_none f (suc k) h = rw (sum_none f k (λ j l. h j (omega arith)), h k (le_refl (suc k))) refl

ones : (k : ℕ) → sum (λ j. 1) k ≡ k
unfolding sum
ones zero = refl
ones (suc k) = rw (ones k) (omega arith)

-- one term alone is not 0
pub sum_one : (f : ℕ → ℕ) (k i : ℕ) → i < k → ((j : ℕ) → j < k → (j ≡ i → ⊥) → f j ≡ 0) → sum f k ≡ f i
unfolding sum
sum_one f zero i l h = absurd (omega arith)
sum_one f (suc k) i l h = go (eq-or-lt_of_le (le_of_suc-le-suc l)) (λ m. sum_one f k i m (λ j n. h j (omega arith)))
  where
    go : (i ≡ k) ⊎ (i < k) → (i < k → sum f k ≡ f i) → sum f k + f k ≡ f i
    go (inl e) before = rw (sum_none f k (λ j m. h j (omega arith) (λ g. omega arith)), e) (omega arith)
    go (inr m) before = rw (before m, h k (le_refl (suc k)) (λ g. omega arith)) (omega arith)

-- counting by a digit d of each number: those below c, digit by digit
digits_below : (d : ℕ → ℕ) (z : ℕ → Bool) (N c : ℕ) → count (λ t. ltb (d t) c && z t) N ≡ sum (λ e. count (λ t. eqb (d t) e && z t) N) c
unfolding sum
digits_below d z N zero = count_below_none d z N
digits_below d z N (suc c) =
    count_below_more d z c N ∙ ap (λ (x : ℕ). x + count (λ t. eqb (d t) c && z t) N) (digits_below d z N c)

-- a test that no step changes
count_cond : (z : ℕ → Bool) (test : Bool) (N : ℕ) → count (λ t. z t && test) N ≡ cond test (count z N) 0
count_cond z true N = count_ext (λ t. z t && true) z N (λ t l. and-true (z t))
count_cond z false N = count_none (λ t. z t && false) N (λ t. and-false (z t))

-- ---- strips

-- two digits of base m, the lower one first below m
pub eq_digits : (x y m r a : ℕ) → r < m → a < m → eqb (x * m + r) (y * m + a) ≡ eqb x y && eqb r a
eq_digits x y m r a hr ha = go (eq_or_ne x y)
  where
    go : (x ≡ y) ⊎ (x ≡ y → ⊥) → eqb (x * m + r) (y * m + a) ≡ eqb x y && eqb r a
    go (inl e) = rw (eq-eqb x y e, e) (eq_iff (y * m + r) (y * m + a) r a (λ g. omega arith) (λ g. omega arith))
    go (inr f) =
        rw (ne_eqb x y f)
        (ne_eqb (x * m + r) (y * m + a) (λ g. f (sym (digits_div x hr) ∙ ap (λ (n : ℕ). n / m) g ∙ digits_div y ha)))

in_everything : (n : ℕ) → in_strip everything n ≡ true
unfolding in_strip
in_everything n = rw (mod-one n) refl

-- below the cut 0 there are none
strips_none : (σ : ℕ → ℕ) (b q k : ℕ) (c : Strip) (f : Strip → ℕ) → sum_strips σ b q k 0 c f ≡ 0
unfolding sum_strips sum
strips_none σ b q zero c f = refl
strips_none σ b q (suc k) c f = rw (zero-mul b, zero-div q, zero-mod q, strips_none σ b q k (narrowed σ b c 0) f) refl

module _ {σ : ℕ → ℕ} {b : ℕ} (π : Permutes b σ) where
  digit_for_lem : (d : ℕ) → d < b → digit_for σ b d ≡ π.inverse d
  unfolding digit_for
  digit_for_lem d h =
      sum_one (λ x. x * bit (eqb (σ x) d)) b (π.inverse d) (π.inverse_below d h) other
      ∙ rw (eq-eqb (σ (π.inverse d)) d (π.onto d h)) (mul-one (π.inverse d))
    where
      other : (j : ℕ) → j < b → (j ≡ π.inverse d → ⊥) → j * bit (eqb (σ j) d) ≡ 0
      other j l ne = rw (ne_eqb (σ j) d (λ e. ne (sym (π.back j l) ∙ ap π.inverse e))) (mul-zero j)

  -- also where no digit has the image d
  digit_for_below : 0 < b → (d : ℕ) → digit_for σ b d < b
  digit_for_below pos d = go (lt_or_ge d b)
    where
      none : b ≤ d → digit_for σ b d ≡ 0
      none g =
          unfold digit_for in
          sum_none (λ x. x * bit (eqb (σ x) d)) b (λ j l. rw (ne_eqb (σ j) d (λ e. omega (arith, π.below j l))) (mul-zero j))

      go : (d < b) ⊎ (b ≤ d) → digit_for σ b d < b
      go (inl h) = rw (digit_for_lem d h) (π.inverse_below d h)
      go (inr g) = rw (none g) pos

  -- a residue below its modulus stays so
  pub narrowed_proper : 0 < b → (c : Strip) → c.residue < c.modulus → (d : ℕ) → (narrowed σ b c d).residue < (narrowed σ b c d).modulus
  unfolding narrowed
  narrowed_proper pos c proper d = omega (arith, digits_lt (digit_for_below pos d) proper)

  module _ (c : Strip) (proper : c.residue < c.modulus) (d : ℕ) (h : d < b) where
    -- an index in the narrower strip is in the wider one, and its next digit has the image d
    in_narrowed : (n : ℕ) → in_strip (narrowed σ b c d) n ≡ eqb (σ (n / c.modulus % b)) d && in_strip c n
    unfolding narrowed in_strip
    in_narrowed n =
        rw (
          digit_for_lem d h,
          mul_comm c.modulus b,
          mod-mul n {m = b} {c = c.modulus} (omega arith) (omega arith),
          add_comm c.residue (c.modulus * π.inverse d),
          mul_comm c.modulus (π.inverse d),
        )
        (eq_digits (n / c.modulus % b) (π.inverse d) c.modulus (n % c.modulus) c.residue (mod-lt n (omega arith)) proper
        ∙ ap (λ (t : Bool). t && eqb (n % c.modulus) c.residue) same)
      where
        same : eqb (n / c.modulus % b) (π.inverse d) ≡ eqb (σ (n / c.modulus % b)) d
        same =
            eq_iff (n / c.modulus % b) (π.inverse d) (σ (n / c.modulus % b)) d
            (λ e. ap σ e ∙ π.onto d h)
            (λ e. sym (π.back (n / c.modulus % b) (mod-lt (n / c.modulus) (omega arith))) ∙ ap π.inverse e)

  module _ (pos : 0 < b) (q : ℕ) (q_pos : 0 < q) (x : ℕ → ℕ) (p : ℕ → Bool) (N : ℕ) where
    -- how many of N steps pass the test and read an index x in the strip
    abbrev steps_in : Strip → ℕ
    steps_in c = count (λ t. in_strip c (x t) && p t) N

    -- those within a strip c, with k digits left of the cut: by the digits above c's own
    strips_within_lem : (k u : ℕ) (c : Strip) → u ≤ q → c.residue < c.modulus
        → sum_strips σ b q k u c steps_in ≡ count (λ t. (in_strip c (x t) && p t) && index_in_cut σ b k u q (x t / c.modulus)) N
    unfolding sum_strips below_cut narrowed
    strips_within_lem zero u c hu proper =
        sym (simp (numerator_none σ b, pow-zero, zero-mul, mul-one) (count_cond (λ t. in_strip c (x t) && p t) (ltb 0 u) N))
    strips_within_lem (suc k) u c hu proper =
        ap₂ ◌+◌ (sum_ext (λ e. steps_in (narrowed σ b c e)) (λ e. count (λ t. eqb (d t) e && z t) N) C first ∙ sym (digits_below d z N C))
        (rest_of (eq-or-lt_of_le C_le)
        (λ l. strips_within_lem k rest (narrowed σ b c C) (le_of_lt (mod-lt (u * b) q_pos)) (narrowed_proper pos c proper C)))
        ∙ sym split
      where
        -- the cut's own digit, and its rest
        C : ℕ
        C = u * b / q

        rest : ℕ
        rest = u * b % q

        C_le : C ≤ b
        C_le = div-le_of_le-mul q (omega (arith, mul-le-mul_right b hu))

        -- the image of the index's next digit
        d : ℕ → ℕ
        d t = σ (x t / c.modulus % b)

        z : ℕ → Bool
        z t = in_strip c (x t) && p t

        later : ℕ → Bool
        later t = index_in_cut σ b k rest q (x t / c.modulus / b)

        split : count (λ t. z t && index_in_cut σ b (suc k) u q (x t / c.modulus)) N
            ≡ count (λ t. ltb (d t) C && z t) N + count (λ t. eqb (d t) C && (z t && later t)) N
        split = count_split _ _ _ N (λ t. decided_split (in_cut_digit σ b π.below pos k u q (x t / c.modulus) q_pos) (z t))

        one : (e : ℕ) → e < b → (t : ℕ) → in_strip (narrowed σ b c e) (x t) && p t ≡ eqb (d t) e && z t
        one e l t = rw (in_narrowed c proper e l (x t)) (and_assoc (eqb (d t) e) (in_strip c (x t)) (p t))

        first : (e : ℕ) → e < C → steps_in (narrowed σ b c e) ≡ count (λ t. eqb (d t) e && z t) N
        first e l = count_ext (λ t. in_strip (narrowed σ b c e) (x t) && p t) (λ t. eqb (d t) e && z t) N (λ t m. one e (omega (arith, C_le)) t)

        rest_of : (C ≡ b) ⊎ (C < b)
            → (C < b → sum_strips σ b q k rest (narrowed σ b c C) steps_in
            ≡ count (λ t. (in_strip (narrowed σ b c C) (x t) && p t) && index_in_cut σ b k rest q (x t / (narrowed σ b c C).modulus)) N)
            → sum_strips σ b q k rest (narrowed σ b c C) steps_in ≡ count (λ t. eqb (d t) C && (z t && later t)) N
        rest_of (inl e) before =
            ap (λ (v : ℕ). sum_strips σ b q k v (narrowed σ b c C) steps_in) nothing ∙ strips_none σ b q k (narrowed σ b c C) steps_in
            ∙ sym (count_none (λ t. eqb (d t) C && (z t && later t)) N (λ t. rw (ne_eqb (d t) C (λ g. omega (arith, d_lt t))) refl))
          where
            d_lt : (t : ℕ) → d t < b
            d_lt t = π.below (x t / c.modulus % b) (mod-lt (x t / c.modulus) pos)

            nothing : rest ≡ 0
            nothing = omega (arith, div-add-mod' (u * b) q, ap (λ (v : ℕ). v * q) e, mul-le-mul_right b hu)
        rest_of (inr l) before =
            before l
            ∙ count_ext _ (λ t. eqb (d t) C && (z t && later t)) N
            (λ t m. ap₂ ◌&&◌ (one C l t) (ap (index_in_cut σ b k rest q) (sym (div-div-eq-div-mul (x t) c.modulus b)))
            ∙ and_assoc (eqb (d t) C) (z t) (later t))

    -- over the strips of the cut u / q, to k digits
    pub strips_add_up : (k u : ℕ) → u ≤ q → sum_strips σ b q k u everything steps_in ≡ count (λ t. index_in_cut σ b k u q (x t) && p t) N
    strips_add_up k u hu =
        strips_within_lem k u everything hu (le_refl 1)
        ∙ count_ext _ (λ t. index_in_cut σ b k u q (x t) && p t) N
        (λ t l. rw (in_everything (x t), div-one (x t)) (and_comm (p t) (index_in_cut σ b k u q (x t))))

-- the number of strips within k digits is the sum of 1 over them
pub strips_number : (σ : ℕ → ℕ) (b q k u : ℕ) (c : Strip) → sum_strips σ b q k u c (λ d. 1) ≡ strips_within b q k u
unfolding sum_strips strips_within
strips_number σ b q zero u c = one (ltb 0 u)
  where
    one : (t : Bool) → cond t 1 0 ≡ bit t
    one true = refl
    one false = refl
strips_number σ b q (suc k) u c =
    ap₂ ◌+◌ (ones (u * b / q)) (strips_number σ b q k (u * b % q) (narrowed σ b c (u * b / q)))

-- ---- all axes

-- one axis: over the strips of its cut
axis_adds_up : {N : ℕ} {a : CutAxis} → Sound N a → (p : ℕ → Bool)
    → axis_strips a (λ c. count (λ t. in_strip c (index_at a t) && p t) N) ≡ count (λ t. in_cut a t && p t) N
unfolding axis_strips in_cut
axis_adds_up {N} {a} z p = go (lt_or_ge a.u a.q)
  where
    pos : 0 < a.base
    pos = omega (arith, z.base_big)

    go : (a.u < a.q) ⊎ (a.q ≤ a.u) → axis_strips a (λ c. count (λ t. in_strip c (index_at a t) && p t) N) ≡ count (λ t. in_cut a t && p t) N
    go (inl l) = rw (lt-leb a.q a.u l) (strips_add_up z.permutes pos a.q z.q_pos (index_at a) p N a.depth a.u z.u_le)
    go (inr l) = rw (le-leb a.q a.u l) (count_ext _ _ N (λ t h. ap (λ (y : Bool). y && p t) (in_everything (index_at a t) ∙ sym (whole t))))
      where
        whole : (t : ℕ) → index_in_cut a.image a.base a.depth a.u a.q (index_at a t) ≡ true
        whole t =
            ap (λ (y : ℕ). index_in_cut a.image a.base a.depth y a.q (index_at a t)) {x = a.u} {y = a.q} (omega (arith, z.u_le))
            ∙ in_cut_whole a.image a.base z.permutes.below pos a.depth a.q (index_at a t) z.q_pos

-- of the steps that pass a test
combinations_count : (N : ℕ) (ax : ℕ → CutAxis) (s : ℕ) → ((i : ℕ) → i < s → Sound N (ax i)) → (p : ℕ → Bool)
    → sum_combinations ax N s p ≡ count (λ t. inside ax s t && p t) N
unfolding sum_combinations inside each
combinations_count N ax zero z p = refl
combinations_count N ax (suc s) z p =
    ap (axis_strips (ax s)) (λ j c. fewer c (combinations_count N ax s (λ i l. z i (omega arith)) (λ t. in_strip c (index_at (ax s) t) && p t)) j)
    ∙ axis_adds_up (z s (le_refl (suc s))) (λ t. inside ax s t && p t)
    ∙ count_ext _ _ N (λ t l. and_swap (in_cut (ax s) t) (inside ax s t) (p t) ∙ sym (and_assoc (inside ax s t) (in_cut (ax s) t) (p t)))
  where
    and_swap : (f g h : Bool) → f && (g && h) ≡ g && (f && h)
    and_swap true g h = refl
    and_swap false g h = sym (and-false g)

    fewer : (c : Strip) {n : ℕ} → n ≡ count (λ t. inside ax s t && (in_strip c (index_at (ax s) t) && p t)) N
        → n ≡ count (λ t. in_strip c (index_at (ax s) t) && (inside ax s t && p t)) N
    fewer c e = e ∙ count_ext _ _ N (λ t l. and_swap (inside ax s t) (in_strip c (index_at (ax s) t)) (p t))

-- of all steps: those of the combinations add up to the number of points inside
pub combinations_add_up : (N : ℕ) (ax : ℕ → CutAxis) (s : ℕ) → ((i : ℕ) → i < s → Sound N (ax i))
    → sum_combinations ax N s (λ t. true) ≡ count (inside ax s) N
combinations_add_up N ax s z =
    combinations_count N ax s z (λ t. true) ∙ count_ext (λ t. inside ax s t && true) (inside ax s) N (λ t l. and-true (inside ax s t))
