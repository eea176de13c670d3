-- A test of step numbers is fair if it passes nearly its share along every progression, and one axis more keeps it fair: the digits of the
-- axis's cut are taken one by one, and each leaves progressions of b times the difference. Assumes nothing.
use mathlib.Core.Path.{◌≡◌, sym, ap, ◌∙◌}
use mathlib.Core.Logic.{◌⊎◌, inl, inr}
use mathlib.Core.Bool.{Bool, true, ◌&&◌, and-true, and-eq-true_iff}
use Prim.Native.Nat.{ℕ, zero, suc, ◌+◌, ◌-◌, ◌*◌, ◌%◌, ◌/◌, ◌^◌, ◌≤◌, ◌<◌}
use native.Mathlib.Nat.{le_refl, le_trans, le_of_lt, eq-or-lt_of_le, lt_of_le_of_lt, mod-lt, one-mul, zero-mul, mul-one, suc-mul, mul_assoc, pow-zero, pow-suc, mul-pos, mul-le-mul, mul-le-mul_right, mul-lt-mul_of_pos_left, mul-lt-mul_of_pos_right, lt_of_mul-lt-mul_right, div-lt_iff_lt-mul, div-add-mod', add-mul-div_left}
use native.Mathlib.Omega.{arith}
use lib.Dec.{T, ltb, eqb}
use Rattle.numbers.specs.Gcd.{Invertible}
use Rattle.numbers.specs.Count.{count}
use Rattle.numbers.proofs.Cases.{holds, eq_iff}
use Rattle.numbers.proofs.InverseLaws.{invertible_mul, Solved, solve}
use Rattle.numbers.proofs.CountLaws.{count_ext, count_split, count_all, count_few}
use Rattle.permutation.specs.Permutes.{Permutes}
use Rattle.discrepancy.specs.Bound.{Near}
use Rattle.discrepancy.proofs.NearLaws.{Within, within_none, within_add, within_more, within_few, within_join}
use Rattle.discrepancy.proofs.CutLaws.{index_in_cut, in_cut_digit, in_cut_whole, below_cut_pos, decided_split, count_below_none, count_below_more}
use Rattle.discrepancy.proofs.ThinLaws.{Thinned, thin}

-- A progression of difference M has L of its numbers below N, to within one.
pub record Along (N M L : ℕ) : Type 0 where
  pub step : 0 < M
  pub most : L * M < N + M
  pub least : N < L * M + M

-- The test g passes the share U / Q of N steps, to within B, along each progression whose difference M is Ok.
pub record Fair (N : ℕ) (Ok : ℕ → Type 0) (g : ℕ → Bool) (U Q B : ℕ) : Type 0 where
  pub part : U ≤ Q
  pub whole : 0 < Q
  pub error : 0 < B
  pub hit : (t : ℕ) → g t ≡ true → 0 < U
  pub near : (t M L : ℕ) → Ok M → Along N M L → Within 1 (M * Q) (count (λ i. g (t + M * i)) L) (N * U) B

pub fair_none : (N : ℕ) (Ok : ℕ → Type 0) → Fair N Ok (λ t. true) 1 1 1
fair_none N Ok =
    record {
      part = le_refl 1;
      whole = le_refl 1;
      error = le_refl 1;
      hit = λ t h. le_refl 1;
      near = λ t M L ok a. rw (count_all L) (record { over = omega (arith, a.most); short = omega (arith, a.least) });
    }

-- All steps are a progression.
pub fair_near : {N : ℕ} {Ok : ℕ → Type 0} {g : ℕ → Bool} {U Q B : ℕ} → Fair N Ok g U Q B → Ok 1 → Near N (count g N) U Q B
fair_near {N} {Ok} {g} {U} {Q} {B} F ok = record { not_above = omega (arith, w.over); not_below = omega (arith, w.short) }
  where
    w : Within 1 (1 * Q) (count g N) (N * U) B
    w =
        rw (count_ext g (λ i. g (0 + 1 * i)) N (λ i h. ap g (omega arith)))
        (F.near 0 1 N ok (record { step = le_refl 1; most = omega arith; least = omega arith }))

-- a progression of a progression is one
nested : (t M x b j : ℕ) → t + M * (x + b * j) ≡ t + M * x + M * b * j
nested t M x b j = omega arith

-- each digit that counts adds a to the factor of the error B
errors : (B K a c : ℕ) → c ≤ a → c * B + B * (K * a + 1) ≤ B * (suc K * a + 1)
errors B K a c h = omega (arith, mul-le-mul_right B h)

-- One residue class of a progression is again one.
along_class : {N M L b i : ℕ} → i < b → Along N M L → (t : Thinned b i L) → Along N (M * b) t.size
along_class {N} {M} {L} {b} {i} h a t =
    record {
      step = mul-pos a.step (omega arith);
      most = omega (arith, a.most, mul-le-mul_right M high);
      least = omega (arith, a.least, mul-le-mul_right M low);
    }
  where
    high : t.size * b + 1 ≤ L + b
    high = omega arith

    low : L + 1 ≤ t.size * b + b
    low = omega arith

module _ {σ : ℕ → ℕ} {b : ℕ} (π : Permutes b σ) (pos : 0 < b) where
  -- The steps i of a progression at which the lowest digit of the index x + r * i has the image d.
  record Strip (x r d N M L : ℕ) : Type 0 where
    root : ℕ
    size : ℕ
    along : Along N (M * b) size
    counts : (p : ℕ → Bool) → count (λ i. eqb (σ ((x + r * i) % b)) d && p i) L ≡ count (λ j. p (root + b * j)) size

  one_strip : (x r d N M L : ℕ) → d < b → Invertible r b → Along N M L → Strip x r d N M L
  one_strip x r d N M L h v a =
      record {
        root = s.root;
        size = t.size;
        along = along_class s.below a t;
        counts = λ p. simp same (t.counts p);
      }
    where
      s : Solved b x r (π.inverse d)
      s = solve x (π.inverse d) (π.inverse_below d h) v

      t : Thinned b s.root L
      t = thin b s.root s.below L

      same : (i : ℕ) → eqb (σ ((x + r * i) % b)) d ≡ eqb (i % b) s.root
      same i =
          eq_iff (σ ((x + r * i) % b)) d (i % b) s.root
          (λ e. s.there i (sym (π.back ((x + r * i) % b) (mod-lt (x + r * i) pos)) ∙ ap π.inverse e))
          (λ e. ap σ (s.back i e) ∙ π.onto d h)

  module _ {N : ℕ} {Ok : ℕ → Type 0} {g : ℕ → Bool} {U Q B : ℕ} (F : Fair N Ok g U Q B) (closed : (M : ℕ) → Ok M → Ok (M * b)) where
    near_strip : (x r t M L d : ℕ) → Ok M → Invertible r b → Along N M L → d < b
        → Within 1 (M * b * Q) (count (λ i. eqb (σ ((x + r * i) % b)) d && g (t + M * i)) L) (N * U) B
    near_strip x r t M L d ok v a h =
        rw (k.counts (λ i. g (t + M * i))) (simp (nested t M k.root b) (F.near (t + M * k.root) (M * b) k.size (closed M ok) k.along))
      where
        k : Strip x r d N M L
        k = one_strip x r d N M L h v a

    -- The steps whose lowest digit has an image below c: c strips.
    near_strips : (x r t M L c : ℕ) → Ok M → Invertible r b → Along N M L → c ≤ b
        → Within 0 (M * b * Q) (count (λ i. ltb (σ ((x + r * i) % b)) c && g (t + M * i)) L) (c * (N * U)) (c * B)
    near_strips x r t M L zero ok v a h =
        rw (count_below_none (λ i. σ ((x + r * i) % b)) (λ i. g (t + M * i)) L, zero-mul (N * U), zero-mul B) (within_none (M * b * Q))
    near_strips x r t M L (suc c) ok v a h =
        rw (count_below_more (λ i. σ ((x + r * i) % b)) (λ i. g (t + M * i)) c L, suc-mul c (N * U), suc-mul c B)
        (within_add (near_strips x r t M L c ok v a (le_of_lt h)) (near_strip x r t M L c ok v a h))

    module _ (q : ℕ) (q_pos : 0 < q) where
      -- Where the difference has passed N, one step is left at most.
      near_few : (k u x r t M L E : ℕ) → u < q → Along N M L → N ≤ M → 0 < E
          → Within 1 (M * Q * q) (count (λ i. g (t + M * i) && index_in_cut σ b k u q (x + r * i)) L) (N * U * u) E
      near_few k u x r t M L E hu a far e = within_few small e (go (count_few p L few))
        where
          p : ℕ → Bool
          p i = g (t + M * i) && index_in_cut σ b k u q (x + r * i)

          small : N * U * u < M * Q * q
          small = lt_of_le_of_lt (mul-le-mul_right u (mul-le-mul far F.part)) (mul-lt-mul_of_pos_left hu (mul-pos a.step F.whole))

          few : L < 2
          few = lt_of_mul-lt-mul_right M (omega (arith, a.most))

          go : (count p L ≡ 0) ⊎ ((count p L ≡ 1) × T (p 0) × (L ≡ 1)) → (count p L ≡ 0) ⊎ ((count p L ≡ 1) × (0 < N * U * u))
          go (inl z) = inl z
          go (inr w) = inr (w.0, mul-pos (mul-pos some (F.hit (t + M * 0) both.0)) (below_cut_pos _ _ u q both.1))
            where
              both : (g (t + M * 0) ≡ true) × (index_in_cut σ b k u q (x + r * 0) ≡ true)
              both = (and-eq-true_iff (g (t + M * 0)) (index_in_cut σ b k u q (x + r * 0))).0 (holds (p 0) w.1)

              some : 0 < N
              some = omega (arith, rw (w.2, one-mul) at a.most)

      -- One axis: k digits of its cut are left, of which at most K are taken.
      near_cut : (K k u x r t M L : ℕ) → u < q → Ok M → Invertible r b → Along N M L → N ≤ M * b ^ K → N ≤ M * b ^ k
          → Within 1 (M * Q * q) (count (λ i. g (t + M * i) && index_in_cut σ b k u q (x + r * i)) L) (N * U * u) (B * (K * (b - 1) + 1))
      near_cut zero k u x r t M L hu ok v a h_k hk =
          near_few k u x r t M L _ hu a (rw (pow-zero, mul-one) at h_k) (mul-pos F.error (omega arith))
      near_cut (suc K) zero u x r t M L hu ok v a h_k hk =
          near_few 0 u x r t M L _ hu a (rw (pow-zero, mul-one) at hk) (mul-pos F.error (omega arith))
      near_cut (suc K) (suc k) u x r t M L hu ok v a h_k hk =
          rw split
          (within_join b q c rest u (M * Q) (N * U) (c * B) (B * (K * (b - 1) + 1)) (B * (suc K * (b - 1) + 1))
          (sym (div-add-mod' (u * b) q))
          (errors B K (b - 1) c (omega (arith, c_lt)))
          (rw times at (near_strips x r t M L c ok v a (le_of_lt c_lt)))
          (rw (s.counts y) (simp (nested t M s.root b, index) (rw times at
          (near_cut K k rest ((x + r * s.root) / b) r (t + M * s.root) (M * b) s.size (mod-lt (u * b) q_pos) (closed M ok) v s.along (reach K h_k) (reach k hk))))))
        where
          -- the cut's next digit, and its rest
          c : ℕ
          c = u * b / q

          rest : ℕ
          rest = u * b % q

          c_lt : c < b
          c_lt = (div-lt_iff_lt-mul q_pos).1 (omega (arith, mul-lt-mul_of_pos_right hu pos))

          s : Strip x r c N M L
          s = one_strip x r c N M L c_lt v a

          y : ℕ → Bool
          y i = g (t + M * i) && index_in_cut σ b k rest q ((x + r * i) / b)

          split : count (λ i. g (t + M * i) && index_in_cut σ b (suc k) u q (x + r * i)) L
              ≡ count (λ i. ltb (σ ((x + r * i) % b)) c && g (t + M * i)) L + count (λ i. eqb (σ ((x + r * i) % b)) c && y i) L
          split = count_split _ _ _ L (λ i. decided_split (in_cut_digit σ b π.below pos k u q (x + r * i) q_pos) (g (t + M * i)))

          times : M * b * Q ≡ b * (M * Q)
          times = omega arith

          index : (j : ℕ) → (x + r * (s.root + b * j)) / b ≡ (x + r * s.root) / b + r * j
          index j = ap (λ (n : ℕ). n / b) (omega arith) ∙ add-mul-div_left (x + r * s.root) (r * j) pos

          reach : (m : ℕ) → N ≤ M * b ^ suc m → N ≤ M * b * b ^ m
          reach m h = le_trans h (rw pow-suc (omega arith))

      -- One axis more: it reads the index start + r * t at step t to k digits, the cut is u / q, and N has at most K digits.
      pub fair_axis : (Ok' : ℕ → Type 0) → ((M : ℕ) → Ok' M → Ok M × Invertible M b)
          → (start r k K u : ℕ) → u ≤ q → Invertible r b → N ≤ b ^ K → N ≤ b ^ k
          → Fair N Ok' (λ t. g t && index_in_cut σ b k u q (start + r * t)) (U * u) (Q * q) (B * (K * (b - 1) + 1))
      fair_axis Ok' ok start r k K u hu v h_k hk =
          record {
            part = mul-le-mul F.part hu;
            whole = mul-pos F.whole q_pos;
            error = mul-pos F.error (omega arith);
            hit = hit;
            near = λ t M L o a. rw (← mul_assoc M Q q, ← mul_assoc N U u) (go t M L (ok M o) a (eq-or-lt_of_le hu));
          }
        where
          hit : (t : ℕ) → g t && index_in_cut σ b k u q (start + r * t) ≡ true → 0 < U * u
          hit t e =
              let both = (and-eq-true_iff (g t) (index_in_cut σ b k u q (start + r * t))).0 e in
              mul-pos (F.hit t both.0) (below_cut_pos _ _ u q both.1)

          go : (t M L : ℕ) → Ok M × Invertible M b → Along N M L → (u ≡ q) ⊎ (u < q)
              → Within 1 (M * Q * q) (count (λ i. g (t + M * i) && index_in_cut σ b k u q (start + r * (t + M * i))) L) (N * U * u) (B * (K * (b - 1) + 1))
          go t M L o a (inl e) = rw e (simp (all, and-true) (within_more q (K * (b - 1)) q_pos (F.near t M L o.0 a)))
            where
              all : (i : ℕ) → index_in_cut σ b k q q (start + r * (t + M * i)) ≡ true
              all i = in_cut_whole σ b π.below pos k q (start + r * (t + M * i)) q_pos
          go t M L o a (inr h) =
              simp (nested start r t M) (near_cut K k u (start + r * t) (r * M) t M L h o.0 (invertible_mul v o.1) a (far K h_k) (far k hk))
            where
              far : (m : ℕ) → N ≤ b ^ m → N ≤ M * b ^ m
              far m h = omega (arith, mul-le-mul_right (b ^ m) a.step)
