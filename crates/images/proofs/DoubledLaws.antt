-- A part of a table doubled in place, one place more a turn; and the tables that come of it. Assumes nothing.
use mathlib.Core.Path.{◌≡◌, sym, ap, ◌∙◌}
use mathlib.Core.Logic.{⊎_elim}
use mathlib.Core.List.{List}
use Prim.Native.Nat.{ℕ, ◌+◌, ◌-◌, ◌*◌, ◌<◌, ◌≤◌}
use native.Mathlib.Omega.{arith}
use lib.ListN.{length, get_or, set, length-set}
use lib.Seq.{get_or-set_same, get_or-set_other}
use Rattle.numbers.specs.Listed.{Begins}
use Rattle.numbers.proofs.Cases.{lt_or_ge, eq_or_ne}
use Rattle.images.specs.Doubled.{Small, Doubled}

module _ {a k s : ℕ} {old l : List ℕ} (r : Doubled a k s old l) where
  -- the next number is still to be read
  pub doubled_read : k < s + a → get_or l k 0 ≡ get_or old k 0
  doubled_read h = r.between k (omega arith) h

  pub doubled_more : {p q x y : ℕ} → p ≡ k → q ≡ s + k → a ≤ k → k < s + a → s + k < length l → x ≡ 2 * get_or old k 0 → y ≡ 2 * get_or old k 0 + 1
      → Doubled a (k + 1) s old (set (set l p x) q y)
  doubled_more {p} {q} {x} {y} ep eq from up room ex ey = record {
    low = λ j u v. aside j (omega arith) ∙ ⊎_elim (λ e. first j e) (λ n. other j n ∙ r.low j u (omega arith)) (eq_or_ne j k);
    high = λ j u v. ⊎_elim (λ e. second j e) (λ n. aside (s + j) (λ z. n (omega arith)) ∙ other (s + j) (λ z. omega arith) ∙ r.high j u (next j k v n)) (eq_or_ne j k);
    before = λ j u. aside j (λ z. omega arith) ∙ other j (λ z. omega arith) ∙ r.before j u;
    between = λ j u v. aside j (λ z. omega arith) ∙ other j (λ z. omega arith) ∙ r.between j (omega arith) v;
  }
    where
      other : (j : ℕ) → (j ≡ k → ⊥) → get_or (set l p x) j 0 ≡ get_or l j 0
      other j n = get_or-set_other l p j x 0 (λ z. n (z ∙ ep))

      aside : (j : ℕ) → (j ≡ s + k → ⊥) → get_or (set (set l p x) q y) j 0 ≡ get_or (set l p x) j 0
      aside j n = get_or-set_other (set l p x) q j y 0 (λ z. n (z ∙ eq))

      first : (j : ℕ) → j ≡ k → get_or (set l p x) j 0 ≡ 2 * get_or old j 0
      first j e = rw (e, ← ep) (get_or-set_same l p x 0 (omega arith) ∙ ex ∙ ap (λ (i : ℕ). 2 * get_or old i 0) (sym ep))

      second : (j : ℕ) → j ≡ k → get_or (set (set l p x) q y) (s + j) 0 ≡ 2 * get_or old j 0 + 1
      second j e = rw (e, ← eq) (get_or-set_same (set l p x) q y 0 (omega (arith, length-set l p x)) ∙ ey)

      next : (j m : ℕ) → j < m + 1 → (j ≡ m → ⊥) → j < m
      next j m v n = ⊎_elim (λ h. h) (λ h. absurd (n (omega arith))) (lt_or_ge j m)

-- ---- a table of images under σ, made one of images under τ

module _ {σ : ℕ → ℕ} {h : ℕ} {l : List ℕ} (t : Begins σ h l) where
  -- the places past u are as they were after those before it have been doubled, and a store at u
  undoubled : (u x : ℕ) {m : List ℕ} → Doubled 0 u h l m → (j : ℕ) → u < j → j < h → get_or (set m u x) j 0 ≡ σ j
  undoubled u x {m} r j p q = get_or-set_other m u j x 0 (λ z. omega arith) ∙ r.between j (omega arith) (omega arith) ∙ t.at j q

  module _ (below : (k : ℕ) → k < h → σ k < h) (half : h ≤ 128) where
    pub table_small : (e : ℕ) → e ≤ h → Small 0 e l
    table_small e top = record { at = λ j p q. omega (arith, t.at j (omega arith), below j (omega arith)) }

    pub rest_small : (u x : ℕ) {m : List ℕ} → Doubled 0 u h l m → Small (u + 1) h (set m u x)
    rest_small u x r = record { at = λ j p q. omega (arith, undoubled u x r j (omega arith) q, below j q) }

  module _ {τ : ℕ → ℕ} (lower : (k : ℕ) → k < h → 2 * σ k ≡ τ k) where
    -- two equal halves
    pub halves_doubled : {m : List ℕ} → Doubled 0 h h l m → ((k : ℕ) → k < h → 2 * σ k + 1 ≡ τ (h + k)) → (b : ℕ) → b ≤ h + h → Begins τ b m
    halves_doubled {m} r upper b top = record {
      at = λ k p. ⊎_elim (λ q. omega (arith, r.low k (omega arith) q, t.at k q, lower k q)) (λ q. second k q (omega arith)) (lt_or_ge k h);
    }
      where
        at : (i : ℕ) → i < h → get_or m (h + i) 0 ≡ τ (h + i)
        at i w = omega (arith, r.high i (omega arith) w, t.at i w, upper i w)

        second : (k : ℕ) → h ≤ k → k - h < h → get_or m k 0 ≡ τ k
        second k q w = let e : h + (k - h) ≡ k = omega arith in rw e at (at (k - h) w)

    -- an upper half that lacks what comes of the place u
    module _ (u x : ℕ) {m n : List ℕ} (first : Doubled 0 u h l m) (second : Doubled (u + 1) h (h - 1) (set m u x) n) (within : u < h) (room : u < length m) (ex : x ≡ τ u) where
      lowest : (k : ℕ) → k < u → get_or n k 0 ≡ τ k
      lowest k p =
          second.before k (omega arith) ∙ get_or-set_other m u k x 0 (λ z. omega arith)
          ∙ low
        where
          low : get_or m k 0 ≡ τ k
          low = omega (arith, first.low k (omega arith) p, t.at k (omega arith), lower k (omega arith))

      here : (k : ℕ) → k ≡ u → get_or n k 0 ≡ τ k
      here k e = rw e (second.before u (omega arith) ∙ get_or-set_same m u x 0 room ∙ ex)

      low_half : (k : ℕ) → k < h → get_or n k 0 ≡ τ k
      low_half k p =
          ⊎_elim (λ q. lowest k q)
          (λ q. ⊎_elim (λ w. omega (arith, second.low k (omega arith) p, undoubled u x first k w p, lower k p)) (λ w. here k (omega arith)) (lt_or_ge u k))
          (lt_or_ge k u)

      module _ (before : (k : ℕ) → k < u → 2 * σ k + 1 ≡ τ (h + k)) (behind : (k : ℕ) → u < k → k < h → 2 * σ k + 1 ≡ τ (h - 1 + k)) where
        front : (i : ℕ) → i < u → get_or n (h + i) 0 ≡ τ (h + i)
        front i w =
            second.between (h + i) (omega arith) (omega arith) ∙ get_or-set_other m u (h + i) x 0 (λ z. omega arith)
            ∙ high
          where
            high : get_or m (h + i) 0 ≡ τ (h + i)
            high = omega (arith, first.high i (omega arith) w, t.at i (omega arith), before i w)

        back : (i : ℕ) → u < i → i < h → get_or n (h - 1 + i) 0 ≡ τ (h - 1 + i)
        back i w q = omega (arith, second.high i (omega arith) q, undoubled u x first i w q, behind i w q)

        high_half : (k : ℕ) → h ≤ k → k < h + h - 1 → get_or n k 0 ≡ τ k
        high_half k p q =
            ⊎_elim
            (λ w. let e : h + (k - h) ≡ k = omega arith in rw e at (front (k - h) (omega arith)))
            (λ w. let e : h - 1 + (k - (h - 1)) ≡ k = omega arith in rw e at (back (k - (h - 1)) (omega arith) (omega arith)))
            (lt_or_ge k (h + u))

        pub halves_less : (b : ℕ) → b ≤ h + h - 1 → Begins τ b n
        halves_less b top = record { at = λ k p. ⊎_elim (λ q. low_half k q) (λ q. high_half k q (omega arith)) (lt_or_ge k h) }
