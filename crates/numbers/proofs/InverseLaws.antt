-- Congruence modulo b, and inverses: a number has one exactly where Euclid's rule finds 1, and then every linear congruence has one solution.
-- Assumes nothing.
use mathlib.Core.Path.{◌≡◌, refl, sym, ap, ◌∙◌}
use mathlib.Core.Logic.{◌↔◌}
use Prim.Native.Nat.{ℕ, zero, suc, ◌+◌, ◌-◌, ◌*◌, ◌%◌, ◌/◌, ◌≤◌, ◌<◌, suc-le-suc}
use native.Mathlib.Nat.{le_refl, add-mod, mod-lt, mod-zero, zero-mod, zero-mul, zero-lt-suc, suc-ne-zero, mod-eq_of_lt, add-mul-mod_self_left, add-mod_right, mul_comm, mul_assoc, one-mul, suc-mul, mod-add-div, dvd-mod_iff, dvd-mul_right, dvd-mul_right_of_dvd, eq-one_of_dvd-one}
use native.Mathlib.Omega.{arith}
use Rattle.numbers.specs.Gcd.{gcd_in, gcd, Coprime, Invertible}
use Rattle.numbers.proofs.GcdLaws.{gcd_one_iff_coprime}

-- ---- congruence

-- m and n leave the same rest
abbrev pub Cong : ℕ → ℕ → ℕ → Type 0
Cong b m n = m % b ≡ n % b

pub cong_of_eq : (b : ℕ) {m n : ℕ} → m ≡ n → Cong b m n
cong_of_eq b e = ap (λ (x : ℕ). x % b) e

pub cong_add : (b m n k : ℕ) → Cong b m n → Cong b (m + k) (n + k)
cong_add b m n k e = add-mod m k b ∙ ap (λ (x : ℕ). (x + k % b) % b) e ∙ sym (add-mod n k b)

-- a factor may be replaced by its rest
cong_rest : (b m n : ℕ) → Cong b (m * n) (m % b * n)
cong_rest b m n = cong_of_eq b same ∙ add-mul-mod_self_left (m % b * n) b (m / b * n)
  where
    same : m * n ≡ m % b * n + b * (m / b * n)
    same = ap (λ (x : ℕ). x * n) (sym (mod-add-div m b)) ∙ omega arith

pub cong_mul : (b m n k : ℕ) → Cong b m n → Cong b (m * k) (n * k)
cong_mul b m n k e = cong_rest b m k ∙ ap (λ (x : ℕ). (x * k) % b) e ∙ sym (cong_rest b n k)

-- ---- inverses

pub invertible_one : (b : ℕ) → Invertible 1 b
invertible_one b = record { inverse = 1; undoes = refl }

-- what is multiplied by a number and by its inverse is itself
undo : {m b : ℕ} (c : Invertible m b) (x : ℕ) → Cong b (m * (c.inverse * x)) x
undo {m} {b} c x =
    cong_of_eq b (sym (mul_assoc m c.inverse x)) ∙ cong_mul b (m * c.inverse) 1 x c.undoes ∙ cong_of_eq b (one-mul x)

pub invertible_mul : {m n b : ℕ} → Invertible m b → Invertible n b → Invertible (m * n) b
invertible_mul {m} {n} {b} c d =
    record {
      inverse = d.inverse * c.inverse;
      undoes = cong_of_eq b (omega arith) ∙ cong_mul b (n * (d.inverse * m)) m c.inverse (undo d m) ∙ c.undoes;
    }

invertible_rest : {a b : ℕ} → Invertible (a % b) b → Invertible a b
invertible_rest {a} {b} c = record { inverse = c.inverse; undoes = cong_rest b a c.inverse ∙ c.undoes }

-- an inverse of a modulo b gives one of b modulo a
invertible_sym : (a b : ℕ) → Invertible a b → Invertible b a
invertible_sym a zero c =
    rw (eq-one_of_dvd-one (rw (sym (mod-zero (a * c.inverse)) ∙ c.undoes) at (dvd-mul_right a c.inverse))) (record { inverse = 0; undoes = refl })
invertible_sym a (suc zero) c = invertible_one a
invertible_sym zero (suc (suc b)) c =
    absurd (suc-ne-zero zero (sym (sym (zero-mod (suc (suc b))) ∙ cong_of_eq (suc (suc b)) (sym (zero-mul c.inverse)) ∙ c.undoes ∙ mod-eq_of_lt (suc-le-suc (zero-lt-suc b)))))
invertible_sym (suc a) (suc (suc b)) c =
    record {
      inverse = y * a;
      undoes = sym (add-mod_right (suc (suc b) * (y * a)) (suc a)) ∙ cong_of_eq (suc a) turn ∙ add-mul-mod_self_left 1 (suc a) (x * a);
    }
  where
    x : ℕ
    x = c.inverse

    y : ℕ
    y = suc a * x / suc (suc b)

    split : 1 + suc (suc b) * y ≡ suc a * x
    split = ap (λ (z : ℕ). z + suc (suc b) * y) (sym (c.undoes ∙ mod-eq_of_lt (suc-le-suc (zero-lt-suc b)))) ∙ mod-add-div (suc a * x) (suc (suc b))

    turn : suc (suc b) * (y * a) + suc a ≡ 1 + suc a * (x * a)
    turn = omega (arith, ap (λ (z : ℕ). z * a) split)

invertible_of_in : (f a b : ℕ) → b ≤ f → gcd_in f a b ≡ 1 → Invertible a b
unfolding gcd_in
invertible_of_in zero a zero h e = rw e (invertible_one zero)
invertible_of_in zero a (suc b) h e = absurd (omega arith)
invertible_of_in (suc f) a zero h e = rw e (invertible_one zero)
invertible_of_in (suc f) a (suc b) h e =
    invertible_rest
    (invertible_sym (suc b) (a % suc b) (invertible_of_in f (suc b) (a % suc b) (omega (arith, mod-lt a (zero-lt-suc b))) e))

-- an inverse leaves no common divisor but 1
coprime_of_invertible : {a b : ℕ} → Invertible a b → Coprime a b
coprime_of_invertible {a} {b} c d p q =
    eq-one_of_dvd-one ((dvd-mod_iff d q).0 (rw c.undoes at ((dvd-mod_iff d q).1 (dvd-mul_right_of_dvd d p c.inverse))))

pub gcd_one_iff_invertible : (a b : ℕ) → (gcd a b ≡ 1) ↔ Invertible a b
unfolding gcd
gcd_one_iff_invertible a b =
    (λ e. invertible_of_in b a b (le_refl b) e, λ c. (gcd_one_iff_coprime a b).1 (coprime_of_invertible c))

-- ---- a linear congruence

-- The i for which s + r * i leaves the rest e are one residue class.
pub record Solved (b s r e : ℕ) : Type 0 where
  pub root : ℕ
  pub below : root < b
  pub there : (i : ℕ) → (s + r * i) % b ≡ e → i % b ≡ root
  pub back : (i : ℕ) → i % b ≡ root → (s + r * i) % b ≡ e

pub solve : {b r : ℕ} (s e : ℕ) → e < b → Invertible r b → Solved b s r e
solve {b} {r} s e h c =
    record { root = ρ * (e + s') % b; below = mod-lt (ρ * (e + s')) (omega arith); there = there; back = back }
  where
    ρ : ℕ
    ρ = c.inverse

    -- s and s' cancel
    s' : ℕ
    s' = (b - 1) * s

    cancel : (x : ℕ) → Cong b (s + x + s') x
    cancel x = cong_of_eq b whole ∙ add-mul-mod_self_left x b s
      where
        b_is : suc (b - 1) ≡ b
        b_is = omega arith

        whole : s + x + s' ≡ x + b * s
        whole = omega (arith, suc-mul (b - 1) s, ap (λ (y : ℕ). y * s) b_is)

    there : (i : ℕ) → (s + r * i) % b ≡ e → i % b ≡ ρ * (e + s') % b
    there i g =
        sym (undo c i)
        ∙ cong_of_eq b (omega arith)
        ∙ cong_mul b (r * i) (e + s') ρ (sym (cancel (r * i)) ∙ cong_add b (s + r * i) e s' (g ∙ sym (mod-eq_of_lt h)))
        ∙ cong_of_eq b (mul_comm (e + s') ρ)

    back : (i : ℕ) → i % b ≡ ρ * (e + s') % b → (s + r * i) % b ≡ e
    back i g =
        cong_of_eq b (omega arith)
        ∙ cong_add b (i * r) (e + s') s (cong_mul b i (ρ * (e + s')) r g ∙ cong_of_eq b (mul_comm (ρ * (e + s')) r) ∙ undo c (e + s'))
        ∙ cong_of_eq b (omega arith)
        ∙ cancel e
        ∙ mod-eq_of_lt h
