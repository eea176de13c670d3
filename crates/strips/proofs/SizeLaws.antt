-- Each number below L is in one class modulo b: the classes' counts add up. Assumes nothing.
use mathlib.Core.Path.{◌≡◌, refl, sym, ap, ap₂, ◌∙◌}
use mathlib.Core.Logic.{◌⊎◌, inl, inr}
use mathlib.Core.Bool.{Bool, ◌&&◌}
use Prim.Native.Nat.{ℕ, zero, suc, ◌+◌, ◌-◌, ◌*◌, ◌%◌, ◌/◌, ◌≤◌, ◌<◌}
use native.Mathlib.Nat.{zero-add, le_refl, le_of_lt, mod-lt, mod-eq_of_lt, div-add-mod', div-eq_of_lt-le, le-div_iff_mul-le, div-lt_iff_lt-mul, mul-le-mul_left}
use native.Mathlib.Omega.{arith}
use lib.Dec.{ltb, eqb}
use borrow.Author.Tests.{lt-ltb, le-ltb}
use Rattle.numbers.specs.Count.{bit, count}
use Rattle.numbers.specs.Digits.{sum}
use Rattle.numbers.proofs.Cases.{lt_or_ge}
use Rattle.numbers.proofs.CountLaws.{count_ext, count_le}
use Rattle.numbers.proofs.DigitLaws.{sum_one_more}
use Rattle.discrepancy.proofs.ThinLaws.{Thinned, thin}
use Rattle.discrepancy.proofs.CutLaws.{count_below_none, count_below_more}
use Rattle.strips.specs.Classes.{class_size, class_count}

-- ---- the size of a class

size_is : {b i L : ℕ} → i < b → (t : Thinned b i L) → class_size b L i ≡ t.size
unfolding class_size
size_is {b} {i} {L} h t = div-eq_of_lt-le {k = t.size} b (omega (arith, t.high)) (omega (arith, t.low))

-- its numbers are below L
pub class_in : (b L i j : ℕ) → i < b → j < class_size b L i → i + b * j < L
unfolding class_size
class_in b L i j h l = omega (arith, (le-div_iff_mul-le {k = b} {x = j + 1} {y = L + (b - 1 - i)} (omega arith)).0 (omega arith))

-- so a class is no longer than the run
pub class_le : (b L i : ℕ) → 0 < b → i < b → class_size b L i ≤ L
unfolding class_size
class_le b L i pos h = omega (arith, (div-lt_iff_lt-mul {k = b} {x = L + (b - 1 - i)} {y = L + 1} pos).1 (omega (arith, times)))
  where
    times : L ≤ L * b
    times = omega (arith, mul-le-mul_left {m = 1} {n = b} L pos)

-- shorter where there are two numbers
pub class_lt : (b L i : ℕ) → 2 ≤ b → 2 ≤ L → class_size b L i < L
unfolding class_size
class_lt b L i low h = (div-lt_iff_lt-mul {k = b} {x = L + (b - 1 - i)} {y = L} (omega arith)).1 (omega (arith, times))
  where
    times : L + b ≤ L * b
    times = omega (arith, mul-le-mul_left {m = 2} {n = b} (L - 2) low, ap (λ (y : ℕ). y * b) {x = L} {y = 2 + (L - 2)} (omega arith))

-- as the code has it: L / b, and one more for the first L % b classes
pub class_by : (b L i : ℕ) → i < b → L / b + bit (ltb i (L % b)) ≡ class_size b L i
unfolding class_size
class_by b L i h = sym (go (lt_or_ge i (L % b)))
  where
    go : (i < L % b) ⊎ (L % b ≤ i) → (L + (b - 1 - i)) / b ≡ L / b + bit (ltb i (L % b))
    go (inl l) =
        rw (lt-ltb i (L % b) l)
        (div-eq_of_lt-le {k = L / b + 1} b (omega (arith, div-add-mod' L b)) (omega (arith, div-add-mod' L b, mod-lt L {m = b} (omega arith))))
    go (inr l) =
        rw (le-ltb i (L % b) l)
        (div-eq_of_lt-le {k = L / b + 0} b (omega (arith, div-add-mod' L b)) (omega (arith, div-add-mod' L b)))

-- ---- the classes add up

pub class_of : (b L i : ℕ) → i < b → (p : ℕ → Bool) → count (λ j. eqb (j % b) i && p j) L ≡ class_count p b L i
unfolding class_count
class_of b L i h p = rw (size_is h t) (t.counts p)
  where
    t : Thinned b i L
    t = thin b i h L

classes : (b : ℕ) (p : ℕ → Bool) (L c : ℕ) → c ≤ b → count (λ j. ltb (j % b) c && p j) L ≡ sum (class_count p b L) c
unfolding sum
classes b p L zero h = count_below_none (λ j. j % b) p L
classes b p L (suc c) h = count_below_more (λ j. j % b) p c L ∙ ap₂ ◌+◌ (classes b p L c (le_of_lt h)) (class_of b L c h p)

-- all of them are the run
pub pool : (b : ℕ) → 0 < b → (p : ℕ → Bool) (L : ℕ) → sum (class_count p b L) b ≡ count p L
pool b pos p L =
    sym (classes b p L b (le_refl b)) ∙ count_ext (λ j. ltb (j % b) b && p j) p L (λ j l. ap (λ (y : Bool). y && p j) (lt-ltb (j % b) b (mod-lt j pos)))

-- and so are the first c, where the run has no more numbers
pub pool_short : (b : ℕ) (p : ℕ → Bool) (L c : ℕ) → c ≤ b → L ≤ c → sum (class_count p b L) c ≡ count p L
pool_short b p L c h k =
    sym (classes b p L c h) ∙ count_ext (λ j. ltb (j % b) c && p j) p L (λ j l. ap (λ (y : Bool). y && p j) (lt-ltb (j % b) c (small j l)))
  where
    small : (j : ℕ) → j < L → j % b < c
    small j l =
        let own : j < b = omega arith in
        rw (mod-eq_of_lt own) (omega arith)

-- and the first c of them are no more than the run
pub pool_le : (b : ℕ) (p : ℕ → Bool) (L c : ℕ) → c ≤ b → sum (class_count p b L) c ≤ L
pool_le b p L c h = omega (arith, classes b p L c h, count_le (λ j. ltb (j % b) c && p j) L)

pub pool_none : (b : ℕ) (p : ℕ → Bool) (L : ℕ) → 0 ≡ sum (class_count p b L) 0
unfolding sum
pool_none b p L = refl

pub pool_more : (b : ℕ) (p : ℕ → Bool) (L c : ℕ) → sum (class_count p b L) (c + 1) ≡ sum (class_count p b L) c + class_count p b L c
pool_more b p L c = sum_one_more (class_count p b L) c

pub count_empty : (p : ℕ → Bool) {k : ℕ} → k ≡ 0 → 0 ≡ count p k
unfolding count
count_empty p e = rw e refl

pub count_one : (p : ℕ → Bool) → count p 1 ≡ bit (p 0)
unfolding count
count_one p = zero-add (bit (p 0))
