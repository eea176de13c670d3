-- The steps in all strips of a combination are one residue class: the stride and the bases being coprime, each axis more leaves one class of a
-- class. How many of N steps a class has is a quotient, and over all combinations these add up to the number of points inside. Assumes nothing.
use mathlib.Core.Path.{◌≡◌, refl, sym, ap, ap₂, ◌∙◌}
use mathlib.Core.Logic.{◌⊎◌, inl, inr}
use mathlib.Core.Bool.{Bool, true, cond, ◌&&◌, and-true, and-false, and_comm}
use Prim.Native.Nat.{ℕ, zero, suc, ◌+◌, ◌-◌, ◌*◌, ◌/◌, ◌%◌, ◌^◌, ◌<◌}
use native.Mathlib.Nat.{le_refl, mul_comm, mul-zero, mul-one, mod-one, mod-lt, mod-eq_of_lt, mod-add-div, pow-zero, pow-suc, eq-one_of_dvd-one}
use native.Mathlib.Omega.{arith}
use lib.Dec.{ltb, leb, eqb}
use lib.Arith.{digits_lt, digits_div, mod-mul}
use borrow.Author.Tests.{eq-eqb, ne_eqb}
use Rattle.numbers.specs.Gcd.{Coprime, Invertible}
use Rattle.numbers.specs.Digits.{product_to}
use Rattle.numbers.specs.Count.{bit, count, each}
use Rattle.numbers.proofs.Cases.{eq_or_ne, eq_iff}
use Rattle.numbers.proofs.GcdLaws.{gcd_one_iff_coprime}
use Rattle.numbers.proofs.InverseLaws.{invertible_one, invertible_mul, gcd_one_iff_invertible, Solved, solve}
use Rattle.numbers.proofs.DigitLaws.{sum_ext}
use Rattle.numbers.proofs.CountLaws.{count_ext, count_all}
use Rattle.discrepancy.specs.Bound.{CutAxis, index_at, inside, Sound, SoundAxes}
use Rattle.discrepancy.proofs.BoundLaws.{invertible, fewer}
use Rattle.discrepancy.proofs.ThinLaws.{Thinned, thin}
use Rattle.strips.specs.Strips.{Strip, everything, in_strip, narrowed, sum_strips, axis_strips, sum_combinations, joint, sum_classes, StripOf, in_combination, modulus_of, Class}
use Rattle.strips.specs.Classes.{class_count, class_size}
use Rattle.strips.proofs.SizeLaws.{class_of}
use Rattle.strips.proofs.StripLaws.{sum_one, eq_digits, narrowed_proper, combinations_add_up}

-- ---- coprime powers

invertible_pow : {a b : ℕ} → Invertible a b → (j : ℕ) → Invertible (a ^ j) b
invertible_pow {a} {b} v zero = rw pow-zero (invertible_one b)
invertible_pow {a} {b} v (suc j) = rw (pow-suc a j) (invertible_mul (invertible_pow v j) v)

coprime_of : {a b : ℕ} → Invertible a b → Coprime a b
coprime_of {a} {b} v = (gcd_one_iff_coprime a b).0 ((gcd_one_iff_invertible a b).1 v)

coprime_pow : {a b : ℕ} → Coprime a b → (j : ℕ) → Coprime a (b ^ j)
coprime_pow {a} {b} c j d p q = coprime_of (invertible_pow (invertible b a (λ e l m. c e m l)) j) d q p

-- ---- one axis more

-- The steps of one class that lie in a strip of the axis are one class again.
record Joined (M ρ : ℕ) (a : CutAxis) (c : Strip) : Type 0 where
  root : ℕ
  below : root < M * c.modulus
  steps : (t : ℕ) → eqb (t % M) ρ && in_strip c (index_at a t) ≡ eqb (t % (M * c.modulus)) root

join : {M ρ : ℕ} → ρ < M → (a : CutAxis) (c : Strip) → c.residue < c.modulus → Invertible a.stride c.modulus → Invertible M c.modulus
    → Joined M ρ a c
join {M} {ρ} low a c proper v w =
    record {
      root = z.root * M + ρ;
      below = rw (mul_comm M m) (digits_lt z.below low);
      steps = λ t.
          rw (mul_comm M m, mod-mul t {m = m} {c = M} (omega arith) (omega arith))
          (same t (eq_or_ne (t % M) ρ) ∙ sym (eq_digits (t / M % m) z.root M (t % M) ρ (mod-lt t (omega arith)) low));
    }
  where
    m : ℕ
    m = c.modulus

    z : Solved m (a.start + a.stride * ρ) (a.stride * M) c.residue
    z = solve (a.start + a.stride * ρ) c.residue proper (invertible_mul v w)

    same : (t : ℕ) → (t % M ≡ ρ) ⊎ (t % M ≡ ρ → ⊥) → eqb (t % M) ρ && in_strip c (index_at a t) ≡ eqb (t / M % m) z.root && eqb (t % M) ρ
    same t (inl e) =
        rw (eq-eqb (t % M) ρ e, and-true (eqb (t / M % m) z.root))
        (unfold in_strip in eq_iff (index_at a t % m) c.residue (t / M % m) z.root
        (λ g. z.there (t / M) (sym index ∙ g)) (λ g. index ∙ z.back (t / M) g))
      where
        index : index_at a t % m ≡ (a.start + a.stride * ρ + a.stride * M * (t / M)) % m
        index = ap (λ (x : ℕ). x % m) (omega (arith, ap (λ (x : ℕ). a.stride * x) (sym (mod-add-div t M)), ap (λ (x : ℕ). a.stride * x) e))
    same t (inr f) = rw (ne_eqb (t % M) ρ f) (sym (and-false (eqb (t / M % m) z.root)))

-- ---- the size of a class

-- how many of N steps a class has
class_size_lem : (M root N : ℕ) → root < M → count (λ t. eqb (t % M) root) N ≡ class_size M N root
unfolding class_count
class_size_lem M root N h =
    count_ext (λ t. eqb (t % M) root) (λ t. eqb (t % M) root && true) N (λ t l. sym (and-true (eqb (t % M) root)))
    ∙ class_of M N root h (λ t. true) ∙ count_all (class_size M N root)

-- ---- a combination

-- a stride is coprime to the moduli of its axis's strips
stride_apart : {N : ℕ} {a : CutAxis} {c : Strip} → Sound N a → StripOf a c → Invertible a.stride c.modulus
stride_apart {a = a} z k = rw k.modulus_is (invertible a.stride (a.base ^ k.digits) (coprime_pow z.stride_coprime k.digits))

module _ (ax : ℕ → CutAxis) (c : ℕ → Strip) where
  -- and so are the moduli of the strips of other axes
  moduli_apart : {a : CutAxis} {d : Strip} → StripOf a d → (s : ℕ) → ((i : ℕ) → i < s → Coprime a.base (ax i).base)
      → ((i : ℕ) → i < s → StripOf (ax i) (c i)) → Invertible (product_to (modulus_of c) s) d.modulus
  unfolding product_to
  moduli_apart {d = d} h zero apart k = invertible_one d.modulus
  moduli_apart {a} {d} h (suc s) apart k =
      invertible_mul (moduli_apart h s (λ i l. apart i (omega arith)) (λ i l. k i (omega arith))) here
    where
      last : StripOf (ax s) (c s)
      last = k s (le_refl (suc s))

      powers : Coprime ((ax s).base ^ last.digits) (a.base ^ h.digits)
      powers = coprime_pow (λ d p q. coprime_pow (apart s (le_refl (suc s))) last.digits d q p) h.digits

      here : Invertible (c s).modulus d.modulus
      here = rw (last.modulus_is, h.modulus_is) (invertible ((ax s).base ^ last.digits) (a.base ^ h.digits) powers)

  -- The steps in all strips of a combination are one residue class.
  pub one_class : {N : ℕ} (s : ℕ) → SoundAxes N ax s → ((i : ℕ) → i < s → StripOf (ax i) (c i)) → Class ax c s
  unfolding in_combination each product_to
  one_class zero z k = record { root = 0; below = le_refl 1; steps = λ t. rw (mod-one t) refl }
  one_class (suc s) z k = more (one_class s (fewer s z) (λ i l. k i (omega arith)))
    where
      last : StripOf (ax s) (c s)
      last = k s (le_refl (suc s))

      more : Class ax c s → Class ax c (suc s)
      more h =
          record {
            root = j.root;
            below = j.below;
            steps = λ t. ap (λ (x : Bool). x && in_strip (c s) (index_at (ax s) t)) (h.steps t) ∙ j.steps t;
          }
        where
          j : Joined (product_to (modulus_of c) s) h.root (ax s) (c s)
          j =
              join h.below (ax s) (c s) last.proper (stride_apart (z.sound s (le_refl (suc s))) last)
              (moduli_apart last s (λ i l. z.coprime s i l (le_refl (suc s))) (λ i l. k i (omega arith)))

-- of a combination
pub combination_size : {ax : ℕ → CutAxis} {c : ℕ → Strip} {s : ℕ} (k : Class ax c s) (N : ℕ)
    → count (in_combination ax c s) N ≡ class_size (product_to (modulus_of c) s) N k.root
combination_size {ax} {c} {s} k N =
    count_ext (in_combination ax c s) (λ t. eqb (t % product_to (modulus_of c) s) k.root) N (λ t l. k.steps t)
    ∙ class_size_lem (product_to (modulus_of c) s) k.root N k.below

-- ---- all combinations

everything_of : (a : CutAxis) → StripOf a everything
everything_of a = record { digits = 0; modulus_is = sym (pow-zero a.base); proper = le_refl 1 }

module _ {N : ℕ} {a : CutAxis} (z : Sound N a) where
  narrowed_of : {c : Strip} → StripOf a c → (d : ℕ) → StripOf a (narrowed a.image a.base c d)
  narrowed_of {c} k d =
      record {
        digits = suc k.digits;
        modulus_is = unfold narrowed in ap (λ (x : ℕ). x * a.base) k.modulus_is ∙ sym (pow-suc a.base k.digits);
        proper = narrowed_proper z.permutes (omega (arith, z.base_big)) c k.proper d;
      }

  -- a sum over the strips of an axis's cut looks at strips of the axis only
  strips_agree : (f g : Strip → ℕ) → ((c : Strip) → StripOf a c → f c ≡ g c) → (k u : ℕ) (c : Strip) → StripOf a c
      → sum_strips a.image a.base a.q k u c f ≡ sum_strips a.image a.base a.q k u c g
  unfolding sum_strips
  strips_agree f g same zero u c h = ap (λ (x : ℕ). cond (ltb 0 u) x 0) (same c h)
  strips_agree f g same (suc k) u c h =
      ap₂ ◌+◌ (sum_ext _ _ (u * a.base / a.q) (λ d l. same (narrowed a.image a.base c d) (narrowed_of h d)))
      (strips_agree f g same k (u * a.base % a.q) (narrowed a.image a.base c (u * a.base / a.q)) (narrowed_of h (u * a.base / a.q)))

  axis_agrees : (f g : Strip → ℕ) → ((c : Strip) → StripOf a c → f c ≡ g c) → axis_strips a f ≡ axis_strips a g
  unfolding axis_strips
  axis_agrees f g same =
      ap₂ (cond (leb a.q a.u)) (same everything (everything_of a)) (strips_agree f g same a.depth a.u everything (everything_of a))

-- the residue of a joined class is the only step of it below its modulus
joint_is : {M ρ : ℕ} {a : CutAxis} {c : Strip} (j : Joined M ρ a c) → joint a M ρ c ≡ j.root
unfolding joint
joint_is {M} {ρ} {a} {c} j =
    sum_one (λ t. t * bit (eqb (t % M) ρ && in_strip c (index_at a t))) (M * c.modulus) j.root j.below other
    ∙ rw (j.steps j.root, mod-eq_of_lt j.below, eq-eqb j.root j.root refl) (mul-one j.root)
  where
    other : (t : ℕ) → t < M * c.modulus → (t ≡ j.root → ⊥) → t * bit (eqb (t % M) ρ && in_strip c (index_at a t)) ≡ 0
    other t l ne = rw (j.steps t, mod-eq_of_lt l, ne_eqb t j.root ne) (mul-zero t)

module _ {N : ℕ} {ax : ℕ → CutAxis} where
  -- within a class whose modulus is coprime to all bases
  classes_count : (s : ℕ) → SoundAxes N ax s → (M ρ : ℕ) → ρ < M → ((i : ℕ) → i < s → Coprime M (ax i).base)
      → sum_classes ax N s M ρ ≡ sum_combinations ax N s (λ t. eqb (t % M) ρ)
  unfolding sum_classes sum_combinations
  classes_count zero z M ρ low apart = sym (class_size_lem M ρ N low)
  classes_count (suc s) z M ρ low apart =
      axis_agrees (z.sound s (le_refl (suc s))) _ _ (λ c k. one c k (classes_count s (fewer s z) (M * c.modulus)))
    where
      one : (c : Strip) → StripOf (ax s) c
          → ((ρ' : ℕ) → ρ' < M * c.modulus → ((i : ℕ) → i < s → Coprime (M * c.modulus) (ax i).base)
          → sum_classes ax N s (M * c.modulus) ρ' ≡ sum_combinations ax N s (λ t. eqb (t % (M * c.modulus)) ρ'))
          → sum_classes ax N s (M * c.modulus) (joint (ax s) M ρ c) ≡ sum_combinations ax N s (λ t. in_strip c (index_at (ax s) t) && eqb (t % M) ρ)
      one c k before =
          ap (sum_classes ax N s (M * c.modulus)) (joint_is j)
          ∙ before j.root j.below wider
          ∙ ap (sum_combinations ax N s) (λ i t. same t i)
        where
          j : Joined M ρ (ax s) c
          j =
              join low (ax s) c k.proper (stride_apart (z.sound s (le_refl (suc s))) k)
              (rw k.modulus_is (invertible M ((ax s).base ^ k.digits) (coprime_pow (apart s (le_refl (suc s))) k.digits)))

          same : (t : ℕ) → eqb (t % (M * c.modulus)) j.root ≡ in_strip c (index_at (ax s) t) && eqb (t % M) ρ
          same t = sym (j.steps t) ∙ and_comm (eqb (t % M) ρ) (in_strip c (index_at (ax s) t))

          wider : (i : ℕ) → i < s → Coprime (M * c.modulus) (ax i).base
          wider i l =
              coprime_of (invertible_mul (invertible M (ax i).base (apart i (omega arith)))
              (rw k.modulus_is (invertible_pow (invertible (ax s).base (ax i).base (z.coprime s i l (le_refl (suc s)))) k.digits)))

  -- the sizes of the classes of all combinations add up to the number of points inside
  pub classes_add_up : (s : ℕ) → SoundAxes N ax s → sum_classes ax N s 1 0 ≡ count (inside ax s) N
  classes_add_up s z =
      classes_count s z 1 0 (le_refl 1) (λ i l d p q. eq-one_of_dvd-one p)
      ∙ ap (sum_combinations ax N s) (λ j t. whole t j)
      ∙ combinations_add_up N ax s z.sound
    where
      whole : (t : ℕ) → eqb (t % 1) 0 ≡ true
      whole t = rw (mod-one t) refl
