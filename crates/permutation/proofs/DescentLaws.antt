-- One image without the list: go down by the lowest binary digit of the image, even numbers first. Assumes nothing.
use mathlib.Core.Path.{◌≡◌, ap, ◌∙◌}
use mathlib.Core.Logic.{◌⊎◌, ⊎_elim}
use Prim.Native.Nat.{ℕ, ◌+◌, ◌-◌, ◌*◌, ◌/◌, ◌^◌, ◌<◌, ◌≤◌}
use native.Mathlib.Nat.{mul-le-mul_left, pow-zero}
use native.Mathlib.Omega.{arith}
use Rattle.numbers.proofs.Cases.{lt_or_ge}
use Rattle.numbers.proofs.DigitLaws.{pow_one_more}
use Rattle.permutation.specs.Kocis.{bits_for, kocis}
use Rattle.permutation.proofs.SieveLaws.{entry, sieve_lower, sieve_upper}
use Rattle.permutation.proofs.KocisLaws.{entry_permutes, bits_reach}

-- r has the lowest digits of the image, and p is 2 to their number. h numbers below b have these digits, and the image is the one at place d.
pub record Descent (b k h d r p : ℕ) : Type 0 where
  pub bits : ℕ
  pub reach : h ≤ 2 ^ bits
  pub below : d < h
  pub some : 1 ≤ p
  pub room : r + p * (h - 1) < b
  pub kept : r + p * entry bits h d ≡ kocis b k

pub descent_none : (b k : ℕ) → k < b → Descent b k b k 0 1
unfolding kocis
descent_none b k l = record { bits = bits_for b; reach = bits_reach b; below = l; some = omega arith; room = omega arith; kept = omega arith }

-- the next digit u: 0 for a place d among the first c, else 1
abbrev pub Taken : ℕ → ℕ → ℕ → Type 0
Taken d c u = ((d < c) × (u ≡ 0)) ⊎ ((c ≤ d) × (u ≡ 1))

pub taken_le : (d c u : ℕ) → Taken d c u → u * c ≤ d
taken_le d c u t = ⊎_elim (λ w. omega (arith, ap (λ (v : ℕ). v * c) w.1)) (λ w. omega (arith, ap (λ (v : ℕ). v * c) w.1)) t

pub taken_few : (d c u : ℕ) → Taken d c u → u ≤ 1
taken_few d c u t = ⊎_elim (λ w. omega arith) (λ w. omega arith) t

-- the same under other names
pub descent_as : {b k h d r p h' d' r' p' : ℕ} → Descent b k h d r p → h ≡ h' → d ≡ d' → r ≡ r' → p ≡ p' → Descent b k h' d' r' p'
descent_as s eh ed er ep = rw (← eh, ← ed, ← er, ← ep) s

-- the last of the h numbers stays below b
room_lower : (b h r p : ℕ) → 2 ≤ h → r + p * (h - 1) < b → r + 2 * p * ((h + 1) / 2 - 1) < b
room_lower b h r p l s = go ((h + 1) / 2 - 1) (omega arith)
  where
    go : (x : ℕ) → 2 * x ≤ h - 1 → r + 2 * p * x < b
    go x m = omega (arith, mul-le-mul_left p m)

room_upper : (b h r p : ℕ) → 2 ≤ h → r + p * (h - 1) < b → r + p + 2 * p * (h / 2 - 1) < b
room_upper b h r p l s = go (h / 2 - 1) (omega arith)
  where
    go : (x : ℕ) → 2 * x + 1 ≤ h - 1 → r + p + 2 * p * x < b
    go x m = omega (arith, mul-le-mul_left p m)

keep_lower : (r p x y v : ℕ) → x ≡ 2 * y → r + p * x ≡ v → r + 2 * p * y ≡ v
keep_lower r p x y v e s = omega (arith, s, ap (λ (z : ℕ). p * z) e)

keep_upper : (r p x y v : ℕ) → x ≡ 2 * y + 1 → r + p * x ≡ v → r + p + 2 * p * y ≡ v
keep_upper r p x y v e s = omega (arith, s, ap (λ (z : ℕ). p * z) e)

times : (p x : ℕ) → 1 ≤ x → p ≤ p * x
times p x l = omega (arith, mul-le-mul_left p l)

module _ {b k h d r p : ℕ} (s : Descent b k h d r p) where
  module _ (more : 2 ≤ h) where
    -- two numbers want a digit more
    fewer : s.bits ≡ s.bits - 1 + 1
    fewer =
        ⊎_elim (λ a. absurd (omega (arith, s.reach, ap (λ (x : ℕ). 2 ^ x) {x = s.bits} {y = 0} (omega arith), pow-zero 2))) (λ a. omega arith)
        (lt_or_ge s.bits 1)

    reach_more : h ≤ 2 ^ (s.bits - 1 + 1)
    reach_more = omega (arith, s.reach, ap (λ (x : ℕ). 2 ^ x) fewer)

    entry_more : entry s.bits h d ≡ entry (s.bits - 1 + 1) h d
    entry_more = ap (λ (x : ℕ). entry x h d) fewer

    pub descent_lower : d < (h + 1) / 2 → Descent b k ((h + 1) / 2) d r (2 * p)
    descent_lower l = record {
      bits = s.bits - 1;
      reach = omega (arith, reach_more, pow_one_more 2 (s.bits - 1));
      below = l;
      some = omega (arith, s.some);
      room = room_lower b h r p more s.room;
      kept = keep_lower r p _ _ _ (entry_more ∙ sieve_lower (s.bits - 1) h d reach_more l) s.kept;
    }

    pub descent_upper : (h + 1) / 2 ≤ d → Descent b k (h / 2) (d - (h + 1) / 2) (r + p) (2 * p)
    descent_upper l = record {
      bits = s.bits - 1;
      reach = omega (arith, reach_more, pow_one_more 2 (s.bits - 1));
      below = omega (arith, s.below);
      some = omega (arith, s.some);
      room = room_upper b h r p more s.room;
      kept = keep_upper r p _ _ _ (entry_more ∙ sieve_upper (s.bits - 1) h d reach_more l s.below) s.kept;
    }

    -- both in one, by the digit
    pub descent_next : {h' d' r' p' : ℕ} (u : ℕ) → Taken d ((h + 1) / 2) u → h' ≡ (h + 1 - u) / 2 → d' ≡ d - u * ((h + 1) / 2) → r' ≡ r + u * p
        → p' ≡ 2 * p → Descent b k h' d' r' p'
    descent_next u t eh ed er ep =
        ⊎_elim
        (λ w.
        let x : u * ((h + 1) / 2) ≡ 0 = ap (λ (v : ℕ). v * ((h + 1) / 2)) w.1 ∙ omega arith in
        let y : u * p ≡ 0 = ap (λ (v : ℕ). v * p) w.1 ∙ omega arith in
        descent_as (descent_lower w.0) (omega arith) (omega arith) (omega arith) (omega arith))
        (λ w.
        let x : u * ((h + 1) / 2) ≡ (h + 1) / 2 = ap (λ (v : ℕ). v * ((h + 1) / 2)) w.1 ∙ omega arith in
        let y : u * p ≡ p = ap (λ (v : ℕ). v * p) w.1 ∙ omega arith in
        descent_as (descent_upper w.0) (omega arith) (omega arith) (omega arith) (omega arith)) t

    pub descent_fits : p < b
    descent_fits = omega (arith, s.room, times p (h - 1) (omega arith))

  pub descent_few : h ≤ b
  descent_few = omega (arith, s.room, times (h - 1) p s.some)

  pub descent_end : d ≡ 0 → r ≡ kocis b k
  descent_end e =
      omega (
        arith,
        s.kept,
        ap (λ (x : ℕ). p * x) {y = 0} (ap (entry s.bits h) e ∙ (entry_permutes s.bits h s.reach).zero_first),
      )
