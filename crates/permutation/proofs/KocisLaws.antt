-- The permutation of Kocis and Whiten is one, with 0 first, in every base. Assumes nothing.
use mathlib.Core.Path.{◌≡◌, ap, subst}
use mathlib.Core.Logic.{⊎_elim}
use mathlib.Core.List.{List}
use Prim.Native.Nat.{ℕ, zero, suc, ◌+◌, ◌-◌, ◌*◌, ◌/◌, ◌^◌, ◌<◌, ◌≤◌}
use native.Mathlib.Nat.{le_refl, pow-zero, pow-suc}
use native.Mathlib.Omega.{arith}
use lib.ListN.{get_or}
use Rattle.numbers.proofs.Cases.{lt_or_ge}
use Rattle.numbers.proofs.DigitLaws.{pow_pos, pow_one_more, digit_count_reaches, digit_count_least}
use Rattle.permutation.specs.Permutes.{Permutes}
use Rattle.permutation.specs.Kocis.{bits_for, kocis}
use Rattle.permutation.proofs.SieveLaws.{sieve_none, sieve_one, entry, sieve_lower, sieve_upper}
use Rattle.permutation.proofs.HalvesLaws.{halves_permute}

none_permutes : (d : ℕ) → Permutes 0 (entry d 0)
none_permutes d = record {
  inverse = λ r. r;
  below = λ k l. absurd (omega arith);
  inverse_below = λ r l. l;
  back = λ k l. absurd (omega arith);
  onto = λ r l. absurd (omega arith);
  zero_first = ap (λ (s : List ℕ). get_or s 0 0) (sieve_none d);
}

one : (k : ℕ) → k < 1 → entry 0 1 k ≡ k
one zero l = ap (λ (s : List ℕ). get_or s 0 0) sieve_one
one (suc k) l = absurd (omega arith)

one_permutes : Permutes 1 (entry 0 1)
one_permutes = record {
  inverse = λ r. r;
  below = λ k l. omega (arith, one k l);
  inverse_below = λ r l. l;
  back = one;
  onto = one;
  zero_first = one 0 (omega arith);
}

more : (d b : ℕ) → 0 < b → b ≤ 2 ^ (d + 1) → ((b + 1) / 2 ≤ 2 ^ d → Permutes ((b + 1) / 2) (entry d ((b + 1) / 2)))
    → (b / 2 ≤ 2 ^ d → Permutes (b / 2) (entry d (b / 2))) → Permutes b (entry (d + 1) b)
more d b some reach p q =
    let half : b ≤ 2 ^ d * 2 = omega (arith, pow_one_more 2 d) in
    halves_permute (record { low = λ k l. sieve_lower d b k reach l; high = λ k l m. sieve_upper d b k reach l m }) (p (omega arith)) (q (omega arith))
    some

few : (b : ℕ) → b ≤ 1 → Permutes b (entry 0 b)
few zero h = none_permutes 0
few (suc zero) h = one_permutes
few (suc (suc b)) h = absurd (omega arith)

-- at any d that is large enough
pub entry_permutes : (d b : ℕ) → b ≤ 2 ^ d → Permutes b (entry d b)
entry_permutes zero b h = few b (omega (arith, pow-zero 2))
entry_permutes (suc d) b h =
    subst (λ (m : ℕ). Permutes b (entry m b)) {x = d + 1} {y = suc d} (omega arith)
    (⊎_elim (λ some. more d b some (omega (arith, pow-suc 2 d, pow_one_more 2 d)) (entry_permutes d ((b + 1) / 2)) (entry_permutes d (b / 2)))
    (λ none. subst (λ (x : ℕ). Permutes x (entry (d + 1) x)) {x = 0} {y = b} (omega arith) (none_permutes (d + 1))) (lt_or_ge 0 b))

pub bits_reach : (b : ℕ) → b ≤ 2 ^ bits_for b
unfolding bits_for
bits_reach b = omega (arith, digit_count_reaches 2 (b - 1) (le_refl 2))

-- no fewer digits reach b
pub bits_least : (b d : ℕ) → b ≤ 2 ^ d → bits_for b ≤ d
unfolding bits_for
bits_least b d h = digit_count_least 2 (b - 1) d (le_refl 2) (omega (arith, pow_pos 2 d (omega arith)))

-- THE PERMUTATION OF KOCIS AND WHITEN is one of 0 to b - 1 that sends 0 to 0, in every base.
pub kocis_permutes : (b : ℕ) → Permutes b (kocis b)
unfolding kocis
kocis_permutes b = entry_permutes (bits_for b) b (bits_reach b)
