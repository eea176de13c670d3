-- The direction numbers of a Sobol axis. A polynomial of degree d is the number p whose digit d - k is a_k, with a_0 = a_d = 1.
-- A list of m's has m_1 first, so that m_(i+1) stands at place i. Definitions only.
use Rattle.std.specs.Prelude.{◌≡◌, cond, List, [], ◌∷◌, ◌++◌, ℕ, zero, suc, ◌-◌, ◌*◌, ◌/◌, ◌%◌, ◌^◌, ◌<◌, ltb, get_or}
use Rattle.std.specs.Int.Bits.{bit_xor}
use Rattle.binary.specs.Gf2.{times}

-- 2^k a_k m_(i+1-k)
abbrev pub m_term : ℕ → ℕ → List ℕ → ℕ → ℕ → ℕ
m_term d p ms i k = times (p / 2 ^ (d - k) % 2) (get_or ms (i - k) 0 * 2 ^ k)

-- m_(i+1-d) xor those terms for k from 1 on, the given number of them
unfoldable pub m_terms : ℕ → ℕ → List ℕ → ℕ → ℕ → ℕ
m_terms d p ms i zero = get_or ms (i - d) 0
m_terms d p ms i (suc k) = bit_xor (m_terms d p ms i k) (m_term d p ms i (suc k))

-- The recurrence for m_(i+1): 2 a_1 m_i xor .. xor 2^(d-1) a_(d-1) m_(i+2-d) xor 2^d m_(i+1-d) xor m_(i+1-d). At degree 0 it is 1.
unfoldable pub m_rule : ℕ → ℕ → List ℕ → ℕ → ℕ
m_rule zero p ms i = 1
m_rule (suc d) p ms i = m_terms (suc d) p ms i (suc d)

-- m_(i+1) from m_1 to m_i: given up to m_d, and then by the recurrence
abbrev pub m_next : ℕ → ℕ → List ℕ → ℕ → List ℕ → ℕ
m_next d p given i ms = cond (ltb i d) (get_or given i 0) (m_rule d p ms i)

abbrev pub m_more : ℕ → ℕ → List ℕ → ℕ → List ℕ → List ℕ
m_more d p given i ms = ms ++ (m_next d p given i ms ∷ [])

-- m_1 to m_n
unfoldable pub m_list : ℕ → ℕ → List ℕ → ℕ → List ℕ
m_list d p given zero = []
m_list d p given (suc i) = m_more d p given i (m_list d p given i)

-- v_i = m_i × 2^(32-i), the first of the list being that of place i
unfoldable pub scaled : ℕ → List ℕ → List ℕ
scaled i [] = []
scaled i (m ∷ ms) = m * 2 ^ (31 - i) ∷ scaled (suc i) ms

-- v_1 to v_32
unfoldable pub directions : ℕ → ℕ → List ℕ → List ℕ
directions d p given = scaled 0 (m_list d p given 32)

-- ---- what is asked of a given m_(i+1): odd, and below 2^(i+1)

pub record OddBelow (i m : ℕ) : Type 0 where
  pub odd : m % 2 ≡ 1
  pub below : m < 2 ^ suc i

-- m_1 to m_n are
unfoldable pub AllOddBelow : ℕ → List ℕ → Type 0
AllOddBelow n ms = (j : ℕ) → j < n → OddBelow j (get_or ms j 0)
