-- A Sobol axis computed: the polynomial x^3 + x + 1 with m_1 = 1, m_2 = 3, m_3 = 7. The jump goes by the Gray code: the digits of the index itself
-- would give another point already at index 2. Assumes nothing.
use mathlib.Core.Path.{◌≡◌, refl}
use mathlib.Core.List.{List, [], ◌∷◌}
use Prim.Native.Nat.{ℕ}
use Rattle.binary.specs.Gray.{right_zero_in, right_zero}
use Rattle.binary.specs.Gf2.{combination}
use Rattle.sobol.specs.Directions.{m_terms, m_rule, m_list, scaled, directions}
use Rattle.sobol.specs.Stepping.{stepped, jumped}

abbrev given : List ℕ
given = 1 ∷ 3 ∷ 7 ∷ []

m_1_to_6 : m_list 3 11 given 6 ≡ 1 ∷ 3 ∷ 7 ∷ 5 ∷ 7 ∷ 43 ∷ []
unfolding m_list m_rule m_terms
m_1_to_6 = refl

-- 1/8
point_4 : stepped (directions 3 11 given) 4 ≡ 536870912
unfolding directions scaled m_list m_rule m_terms stepped right_zero right_zero_in
point_4 = refl

point_4_jumped : jumped (directions 3 11 given) 4 ≡ 536870912
unfolding directions scaled m_list m_rule m_terms jumped combination
point_4_jumped = refl

-- 1/4
point_2_jumped : jumped (directions 3 11 given) 2 ≡ 1073741824
unfolding directions scaled m_list m_rule m_terms jumped combination
point_2_jumped = refl

-- 3/4, by the index's own digits
own_digits_2 : combination (directions 3 11 given) 2 ≡ 3221225472
unfolding directions scaled m_list m_rule m_terms combination
own_digits_2 = refl
