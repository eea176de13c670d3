-- Plan bytes and what reading them comes to, by computation: the traps of 01-scope.md, and the refusals that its reference points do not show.
-- Assumes nothing.
use mathlib.Core.Path.{◌≡◌, refl}
use mathlib.Core.List.{List, [], ◌∷◌, map}
use Prim.Native.Nat.{ℕ}
use Rattle.numbers.specs.Gcd.{gcd, gcd_in}
use Rattle.binary.specs.Polynomial.{times_x, only_last, is_primitive}
use Rattle.bits.specs.Stream.{to_bits, of_bits, bits_of}
use Rattle.plan.specs.Plan.{halton, sobol}
use Rattle.plan.specs.Reading.{refuse_if, field, and_then, shares_factor, read_bases, polynomial_of, is_repeated, read_ms, read_axis, read_axes, read_body, read_fields, Reading, refused, accepted, finish, read_plan}

record Row : Type 0 where
  bytes : List ℕ
  reading : Reading

row : List ℕ → Reading → Row
row bytes reading = record { bytes = bytes; reading = reading }

abbrev rows : List Row
rows =
    -- x^3 + x + 1 with 1, 3, 7
    row (0x89 ∷ 0xBF ∷ 0x80 ∷ []) (accepted (sobol (record { polynomial = 11; ms = 1 ∷ 3 ∷ 7 ∷ [] } ∷ [])))
    -- bases 4 and 9, and 6 and 9
    ∷ row (0x10 ∷ 0x18 ∷ 0x40 ∷ []) (accepted (halton 0 (4 ∷ 9 ∷ [])))
    ∷ row (0x10 ∷ 0x28 ∷ 0x40 ∷ []) (refused 5)
    -- permuted, base 256
    ∷ row (0x4F ∷ 0xF8 ∷ []) (accepted (halton 1 (256 ∷ [])))
    -- family 3, bases 227 and 229; and no base
    ∷ row (0xD7 ∷ 0x17 ∷ 0x20 ∷ []) (accepted (halton 3 (227 ∷ 229 ∷ [])))
    ∷ row (0xC8 ∷ []) (refused 1)
    -- x^4 + x^3 + x^2 + x + 1
    ∷ row (0x8A ∷ 0x70 ∷ []) (refused 7)
    -- x + 1, and degree 0
    ∷ row (0x88 ∷ 0xC0 ∷ []) (accepted (sobol (record { polynomial = 3; ms = 1 ∷ [] } ∷ [])))
    ∷ row (0x88 ∷ 0x00 ∷ []) (accepted (sobol (record { polynomial = 1; ms = [] } ∷ [])))
    -- x^3 + x + 1 twice, the second's m's cut off; and degree 0 twice
    ∷ row (0x91 ∷ 0xBF ∷ 0x9A ∷ []) (refused 9)
    ∷ row (0x90 ∷ 0x00 ∷ []) (refused 9)
    -- m_2 is even, and m_3 is cut off; m_2 is odd
    ∷ row (0x89 ∷ 0xB8 ∷ []) (refused 8)
    ∷ row (0x89 ∷ 0xBC ∷ []) (refused 1)
    -- degree 13, its coefficients cut off
    ∷ row (0x8E ∷ 0x80 ∷ []) (refused 6)
    -- no axis, seven axes, base 1, and a byte after the plan of bases 2 and 3
    ∷ row (0x00 ∷ []) (refused 3)
    ∷ row (0x38 ∷ []) (refused 3)
    ∷ row (0x08 ∷ 0x00 ∷ []) (refused 4)
    ∷ row (0x10 ∷ 0x08 ∷ 0x10 ∷ 0x00 ∷ []) (refused 10)
    ∷ []

rows_read : map (λ r. read_plan r.bytes) rows ≡ map (λ r. r.reading) rows
unfolding to_bits of_bits bits_of gcd gcd_in times_x only_last is_primitive refuse_if field and_then shares_factor read_bases polynomial_of is_repeated read_ms read_axis read_axes read_body read_fields finish read_plan row
rows_read = refl
