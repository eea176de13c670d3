-- Bytes as a stream of bits, most significant first, and the fields of it (01-scope.md, "Plan bytes"). Definitions only.
use Rattle.std.specs.Prelude.{List, [], ◌∷◌, ◌++◌, ℕ, zero, suc, ◌+◌, ◌-◌, ◌*◌, ◌/◌, ◌%◌, ◌^◌, ◌<◌, length, take, drop, get_or, replicate}
use Rattle.std.proofs.Math.Seq.{paste}

-- the w low bits of n, most significant first
unfoldable pub to_bits : ℕ → ℕ → List ℕ
to_bits zero n = []
to_bits (suc w) n = (n / 2 ^ w % 2) ∷ to_bits w n

-- the number that bits spell, most significant first
unfoldable pub of_bits : List ℕ → ℕ
of_bits [] = 0
of_bits (b ∷ l) = b * 2 ^ length l + of_bits l

-- the bits of bytes
unfoldable pub bits_of : List ℕ → List ℕ
bits_of [] = []
bits_of (b ∷ bs) = to_bits 8 b ++ bits_of bs

-- bit i of the stream: byte i / 8, its bit of weight 2^(7 - i % 8)
abbrev pub bit_at : List ℕ → ℕ → ℕ
bit_at bs i = get_or bs (i / 8) 0 / 2 ^ (7 - i % 8) % 2

-- the field of w bits at bit p
unfoldable pub field_at : List ℕ → ℕ → ℕ → ℕ
field_at bs p w = of_bits (take w (drop p (bits_of bs)))

-- every element is below m
unfoldable pub AllBelow : ℕ → List ℕ → Type 0
AllBelow m [] = Unit {0}
AllBelow m (b ∷ l) = (b < m) × AllBelow m l

-- the list with x in place of what stands from p on: the kit's `paste` of all of x, so that two in a row are one
unfoldable pub overwrite : List ℕ → ℕ → List ℕ → List ℕ
overwrite l p x = paste l p x (length x)

-- ---- bits as bytes, zero bits filling the last

-- how many bytes n bits need
unfoldable pub bytes_for : ℕ → ℕ
bytes_for n = (n + 7) / 8

-- n bytes of eight bits each
unfoldable pub pack : ℕ → List ℕ → List ℕ
pack zero l = []
pack (suc n) l = of_bits (take 8 l) ∷ pack n (drop 8 l)

unfoldable pub packed : List ℕ → List ℕ
packed l = pack (bytes_for (length l)) (l ++ replicate (8 * bytes_for (length l) - length l) 0)
