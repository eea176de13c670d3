-- Numbers as bytes, most significant first (01-scope.md, "What the collector carries"). Definitions only.
use Rattle.std.specs.Prelude.{List, [], ◌∷◌, ◌++◌, ℕ, zero, suc, ◌+◌, ◌*◌, ◌/◌, ◌%◌, ◌^◌, get_or}
use Rattle.numbers.specs.Listed.{listed}

-- the k low bytes of n, most significant first
unfoldable pub bytes_of : ℕ → ℕ → List ℕ
bytes_of zero n = []
bytes_of (suc k) n = (n / 256 ^ k % 256) ∷ bytes_of k n

-- words, 8 bytes each, one after another
unfoldable pub word_bytes : List ℕ → List ℕ
word_bytes [] = []
word_bytes (x ∷ words) = bytes_of 8 x ++ word_bytes words

-- number k of numbers of 4 bytes each
unfoldable pub quad_at : List ℕ → ℕ → ℕ
quad_at bytes k =
    get_or bytes (4 * k) 0 * 16777216 + get_or bytes (4 * k + 1) 0 * 65536 + get_or bytes (4 * k + 2) 0 * 256 + get_or bytes (4 * k + 3) 0

-- a window of s axes: u and then q for each, 4 bytes each
unfoldable pub window_in : List ℕ → ℕ → List ℕ
window_in bytes s = listed (quad_at bytes) (2 * s)
