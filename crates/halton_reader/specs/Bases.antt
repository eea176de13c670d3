-- What reading the bases of a plan answers where it does not refuse, in the terms of the reading: the bit after them and the bases, with 0 in
-- the places that are not used. Definitions only.
use Rattle.std.specs.Prelude.{◌≡◌, List, [], ℕ, ◌-◌, ◌*◌, ◌≤◌, length, take, drop, replicate}
use Rattle.bits.specs.Stream.{bits_of}
use Rattle.plan.specs.Reading.{got, read_bases}

-- the bases of so many axes, from bit 5
pub record BasesAnswer (bytes : List ℕ) (axes at : ℕ) (bases : List ℕ) : Type 0 where
  pub step : read_bases axes [] (drop 5 (bits_of bytes)) ≡ got (take axes bases) (drop at (bits_of bytes))
  pub blank : drop axes bases ≡ replicate (6 - axes) 0
  pub size : length bases ≡ 6
  pub within : at ≤ 8 * length bytes
  pub near : at ≤ 53
