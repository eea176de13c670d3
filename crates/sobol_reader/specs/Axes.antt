-- What reading a part of a Sobol plan answers where it does not refuse, in the terms of the reading. A part starts at a bit of the stream; the
-- answer has the bit after the part and its values, with 0 in the places that are not used. Definitions only.
use Rattle.std.specs.Prelude.{◌≡◌, List, [], ℕ, ◌+◌, ◌-◌, ◌*◌, ◌≤◌, length, take, drop, replicate}
use Rattle.numbers.specs.Listed.{padded}
use Rattle.binary.specs.Polynomial.{Degree}
use Rattle.bits.specs.Stream.{bits_of}
use Rattle.plan.specs.Plan.{Axis}
use Rattle.plan.specs.Reading.{got, read_ms, read_axis, read_axes}
use Rattle.plan.specs.Answer.{polynomials_of, ms_of, axes_of}

-- so many m's, from bit `start`
pub record MsAnswer (bytes : List ℕ) (start degree at : ℕ) (ms : List ℕ) : Type 0 where
  pub step : read_ms degree 1 [] (drop start (bits_of bytes)) ≡ got (take degree ms) (drop at (bits_of bytes))
  pub blank : drop degree ms ≡ replicate (12 - degree) 0
  pub size : length ms ≡ 12
  pub within : at ≤ 8 * length bytes
  pub near : at ≤ start + 144

-- an axis, from bit `start`, after n axes with the first n of these polynomials, whatever their m's
pub record AxisAnswer (bytes : List ℕ) (start n : ℕ) (ps : List ℕ) (at degree polynomial : ℕ) (ms : List ℕ) : Type 0 where
  pub step : (before : List ℕ) → read_axis (axes_of ps before n) (drop start (bits_of bytes))
      ≡ got (record { polynomial = polynomial; ms = take degree ms }) (drop at (bits_of bytes))
  pub blank : drop degree ms ≡ replicate (12 - degree) 0
  pub size : length ms ≡ 12
  pub degree_high : degree ≤ 12
  pub has_degree : Degree degree polynomial
  pub within : at ≤ 8 * length bytes
  pub near : at ≤ start + 160

-- arrays that hold exactly some axes, 0 in the places that are not used
pub record Flat (axes : List Axis) (ps ms : List ℕ) : Type 0 where
  pub polynomials : ps ≡ padded 6 (polynomials_of axes)
  pub blocks : ms ≡ padded 72 (ms_of axes)

-- so many axes, from bit 5
pub record AxesAnswer (bytes : List ℕ) (axes at : ℕ) (ps ms : List ℕ) : Type 0 where
  pub step : read_axes axes [] (drop 5 (bits_of bytes)) ≡ got (axes_of ps ms axes) (drop at (bits_of bytes))
  pub flat : Flat (axes_of ps ms axes) ps ms
  pub within : at ≤ 8 * length bytes
  pub near : at ≤ 965
