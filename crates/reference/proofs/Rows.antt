-- Every row of the reference table holds, by computation. Assumes nothing.
use mathlib.Core.Path.{◌≡◌, refl}
use mathlib.Core.List.{map}
use Rattle.numbers.specs.Gcd.{gcd, gcd_in}
use Rattle.numbers.specs.Digits.{digit, digit_count_in, digit_count, sum, product_to, term, numerator_to}
use Rattle.numbers.specs.Depth.{depth, denominator}
use Rattle.numbers.specs.Listed.{listed}
use Rattle.permutation.specs.Faure.{even_rule, odd_rule, faure_in, faure}
use Rattle.permutation.specs.Kocis.{corput, less_from, sieve, bits_for, kocis}
use Rattle.permutation.specs.Families.{image_of}
use Rattle.halton.specs.Axis.{numerator}
use Rattle.binary.specs.Gray.{right_zero_in, right_zero}
use Rattle.binary.specs.Polynomial.{times_x, only_last, is_primitive}
use Rattle.sobol.specs.Directions.{m_terms, m_rule, m_list, scaled, directions}
use Rattle.sobol.specs.Stepping.{stepped}
use Rattle.bits.specs.Stream.{to_bits, of_bits, bits_of}
use Rattle.plan.specs.Reading.{refuse_if, field, and_then, shares_factor, read_bases, polynomial_of, is_repeated, read_ms, read_axis, read_axes, read_body, read_fields, finish, read_plan}
use Rattle.points.specs.Point.{axis_count, numerator_of, denominator_of, slot_of}
use Rattle.numbers.specs.Count.{count, each}
use Rattle.numbers.specs.Cut.{below_cut}
use Rattle.discrepancy.specs.Bound.{factor}
use Rattle.points.specs.Run.{one_start, index_at, run_numerator}
use Rattle.window.specs.Counting.{axis_inside, step_inside, inside_count, bound_of, cuts_of}
use Rattle.reference.specs.Table.{window_over, answer_to, table}

pub rows_hold : map (λ r. answer_to r.question) table ≡ map (λ r. r.answer) table
unfolding window_over answer_to gcd gcd_in digit digit_count_in digit_count sum term numerator_to depth denominator listed even_rule odd_rule faure_in faure corput less_from sieve bits_for kocis image_of numerator right_zero_in right_zero times_x only_last is_primitive m_terms m_rule m_list scaled directions stepped to_bits of_bits bits_of refuse_if field and_then shares_factor read_bases polynomial_of is_repeated read_ms read_axis read_axes read_body read_fields finish read_plan axis_count numerator_of denominator_of slot_of count below_cut factor one_start index_at run_numerator each product_to axis_inside step_inside inside_count bound_of cuts_of
rows_hold = refl
