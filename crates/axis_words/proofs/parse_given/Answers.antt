-- Each return is what the word lacks, or the axis. Assumes nothing.
use Rattle.std.proofs.Common.{sym, arith, length-take-le}
use Rattle.fitting.proofs.AxisLaws.{degree_low}
use Rattle.axis_words.proofs.PartLaws.{kept_none, no_head, head_low, head_high, d_some, other_count, no_number, all_given}
use Rattle.axis_words.proofs.parse_given.Goals as goal

pub slice_bounds-number-end : goal.slice_bounds-number-end
slice_bounds-number-end c = sym (length-take-le _ _ (omega arith))

pub returns-in_default : goal.returns-in_default
returns-in_default c =
    (kept_none _ _, (no_head _ _ c.requires.1 c.in_default.ensures, λ z. omega arith))

pub returns-then-p-lt2 : goal.returns-then-p-lt2
returns-then-p-lt2 c =
    (kept_none _ _, (head_low _ _ c.requires.1 _ c.in-Some.ensures (omega arith), λ z. omega arith))

pub returns-then-p-gt8191 : goal.returns-then-p-gt8191
returns-then-p-gt8191 c =
    (kept_none _ _, (head_high _ _ c.requires.1 _ c.in-Some.ensures (omega arith), λ z. omega arith))

pub degree-d-requires : goal.degree-d-requires
degree-d-requires c = degree_low _ (omega arith)

pub overflow_sub-d : goal.overflow_sub-d
overflow_sub-d c =
    d_some _ _ c.requires.1 _ c.in-Some.ensures (omega arith) (omega arith) _ c.degree-d.ensures c.next_place-from.result c.next_place-from.ensures.1

pub returns-then-commas-d : goal.returns-then-commas-d
returns-then-commas-d c = (
  kept_none _ _,
  (
    other_count _ _ c.requires.1 _ c.in-Some.ensures (omega arith) (omega arith) _ c.degree-d.ensures _
        c.next_place-from.ensures.1 _ c.comma_count-commas.ensures (λ z. omega arith),
    λ z. omega arith,
  ),
)

pub parse_ms-requires : goal.parse_ms-requires
parse_ms-requires c =
    (omega (arith, c.degree-d.ensures, degree_low c.in-Some.p (omega arith)), omega arith, omega arith)

pub returns-in-Err : goal.returns-in-Err
returns-in-Err c =
    let w = c.in-Err.ensures.1 in (
      c.in-Err.ensures.0,
      (
        no_number _ _ c.requires.1 _ c.in-Some.ensures (omega arith) (omega arith) _ c.degree-d.ensures _ c.next_place-from.ensures.1 w.0 w.2 w.3,
        λ z. omega arith,
      ),
    )

pub returns : goal.returns
returns c = (
  c.in_default-parse_ms.ensures.0,
  all_given _ _ c.requires.1 _ c.in-Some.ensures (omega arith) (omega arith) _ c.degree-d.ensures _
      c.next_place-from.ensures.1 _ _ c.in_default-parse_ms.ensures.1 _ c.comma_count-commas.ensures (omega arith) (omega arith) (omega (arith, c.in_default-parse_ms.ensures.0.size)),
)
