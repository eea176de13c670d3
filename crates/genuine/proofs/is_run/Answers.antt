-- The first part that fails decides; the last decides where the others hold. Assumes nothing.
use mathlib.Core.Path.{◌≡◌, sym, ◌∙◌}
use mathlib.Core.Bool.{true, true≢false}
use native.Mathlib.Omega.{arith}
use borrow.Author.Tests.{leb-true, le-leb}
use lib.ListN.{take}
use lib.Seq.{length-take-le}
use Rattle.points.specs.Run.{run_of, in_range, has_starts}
use Rattle.fitting.proofs.AnswerLaws.{no, failed}
use Rattle.genuine.proofs.is_run.Goals as goal
use Rattle.genuine.proofs.is_run.Goals.{Else-not-all_in_range, Else-not-has_starts}

range : (c : Else-not-all_in_range) → let a = c.args.s.now in in_range (run_of (take a.axes a.starts) a.count) ≡ true
range c = sym c.all_in_range.ensures ∙ c.if-not-all_in_range.false

has : (c : Else-not-has_starts) → let a = c.args.s.now in has_starts a.family a.axes (take a.axes a.starts) ≡ true
has c = sym c.has_starts.ensures ∙ c.if-not-has_starts.false

pub slice_bounds-all_in_range-end : goal.slice_bounds-all_in_range-end
slice_bounds-all_in_range-end c = sym (length-take-le c.args.s.now.axes c.args.s.now.starts (omega arith))

pub returns-then-not-all_in_range : goal.returns-then-not-all_in_range
returns-then-not-all_in_range c = no (λ f. true≢false (sym f.is_in_range ∙ sym c.all_in_range.ensures ∙ c.if-not-all_in_range.true))

pub slice_bounds-has_starts-end : goal.slice_bounds-has_starts-end
slice_bounds-has_starts-end c = sym (length-take-le c.args.s.now.axes c.args.s.now.starts (omega arith))

pub returns-then-not-has_starts : goal.returns-then-not-has_starts
returns-then-not-has_starts c = no (λ f. true≢false (sym f.has_starts_lem ∙ sym c.has_starts.ensures ∙ c.if-not-has_starts.true))

pub returns-then-not-is_zero : goal.returns-then-not-is_zero
returns-then-not-is_zero c = failed c.is_zero.ensures c.if-not-is_zero.true (λ f. f.starts_zero)

pub returns : goal.returns
returns c =
    let a = c.args.s.now in (
      λ z. record {
        is_in_range = range (goal.at.returns c).Else-not-all_in_range;
        has_starts_lem = has (goal.at.returns c).Else-not-has_starts;
        starts_zero = c.is_zero.ensures.0 c.if-not-is_zero.false;
        not_past = leb-true a.taken a.count z;
      },
      λ f. le-leb a.taken a.count f.not_past,
    )
