-- The commas so far, with those from the byte at hand on, are all. Assumes nothing.
use Rattle.std.proofs.Common.{◌≡◌, ◌+◌, ◌≤◌, drop}
use Rattle.axis_words.specs.Spelled.{commas_in}
use Rattle.axis_words.proofs.comma_count.Given as goal

abbrev pub invariant-loop-b : goal.invariant-loop-b
invariant-loop-b l = (l.n ≤ l.b-index) × (l.n + commas_in (drop l.b-index l.text) ≡ commas_in l.text)
