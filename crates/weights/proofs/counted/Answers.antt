-- Each of the two counts is answered for a window that fits a row. Assumes nothing.
use Rattle.weights.proofs.CountLaws.{run_answered, set_answered}
use Rattle.weights.proofs.counted.Goals as goal

pub returns-then-is_day : goal.returns-then-is_day
returns-then-is_day c z = set_answered _ _ _ c.day_count.ensures z

pub returns : goal.returns
returns c z = run_answered _ _ _ c.count_by_strips.ensures z
