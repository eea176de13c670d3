-- The loop's number is 12 exactly where the day is over. Assumes nothing.
use borrow.Author.Rules.{rules}
use Rattle.collector.proofs.EndLaws.{day_is}
use Rattle.collector.proofs.serve_day.Goals as goal

pub tell-requires : goal.tell-requires
tell-requires c = tt

pub returns : goal.returns
returns c = day_is _ _ _ _ _ c.keep-r.ensures
