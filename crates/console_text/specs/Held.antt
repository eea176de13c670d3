-- What the console holds from one line to the next. Definitions only.
use Rattle.std.specs.Prelude.{◌≡◌}
use Rattle.state.specs.declared.Sampler.{Sampler}
use Rattle.day_set.specs.declared.DaySet.{DaySet}
use Rattle.console_text.specs.declared.Console.{Console}

-- the console holds this state and this day set
pub record Holds (c : Console) (s : Sampler) (d : DaySet) : Type 0 where
  pub state : c.state ≡ s
  pub day : c.day ≡ d
