-- What a row has of a window count that was answered. Definitions only.
use Rattle.std.specs.Prelude.{◌≡◌, true, List, ℕ, ◌/◌, ◌^◌, ◌≤◌, length}
use Rattle.state.specs.declared.Sampler.{Sampler}
use Rattle.window.specs.Counting.{is_window}
use Rattle.window_count.specs.declared.Counted.{Counted}

-- a window of at most seven cuts, with no more points inside than there are, at most 2^32
pub record Answered (s : Sampler) (w : List ℕ) (r : Counted) : Type 0 where
  pub inside : r.inside ≤ s.count
  pub few : s.count ≤ 2 ^ 32
  pub cuts : length w / 2 ≤ 7
  pub window : is_window w (length w / 2) ≡ true
