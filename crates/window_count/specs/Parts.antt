-- A run cut into consecutive parts (02-change-requests.md, K2), each opened and counted by itself. Definitions only.
use Rattle.std.specs.Prelude.{List, [], ◌∷◌, ℕ, zero, suc, ◌+◌}
use Rattle.points.specs.Run.{Run, part_of}
use Rattle.state.specs.declared.Sampler.{Sampler}
use Rattle.calls.specs.Calls.{open_spec}
use Rattle.window_count.specs.Call.{count_spec}
use Rattle.window_count.specs.declared.Counted.{Counted}

-- the sizes of the parts, added up
unfoldable pub steps_of : List ℕ → ℕ
steps_of [] = 0
steps_of (n ∷ sizes) = n + steps_of sizes

-- what the count answers for one part of a run, opened on the sampler s
abbrev pub part_counted : Sampler → List ℕ → Run → ℕ → ℕ → Counted
part_counted s w r t n = count_spec (open_spec s (part_of r t n)).state w

-- What it answers for the parts of a run from its step t on, added up; a part of no steps has no points.
unfoldable pub inside_parts : Sampler → List ℕ → Run → ℕ → List ℕ → ℕ
inside_parts s w r t [] = 0
inside_parts s w r t (zero ∷ sizes) = inside_parts s w r t sizes
inside_parts s w r t (suc n ∷ sizes) = (part_counted s w r t (suc n)).inside + inside_parts s w r (t + suc n) sizes
