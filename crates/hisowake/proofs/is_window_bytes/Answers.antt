-- The numbers that are tested are those of the bytes. Assumes nothing.
use mathlib.Core.Path.{◌≡◌, sym, ap, ◌∙◌}
use mathlib.Core.List.{List}
use Prim.Native.Nat.{ℕ, ◌*◌}
use native.Mathlib.Omega.{arith}
use lib.ListN.{length, take}
use Rattle.window.specs.Counting.{is_window}
use Rattle.big_endian.specs.Bytes.{window_in}
use Rattle.big_endian.proofs.ByteLaws.{window_length, window_front}
use Rattle.hisowake.proofs.CountLaws.{bytes_long, bytes_by}
use Rattle.hisowake.proofs.is_window_bytes.Goals as goal
use Rattle.hisowake.proofs.is_window_bytes.Goals.{After-is_window, After-window_numbers-w}

numbers : (c : After-window_numbers-w)
    → let a = c.args in take (2 * a.axes) c.window_numbers-w.result ≡ window_in a.bytes.now a.axes
numbers c =
    let a = c.args in
    ap (take (2 * a.axes)) c.window_numbers-w.ensures ∙ window_front a.bytes.now a.axes

pub returns-then-bytes-axes : goal.returns-then-bytes-axes
returns-then-bytes-axes c = bytes_long _ _ (λ e. omega arith)

pub slice_bounds-is_window-end : goal.slice_bounds-is_window-end
slice_bounds-is_window-end c = sym (ap length (numbers (goal.at.slice_bounds-is_window-end c).After-window_numbers-w) ∙ window_length _ _)

-- the test of the bytes' numbers
tested : (c : After-is_window)
    → let a = c.args in c.is_window.result ≡ is_window (window_in a.bytes.now a.axes) a.axes
tested c = let numbers : let a = c.args in take (2 * a.axes) c.window_numbers-w.result ≡ window_in a.bytes.now a.axes = let a = c.args in
    ap (take (2 * a.axes)) c.window_numbers-w.ensures ∙ window_front a.bytes.now a.axes in
    c.is_window.ensures ∙ ap (λ (w : List ℕ). is_window w c.args.axes) (numbers)

pub returns : goal.returns
returns c = tested c ∙ bytes_by _ _ (omega arith)
