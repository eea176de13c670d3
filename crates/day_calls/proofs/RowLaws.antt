-- The rows of a day set's block: the run's points behind the first words, and their numbers in these. Assumes nothing.
use mathlib.Core.Path.{◌≡◌, refl, sym, ap, ap₂, ◌∙◌}
use mathlib.Core.Bool.{true}
use mathlib.Core.List.{List, ◌∷◌, ◌++◌}
use Prim.Native.Nat.{ℕ, zero, suc, ◌+◌, ◌-◌, ◌*◌, ◌^◌, ◌≤◌}
use native.Mathlib.Omega.{arith}
use lib.ListN.{length, drop}
use lib.Seq.{ext_get_or}
use Rattle.numbers.specs.Listed.{listed, joined}
use Rattle.columns.specs.Rows.{Column, Columns, in_front, rows}
use Rattle.columns.proofs.ColumnLaws.{columns_unchanged, front_list, front_row}
use Rattle.plan.specs.Order.{first_due, unless_number}
use Rattle.points.specs.Run.{run_point, run_numerator}
use Rattle.state.specs.State.{run_in, genuine}
use Rattle.state.specs.declared.Sampler.{Sampler}
use Rattle.calls.specs.Calls.{rows_refusals, rows_size, rows_spec, row_numerator}
use Rattle.calls.specs.declared.Blocked.{Blocked}
use Rattle.calls.proofs.CaseLaws.{run_cleared, rows_refused, rows_done}
use Rattle.calls.proofs.PointLaws.{axes_are, axes_few, known_run}
use Rattle.calls.proofs.RowLaws.{rows_fit}
use Rattle.day_set.specs.DaySet.{day_point, day_points, day_plan, day_taken, day_width, from_zero}
use Rattle.day_set.specs.Calls.{day_block_buf}
use Rattle.day_set.specs.declared.DaySet.{DaySet}
use Rattle.day_set.proofs.CaseLaws.{point_is, block_wraps}

module _ (s : Sampler) (buf : List ℕ) where
  code_is : {n : ℕ} → (rows_spec 1 s buf).code ≡ n → first_due (rows_refusals 1 s buf) ≡ n
  unfolding rows_spec
  code_is z = z

-- where rows are written, the state is genuine and they fit
module _ (s : Sampler) (buf : List ℕ) (z : (rows_spec 1 s buf).code ≡ 0) where
  none : first_due (rows_refusals 1 s buf) ≡ 0
  none = code_is s buf z

  pub rows_known : genuine s ≡ true
  rows_known = (run_cleared (genuine s) s buf (1 + s.axes) none).0

  pub rows_room : let k = (rows_spec 1 s buf).points in (s.axes ≤ 6) × (k * (1 + s.axes) ≤ length buf) × (s.taken + k ≤ 2 ^ 32)
  rows_room =
      let is : (rows_spec 1 s buf).points ≡ rows_size 1 s buf = ap (λ (a : Blocked). a.points) (rows_done 1 s buf none) in
      let f = rows_fit (s.count - s.taken) (length buf) (1 + s.axes) (rows_size 1 s buf) refl in
      let r = known_run s rows_known in
      rw is ((axes_few s rows_known).1, f.1, omega (arith, f.0, r.0.at 0, r.1))

module _ (d : DaySet) (e : from_zero d.run.starts ≡ true) where
  -- a row is a point with its number
  one_row : genuine d.run ≡ true → (k : ℕ)
      → listed (λ a. in_front (◌+◌ (day_taken d)) (row_numerator d.run) a k) (day_width d) ≡ day_point (day_plan d) (day_taken d + k)
  unfolding row_numerator day_point run_point
  one_row g k =
      front_row (row_numerator d.run) (◌+◌ (day_taken d)) k (day_width d) d.run.axes (omega arith)
      ∙ ap (λ (x : List ℕ). (day_taken d + k) ∷ x)
      (ap (listed (run_numerator (day_plan d) (run_in d.run) (day_taken d + k))) (axes_are d.run g) ∙ point_is d.run g e (day_taken d + k))

  rows_are : genuine d.run ≡ true → (k : ℕ) → rows (in_front (◌+◌ (day_taken d)) (row_numerator d.run)) (day_width d) k ≡ day_points (day_plan d) (day_taken d) k
  unfolding rows joined
  rows_are g zero = refl
  rows_are g (suc k) = ap₂ ◌++◌ (rows_are g k) (one_row g k)

  rows_put : {buf mid new : List ℕ} {k : ℕ} → Columns (row_numerator d.run) 0 k (1 + d.run.axes) 1 d.run.axes buf mid
      → Column (◌+◌ (day_taken d)) 0 k (1 + d.run.axes) 0 mid new → genuine d.run ≡ true → k * (1 + d.run.axes) ≤ length buf
      → new ≡ day_points (day_plan d) (day_taken d) k ++ drop (k * day_width d) buf
  rows_put {buf} {k = k} points numbers g room =
      let wide : 1 + d.run.axes ≡ day_width d = omega arith in
      front_list (rw wide at points) (rw wide at numbers) (omega arith) (rw wide at room)
      ∙ ap (λ (x : List ℕ). x ++ drop (k * day_width d) buf) (rows_are g k)

  module _ (buf mid new : List ℕ)
      (points : Columns (row_numerator d.run) 0 (rows_spec 1 d.run buf).points (1 + d.run.axes) 1 d.run.axes buf mid)
      (numbers : Column (◌+◌ (day_taken d)) 0 (unless_number (rows_spec 1 d.run buf).code (rows_spec 1 d.run buf).points 0) (1 + d.run.axes) 0 mid new) where
    written : (n : ℕ) → (rows_spec 1 d.run buf).code ≡ n → let k = (rows_spec 1 d.run buf).points in
        new ≡ unless_number n (day_points (day_plan d) (day_taken d) k ++ drop (k * day_width d) buf) buf
    written zero z = rows_put points (rw z at numbers) (rows_known d.run buf z) (rows_room d.run buf z).1
    written (suc n) z = unnumbered ∙ columns_unchanged points (omega (arith, ap (λ (x : Blocked). x.points) (rows_refused 1 d.run buf n (code_is d.run buf z))))
      where
        c : Column (◌+◌ (day_taken d)) 0 0 (1 + d.run.axes) 0 mid new
        c = rw z at numbers

        unnumbered : new ≡ mid
        unnumbered = ext_get_or 0 new mid c.same_length (λ p l. c.kept p (λ i o h q. absurd (omega arith)))

    pub block_words : new ≡ day_block_buf d buf
    block_words = written (rows_spec 1 d.run buf).code refl ∙ sym (block_wraps d e buf).1
