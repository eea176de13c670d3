-- The rows of a block: how many fit, their numerators by the state's arrays, and that those without leading words are the block's points. Assumes
-- nothing.
use mathlib.Core.Path.{◌≡◌, refl, sym, ap, ◌∙◌}
use mathlib.Core.Bool.{true}
use mathlib.Core.List.{List, ◌++◌}
use Prim.Native.Nat.{ℕ, zero, suc, ◌+◌, ◌*◌, ◌/◌, ◌≤◌, ◌<◌, min}
use native.Mathlib.Nat.{zero-add, le_trans, mul-le-mul_right, div-mul-le_self, min-le_left, min-le_right}
use native.Mathlib.Omega.{arith}
use lib.ListN.{drop, get_or}
use Rattle.numbers.specs.Listed.{joined}
use Rattle.columns.specs.Rows.{Columns, rows}
use Rattle.columns.proofs.ColumnLaws.{columns_empty, columns_rows, columns_unchanged, columns_list}
use Rattle.plan.specs.Order.{first_due}
use Rattle.points.specs.Point.{numerator_of}
use Rattle.points.specs.Run.{run_of, indexes_at, run_numerator, run_point, run_points}
use Rattle.points.specs.Arrays.{of_axis, numerator_from, numerators_from}
use Rattle.state.specs.State.{plan_in, run_in, genuine}
use Rattle.state.specs.declared.Sampler.{Sampler}
use Rattle.calls.specs.Calls.{blocked, run_refusals, block_size, block_spec, block_buf, rows_refusals, rows_spec, row_numerator}
use Rattle.calls.specs.declared.Blocked.{Blocked}
use Rattle.calls.proofs.CaseLaws.{run_cleared, block_refused, block_done, rows_refused}
use Rattle.calls.proofs.PointLaws.{axes_are, axes_few, from_step, known_numerator}

-- ---- how many

pub rows_fit : (left room width k : ℕ) → k ≡ min left (room / width) → (k ≤ left) × (k * width ≤ room)
rows_fit left room width k e = (
  omega (arith, e, min-le_left left (room / width)),
  le_trans (mul-le-mul_right width (omega (arith, e, min-le_right left (room / width)))) (div-mul-le_self room width),
)

module _ (s : Sampler) where
  -- ---- their numerators

  pub row_numerators : genuine s ≡ true → (ns : List ℕ) → ns ≡ indexes_at (run_of s.starts s.count) s.taken → (i : ℕ) → i < s.axes → (k : ℕ)
      → numerators_from s.family s.bases s.directions (of_axis ns) i k ≡ row_numerator s i k
  unfolding numerators_from numerator_from row_numerator run_numerator
  row_numerators g ns e i l k =
      known_numerator s g i l (get_or ns i 0 + k) ∙ ap (λ (n : ℕ). numerator_of (plan_in s) n i) (from_step s g s.taken ns e i k l)

  -- ---- a refusal: no points, and no word changed

  pub rows_none : (lead : ℕ) (buf : List ℕ) (r : Blocked) (n : ℕ) → first_due (rows_refusals lead s buf) ≡ suc n → r ≡ blocked (suc n) 0 s
      → (r ≡ rows_spec lead s buf) × Columns (row_numerator s) 0 r.points (lead + s.axes) lead s.axes buf buf
  rows_none lead buf r n e h = (
    h ∙ sym (rows_refused lead s buf n e),
    columns_rows (columns_empty (row_numerator s) 0 (lead + s.axes) lead s.axes buf) (ap (λ (x : Blocked). x.points) (sym h)),
  )

  -- ---- without leading words

  rows_points : genuine s ≡ true → (k : ℕ) → rows (row_numerator s) s.axes k ≡ run_points (plan_in s) (run_in s) s.taken k
  unfolding rows row_numerator joined run_point
  rows_points g zero = refl
  rows_points g (suc k) = rw (rows_points g k, ← axes_are s g) refl

  rows_answer : (buf : List ℕ) → rows_spec 0 s buf ≡ block_spec s buf
  unfolding rows_spec block_spec
  rows_answer buf = rw zero-add refl

  rows_words : (buf new : List ℕ) → Columns (row_numerator s) 0 (block_spec s buf).points (0 + s.axes) 0 s.axes buf new → new ≡ block_buf s buf
  rows_words buf new w = go (first_due (run_refusals s buf)) refl
    where
      go : (n : ℕ) → first_due (run_refusals s buf) ≡ n → new ≡ block_buf s buf
      go (suc n) e =
          let a = block_refused s buf n e in
          columns_unchanged w (omega (arith, ap (λ (x : Blocked). x.points) a.0)) ∙ sym a.1
      go zero e =
          let a = block_done s buf e in
          let g = (run_cleared (genuine s) s buf s.axes e).0 in
          let k : (block_spec s buf).points ≡ block_size s buf = ap (λ (x : Blocked). x.points) a.0 in
          columns_list (row_numerator s) s.axes (block_size s buf) buf new (rw (k, zero-add) at w) (omega (arith, axes_few s g)) (rows_fit _ _ _ _ refl).1
          ∙ ap (λ (l : List ℕ). l ++ drop (block_size s buf * s.axes) buf) (rows_points g (block_size s buf))
          ∙ sym a.1

  pub rows_block : (r : Blocked) (buf new : List ℕ) → r ≡ rows_spec 0 s buf → Columns (row_numerator s) 0 r.points (0 + s.axes) 0 s.axes buf new
      → (r ≡ block_spec s buf) × (new ≡ block_buf s buf)
  rows_block r buf new e w = let f = e ∙ rows_answer buf in (f, rows_words buf new (rw f at w))
