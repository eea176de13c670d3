-- The window count: whether bytes are a window, what putting S and the bound leaves, and each answer from the tests that lead to it. Assumes
-- nothing.
use mathlib.Core.Path.{◌≡◌, refl, sym, ◌∙◌}
use mathlib.Core.Bool.{true, false, and-eq-true_iff}
use mathlib.Core.List.{List, [], ◌∷◌, ◌++◌}
use Prim.Native.Nat.{ℕ, ◌*◌}
use lib.Dec.{eqb}
use lib.ListN.{length, drop, replicate}
use borrow.Author.Tests.{eq-eqb, ne_eqb, eqb-true}
use Rattle.numbers.specs.Count.{count}
use Rattle.bits.specs.Stream.{overwrite}
use Rattle.bits.proofs.OverwriteLaws.{over_start}
use Rattle.plan.specs.Plan.{Plan, Valid}
use Rattle.plan.specs.Reading.{refused, accepted, read_plan}
use Rattle.plan.specs.Order.{first_due}
use Rattle.plan.proofs.OrderLaws.{unless_none_lem, unless_turned}
use Rattle.points.specs.Point.{axis_count}
use Rattle.points.specs.Run.{one_start}
use Rattle.points.specs.Arrays.{of_axis}
use Rattle.points.proofs.PointLaws.{axis_count_lem}
use Rattle.points.proofs.RunLaws.{from_all}
use Rattle.state.proofs.StateLaws.{Holds}
use Rattle.window.specs.Counting.{inside_count, cuts_of, is_window}
use Rattle.window.specs.Walking.{inside_from, bound_by}
use Rattle.window.proofs.PlanLaws.{count_held, bound_held}
use Rattle.big_endian.specs.Bytes.{word_bytes, window_in}
use Rattle.big_endian.proofs.ByteLaws.{length_words}
use Rattle.hisowake.specs.Calls.{is_window_bytes, answers_of, count_order, count_code_by, count_code, count_bytes_by, count_bytes}

-- ---- whether bytes are a window

module _ (bytes : List ℕ) (s : ℕ) where
  pub bytes_long : (length bytes ≡ 8 * s → ⊥) → false ≡ is_window_bytes bytes s
  unfolding is_window_bytes
  bytes_long f = rw (ne_eqb (length bytes) (8 * s) f) refl

  pub bytes_by : length bytes ≡ 8 * s → is_window (window_in bytes s) s ≡ is_window_bytes bytes s
  unfolding is_window_bytes
  bytes_by e = rw (eq-eqb (length bytes) (8 * s) e) refl

  pub window_bytes : is_window_bytes bytes s ≡ true → (length bytes ≡ 8 * s) × (is_window (window_in bytes s) s ≡ true)
  unfolding is_window_bytes
  window_bytes h =
      let b = (and-eq-true_iff (eqb (length bytes) (8 * s)) (is_window (window_in bytes s) s)).0 h in
      (eqb-true (length bytes) (8 * s) b.0, b.1)

-- ---- S and the bound by a plan's arrays, at the front of a buffer

pub count_put : {p : Plan} {family axes : ℕ} {bases vs : List ℕ} → Holds p family axes bases vs → Valid p
    → (start many : ℕ) (window old new w : List ℕ) (inside bound : ℕ) → w ≡ window_in window axes
    → inside ≡ count (inside_from family bases vs w axes (of_axis (replicate 6 start))) many → bound ≡ bound_by (eqb family 2) bases many axes
    → new ≡ overwrite old 0 (word_bytes (inside ∷ bound ∷ [])) → new ≡ word_bytes (answers_of p start many window) ++ drop 16 old
unfolding answers_of
count_put {p} {axes = axes} h v start many window old new w inside bound e i b put =
    let r = one_start p start many in
    let first : inside ≡ inside_count p (cuts_of w (axis_count p)) r =
    i ∙ unfold one_start in count_held p h.family_is h.axes_is h.bases_is v h.directions_is w r _ (from_all p start many (axis_count_lem p v).1) in
    let second = b ∙ bound_held p h.family_is h.axes_is h.bases_is v many in
    put ∙ over_start old (word_bytes (inside ∷ bound ∷ [])) 16 (length_words (inside ∷ bound ∷ [])) ∙ rw (first, second, e, h.axes_is) refl

-- ---- the C window count

module _ (bytes : List ℕ) (start many : ℕ) (window out : List ℕ) where
  pub count_refused : (n : ℕ) → read_plan bytes ≡ refused n → (n ≡ count_code bytes start many window out) × (out ≡ count_bytes bytes start many window out)
  unfolding count_code count_code_by count_bytes count_bytes_by
  count_refused n e = (rw e refl, rw e refl)

  module _ (p : Plan) (e : read_plan bytes ≡ accepted p) where
    pub count_turned : (c : ℕ) → c ≡ first_due (count_order p start many window out) → (c ≡ 0 → ⊥)
        → (c ≡ count_code bytes start many window out) × (out ≡ count_bytes bytes start many window out)
    unfolding count_code count_code_by count_bytes count_bytes_by
    count_turned c is f = (rw e is, rw e (sym (unless_turned (count_order p start many window out) _ out (λ z. f (is ∙ z)))))

    pub count_done : {new : List ℕ} → 0 ≡ first_due (count_order p start many window out) → new ≡ word_bytes (answers_of p start many window) ++ drop 16 out
        → (0 ≡ count_code bytes start many window out) × (new ≡ count_bytes bytes start many window out)
    unfolding count_code count_code_by count_bytes count_bytes_by
    count_done is put = (rw e is, put ∙ rw e (sym (unless_none_lem (count_order p start many window out) _ out (sym is))))
