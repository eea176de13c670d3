-- Each answer of each call, from the tests that lead to it; and what putting a plan's point leaves. Assumes nothing.
use mathlib.Core.Path.{◌≡◌, refl, sym, ap, ◌∙◌}
use mathlib.Core.List.{List, ◌++◌}
use Prim.Native.Nat.{ℕ, ◌+◌, ◌*◌}
use native.Mathlib.Omega.{arith}
use lib.ListN.{length, take, drop, replicate}
use Rattle.numbers.proofs.ListedLaws.{padded_take}
use Rattle.bits.specs.Stream.{AllBelow, overwrite}
use Rattle.bits.proofs.OverwriteLaws.{over_start}
use Rattle.plan.specs.Plan.{Plan, Valid}
use Rattle.plan.specs.Reading.{refused, accepted, read_plan}
use Rattle.plan.specs.Answer.{answer_of, plan_answered, Accepted}
use Rattle.plan.specs.declared.PlanRead.{PlanRead}
use Rattle.plan.proofs.AnswerLaws.{read_accepted}
use Rattle.points.specs.Point.{axis_count, point_of}
use Rattle.points.specs.Arrays.{directions_array, of_axis, point_at}
use Rattle.points.proofs.WordLaws.{point_at_all}
use Rattle.points.proofs.PointLaws.{point_of_length}
use Rattle.state.proofs.StateLaws.{Holds, holds_point, accepted_holds}
use Rattle.plan.specs.Order.{first_due}
use Rattle.plan.proofs.OrderLaws.{unless_none_lem, unless_turned}
use Rattle.big_endian.specs.Bytes.{word_bytes}
use Rattle.big_endian.proofs.ByteLaws.{length_words}
use Rattle.hisowake.specs.Calls.{point_order, point_code_by, point_code, point_bytes_by, point_bytes}

-- ---- the plan that is read

pub answer_accepted : (bytes : List ℕ) (a : PlanRead) → AllBelow 256 bytes → a ≡ answer_of (read_plan bytes) → a.code ≡ 0
    → (read_plan bytes ≡ accepted (plan_answered a)) × Accepted a
answer_accepted bytes a below e z =
    let w = read_accepted bytes below a e z in
    (w.0, record { valid = w.1; is = e ∙ ap answer_of w.0 })

pub accepted_axes : {a : PlanRead} → Accepted a → a.axes ≡ axis_count (plan_answered a)
accepted_axes {a} h = (accepted_holds h (directions_array (plan_answered a)) refl).axes_is

-- ---- the point of a plan's arrays, at the front of a buffer

pub point_put : {p : Plan} {family axes : ℕ} {bases vs : List ℕ} → Holds p family axes bases vs → Valid p → (n : ℕ) (old new x : List ℕ)
    → x ≡ point_at family axes bases vs (λ i. of_axis (replicate 6 0) i + n) → new ≡ overwrite old 0 (word_bytes (take axes x)) → new ≡ word_bytes (point_of p n) ++ drop (8 * axes) old
point_put {p} {axes = axes} h v n old new x e put =
    let long : length (point_of p n) ≡ axes = point_of_length p n ∙ sym h.axes_is in
    let front : take axes x ≡ point_of p n = ap (take axes) (e ∙ point_at_all _ _ _ _ n ∙ holds_point h v n) ∙ padded_take 6 (point_of p n) axes long in
    put ∙ rw front (over_start old (word_bytes (point_of p n)) (8 * axes) (omega (arith, length_words (point_of p n), long)))

-- ---- the C point

module _ (bytes : List ℕ) (index : ℕ) (out : List ℕ) where
  pub point_refused : (n : ℕ) → read_plan bytes ≡ refused n → (n ≡ point_code bytes index out) × (out ≡ point_bytes bytes index out)
  unfolding point_code point_code_by point_bytes point_bytes_by
  point_refused n e = (rw e refl, rw e refl)

  module _ (p : Plan) (e : read_plan bytes ≡ accepted p) where
    pub point_turned : (c : ℕ) → c ≡ first_due (point_order p index out) → (c ≡ 0 → ⊥) → (c ≡ point_code bytes index out) × (out ≡ point_bytes bytes index out)
    unfolding point_code point_code_by point_bytes point_bytes_by
    point_turned c is f = (rw e is, rw e (sym (unless_turned (point_order p index out) _ out (λ z. f (is ∙ z)))))

    -- what is put is the plan's point of the index, with as many axes as the plan has
    pub point_done : {new : List ℕ} {axes n : ℕ} → 0 ≡ first_due (point_order p index out)
        → new ≡ word_bytes (point_of p n) ++ drop (8 * axes) out → n ≡ index → axes ≡ axis_count p
        → (0 ≡ point_code bytes index out) × (new ≡ point_bytes bytes index out)
    unfolding point_code point_code_by point_bytes point_bytes_by
    point_done is put en ea = (rw e is, put ∙ rw (e, en, ea) (sym (unless_none_lem (point_order p index out) _ out (sym is))))
