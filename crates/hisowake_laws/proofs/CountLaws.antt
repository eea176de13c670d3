-- The C window count is a reading, an opening and a count: it answers the first number that these give, and leaves the bytes of what the count
-- answers; so demand 3 holds of the two numbers that it writes. Assumes nothing.
use mathlib.Core.Path.{◌≡◌, refl, ap, ◌∙◌}
use mathlib.Core.Bool.{true, false, cond}
use mathlib.Core.Logic.{⊎_elim}
use mathlib.Core.List.{List, ◌++◌}
use Prim.Native.Nat.{ℕ, ◌*◌}
use native.Mathlib.Omega.{arith}
use lib.ListN.{length, take, drop}
use lib.Seq.{take_at}
use borrow.Author.Tests.{eq-eqb, ne_eqb}
use Rattle.numbers.proofs.Cases.{true_or_false}
use Rattle.bits.specs.Stream.{AllBelow}
use Rattle.plan.specs.Plan.{Plan, Valid}
use Rattle.plan.specs.Reading.{Reading, refused, accepted, read_plan}
use Rattle.plan.specs.Order.{first_due, unless_due}
use Rattle.plan.proofs.AcceptLaws.{accepted_iff}
use Rattle.plan.proofs.OrderLaws.{unless_none_lem}
use Rattle.plan.proofs.RefusalLaws.{refused_range}
use Rattle.points.specs.Point.{axis_count}
use Rattle.points.specs.Run.{Run, one_start, start_in_range, Opens}
use Rattle.points.proofs.PointLaws.{axis_count_lem}
use Rattle.points.proofs.RunLaws.{start_is, one_range, one_opens}
use Rattle.state.specs.State.{made}
use Rattle.state.proofs.GenuineLaws.{made_genuine}
use Rattle.state.proofs.HistoryLaws.{left_by_lem}
use Rattle.calls.specs.Calls.{moved, read_state, read_spec, open_spec}
use Rattle.calls.proofs.CaseLaws.{open_out}
use Rattle.calls.proofs.RunLaws.{open_at}
use Rattle.calls.proofs.HistoryLaws.{none_opened}
use Rattle.window.specs.Counting.{inside_count, bound_of, cuts_of, is_window}
use Rattle.window_count.proofs.CaseLaws.{count_off}
use Rattle.window_count.proofs.Demand3.{count_left, plan_near}
use Rattle.big_endian.specs.Bytes.{word_bytes, window_in}
use Rattle.big_endian.proofs.ByteLaws.{length_words}
use Rattle.hisowake_laws.specs.AsCalls.{AsCalls, NearInC}
use Rattle.hisowake.specs.Calls.{is_window_bytes, answers_of, count_order, count_code_by, count_code, count_bytes_by, count_bytes}
use Rattle.c_refusals.proofs.RefusalLaws.{count_zero}
use Rattle.hisowake.proofs.CountLaws.{window_bytes}

module _ (plan : List ℕ) (below : AllBelow 256 plan) (p : Plan) (e : read_plan plan ≡ accepted p) (start many : ℕ) (window out : List ℕ)
    (long : length window ≡ 8 * axis_count p) where
  -- the numbers of the window's bytes
  abbrev w : List ℕ
  w = window_in window (axis_count p)

  -- the run, and the one that a reading leaves
  abbrev r : Run
  r = one_start p start many

  abbrev none : Run
  none = one_start p 0 0

  valid : Valid p
  valid = ((accepted_iff plan below p).0 e).0

  read_is : read_spec plan ≡ moved 0 (made p none 0)
  unfolding read_spec read_state
  read_is = rw e refl

  window_is : is_window_bytes window (axis_count p) ≡ is_window w (axis_count p)
  unfolding is_window_bytes
  window_is = rw (eq-eqb (length window) (8 * axis_count p) long) refl

  -- the run is too long
  out_of_range : start_in_range start many ≡ false → AsCalls plan p start many window out
  unfolding AsCalls count_code count_code_by count_bytes count_bytes_by first_due unless_due
  out_of_range h =
      let g = made_genuine p valid none 0 (none_opened p valid) in
      let o = open_out (made p none 0) r g (one_range p start many (axis_count_lem p valid).0 ∙ h) in
      rw (e, read_is, o, h) (refl, refl)

  module _ (h : start_in_range start many ≡ true) where
    opens : Opens p r
    opens = one_opens p start many (axis_count_lem p valid).0 (start_is start many h)

    open_is : open_spec (made p none 0) r ≡ moved 0 (made p r 0)
    open_is = open_at p valid none (none_opened p valid).opens 0 (omega arith) r opens

    -- the window is none
    off : is_window w (axis_count p) ≡ false → AsCalls plan p start many window out
    unfolding AsCalls count_code count_code_by count_bytes count_bytes_by first_due unless_due made
    off f =
        let g = made_genuine p valid r 0 (record { opens = opens; not_past = omega arith }) in
        let c = count_off (made p r 0) w g f in
        rw (e, read_is, open_is, c, h, window_is, f) (refl, refl)

    counts : is_window w (axis_count p) ≡ true → AsCalls plan p start many window out
    unfolding AsCalls count_code count_code_by count_bytes count_bytes_by first_due unless_due answers_of one_start
    counts t =
        let c = count_left (left_by_lem p valid r 0 (record { opens = opens; not_past = omega arith })) w t in
        rw (e, read_is, open_is, c, h, window_is, t) (refl, refl)

  pub count_as_calls : AsCalls plan p start many window out
  count_as_calls =
      ⊎_elim (λ h. ⊎_elim (λ t. counts h t) (λ f. off h f) (true_or_false (is_window w (axis_count p)))) (λ h. out_of_range h)
      (true_or_false (start_in_range start many))

-- a window of another length is turned down after the run, as a list of numbers of another length is
pub count_of_other_length : (plan : List ℕ) (p : Plan) → read_plan plan ≡ accepted p → (start many : ℕ) (window out : List ℕ)
    → (length window ≡ 8 * axis_count p → ⊥)
    → (count_code plan start many window out ≡ cond (start_in_range start many) 14 11) × (count_bytes plan start many window out ≡ out)
unfolding count_code count_code_by count_bytes count_bytes_by first_due unless_due is_window_bytes
count_of_other_length plan p e start many window out f =
    ⊎_elim (λ (h : start_in_range start many ≡ true). rw (e, ne_eqb (length window) (8 * axis_count p) f, h) (refl, refl))
    (λ (h : start_in_range start many ≡ false). rw (e, h) (refl, refl)) (true_or_false (start_in_range start many))

-- a refused plan gives the reading's number
pub count_of_refused : (plan : List ℕ) (n : ℕ) → read_plan plan ≡ refused n → (start many : ℕ) (window out : List ℕ)
    → (count_code plan start many window out ≡ n) × (count_bytes plan start many window out ≡ out)
unfolding count_code count_code_by count_bytes count_bytes_by
count_of_refused plan n e start many window out = rw e (refl, refl)

-- ---- Demand 3 for the two numbers that the C count writes

pub demand_3_in_c : (plan : List ℕ) → AllBelow 256 plan → (start many : ℕ) (window out : List ℕ) → count_code plan start many window out ≡ 0 → NearInC plan start many window out
unfolding count_code count_code_by count_bytes count_bytes_by answers_of one_start
demand_3_in_c plan below start many window out z = go (read_plan plan) refl
  where
    go : (a : Reading) → read_plan plan ≡ a → NearInC plan start many window out
    go (refused n) e = absurd (omega (arith, rw e at z, refused_range plan n e))
    go (accepted p) e =
        let y : first_due (count_order p start many window out) ≡ 0 = rw e at z in
        let c = count_zero start many (is_window_bytes window (axis_count p)) (length out) y in
        let v = (accepted_iff plan below p).0 e in
        let takes = (window_bytes window (axis_count p) c.1).1 in
        let left : count_bytes plan start many window out ≡ word_bytes (answers_of p start many window) ++ drop 16 out = rw e (unless_none_lem (count_order p start many window out) _ out y) in
        record {
          of = p;
          valid = v.0;
          spelled = v.1;
          inside = inside_count p (cuts_of (window_in window (axis_count p)) (axis_count p)) (one_start p start many);
          bound = bound_of p many;
          bytes = ap (take 16) left ∙ take_at (word_bytes (answers_of p start many window)) (drop 16 out) 16 (length_words (answers_of p start many window));
          inside_is = refl;
          bound_is = refl;
          near = λ f. plan_near p f v.0 (axis_count p) refl (one_start p start many) (one_opens p start many (axis_count_lem p v.0).0 (start_is start many c.0)) (window_in window (axis_count p)) takes;
        }
