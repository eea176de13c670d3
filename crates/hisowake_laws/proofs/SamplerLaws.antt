-- The C point is a reading and a jump: on the bytes of words it leaves the bytes of what these leave. Assumes nothing.
use mathlib.Core.Path.{◌≡◌, refl, sym, ap, ◌∙◌}
use mathlib.Core.Bool.{true}
use mathlib.Core.Logic.{⊎_elim}
use mathlib.Core.List.{List, ◌++◌, append_assoc}
use Prim.Native.Nat.{ℕ, zero, suc, ◌+◌, ◌*◌, ◌^◌, ◌≤◌, ◌<◌}
use native.Mathlib.Omega.{arith}
use lib.ListN.{length, drop, length-append}
use lib.Seq.{drop-append-le}
use Rattle.numbers.proofs.Cases.{lt_or_ge}
use Rattle.bits.specs.Stream.{AllBelow}
use Rattle.plan.specs.Plan.{Plan, Valid}
use Rattle.plan.specs.Reading.{Reading, refused, accepted, read_plan}
use Rattle.plan.proofs.AcceptLaws.{accepted_iff}
use Rattle.plan.proofs.RefusalLaws.{refused_range}
use Rattle.points.specs.Point.{axis_count, point_of}
use Rattle.plan.specs.Order.{first_due, unless_number}
use Rattle.points.specs.Run.{one_start}
use Rattle.state.specs.State.{made, blank, genuine}
use Rattle.state.specs.declared.Sampler.{Sampler}
use Rattle.state.proofs.PlanLaws.{plan_in_made}
use Rattle.state.proofs.GenuineLaws.{made_genuine}
use Rattle.state.proofs.StateLaws.{blank_foreign}
use Rattle.calls.specs.Calls.{read_state, read_spec, jump_spec, jump_buf}
use Rattle.calls.specs.declared.Jumped.{Jumped}
use Rattle.calls.proofs.CaseLaws.{jump_foreign, jump_out, jump_no_room, jump_done}
use Rattle.calls.proofs.HistoryLaws.{none_opened}
use Rattle.c_refusals.specs.Refusals.{point_refusals}
use Rattle.c_refusals.proofs.RefusalLaws.{point_out, point_no_room, point_none}
use Rattle.big_endian.specs.Bytes.{word_bytes}
use Rattle.hisowake_laws.specs.AsCalls.{AsSampler}
use Rattle.hisowake.specs.Calls.{point_code, point_bytes}
use Rattle.big_endian.proofs.ByteLaws.{length_words, words_append, words_drop}
use Rattle.hisowake.proofs.CallLaws.{point_refused, point_turned, point_done}

module _ (plan : List ℕ) (index : ℕ) (words rest : List ℕ) (short : length rest < 8) where
  out_length : length (word_bytes words ++ rest) ≡ 8 * length words + length rest
  out_length = length-append (word_bytes words) rest ∙ ap (λ (n : ℕ). n + length rest) (length_words words)

  -- the same number from both, and the same bytes
  same : (s : Sampler) (c : ℕ) (buf : List ℕ) → (jump_spec s index words ≡ record { code = c }) × (jump_buf s index words ≡ buf)
      → (c ≡ point_code plan index (word_bytes words ++ rest)) × (word_bytes buf ++ rest ≡ point_bytes plan index (word_bytes words ++ rest))
      → (point_code plan index (word_bytes words ++ rest) ≡ (jump_spec s index words).code)
      × (point_bytes plan index (word_bytes words ++ rest) ≡ word_bytes (jump_buf s index words) ++ rest)
  same s c buf j w =
      (sym w.0 ∙ sym (ap (λ (x : Jumped). x.code) j.0), sym w.1 ∙ ap (λ (l : List ℕ). word_bytes l ++ rest) (sym j.1))

  number : (n done : ℕ) → (n ≡ 0 → ⊥) → unless_number n done n ≡ n
  number zero done f = absurd (f refl)
  number (suc n) done f = refl

  from_refused : (n : ℕ) → read_plan plan ≡ refused n → AsSampler plan index words rest
  unfolding read_spec read_state
  from_refused n e =
      let w = point_refused plan index (word_bytes words ++ rest) n e in
      rw e (sym w.0 ∙ sym (number n _ (λ z. omega (arith, refused_range plan n e))), sym w.1 ∙ ap (λ (l : List ℕ). word_bytes l ++ rest) (sym (jump_foreign blank index words blank_foreign).1))

  module _ (p : Plan) (v : Valid p) (e : read_plan plan ≡ accepted p) where
    known : genuine (made p (one_start p 0 0) 0) ≡ true
    known = made_genuine p v (one_start p 0 0) 0 (none_opened p v)

    -- the point in front of the words is its bytes in front of their bytes
    front : axis_count p ≤ length words
        → word_bytes (point_of p index) ++ drop (8 * axis_count p) (word_bytes words ++ rest) ≡ word_bytes (point_of p index ++ drop (axis_count p) words) ++ rest
    front r =
        let fits : 8 * axis_count p ≤ length (word_bytes words) = omega (arith, length_words words) in
        rw (drop-append-le (8 * axis_count p) (word_bytes words) rest fits, words_drop (axis_count p) words, words_append)
        (sym (append_assoc (word_bytes (point_of p index)) (word_bytes (drop (axis_count p) words)) rest))

    done : index < 2 ^ 32 → axis_count p ≤ length words
        → (0 ≡ point_code plan index (word_bytes words ++ rest))
        × (word_bytes (point_of p index ++ drop (axis_count p) words) ++ rest ≡ point_bytes plan index (word_bytes words ++ rest))
    done h r =
        let clear = point_none index (axis_count p) (length (word_bytes words ++ rest)) h (omega (arith, out_length)) in
        let w = point_done plan index (word_bytes words ++ rest) p e {axes = axis_count p} {n = index} clear refl refl refl in
        (w.0, sym (front r) ∙ w.1)

    turned : (c : ℕ) → c ≡ first_due (point_refusals index (axis_count p) (length (word_bytes words ++ rest))) → (c ≡ 0 → ⊥)
        → (c ≡ point_code plan index (word_bytes words ++ rest)) × (word_bytes words ++ rest ≡ point_bytes plan index (word_bytes words ++ rest))
    turned = point_turned plan index (word_bytes words ++ rest) p e

    jumped : (point_code plan index (word_bytes words ++ rest) ≡ (jump_spec (made p (one_start p 0 0) 0) index words).code)
        × (point_bytes plan index (word_bytes words ++ rest) ≡ word_bytes (jump_buf (made p (one_start p 0 0) 0) index words) ++ rest)
    unfolding made
    jumped =
        let s = made p (one_start p 0 0) 0 in
        ⊎_elim
        (λ h.
        ⊎_elim
        (λ r. same s 13 words (jump_no_room s index words known h r) (turned 13 (point_no_room index (axis_count p) _ h (omega (arith, out_length))) (λ z. omega arith)))
        (λ r. same s 0 (point_of p index ++ drop (axis_count p) words) (rw (plan_in_made p v (one_start p 0 0) 0) at (jump_done s index words known h r)) (done h r))
        (lt_or_ge (length words) (axis_count p)))
        (λ h. same s 11 words (jump_out s index words known h) (turned 11 (point_out index (axis_count p) _ h) (λ z. omega arith)))
        (lt_or_ge index (2 ^ 32))

    from_accepted : AsSampler plan index words rest
    unfolding read_spec read_state
    from_accepted = rw e jumped

-- every buffer is such bytes: `words_of`
pub point_as_sampler : (plan : List ℕ) → AllBelow 256 plan → (index : ℕ) (words rest : List ℕ) → length rest < 8 → AsSampler plan index words rest
point_as_sampler plan below index words rest short = go (read_plan plan) refl
  where
    go : (r : Reading) → read_plan plan ≡ r → AsSampler plan index words rest
    go (refused n) e = from_refused plan index words rest short n e
    go (accepted p) e = from_accepted plan index words rest short p ((accepted_iff plan below p).0 e).0 e
