-- A plan is accepted exactly where it is valid and the bytes are its spelling; so each valid plan has one spelling, and each spelling one plan.
-- A refusal is due where it is given. Assumes nothing.
use mathlib.Core.Path.{◌≡◌, refl, sym, ap, ◌∙◌, subst}
use mathlib.Core.Bool.{Bool, true, false, cond}
use mathlib.Core.List.{List}
use mathlib.Core.Logic.{◌↔◌}
use Prim.Native.Nat.{ℕ, ◌-◌, ◌*◌, ◌<◌}
use native.Mathlib.Omega.{arith}
use lib.ListN.{length, replicate, length-replicate}
use Rattle.bits.specs.Stream.{bits_of, AllBelow, bytes_for}
use Rattle.bits.proofs.StreamLaws.{below_bits, below_right, of_bits_zeros, zeros_of_bits}
use Rattle.bits.proofs.PackLaws.{filling_lt, bits_packed, packed_bits}
use Rattle.plan.specs.Plan.{Plan, Valid, plan_bits, spell}
use Rattle.plan.specs.Reading.{Step, refused, accepted, bad_tail, finish, read_plan}
use Rattle.plan.specs.Refusals.{Refusal, bad_ending}
use Rattle.plan.proofs.TestLaws.{tail_good, good_tail, tail_bad}
use Rattle.plan.proofs.SpellingLaws.{below_plan_bits}
use Rattle.plan.proofs.SoundLaws.{Sound, stops, goes, PlanSpelled, fields_sound}
use Rattle.plan.proofs.FrontLaws.{plan_front}

end_accepted : (b : Bool) (p q : Plan) → cond b (refused 10) (accepted p) ≡ accepted q → (b ≡ false) × (p ≡ q)
end_accepted true p q e = let z : ◌≡◌ {A = ℕ} 0 1 = cc in absurd (omega arith)
end_accepted false p q e = (refl, cc)

end_refused : (b : Bool) (p : Plan) (n : ℕ) → cond b (refused 10) (accepted p) ≡ refused n → (b ≡ true) × (10 ≡ n)
end_refused true p n e = (refl, cc)
end_refused false p n e = let z : ◌≡◌ {A = ℕ} 0 1 = cc in absurd (omega arith)

module _ (bits : List ℕ) (below : AllBelow 2 bits) where
  rest_below : {p : Plan} {l : List ℕ} → PlanSpelled bits below p l → AllBelow 2 l
  rest_below {p} {l} h = below_right 2 (plan_bits p) l (subst (AllBelow 2) h.spelled below)

  accepted_of : {s : Step Plan} → Sound bits below (PlanSpelled bits below) s → (p : Plan) → finish s ≡ accepted p
      → (l : List ℕ) × PlanSpelled bits below p l × (bad_tail l ≡ false)
  unfolding finish
  accepted_of (stops h) p e = let z : ◌≡◌ {A = ℕ} 0 1 = cc in absurd (omega arith)
  accepted_of (goes {a} {l} h) p e = let w = end_accepted (bad_tail l) a p e in (l, rw w.1 at h, w.0)

  refusal_of : {s : Step Plan} → Sound bits below (PlanSpelled bits below) s → (n : ℕ) → finish s ≡ refused n → Refusal bits n
  unfolding finish
  refusal_of (stops {n} h) m e = let same : n ≡ m = cc in rw same at h
  refusal_of (goes {a} {l} h) m e =
      let w = end_refused (bad_tail l) a m e in
      rw w.1 at (bad_ending a l h.valid (tail_bad l (rest_below h) w.0) h.spelled)

-- a refusal that is given is due
pub refused_due : (bytes : List ℕ) (n : ℕ) → read_plan bytes ≡ refused n → Refusal (bits_of bytes) n
unfolding read_plan
refused_due bytes n e = refusal_of (bits_of bytes) (below_bits bytes) (fields_sound (bits_of bytes) (below_bits bytes)) n e

accepted_right : (bytes : List ℕ) → AllBelow 256 bytes → (p : Plan) → read_plan bytes ≡ accepted p → Valid p × (bytes ≡ spell p)
unfolding read_plan spell
accepted_right bytes h p e =
    let below = below_bits bytes in
    let w = accepted_of (bits_of bytes) below (fields_sound (bits_of bytes) below) p e in
    let t = tail_good w.0 w.2 in
    (w.1.valid, sym (packed_bits bytes (plan_bits p) w.0 h w.1.spelled t.0 (zeros_of_bits w.0 (rest_below (bits_of bytes) below w.1) t.1)))

-- a valid plan's spelling is accepted as that plan
pub read_spelled : (p : Plan) → Valid p → read_plan (spell p) ≡ accepted p
unfolding read_plan spell finish
read_spelled p v =
    let k : ℕ = 8 * bytes_for (length (plan_bits p)) - length (plan_bits p) in
    let few : length {A = ℕ} (replicate k 0) < 8 = rw length-replicate (filling_lt (length (plan_bits p))) in
    rw (bits_packed (plan_bits p) (below_plan_bits p), plan_front p (replicate k 0) v, good_tail (replicate k 0) few (of_bits_zeros k)) refl

pub accepted_iff : (bytes : List ℕ) → AllBelow 256 bytes → (p : Plan) → (read_plan bytes ≡ accepted p) ↔ (Valid p × (bytes ≡ spell p))
accepted_iff bytes h p = (accepted_right bytes h p, λ w. rw w.1 (read_spelled p w.0))

pub one_spelling : (a b : List ℕ) → AllBelow 256 a → AllBelow 256 b → (p : Plan) → read_plan a ≡ accepted p → read_plan b ≡ accepted p → a ≡ b
one_spelling a b ha hb p e f = (accepted_right a ha p e).1 ∙ sym (accepted_right b hb p f).1

pub spell_injective : (p q : Plan) → Valid p → Valid q → spell p ≡ spell q → p ≡ q
spell_injective p q v w e = let same : accepted p ≡ accepted q = sym (read_spelled p v) ∙ ap read_plan e ∙ read_spelled q w in cc
