-- What the builder writes is read as the plan that the words say, and every valid plan is built. Assumes nothing.
use mathlib.Core.Path.{◌≡◌, refl, sym, ap}
use mathlib.Core.Logic.{⊎_elim}
use mathlib.Core.List.{List, ◌++◌}
use Prim.Native.Nat.{ℕ, ◌≤◌, ◌<◌}
use native.Mathlib.Omega.{arith}
use borrow.Author.Tests.{lt-ltb, le-ltb}
use lib.ListN.{length, get_or, take, drop, replicate, length-append}
use Rattle.std.specs.Prelude.{◌≢◌, Result, Ok, Err}
use lib.Seq.{take_at, length-take-le, get_or-take}
use Rattle.numbers.proofs.Cases.{lt_or_ge, eq_or_ne}
use Rattle.numbers.proofs.ListedLaws.{zeros_at}
use Rattle.binary.specs.Polynomial.{degree_of}
use Rattle.binary.proofs.DegreeLaws.{degree_of_lem}
use Rattle.plan.specs.Plan.{Plan, Valid, spell}
use Rattle.plan.specs.Reading.{accepted, read_plan}
use Rattle.plan.specs.Answer.{plan_of}
use Rattle.plan.proofs.AcceptLaws.{accepted_iff}
use Rattle.plan.proofs.SpellingLaws.{spell_below}
use Rattle.plan.proofs.AnswerLaws.{length_axes}
use Rattle.fitting.proofs.AxisLaws.{degree_low}
use Rattle.writer.specs.Parts.{Writable, Written}
use Rattle.plan_check.specs.declared.Fault.{Fault}
use Rattle.plan_check.specs.Found.{fault_at, Found}
use Rattle.plan_check.proofs.FoundLaws.{axes_at, plan_halton, plan_sobol, valid_kind, found_valid}
use Rattle.plan_words.specs.Says.{Says}
use Rattle.plan_words.specs.Parsed.{PlanHeld}
use Rattle.plan_words.specs.declared.PlanSaid.{PlanSaid}
use Rattle.plan_words.proofs.ParseLaws.{unspelled, says_same}
use Rattle.plan_builder.specs.Outcome.{Outcome}

-- ---- what is said and sound can be written

module _ (family s : ℕ) (bases ps ms : List ℕ) (long : length bases ≡ 6) (long-ps : length ps ≡ 6) (long-ms : length ms ≡ 72) (six : s ≤ 6)
    (v : Valid (plan_of family s bases ps ms)) (blank : (family ≡ 2 → ⊥) → ps ≡ replicate 6 0) where
  base_low : (k : ℕ) → k < s → (family ≡ 2 → ⊥) → 1 ≤ get_or bases k 0
  unfolding Valid
  base_low k h n =
      let w = rw (plan_halton family s bases ps ms n) at v in
      let front = length-take-le s bases (omega arith) in
      omega (arith, rw (get_or-take s bases k 0 h) at (w.2.low k (omega arith)))

  degree_at : (k : ℕ) → k < s → degree_of (get_or ps k 0) ≤ 12
  unfolding Valid
  degree_at k h =
      ⊎_elim
      (λ e.
      let w = rw (plan_sobol family s bases ps ms e) at v in
      let x = rw (axes_at ps ms s k h) at (w.1.valid k (omega (arith, length_axes ps ms s))) in
      omega (arith, degree_of_lem x.degree, x.degree_high))
      (λ n. rw (blank n, zeros_at 6 k) (degree_low 0 (omega arith)))
      (eq_or_ne family 2)

  can_write : Writable family s bases ps ms
  can_write =
      record {
        kind = (valid_kind family s bases ps ms v).0;
        count = six;
        bases_long = omega arith;
        polynomials_long = omega arith;
        ms_long = omega arith;
        base = base_low;
        degree = degree_at;
      }

plan_out : (line : List ℕ) (from : ℕ) (p : Plan) → Says line from p → Valid p → (old new : List ℕ) (code len : ℕ) → Written p old new code len
    → (code ≡ 0 → Outcome line from old (Ok len) new) × (code ≢ 0 → Outcome line from old (Err (fault_at code 0 0 0 0)) new)
plan_out line from p s v old new code len w =
    ⊎_elim
    (λ h.
    let t = lt-ltb (length old) (length (spell p)) h in
    rw (w.answer, w.reported, w.bytes, t) (λ z. absurd (omega arith), λ n. Outcome.no_room p s v h))
    (λ h.
    let t = le-ltb (length old) (length (spell p)) h in
    rw (w.answer, w.reported, w.bytes, t) (λ z. Outcome.built p s v h, λ n. absurd (n refl)))
    (lt_or_ge (length old) (length (spell p)))

module _ {line : List ℕ} {from : ℕ} {r : PlanSaid} (p : PlanHeld line from r) {f : Fault} (c : Found r.family r.axes r.bases r.polynomials r.ms f)
    (sound : f.code ≡ 0) where
  valid_said : (r.axes ≤ 6) × Valid (plan_of r.family r.axes r.bases r.polynomials r.ms)
  valid_said = (found_valid r.family r.axes r.bases r.polynomials r.ms p.size c).0 sound

  pub writable : Writable r.family r.axes r.bases r.polynomials r.ms
  writable =
      can_write r.family r.axes r.bases r.polynomials r.ms p.size p.size_polynomials p.size_ms valid_said.0 valid_said.1 p.blank

  pub written_out : (old new : List ℕ) (code len : ℕ) → Written (plan_of r.family r.axes r.bases r.polynomials r.ms) old new code len
      → (code ≡ 0 → Outcome line from old (Ok len) new) × (code ≢ 0 → Outcome line from old (Err (fault_at code 0 0 0 0)) new)
  written_out old new code len w = plan_out line from _ p.spelled valid_said.1 old new code len w

-- ---- its length is in the buffer

no_value : (f : Fault) (n : ℕ) → Err f ≡ Ok n → ⊥
no_value f n e = let z : ◌≡◌ {A = ℕ} 0 1 = cc in omega arith

within : {line : List ℕ} {from : ℕ} {old : List ℕ} {r : Result ℕ Fault} {new : List ℕ} → Outcome line from old r new
    → (len : ℕ) → r ≡ Ok len → len ≤ length new
within {old = old} (Outcome.built p s v h) len e =
    let n : length (spell p) ≡ len = cc in omega (arith, n, length-append (spell p) (drop (length (spell p)) old))
within (Outcome.misspelled wrong u) len e = absurd (no_value _ _ e)
within (Outcome.unsound family s bases ps ms p c wrong few h) len e = absurd (no_value _ _ e)
within (Outcome.no_room p s v h) len e = absurd (no_value _ _ e)

pub in_bounds : {line : List ℕ} {from : ℕ} {old : List ℕ} {len : ℕ} {new : List ℕ} → Outcome line from old (Ok len) new
    → (len ≤ length new) × (len ≡ length (take len new))
in_bounds o = let h = within o _ refl in (h, sym (length-take-le _ _ h))

-- ---- what was built is read as the plan

pub record ReadBack (line : List ℕ) (from len : ℕ) (new : List ℕ) : Type 0 where
  pub plan : Plan
  pub says : Says line from plan
  pub valid : Valid plan
  pub bytes : take len new ≡ spell plan
  pub read : read_plan (take len new) ≡ accepted plan

built_back : {line : List ℕ} {from : ℕ} {old : List ℕ} {r : Result ℕ Fault} {new : List ℕ} → Outcome line from old r new
    → (len : ℕ) → r ≡ Ok len → ReadBack line from len new
built_back {old = old} (Outcome.built p s v h) len e =
    let front : take (length (spell p)) (spell p ++ drop (length (spell p)) old) ≡ spell p = take_at (spell p) (drop (length (spell p)) old) (length (spell p)) refl in
    let n : length (spell p) ≡ len = cc in
    rw (← n) record { plan = p; says = s; valid = v; bytes = front; read = rw front ((accepted_iff (spell p) (spell_below p) p).1 (v, refl)) }
built_back (Outcome.misspelled wrong u) len e = absurd (no_value _ _ e)
built_back (Outcome.unsound family s bases ps ms p c wrong few h) len e = absurd (no_value _ _ e)
built_back (Outcome.no_room p s v h) len e = absurd (no_value _ _ e)

pub built_read : {line : List ℕ} {from : ℕ} {old : List ℕ} {len : ℕ} {new : List ℕ} → Outcome line from old (Ok len) new → ReadBack line from len new
built_read o = built_back o _ refl

-- a line that says a valid plan is built, where there is room
pub says_built : {line : List ℕ} {from : ℕ} {old : List ℕ} {r : Result ℕ Fault} {new : List ℕ} → Outcome line from old r new
    → (p : Plan) → Says line from p → Valid p → length (spell p) ≤ length old → r ≡ Ok (length (spell p))
says_built {line} {from} (Outcome.built q t w h) p s v room = ap (λ (x : Plan). Ok (length (spell x))) (says_same line from q p t s)
says_built {line} {from} (Outcome.misspelled wrong u) p s v room = absurd (unspelled line from u p s)
says_built {line} {from} (Outcome.unsound family n bases ps ms t c wrong few h) p s v room =
    let e = says_same line from p (plan_of family n bases ps ms) s t in
    absurd (wrong ((found_valid family n bases ps ms h c).1 (few, rw e at v)))
says_built {line} {from} (Outcome.no_room q t w h) p s v room =
    let e = says_same line from p q s t in absurd (omega (arith, ap (λ (x : Plan). length (spell x)) e))
