-- The arrays of a genuine state can be written. Assumes nothing.
use mathlib.Core.Path.{◌≡◌, refl, sym, subst}
use mathlib.Core.List.{List, append-nil}
use Prim.Native.Nat.{ℕ, ◌≤◌}
use native.Mathlib.Omega.{arith}
use lib.ListN.{length}
use Rattle.numbers.specs.Listed.{padded, listed}
use Rattle.numbers.proofs.ListedLaws.{listed_length, padded_length, padded_at, zeros_at}
use Rattle.binary.proofs.DegreeLaws.{degree_of_lem}
use Rattle.plan.specs.Plan.{Plan, halton, sobol, Valid}
use Rattle.plan.specs.Answer.{polynomials_of}
use Rattle.plan.proofs.AnswerLaws.{length_polynomials, polynomial_at}
use Rattle.points.specs.Point.{axis_count}
use Rattle.points.specs.Arrays.{family_of, bases_array, polynomials_array, directions_array}
use Rattle.state.specs.State.{m_at, ms_in, plan_in, made}
use Rattle.state.specs.declared.Sampler.{Sampler}
use Rattle.state.proofs.GenuineLaws.{Genuine}
use Rattle.writer.specs.Parts.{Writable}
use Rattle.fitting.proofs.AxisLaws.{degree_low}

pub ms_long : (vs : List ℕ) → 72 ≤ length (ms_in vs)
unfolding ms_in
ms_long vs = omega (arith, listed_length (m_at vs) 72)

-- no zeros come after 72 of them
pub ms_full : (vs : List ℕ) → padded 72 (listed (m_at vs) 72) ≡ ms_in vs
unfolding padded ms_in
ms_full vs = rw (listed_length (m_at vs) 72) (append-nil _)

made_writable : (p : Plan) → Valid p → Writable (family_of p) (axis_count p) (bases_array p) (polynomials_array p) (ms_in (directions_array p))
unfolding Valid family_of axis_count bases_array polynomials_array directions_array
made_writable (halton family bases) v =
    record {
      kind = omega arith;
      count = omega arith;
      bases_long = omega (arith, padded_length 6 bases v.1.1);
      polynomials_long = omega arith;
      ms_long = ms_long _;
      base = λ k h other. omega (arith, padded_at 6 bases k, v.2.low k h);
      degree = λ k h. rw zeros_at (degree_low 0 (omega arith));
    }
made_writable (sobol axes) v =
    record {
      kind = omega arith;
      count = omega arith;
      bases_long = omega arith;
      polynomials_long = omega (arith, padded_length 6 (polynomials_of axes) (omega (arith, length_polynomials axes)), length_polynomials axes);
      ms_long = ms_long _;
      base = λ k h other. absurd (other refl);
      degree = λ k h.
          let v = v.1.valid k h in
          rw (padded_at 6 (polynomials_of axes) k, polynomial_at axes k h) (omega (arith, degree_of_lem v.degree, v.degree_high));
    }

pub writable_in : (s : Sampler) → Genuine s → Writable s.family s.axes s.bases s.polynomials (ms_in s.directions)
unfolding made
writable_in s g =
    subst (λ (t : Sampler). Writable t.family t.axes t.bases t.polynomials (ms_in t.directions)) (sym g.is)
    (made_writable (plan_in s) g.valid)
