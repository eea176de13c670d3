-- Steps and blocks in a row, of any state that serves points: each serves some of those that are left, so that together they serve the points in
-- their order. Assumes nothing.
use mathlib.Core.Path.{◌≡◌, refl, sym, ap, ap₂, ◌∙◌}
use mathlib.Core.Logic.{◌⊎◌, inl, inr, ⊎_elim}
use mathlib.Core.List.{List, [], ◌∷◌, ◌++◌}
use Prim.Native.Nat.{ℕ, ◌+◌, ◌/◌, ◌≤◌, ◌<◌}
use native.Mathlib.Nat.{add-zero, add_assoc, one-mul, le-div_iff_mul-le}
use native.Mathlib.Omega.{arith}
use lib.ListN.{length}
use Rattle.numbers.specs.Listed.{joined}
use Rattle.numbers.proofs.Cases.{lt_or_ge}
use Rattle.numbers.proofs.JoinedLaws.{joined_more}
use Rattle.calls.specs.History.{Request, lent_to, Server, all_moved, all_written, AllRoom}

-- a buffer with room for a point has room for a whole one
pub whole : (width room : ℕ) → 1 ≤ width → width ≤ room → 1 ≤ room / width
whole width room h l = (le-div_iff_mul-le {k = width} h).1 (omega (arith, one-mul width))

-- Many of N points, after so many taken, are served: the state that is left, and the points written. `at t` is the state with t points taken.
pub record Serves {S : Type 0} (at : ℕ → S) (point : ℕ → List ℕ) (N taken : ℕ) (s : S) (points : List ℕ) : Type 0 where
  pub many : ℕ
  pub within : taken + many ≤ N
  pub state_is : s ≡ at (taken + many)
  pub points_are : points ≡ joined point taken many

-- one request serves some, and one at least where it has room and a point is left
abbrev pub ServesOne : {S : Type 0} → Server S → (ℕ → S) → (ℕ → List ℕ) → ℕ → ℕ → ℕ → Request → Type 0
ServesOne v at point N width taken q =
    (s : Serves at point N taken (v.moved q (at taken)) (v.written q (at taken))) × (width ≤ length (lent_to q) → taken < N → 1 ≤ s.many)

module _ {S : Type 0} (v : Server S) (at : ℕ → S) (point : ℕ → List ℕ) (N width : ℕ)
    (one : (taken : ℕ) → taken ≤ N → (q : Request) → ServesOne v at point N width taken q) where
  pub all_serve : (requests : List Request) (taken : ℕ) → taken ≤ N
      → (s : Serves at point N taken (all_moved v requests (at taken)) (all_written v requests (at taken)))
      × (AllRoom width requests → (length requests ≤ s.many) ⊎ (taken + s.many ≡ N))
  unfolding all_moved all_written AllRoom joined
  all_serve [] taken h =
      (record { many = 0; within = omega arith; state_is = ap at (sym (add-zero taken)); points_are = refl }, λ room. inl (omega arith))
  all_serve (q ∷ requests) taken h =
      let a = one taken h q in
      let j = a.0.many in
      let b = all_serve requests (taken + j) a.0.within in
      let k = b.0.many in (
        record {
          many = j + k;
          within = omega (arith, b.0.within);
          state_is = ap (all_moved v requests) a.0.state_is ∙ b.0.state_is ∙ ap at (add_assoc taken j k);
          points_are = ap₂ ◌++◌ a.0.points_are (ap (all_written v requests) a.0.state_is ∙ b.0.points_are) ∙ sym (joined_more point taken j k);
        },
        λ room. ⊎_elim
            (λ m. ⊎_elim (λ l. inl (omega (arith, a.1 room.0 l, m))) (λ l. inr (omega (arith, b.0.within))) (lt_or_ge taken N))
            (λ e. inr (omega arith)) (b.1 room.1),
      )
