-- Runs of values, lists that begin with them, and zeros after them: lengths and entries, and what one more store makes of them. Assumes nothing.
use mathlib.Core.Path.{◌≡◌, refl, sym, ap, ap₂, ◌∙◌}
use mathlib.Core.List.{List, [], ◌∷◌, ◌++◌, map, map-append, append_assoc, append-nil}
use mathlib.Core.Logic.{⊎_elim}
use Prim.Native.Nat.{ℕ, zero, suc, ◌+◌, ◌-◌, ◌<◌, ◌≤◌}
use native.Mathlib.Nat.{add-zero, add-suc, sub-zero}
use native.Mathlib.Omega.{arith}
use native.Mathlib.Numerals.{add-one}
use lib.ListN.{length, get_or, take, set, replicate, length-append, length-set, length-replicate, get_or-replicate, get_or-append, get_or-eq_default}
use lib.Seq.{get_or_at, get_or-append-add, get_or-set_same, get_or-set_other, set_at, append_snoc, take_at, ext_get_or}
use Rattle.numbers.specs.Listed.{listed, Begins, padded}
use Rattle.numbers.proofs.Cases.{lt_or_ge}

-- ---- runs

module _ (f : ℕ → ℕ) where
  pub listed_length : (m : ℕ) → length (listed f m) ≡ m
  unfolding listed
  listed_length zero = refl
  listed_length (suc m) = length-append (listed f m) (f m ∷ []) ∙ ap (λ (k : ℕ). k + 1) (listed_length m) ∙ add-one m

  pub listed_at : (m i : ℕ) → i < m → get_or (listed f m) i 0 ≡ f i
  unfolding listed
  listed_at zero i h = absurd (omega arith)
  listed_at (suc m) i h =
      ⊎_elim
      (λ l. get_or-append (listed f m) (f m ∷ []) 0 i (omega (arith, listed_length m)) ∙ listed_at m i l)
      (λ l. let e : i ≡ m = omega arith in rw e (get_or_at (listed f m) (f m) [] 0 m (listed_length m)))
      (lt_or_ge i m)

  pub listed_more : (m : ℕ) → listed f (m + 1) ≡ listed f m ++ (f m ∷ [])
  unfolding listed
  listed_more m = rw add-one refl

pub listed_same : (f g : ℕ → ℕ) (m : ℕ) → ((i : ℕ) → i < m → f i ≡ g i) → listed f m ≡ listed g m
unfolding listed
listed_same f g zero h = refl
listed_same f g (suc m) h =
    ap₂ (λ (l : List ℕ) (x : ℕ). l ++ (x ∷ [])) (listed_same f g m (λ i l. h i (omega arith))) (h m (omega arith))

-- a run in two parts
pub listed_parts : (f : ℕ → ℕ) (m n : ℕ) → listed f (m + n) ≡ listed f m ++ listed (λ i. f (m + i)) n
unfolding listed
listed_parts f m zero = ap (listed f) (add-zero m) ∙ sym (append-nil (listed f m))
listed_parts f m (suc n) =
    rw (add-suc, listed_parts f m n) (append_assoc (listed f m) (listed (λ i. f (m + i)) n) (f (m + n) ∷ []))

pub listed_map : (g f : ℕ → ℕ) (n : ℕ) → listed (λ i. g (f i)) n ≡ map g (listed f n)
unfolding listed
listed_map g f zero = refl
listed_map g f (suc n) =
    ap (λ (l : List ℕ). l ++ (g (f n) ∷ [])) (listed_map g f n) ∙ sym (map-append g (listed f n) (f n ∷ []))

-- ---- a list that begins with a run

pub begins_none : (f : ℕ → ℕ) (l : List ℕ) → Begins f 0 l
begins_none f l = record { at = λ i h. absurd (omega arith) }

module _ {f : ℕ → ℕ} {n : ℕ} {l : List ℕ} (a : Begins f n l) where
  -- one store more
  pub begins_more : {x : ℕ} → n < length l → x ≡ f n → Begins f (n + 1) (set l n x)
  begins_more {x} h e = record { at = λ i b. ⊎_elim (λ q. get_or-set_other l n i x 0 (omega arith) ∙ a.at i q) (λ q. here i (omega arith)) (lt_or_ge i n) }
    where
      here : (i : ℕ) → i ≡ n → get_or (set l n x) i 0 ≡ f i
      here i q = rw q (get_or-set_same l n x 0 h ∙ e)

  -- a store behind the run
  pub begins_kept : (p x : ℕ) → n ≤ p → Begins f n (set l p x)
  begins_kept p x h = record { at = λ i b. get_or-set_other l p i x 0 (omega arith) ∙ a.at i b }

  -- fewer of them
  pub begins_less : (m : ℕ) → m ≤ n → Begins f m l
  begins_less m h = record { at = λ i b. a.at i (omega arith) }

  -- under another name
  pub begins_as : (g : ℕ → ℕ) → ((i : ℕ) → i < n → f i ≡ g i) → Begins g n l
  begins_as g e = record { at = λ i b. a.at i b ∙ e i b }

-- ---- zeros after a list

pub zeros_at : (m j : ℕ) → get_or {A = ℕ} (replicate m 0) j 0 ≡ 0
zeros_at m j =
    ⊎_elim (λ h. get_or-replicate m j 0 0 h) (λ h. get_or-eq_default (replicate m 0) 0 (omega (arith, length-replicate {A = ℕ} m 0)))
    (lt_or_ge j m)

module _ (n : ℕ) where
  pub padded_none : replicate n 0 ≡ padded n []
  unfolding padded
  padded_none = rw sub-zero refl

  module _ (l : List ℕ) where
    pub padded_length : length l ≤ n → length (padded n l) ≡ n
    unfolding padded
    padded_length h = omega (arith, length-append l (replicate (n - length l) 0), length-replicate {A = ℕ} (n - length l) 0)

    -- past the list 0 stands, or nothing, which reads as 0
    pub padded_at : (i : ℕ) → get_or (padded n l) i 0 ≡ get_or l i 0
    unfolding padded
    padded_at i =
        ⊎_elim (λ h. get_or-append l (replicate (n - length l) 0) 0 i h)
        (λ h.
        let e : length l + (i - length l) ≡ i = omega arith in
        ap (λ (j : ℕ). get_or (l ++ replicate (n - length l) 0) j 0) (sym e) ∙ get_or-append-add l (replicate (n - length l) 0) (i - length l) 0
        ∙ zeros_at (n - length l) (i - length l) ∙ sym (get_or-eq_default l 0 h))
        (lt_or_ge i (length l))

    pub padded_take : (m : ℕ) → length l ≡ m → take m (padded n l) ≡ l
    unfolding padded
    padded_take m e = take_at l (replicate (n - length l) 0) m e

    -- one more element, by a store at the first zero
    pub padded_store : (m x : ℕ) → length l ≡ m → m < n → set (padded n l) m x ≡ padded n (l ++ (x ∷ []))
    unfolding padded
    padded_store m x e h =
        let k : n - length l ≡ suc (n - (m + 1)) = omega arith in
        let s : n - length (l ++ (x ∷ [])) ≡ n - (m + 1) = ap (λ (j : ℕ). n - j) (length-append l (x ∷ []) ∙ ap (λ (j : ℕ). j + 1) e) in
        rw (k, s) (set_at l 0 (replicate (n - (m + 1)) 0) x m e ∙ sym (append_snoc l x (replicate (n - (m + 1)) 0)))

-- a loop that fills an array of n zeros: its store at i leaves one value more
pub listed_store : (n : ℕ) (f : ℕ → ℕ) (i x : ℕ) → i < n → x ≡ f i → set (padded n (listed f i)) i x ≡ padded n (listed f (i + 1))
listed_store n f i x h e = padded_store n (listed f i) i x (listed_length f i) h ∙ ap (padded n) (rw (e, listed_more) refl)

-- entries f 0 to f (m - 1) and then zeros determine the list
pub padded_by_entries : (n : ℕ) (f : ℕ → ℕ) (m : ℕ) (l : List ℕ) → m ≤ n → length l ≡ n → Begins f m l
    → ((i : ℕ) → m ≤ i → get_or l i 0 ≡ 0) → l ≡ padded n (listed f m)
padded_by_entries n f m l h long front rest =
    ext_get_or 0 l (padded n (listed f m)) (long ∙ sym (padded_length n (listed f m) (omega (arith, listed_length f m))))
    (λ i b. same i ∙ sym (padded_at n (listed f m) i))
  where
    same : (i : ℕ) → get_or l i 0 ≡ get_or (listed f m) i 0
    same i =
        ⊎_elim (λ q. front.at i q ∙ sym (listed_at f m i q))
        (λ q. rest i q ∙ sym (get_or-eq_default (listed f m) 0 (omega (arith, listed_length f m)))) (lt_or_ge i m)

-- ---- a list that is written over from the front

-- l is old, but with g 0 to g (i - 1) in front
pub record Over (g : ℕ → ℕ) (old l : List ℕ) (i : ℕ) : Type 0 where
  pub long : length l ≡ length old
  pub front : Begins g i l
  pub rest : (j : ℕ) → i ≤ j → get_or l j 0 ≡ get_or old j 0

pub over_none : (g : ℕ → ℕ) (old : List ℕ) → Over g old old 0
over_none g old = record { long = refl; front = begins_none g old; rest = λ j h. refl }

pub over_store : (g : ℕ → ℕ) (old l : List ℕ) (i x : ℕ) → Over g old l i → i < length old → x ≡ g i → Over g old (set l i x) (i + 1)
over_store g old l i x o h e =
    record {
      long = length-set l i x ∙ o.long;
      front = begins_more o.front (omega (arith, o.long)) e;
      rest = λ j b. get_or-set_other l i j x 0 (omega arith) ∙ o.rest j (omega arith);
    }

-- a run in front of zeros, written over whole by another run
pub over_whole : (n : ℕ) (f g : ℕ → ℕ) (m : ℕ) (l : List ℕ) → m ≤ n → Over g (padded n (listed f m)) l m → l ≡ padded n (listed g m)
over_whole n f g m l h o =
    padded_by_entries n g m l h (o.long ∙ padded_length n (listed f m) (omega (arith, listed_length f m))) o.front
    (λ i b.
    o.rest i b ∙ padded_at n (listed f m) i ∙ get_or-eq_default (listed f m) 0 (omega (arith, listed_length f m)))
