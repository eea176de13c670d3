-- Parts of a text, one after another, and the places that they fill. Assumes nothing.
use Rattle.std.proofs.Common.{◌≡◌, ℕ, ◌+◌, ◌-◌, ◌*◌, ◌<◌, ◌≤◌, Bool, true, false, cond, eqb, ◌≢◌, Result, Ok, Err, List, [], length, get_or, take, drop, set, sym, refl, ap, ◌∙◌, ⊎_elim, add-one, arith, length-drop, length-set, drop_of_length-le, length-take-le, get_or-drop, take_all, get_or-set_other, get_or-take, get_or-set_same, drop-drop, ext_get_or, below_more, eq-eqb, ne_eqb}
use Rattle.std.specs.Bool.{Decides}
use Rattle.std.specs.Cmp.Lexicographic.{pointwise}
use Rattle.std.specs.Result.{result_ok}
use Rattle.std.proofs.lemmas.Bool.Decides.{Decides-eqb}
use Rattle.std.proofs.lemmas.Slice.Eq.{slice_eq-Decides}
use lib.Seq.{drop-length, take-nil}
use Rattle.numbers.proofs.Cases.{lt_or_ge}
use Rattle.binary.specs.Polynomial.{degree_of}
use Rattle.binary.proofs.DegreeLaws.{degree_of_lem}
use Rattle.words.specs.Word.{leading}
use Rattle.words.specs.Decimal.{number_of}
use Rattle.words.specs.declared.NumberError.{NumberError}
use Rattle.words.specs.declared.NumberError.TheVariants.{NotDecimal}
use Rattle.words.proofs.WordLaws.{here}
use Rattle.words.proofs.DecimalLaws.{number_none}
use Rattle.plan.specs.Plan.{Axis}
use Rattle.fitting.proofs.AxisLaws.{degree_is, degree_low}
use Rattle.axis_words.specs.Spelled.{comma, colon, is_not, up_to, past, rest_at, part_at, commas_in, Given, zero_word, AxisWord}
use Rattle.axis_words.specs.Parsed.{NumberRead, Kept, MsRead, GivenRead, AxisRead}
use Rattle.axis_words.specs.declared.AxisFault.{AxisFault}

-- ---- a byte that stops a part, or not

pub is_stop : (stop b : ℕ) → b ≡ stop → is_not stop b ≡ false
unfolding is_not
is_stop stop b e = rw (eq-eqb b stop e) refl

pub is_other : (stop b : ℕ) → (b ≡ stop → ⊥) → is_not stop b ≡ true
unfolding is_not
is_other stop b h = rw (ne_eqb b stop h) refl

-- ---- commas

module _ (l : List ℕ) (i : ℕ) (h : i < length l) where
  pub comma_more : (t : Bool) → eqb (get_or l i 0) comma ≡ t → commas_in (drop i l) ≡ cond t 1 0 + commas_in (drop (i + 1) l)
  unfolding commas_in
  comma_more t e = rw (here l i h, e) refl

pub comma_end : (l : List ℕ) (i : ℕ) → i ≡ length l → commas_in (drop i l) ≡ 0
unfolding commas_in
comma_end l i e = rw (e, drop-length l) refl

-- ---- parts

module _ (text : List ℕ) where
  pub rest_next : (k at end next : ℕ) → drop at text ≡ rest_at text k → end ≡ at + leading (is_not comma) (drop at text) → drop next text ≡ drop (end + 1) text
      → drop next text ≡ rest_at text (k + 1)
  unfolding rest_at past
  rest_next k at end next e f g =
      let s : at + (leading (is_not comma) (drop at text) + 1) ≡ end + 1 = omega arith in
      rw (add-one, ← e) (g ∙ sym (drop-drop (leading (is_not comma) (drop at text) + 1) at text ∙ ap (λ (n : ℕ). drop n text) s))

  -- the code's part
  pub part_is : (stop at end : ℕ) → end ≡ at + leading (is_not stop) (drop at text) → take (end - at) (drop at text) ≡ up_to stop (drop at text)
  unfolding up_to
  part_is stop at end f =
      let s : end - at ≡ leading (is_not stop) (drop at text) = omega arith in
      ap (λ (n : ℕ). take n (drop at text)) s

pub nothing_past : (text : List ℕ) (end : ℕ) → length text ≤ end → drop end text ≡ drop (end + 1) text
nothing_past text end h = drop_of_length-le text h ∙ sym (drop_of_length-le text {i = end + 1} (omega arith))

-- ---- numbers

pub value_same : (w : List ℕ) {m n : ℕ} → number_of w ≡ Ok m → number_of w ≡ Ok n → m ≡ n
value_same w e f = cc

pub no_value : (d : NumberError) (m : ℕ) → Err d ≡ Ok m → ⊥
no_value d m e = let z : ◌≡◌ {A = ℕ} 0 1 = cc in omega arith

pub number_read : (w : List ℕ) (r : Result ℕ NumberError) → number_of w ≡ r → NumberRead w (result_ok r)
number_read w (Ok n) e = e
number_read w (Err d) e = λ n f. no_value d n (sym e ∙ f)

-- ---- the m's of an axis, one part after another

pub record MsSoFar (text : List ℕ) (i : ℕ) (old ms : List ℕ) (at k : ℕ) : Type 0 where
  pub kept : Kept i old ms
  pub place : at ≤ length text
  pub rest : drop at text ≡ rest_at text k
  pub each : (j : ℕ) → j < k → number_of (part_at text j) ≡ Ok (get_or ms (12 * i + j) 0)

pub so_far_none : (text : List ℕ) (i : ℕ) (ms : List ℕ) → MsSoFar text i ms ms 0 0
unfolding rest_at
so_far_none text i ms =
    record { kept = record { size = refl; front = λ j h. refl }; place = omega arith; rest = refl; each = λ j h. absurd (omega arith) }

module _ {text : List ℕ} {i : ℕ} {old ms : List ℕ} {at k : ℕ} (s : MsSoFar text i old ms at k) where
  module _ (end : ℕ) (e : end ≡ at + leading (is_not comma) (drop at text)) where
    part : take (end - at) (drop at text) ≡ part_at text k
    part = part_is text comma at end e ∙ ap (up_to comma) s.rest

    pub so_far_bad : (d : ℕ) → k < d → ((m : ℕ) → number_of (take (end - at) (drop at text)) ≢ Ok m) → Kept i old ms × MsRead text d i ms (Err (k + 1))
    so_far_bad d h n = (s.kept, (k, refl, h, λ m f. n m (ap number_of part ∙ f)))

    pub so_far_next : (value next : ℕ) → 12 * i + k < length ms → next ≤ length text → drop next text ≡ drop (end + 1) text
        → number_of (take (end - at) (drop at text)) ≡ Ok value → MsSoFar text i old (set ms (12 * i + k) value) next (k + 1)
    so_far_next value next room place g n =
        record {
          kept = record {
            size = length-set ms (12 * i + k) value ∙ s.kept.size;
            front = λ j h. get_or-set_other ms (12 * i + k) j value 0 (λ q. omega (arith, q)) ∙ s.kept.front j h;
          };
          place = place;
          rest = rest_next text k at end next s.rest e g;
          each = below_more (λ (j : ℕ). number_of (part_at text j) ≡ Ok (get_or (set ms (12 * i + k) value) (12 * i + j) 0)) k
              (λ j h. s.each j h ∙ ap Ok (sym (get_or-set_other ms (12 * i + k) (12 * i + j) value 0 (λ q. omega (arith, q)))))
              (sym (ap number_of part) ∙ n ∙ ap Ok (sym (get_or-set_same ms (12 * i + k) value 0 room)));
        }

  pub so_far_all : (d : ℕ) → k ≡ d → Kept i old ms × MsRead text d i ms (Ok tt)
  so_far_all d e = (s.kept, λ j h. s.each j (omega arith))

-- ---- a word

-- what `==` says of a word and the text that it may be
pub is_word : (word text given : List ℕ) (r : Bool) → given ≡ text → r ≡ pointwise eqb word given → Decides r (word ≡ text)
is_word word text given r e f = rw e at (slice_eq-Decides Decides-eqb word given r f)

pub kept_none : (i : ℕ) (ms : List ℕ) → Kept i ms ms
kept_none i ms = record { size = refl; front = λ j h. refl }

degree_one : degree_of 1 ≡ 0
degree_one = degree_of_lem (record { low = omega arith; high = omega arith })

low_one : degree_of 1 ≤ 12
low_one = degree_low 1 (omega arith)

degree_some : (p : ℕ) → 2 ≤ p → 1 ≤ degree_of p
degree_some p h =
    ⊎_elim (λ q. let z : degree_of p ≡ 0 = omega arith in absurd (omega (arith, (rw z at (degree_is p (omega arith))).high))) (λ q. q) (lt_or_ge (degree_of p) 1)

-- a word that has its first colon at `end`
module _ (word : List ℕ) (end : ℕ) (e : end ≡ leading (is_not colon) word) where
  head_is : take end word ≡ up_to colon word
  unfolding up_to
  head_is = ap (λ (n : ℕ). take n word) e

  pub no_head : ((m : ℕ) → number_of (take end word) ≢ Ok m) → (p : ℕ) (ms : List ℕ) → Given word p ms → ⊥
  no_head n p ms g = n p (ap number_of head_is ∙ g.polynomial)

  module _ (v : ℕ) (s : number_of (take end word) ≡ Ok v) where
    is_head : number_of (up_to colon word) ≡ Ok v
    is_head = sym (ap number_of head_is) ∙ s

    p_is : {p : ℕ} {ms : List ℕ} → Given word p ms → p ≡ v
    p_is g = value_same (up_to colon word) g.polynomial is_head

    pub head_low : v < 2 → (p : ℕ) (ms : List ℕ) → Given word p ms → ⊥
    head_low h p ms g = omega (arith, p_is g, g.low)

    pub head_high : 8191 < v → (p : ℕ) (ms : List ℕ) → Given word p ms → ⊥
    head_high h p ms g = omega (arith, p_is g, g.high)

    module _ (low : 2 ≤ v) (high : v ≤ 8191) (d : ℕ) (q : d ≡ degree_of v) (from : ℕ) (f : drop from word ≡ drop (end + 1) word) where
      text : List ℕ
      text = take (length word - from) (drop from word)

      pub d_some : 1 ≤ d
      d_some = omega (arith, degree_some v low)

      pub d_low : d ≤ 12
      d_low = omega (arith, degree_low v (omega arith))

      tail_is : take (length word - from) (drop from word) ≡ past colon word
      unfolding past
      tail_is =
          take_all (length word - from) (drop from word) (omega (arith, length-drop from word)) ∙ f ∙ ap (λ (n : ℕ). drop (n + 1) word) e

      d_is : {p : ℕ} {ms : List ℕ} → Given word p ms → degree_of p ≡ d
      d_is g = ap degree_of (p_is g) ∙ sym q

      pub other_count : (commas : ℕ) → commas ≡ commas_in (take (length word - from) (drop from word)) → (commas ≡ d - 1 → ⊥)
          → (p : ℕ) (ms : List ℕ) → Given word p ms → ⊥
      other_count commas c h p ms g =
          let t : commas ≡ commas_in (past colon word) = c ∙ ap commas_in tail_is in
          h (omega (arith, g.parts, d_is g))

      pub no_number : (k : ℕ) → k < d → ((n : ℕ) → number_of (part_at (take (length word - from) (drop from word)) k) ≢ Ok n) → (p : ℕ) (ms : List ℕ) → Given word p ms → ⊥
      no_number k h none p ms g =
          none (get_or ms k 0) (ap (λ (t : List ℕ). number_of (part_at t k)) tail_is ∙ g.each k (omega (arith, d_is g)))

      pub all_given : (i : ℕ) (new : List ℕ) → MsRead (take (length word - from) (drop from word)) d i new (Ok tt) → (commas : ℕ)
          → commas ≡ commas_in (take (length word - from) (drop from word)) → commas ≡ d - 1 → i < 6 → length new ≡ 72 → GivenRead word i new (Ok v)
      all_given i new m commas c h six long =
          let k = degree_of v in
          let front : length (take k (drop (12 * i) new)) ≡ k = length-take-le k (drop (12 * i) new) (omega (arith, d_low, q, length-drop (12 * i) new)) in (
            record {
              polynomial = is_head;
              low = low;
              high = omega arith;
              parts = omega (arith, ap commas_in tail_is, c, d_some, q);
              long = front;
              each = λ j l.
                  sym (ap (λ (t : List ℕ). number_of (part_at t j)) tail_is) ∙ m j (omega (arith, q, l))
                  ∙ ap Ok (sym (get_or-take k (drop (12 * i) new) j 0 l ∙ get_or-drop (12 * i) new j 0));
            },
            omega (arith, d_low, q),
          )

-- no colon, and so no m
pub no_colon : (word : List ℕ) (end : ℕ) → end ≡ leading (is_not colon) word → end ≡ length word → (p : ℕ) (ms : List ℕ) → Given word p ms → ⊥
unfolding past rest_at up_to
no_colon word end e h p ms g =
    let none : past colon word ≡ [] = drop_of_length-le word {i = leading (is_not colon) word + 1} (omega arith) in
    let empty : number_of (part_at (past colon word) 0) ≡ Err NotDecimal =
    ap (λ (t : List ℕ). number_of (part_at t 0)) none ∙ number_none (part_at [] 0) (ap length (take-nil (leading (is_not comma) []))) in
    no_value NotDecimal (get_or ms 0 0) (sym empty ∙ g.each 0 (degree_some p g.low))

axis_not : {word : List ℕ} → (word ≡ zero_word → ⊥) → ((p : ℕ) (ms : List ℕ) → Given word p ms → ⊥) → (x : Axis) → AxisWord word x → ⊥
axis_not h k x (AxisWord.plain e) = h e
axis_not h k x (AxisWord.given p ms g) = k p ms g

pub zero_axis : (word : List ℕ) (i : ℕ) (new : List ℕ) → word ≡ zero_word → AxisRead word i new (Ok 1)
zero_axis word i new e = (rw degree_one (AxisWord.plain e), low_one)

pub other_axis : {word : List ℕ} (i : ℕ) (new : List ℕ) (r : Result ℕ AxisFault) → (word ≡ zero_word → ⊥) → GivenRead word i new r → AxisRead word i new r
other_axis i new (Ok p) h g = (AxisWord.given _ _ g.0, g.1)
other_axis i new (Err f) h g = (axis_not h g.0, g.1)

-- ---- a word spells one axis

zero_not_given : (p : ℕ) (ms : List ℕ) → Given zero_word p ms → ⊥
unfolding leading is_not
zero_not_given p ms g = no_colon zero_word 1 refl refl p ms g

given_same : {word : List ℕ} {p q : ℕ} {ms ns : List ℕ} → Given word p ms → Given word q ns
    → ◌≡◌ {A = Axis} (record { polynomial = p; ms = ms }) (record { polynomial = q; ms = ns })
given_same {word} {ms = ms} {ns = ns} g h =
    let e = value_same (up_to colon word) g.polynomial h.polynomial in
    let d = ap degree_of e in
    let f : ms ≡ ns =
    ext_get_or 0 ms ns (omega (arith, g.long, h.long, d))
    (λ k l. value_same (part_at (past colon word) k) (g.each k (omega (arith, g.long))) (h.each k (omega (arith, g.long, d)))) in
    λ i. record { polynomial = e i; ms = f i }

pub axis_same : {word : List ℕ} (x y : Axis) → AxisWord word x → AxisWord word y → x ≡ y
axis_same x y (AxisWord.plain e) (AxisWord.plain f) = refl
axis_same x y (AxisWord.plain e) (AxisWord.given q ns h) = absurd (zero_not_given q ns (rw e at h))
axis_same x y (AxisWord.given p ms g) (AxisWord.plain f) = absurd (zero_not_given p ms (rw f at g))
axis_same x y (AxisWord.given p ms g) (AxisWord.given q ns h) = given_same g h
