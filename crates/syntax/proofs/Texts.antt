-- One law for each way through `same_bytes`, `string_number`, `is_built_in_text` and `string_at`.
use Prim.Native.Nat.{ℕ, zero, suc, ◌+◌, ◌*◌, ◌<◌, ◌≤◌}
use mathlib.Core.Path.{◌≡◌, refl, sym, ap, ◌∙◌}
use mathlib.Core.Bool.{Bool, true, false, ◌&&◌, ◌||◌, not}
use mathlib.Core.List.{List, [], ◌∷◌}
use mathlib.Core.Option.{some}
use native.Mathlib.Omega.{arith}
use lib.Dec.{eqb, ltb, leb-suc-suc}
use borrow.Author.Tests.{lt-ltb, ltb-true, eq-eqb, ne_eqb}
use native.Mathlib.Numerals.{add-one}
use Rattle.std.specs.List.{position, position_or_len}
use Rattle.std.specs.Prelude.{cond}
use lib.ListN.{length, get_or, get_or-eq_default, drop, drop_of_length-le}
use lib.Seq.{drop-cons}
use Rattle.rules.specs.Bytes.{pick, two, end_of, fields_in}
use Rattle.rules.specs.Check.{text, string_places}
use Rattle.rules.specs.Compile.{same_bytes, string_at, string_number}
use Rattle.syntax.specs.Strings.{texts_at, string_texts, Indexed, found_of}
use Rattle.std.specs.Prelude.{Option as CodeOption, Some, None}

-- ---- Two strings compared

and_false : (b : Bool) → (b && false) ≡ false
and_false true = refl
and_false false = refl

pub other_length : (x y : List ℕ) → (length x ≡ length y → ⊥) → false ≡ same_bytes x y
unfolding same_bytes
other_length [] [] h = absurd (h refl)
other_length [] (b ∷ y) h = refl
other_length (a ∷ x) [] h = refl
other_length (a ∷ x) (b ∷ y) h = sym (ap (λ (c : Bool). eqb a b && c) (sym (other_length x y (λ e. h (ap suc e)))) ∙ and_false (eqb a b))

module _ (x y : List ℕ) (i : ℕ) {whole : Bool} where
  pub other_byte : i < length x → i < length y → (get_or x i 0 ≡ get_or y i 0 → ⊥) → same_bytes (drop i x) (drop i y) ≡ whole → false ≡ whole
  unfolding same_bytes
  other_byte h l n w = rw (drop-cons x i 0 h, drop-cons y i 0 l, ne_eqb _ _ n) at w

  pub same_byte : i < length x → i < length y → get_or x i 0 ≡ get_or y i 0 → same_bytes (drop i x) (drop i y) ≡ whole → same_bytes (drop (i + 1) x) (drop (i + 1) y) ≡ whole
  unfolding same_bytes
  same_byte h l n w = rw add-one (rw (drop-cons x i 0 h, drop-cons y i 0 l, eq-eqb _ _ n) at w)

  pub both_end : length x ≤ i → length y ≤ i → same_bytes (drop i x) (drop i y) ≡ whole → true ≡ whole
  unfolding same_bytes
  both_end h l w = rw (drop_of_length-le x h, drop_of_length-le y l) at w

-- ---- A string looked for

number_by : (x y : List ℕ) (ys : List (List ℕ)) (i : ℕ) → string_number x (y ∷ ys) i ≡ pick (same_bytes x y) (some i) (string_number x ys (suc i))
unfolding string_number
number_by x y ys i = go (same_bytes x y)
  where
    go : (b : Bool) → elim b [ true ↦ some i | false ↦ string_number x ys (suc i) ] ≡ pick b (some i) (string_number x ys (suc i))
    go true = refl
    go false = refl

-- the first place whose text is the string, as `position` counts it
module _ (m x : List ℕ) where
  abbrev pub has_text : ℕ → Bool
  has_text q = same_bytes x (text m q)

  first_number : (qs : List ℕ) (i : ℕ) → found_of (string_number x (texts_at m qs) i) ≡ cond (ltb (position_or_len has_text qs) (length qs)) (Some (i + position_or_len has_text qs)) None
  unfolding texts_at string_number found_of
  first_number [] i = refl
  first_number (q ∷ qs) i = ap found_of (number_by x (text m q) (texts_at m qs) i) ∙ go (has_text q) (first_number qs (suc i))
    where
      go : (b : Bool) → found_of (string_number x (texts_at m qs) (suc i)) ≡ cond (ltb (position_or_len has_text qs) (length qs)) (Some (suc i + position_or_len has_text qs)) None
          → found_of (pick b (some i) (string_number x (texts_at m qs) (suc i))) ≡ cond (ltb (cond (not b) (1 + position_or_len has_text qs) 0) (suc (length qs))) (Some (i + cond (not b) (1 + position_or_len has_text qs) 0)) None
      go true rest = let first : i + 0 ≡ i = omega arith in rw (lt-ltb 0 (suc (length qs)) (omega arith), first) refl
      go false rest =
          let more : 1 + position_or_len has_text qs ≡ suc (position_or_len has_text qs) = omega arith in
          let later : i + suc (position_or_len has_text qs) ≡ suc i + position_or_len has_text qs = omega arith in
          rw (more, leb-suc-suc (suc (position_or_len has_text qs)) (length qs), later) rest

pub string_counted : (m x : List ℕ) {e : ℕ} {r : CodeOption ℕ} → e ≡ end_of m 0 → r ≡ position (has_text m x) (fields_in m 3 e) → r ≡ found_of (string_number x (string_texts m) 0)
unfolding string_texts string_places
string_counted m x at counted =
    let places : List ℕ = fields_in m 3 (end_of m 0) in
    let from_none : 0 + position_or_len (has_text m x) places ≡ position_or_len (has_text m x) places = omega arith in
    (rw at at counted) ∙ ap (λ (n : ℕ). cond (ltb (position_or_len (has_text m x) places) (length places)) (Some n) None) (sym from_none) ∙ sym (first_number m x places 0)

-- a place that is found is one of them
pub place_below : (P : ℕ → Bool) (qs : List ℕ) {n : ℕ} → position P qs ≡ Some n → n < length qs
place_below P qs {n} = go (ltb (position_or_len P qs) (length qs)) refl
  where
    go : (b : Bool) → ltb (position_or_len P qs) (length qs) ≡ b → cond b (Some (position_or_len P qs)) None ≡ Some n → n < length qs
    go true l e = let same : position_or_len P qs ≡ n = cc in omega (arith, ltb-true _ _ l)
    go false l e = let z : ◌≡◌ {A = ℕ} 0 1 = cc in absurd (omega arith)

-- ---- One of several strings

-- eight tests joined from the left are those joined from the right
pub one_of_eight : (a b c d e f g h : Bool) → (((((((a || b) || c) || d) || e) || f) || g) || h) ≡ (a || (b || (c || (d || (e || (f || (g || (h || false))))))))
one_of_eight true b c d e f g h = refl
one_of_eight false true c d e f g h = refl
one_of_eight false false true d e f g h = refl
one_of_eight false false false true e f g h = refl
one_of_eight false false false false true f g h = refl
one_of_eight false false false false false true g h = refl
one_of_eight false false false false false false true h = refl
one_of_eight false false false false false false false true = refl
one_of_eight false false false false false false false false = refl

-- ---- A string by its number

texts_length : (m : List ℕ) (ps : List ℕ) → length (texts_at m ps) ≡ length ps
unfolding texts_at
texts_length m [] = refl
texts_length m (p ∷ ps) = ap suc (texts_length m ps)

text_at : (m : List ℕ) (ps : List ℕ) (n : ℕ) → n < length ps → get_or (texts_at m ps) n [] ≡ text m (get_or ps n 0)
unfolding texts_at
text_at m [] n h = absurd (omega arith)
text_at m (p ∷ ps) zero h = refl
text_at m (p ∷ ps) (suc n) h = text_at m ps n (omega arith)

-- the string with the number n is the text at its place
pub string_text : (m : List ℕ) (n : ℕ) → n < length (string_places m) → string_at (string_texts m) n ≡ text m (get_or (string_places m) n 0)
unfolding string_at string_texts
string_text m n h = text_at m (string_places m) n h

pub no_string_lem : (m table : List ℕ) (strings n : ℕ) → Indexed m table strings → strings ≤ n → [] ≡ string_at (string_texts m) n
unfolding string_at string_texts
no_string_lem m table strings n i h =
    let c = i.count in
    let k = texts_length m (string_places m) in
    sym (get_or-eq_default (texts_at m (string_places m)) [] (omega arith))

pub its_string : (m table : List ℕ) (strings n : ℕ) {p : ℕ} {xs : List ℕ} → Indexed m table strings → n < strings → p ≡ two table (2 * n) → xs ≡ text m p → xs ≡ string_at (string_texts m) n
its_string m table strings n i h p x =
    let c = i.count in
    x ∙ ap (text m) (p ∙ i.place n h) ∙ sym (string_text m n (omega arith))
