-- One law for each way through comparing two strings.
use Prim.Native.Nat.{ℕ, zero, suc, ◌+◌, ◌-◌, ◌<◌, ◌≤◌}
use mathlib.Core.Path.{◌≡◌, refl, sym, ◌∙◌, ap}
use mathlib.Core.Bool.{true, false, ◌&&◌}
use mathlib.Core.List.{List, ◌∷◌}
use native.Mathlib.Omega.{arith}
use lib.ListN.{length, get_or}
use lib.Dec.{eqb, ltb}
use borrow.Author.Tests.{lt-ltb, le-ltb, ltb-true, ne_eqb, eq-eqb, eqb-true}
use Rattle.rules.specs.Check.{ascends}
use Rattle.rules.proofs.Lists.{both_left, both_right}
use Rattle.notation.specs.Lexing.{in_word}
use Rattle.interner.specs.Strings.{rest_of, from_code, Stepped, alike, order_of}
use Rattle.interner.proofs.Reading.{letter_on}
use Rattle.std.specs.declared.cmp.Ordering.TheVariants.{Less, Equal, Greater}
use Rattle.std.specs.declared.cmp.Ordering.{Ordering}

-- two strings by the codes of their first bytes and what follows
module _ (x y : List ℕ) where
  -- the lower code comes first
  pub lower_first : (a b : ℕ) → a < b → order_of (from_code a x) (from_code b y) ≡ Less
  unfolding order_of ascends from_code
  lower_first a zero l = absurd (omega arith)
  lower_first zero (suc b) l = refl
  lower_first (suc a) (suc b) l = rw (lt-ltb a b (omega arith))

  pub higher_last : (a b : ℕ) → b < a → order_of (from_code a x) (from_code b y) ≡ Greater
  unfolding order_of ascends from_code
  higher_last zero b l = absurd (omega arith)
  higher_last (suc a) zero l = refl
  higher_last (suc a) (suc b) l = rw (lt-ltb b a (omega arith), le-ltb a b (omega arith))

  -- both end
  pub both_ended : order_of (from_code 0 x) (from_code 0 y) ≡ Equal
  unfolding order_of ascends from_code
  both_ended = refl

  -- with the same first byte, what follows decides
  pub same_first : (a : ℕ) → 0 < a → order_of (from_code a x) (from_code a y) ≡ order_of x y
  unfolding order_of ascends from_code
  same_first zero l = absurd (omega arith)
  same_first (suc a) l = rw (le-ltb a a (omega arith))

-- two strings of the text, each with a step in it, whose order is that of the whole strings
module _ {t : List ℕ} {f g p q a b p' q' : ℕ} {whole : Ordering} (one : Stepped t f p a p') (other : Stepped t g q b q') (inv : order_of (rest_of t f p) (rest_of t g q) ≡ whole) where
  by_codes : order_of (from_code a (rest_of t f p')) (from_code b (rest_of t g q')) ≡ whole
  by_codes = rw (one.string, other.string) at inv

  pub comes_first : a < b → Less ≡ whole
  comes_first l = sym (lower_first (rest_of t f p') (rest_of t g q') a b l) ∙ by_codes

  pub comes_last : b < a → Greater ≡ whole
  comes_last l = sym (higher_last (rest_of t f p') (rest_of t g q') a b l) ∙ by_codes

  pub ends_same : b ≤ a → a ≡ 0 → Equal ≡ whole
  ends_same l e =
      let z : b ≡ 0 = omega arith in
      sym (both_ended (rest_of t f p') (rest_of t g q')) ∙ (rw (e, z) at by_codes)

  pub both_go_on : b ≤ a → a ≤ b → (a ≡ 0 → ⊥) → order_of (rest_of t f p') (rest_of t g q') ≡ whole
  both_go_on l k n =
      let same : b ≡ a = omega arith in
      sym (same_first (rest_of t f p') (rest_of t g q') a (omega arith)) ∙ (rw same at by_codes)

  -- the first string gets shorter
  pub goes_onward : (a ≡ 0 → ⊥) → length t - p' < length t - p
  goes_onward n = omega (arith, one.onward (omega arith), one.within (omega arith))

-- ---- Two words

-- they go on with the same byte
pub record Alike (t : List ℕ) (p q : ℕ) : Type 0 where
  pub one : p < length t
  pub other : q < length t
  pub same : get_or t p 0 ≡ get_or t q 0
  pub in_word_lem : in_word (get_or t p 0) ≡ true

module _ (t : List ℕ) (p q : ℕ) where
  pub alike_true : true ≡ alike t p q → Alike t p q
  unfolding alike
  alike_true e =
      let same = eqb (get_or t p 0) (get_or t q 0) in
      let letter = in_word (get_or t p 0) in
      let behind = both_right (ltb p (length t)) (ltb q (length t) && (same && letter)) (sym e) in
      let bytes = both_right (ltb q (length t)) (same && letter) behind in
      record {
        one = ltb-true p (length t) (both_left (ltb p (length t)) (ltb q (length t) && (same && letter)) (sym e));
        other = ltb-true q (length t) (both_left (ltb q (length t)) (same && letter) behind);
        same = eqb-true (get_or t p 0) (get_or t q 0) (both_left same letter bytes);
        in_word_lem = both_right same letter bytes;
      }

  -- a word ends with the text
  pub one_past : length t ≤ p → false ≡ alike t p q
  unfolding alike
  one_past l = rw (le-ltb p (length t) l)

  module _ (l : p < length t) where
    pub other_past : length t ≤ q → false ≡ alike t p q
    unfolding alike
    other_past k = rw (lt-ltb p (length t) l, le-ltb q (length t) k)

    -- the bytes differ, or are the same
    module _ (k : q < length t) where
      pub bytes_differ : (get_or t p 0 ≡ get_or t q 0 → ⊥) → false ≡ alike t p q
      unfolding alike
      bytes_differ n = rw (lt-ltb p (length t) l, lt-ltb q (length t) k, ne_eqb (get_or t p 0) (get_or t q 0) n)

      pub bytes_same : get_or t p 0 ≡ get_or t q 0 → in_word (get_or t p 0) ≡ alike t p q
      unfolding alike
      bytes_same e = rw (lt-ltb p (length t) l, lt-ltb q (length t) k, eq-eqb (get_or t p 0) (get_or t q 0) e)

-- a letter that both go on with decides nothing
pub alike_on : (f g : ℕ) {t : List ℕ} {p q : ℕ} {whole : Ordering} → in_word f ≡ false → in_word g ≡ false → Alike t p q → order_of (rest_of t f p) (rest_of t g q) ≡ whole → order_of (rest_of t f (p + 1)) (rest_of t g (q + 1)) ≡ whole
unfolding from_code
alike_on f g {t} {p} {q} no-f no-g h inv =
    let one : rest_of t f p ≡ get_or t p 0 ∷ rest_of t f (p + 1) = letter_on t f p no-f h.one h.in_word_lem in
    let other : rest_of t g q ≡ get_or t p 0 ∷ rest_of t g (q + 1) = letter_on t g q no-g h.other (ap in_word (sym h.same) ∙ h.in_word_lem) ∙ ap (λ (n : ℕ). n ∷ rest_of t g (q + 1)) (sym h.same) in
    sym (same_first (rest_of t f (p + 1)) (rest_of t g (q + 1)) (suc (get_or t p 0)) (omega arith)) ∙ (rw (one, other) at inv)

-- what is left at first are the whole strings
module _ (t : List ℕ) (f g p q : ℕ) {x y : List ℕ} where
  pub whole_order : rest_of t f p ≡ x → rest_of t g q ≡ y → order_of (rest_of t f p) (rest_of t g q) ≡ order_of x y
  whole_order e h = rw (e, h)
