-- Sets of names: one name more, the names of a word, and the words one after the other. Assumes nothing.
use Prim.Native.Nat.{ℕ, ◌+◌, ◌-◌, ◌*◌, ◌/◌, ◌%◌, ◌^◌, ◌≤◌, ◌<◌}
use mathlib.Core.Path.{◌≡◌, refl, sym, ap, ◌∙◌}
use mathlib.Core.Bool.{Bool, true, false, ◌&&◌, ◌||◌}
use mathlib.Core.List.{List}
use native.Mathlib.Nat.{zero-div, mod-lt, zero-lt-suc, lt_of_not-le}
use native.Mathlib.Omega.{arith}
use borrow.Author.Tests.{leb-true, leb-false, le-leb, lt-leb, eqb-true, eqb-false, eq-eqb, ne_eqb}
use lib.Bits.{bit_or, or_add_and, and_le_l, and_le_r}
use lib.Count.{count_trailing_zeros}
use lib.Dec.{eqb, leb, lit<}
use lib.ListN.{length, get_or, set, replicate, get_or-eq_default}
use lib.Pow.{shl_exact}
use lib.Seq.{get_or-set_same, get_or-set_other}
use Rattle.wire.specs.Runs.{zeros}
use Rattle.wire.proofs.Laws.{zeros_byte}
use Rattle.rules.proofs.Lists.{or_true_right}
use Rattle.labels.specs.declared.Labels.{Labels}
use Rattle.labels.specs.Sets.{bit_of, one_label, ◌∪◌, word_of, has}
use Rattle.labels.proofs.Digits.{digit, digit_shift, digit_high, trailing_low, trailing_set}
use Rattle.labels.proofs.Laws.{one_of, has_digit, has_union, has_one}
use Rattle.branches.specs.Names.{bit_in, contains, in_word, four_from, holds_none}

-- ---- No name

no_digit : (j : ℕ) → eqb (digit 0 j) 1 ≡ false
no_digit j = ap (λ (x : ℕ). eqb (x % 2) 1) (zero-div (2 ^ j))

pub contains_none : (k n : ℕ) → contains (replicate k 0) n ≡ false
unfolding contains bit_in zeros
contains_none k n = ap (λ (w : ℕ). eqb (digit w (n % 64)) 1) (zeros_byte k (n / 64)) ∙ no_digit (n % 64)

-- ---- One name more

-- a word as a set of labels
abbrev as_labels : ℕ → Labels
as_labels v = record { w0 = v; w1 = 0; w2 = 0; w3 = 0 }

label_bit : (v j : ℕ) → j < 64 → has (as_labels v) j ≡ eqb (digit v j) 1
unfolding word_of
label_bit v j h = let from : 0 + j ≡ j = omega arith in rw from at (has_digit (as_labels v) 0 j (omega arith))

with_label : (v l : ℕ) → l < 64 → (as_labels v ∪ one_label l) ≡ as_labels (bit_or v (2 ^ l))
unfolding bit_of ◌∪◌
with_label v l h =
    let low : l % 64 ≡ l = omega arith in
    one_of (λ s. (as_labels v ∪ s) ≡ as_labels (bit_or v (2 ^ l))) l
    (λ _. ap (λ (i : ℕ). as_labels (bit_or v (2 ^ i))) low)
    (λ a b. absurd (omega arith))
    (λ a b. absurd (omega arith))
    (λ a. absurd (omega arith))

bit_joined : (v l j : ℕ) → l < 64 → j < 64 → eqb (digit (bit_or v (2 ^ l)) j) 1 ≡ (eqb (digit v j) 1 || eqb j l)
bit_joined v l j hl hj =
    sym (label_bit (bit_or v (2 ^ l)) j hj) ∙ ap (λ (s : Labels). has s j) (sym (with_label v l hl)) ∙ has_union (as_labels v) (one_label l) j
    ∙ rw (label_bit v j hj, has_one l j (omega arith) (omega arith)) refl

pub or_false : (b : Bool) → b ≡ (b || false)
or_false true = refl
or_false false = refl

-- a name is put into its word
pub inserted : (s : List ℕ) (x : ℕ) → length s ≡ 16 → x < 1024 → (n : ℕ) → contains (set s (x / 64) (bit_or (get_or s (x / 64) 0) (1 * 2 ^ (x % 64) % 2 ^ 64))) n ≡ (contains s n || eqb n x)
unfolding contains bit_in
inserted s x size small = members
  where
    v : ℕ
    v = bit_or (get_or s (x / 64) 0) (1 * 2 ^ (x % 64) % 2 ^ 64)

    v_is : v ≡ bit_or (get_or s (x / 64) 0) (2 ^ (x % 64))
    v_is = ap (bit_or (get_or s (x / 64) 0)) (shl_exact 1 (x % 64) 64 (lit< tt) (omega (arith, mod-lt x (zero-lt-suc 63))) ∙ omega arith)

    members : (n : ℕ) → contains (set s (x / 64) v) n ≡ (contains s n || eqb n x)
    members n = go (eqb (n / 64) (x / 64)) refl
      where
        go : (b : Bool) → eqb (n / 64) (x / 64) ≡ b → contains (set s (x / 64) v) n ≡ (contains s n || eqb n x)
        go true e =
            let same : n / 64 ≡ x / 64 = eqb-true (n / 64) (x / 64) e in
            let word : get_or (set s (x / 64) v) (n / 64) 0 ≡ bit_or (get_or s (n / 64) 0) (2 ^ (x % 64)) = rw same (get_or-set_same s (x / 64) v 0 (omega arith) ∙ v_is) in
            ap (λ (w : ℕ). eqb (digit w (n % 64)) 1) word ∙ bit_joined (get_or s (n / 64) 0) (x % 64) (n % 64) (mod-lt x (zero-lt-suc 63)) (mod-lt n (zero-lt-suc 63))
            ∙ ap (λ (b : Bool). contains s n || b) (low same (eqb (n % 64) (x % 64)) refl)
          where
            low : n / 64 ≡ x / 64 → (b : Bool) → eqb (n % 64) (x % 64) ≡ b → eqb (n % 64) (x % 64) ≡ eqb n x
            low same true f = let g : n % 64 ≡ x % 64 = eqb-true (n % 64) (x % 64) f in f ∙ sym (eq-eqb n x (omega arith))
            low same false f = f ∙ sym (ne_eqb n x (λ g. eqb-false (n % 64) (x % 64) f (ap (λ (y : ℕ). y % 64) g)))
        go false e =
            let apart : n / 64 ≡ x / 64 → ⊥ = eqb-false (n / 64) (x / 64) e in
            let word : get_or (set s (x / 64) v) (n / 64) 0 ≡ get_or s (n / 64) 0 = get_or-set_other s (x / 64) (n / 64) v 0 apart in
            ap (λ (w : ℕ). eqb (digit w (n % 64)) 1) word ∙ or_false (contains s n)
            ∙ ap (λ (b : Bool). contains s n || b) (sym (ne_eqb n x (λ g. apart (ap (λ (y : ℕ). y / 64) g))))

-- ---- The names of a word, the lowest first

-- those from `at` on, where bit 0 of what is left of the word is the name `at`
abbrev pub bits_from : (at rest : ℕ) → ℕ → Bool
bits_from at v n = leb at n && eqb (digit v (n - at)) 1

-- each of the names is below 1,024
abbrev pub Below : (ℕ → Bool) → Type 0
Below f = (n : ℕ) → f n ≡ true → n < 1024

and_false : (b : Bool) {x : Bool} → x ≡ false → (b && x) ≡ false
and_false true e = e
and_false false e = refl

pub no_bits : (at : ℕ) {v : ℕ} → v ≡ 0 → (n : ℕ) → bits_from at v n ≡ false
no_bits at e n = rw e (and_false (leb at n) (no_digit (n - at)))

-- where a number stands to another
data Side (a n : ℕ) : Type 0 where
  before : n < a → Side a n
  here : n ≡ a → Side a n
  past : a < n → Side a n

side : (a n : ℕ) → Side a n
side a n = go (leb a n) refl (leb n a) refl
  where
    go : (x : Bool) → leb a n ≡ x → (y : Bool) → leb n a ≡ y → Side a n
    go false e y f = before (leb-false a n e)
    go true e false f = past (leb-false n a f)
    go true e true f = let low = leb-true a n e in let high = leb-true n a f in here (omega arith)

-- all of them
pub whole_word : (i v : ℕ) → v < 2 ^ 64 → (n : ℕ) → in_word i v n ≡ bits_from (i * 64) v n
unfolding in_word bit_in
whole_word i v fits n = go (side i (n / 64))
  where
    go : Side i (n / 64) → in_word i v n ≡ bits_from (i * 64) v n
    go (before l) = rw (ne_eqb (n / 64) i (λ e. omega arith), lt-leb (i * 64) n (omega arith)) refl
    go (here e) = let j : n % 64 ≡ n - i * 64 = omega arith in rw (eq-eqb (n / 64) i e, le-leb (i * 64) n (omega arith)) (ap (λ (k : ℕ). eqb (digit v k) 1) j)
    go (past l) = rw (ne_eqb (n / 64) i (λ e. omega arith), le-leb (i * 64) n (omega arith)) (sym (ap (λ (x : ℕ). eqb x 1) (digit_high 64 v (n - i * 64) fits (omega arith))))

pub word_small : {i v : ℕ} → i < 16 → v < 2 ^ 64 → Below (bits_from (i * 64) v)
unfolding in_word
word_small {i} {v} few fits n h = go n (eqb (n / 64) i) refl (whole_word i v fits n ∙ h)
  where
    go : (n : ℕ) (x : Bool) → eqb (n / 64) i ≡ x → (x && bit_in v n) ≡ true → n < 1024
    go n true e h = let here = eqb-true (n / 64) i e in omega arith
    go n false e h = let z : ◌≡◌ {A = ℕ} 0 1 = cc in absurd (omega arith)

-- the first of them, and those after it
module _ (at v : ℕ) (fits : v < 2 ^ 64) (some : v ≡ 0 → ⊥) where
  abbrev low : ℕ
  low = count_trailing_zeros 64 v

  pub zeros_small : low < 64
  zeros_small = lt_of_not-le (λ l. omega (arith, trailing_set 64 v fits some, digit_high 64 v low fits l))

  first_set : bits_from at v (at + low) ≡ true
  first_set =
      let j : at + low - at ≡ low = omega arith in
      rw (le-leb at (at + low) (omega arith), j, trailing_set 64 v fits some) refl

  pub first_small : Below (bits_from at v) → at + low < 1024
  first_small small = small (at + low) first_set

  pub first_then : (n : ℕ) → bits_from at v n ≡ (eqb n (at + low) || bits_from (at + low + 1) (v / 2 ^ low / 2 ^ 1) n)
  first_then n = go (side (at + low) n)
    where
      below : n < at + low → (x : Bool) → leb at n ≡ x → bits_from at v n ≡ false
      below l true e = let from = leb-true at n e in rw e (ap (λ (x : ℕ). eqb x 1) (trailing_low 64 v (n - at) (omega arith)))
      below l false e = rw e refl

      go : Side (at + low) n → bits_from at v n ≡ (eqb n (at + low) || bits_from (at + low + 1) (v / 2 ^ low / 2 ^ 1) n)
      go (before l) = rw (ne_eqb n (at + low) (λ e. omega arith), lt-leb (at + low + 1) n (omega arith)) (below l (leb at n) refl)
      go (here e) = rw (eq-eqb n (at + low) e) (ap (bits_from at v) e ∙ first_set)
      go (past l) =
          let j : low + (1 + (n - (at + low + 1))) ≡ n - at = omega arith in
          rw (ne_eqb n (at + low) (λ e. omega arith), le-leb (at + low + 1) n (omega arith), le-leb at n (omega arith)) (ap (λ (x : ℕ). eqb x 1) (sym (digit_shift (v / 2 ^ low) 1 (n - (at + low + 1)) ∙ digit_shift v low (1 + (n - (at + low + 1))) ∙ ap (digit v) j)))

  pub after_small : Below (bits_from at v) → Below (bits_from (at + low + 1) (v / 2 ^ low / 2 ^ 1))
  after_small small n h = small n (first_then n ∙ or_true_right (eqb n (at + low)) (bits_from (at + low + 1) (v / 2 ^ low / 2 ^ 1) n) h)

-- ---- The words, one after the other

-- the names of the words from i on
abbrev pub words_from : (i : ℕ) → List ℕ → ℕ → Bool
words_from i s n = leb i (n / 64) && contains s n

pub all_words : (s : List ℕ) (n : ℕ) → contains s n ≡ words_from 0 s n
all_words s n = rw (le-leb 0 (n / 64) (omega arith)) refl

pub no_words : (s : List ℕ) {i : ℕ} → length s ≡ 16 → 16 ≤ i → (n : ℕ) → words_from i s n ≡ false
unfolding contains bit_in
no_words s {i} size over n = go (leb i (n / 64)) refl
  where
    go : (b : Bool) → leb i (n / 64) ≡ b → words_from i s n ≡ false
    go true e =
        let past = leb-true i (n / 64) e in
        let none : get_or s (n / 64) 0 ≡ 0 = get_or-eq_default s 0 (omega arith) in
        rw (e, none) (no_digit (n % 64))
    go false e = rw e refl

pub word_then : (s : List ℕ) (i : ℕ) (n : ℕ) → words_from i s n ≡ (in_word i (get_or s i 0) n || words_from (i + 1) s n)
unfolding contains in_word
word_then s i n = go (side i (n / 64))
  where
    go : Side i (n / 64) → words_from i s n ≡ (in_word i (get_or s i 0) n || words_from (i + 1) s n)
    go (before l) = rw (ne_eqb (n / 64) i (λ e. omega arith), lt-leb i (n / 64) (omega arith), lt-leb (i + 1) (n / 64) (omega arith)) refl
    go (here e) = rw (eq-eqb (n / 64) i e, le-leb i (n / 64) (omega arith), lt-leb (i + 1) (n / 64) (omega arith)) (ap (λ (k : ℕ). bit_in (get_or s k 0) n) e ∙ or_false (bit_in (get_or s i 0) n))
    go (past l) = rw (ne_eqb (n / 64) i (λ e. omega arith), le-leb i (n / 64) (omega arith), le-leb (i + 1) (n / 64) (omega arith)) refl

-- ---- No word is left where the words joined are zero

or_none : (a b : ℕ) → bit_or a b ≡ 0 → (a ≡ 0) × (b ≡ 0)
or_none a b e = (omega (arith, or_add_and a b, and_le_r a b), omega (arith, or_add_and a b, and_le_l a b))

four_none : (a b c d : ℕ) → bit_or (bit_or (bit_or a b) c) d ≡ 0 → ((a ≡ 0) × (b ≡ 0)) × ((c ≡ 0) × (d ≡ 0))
four_none a b c d e =
    let three = or_none (bit_or (bit_or a b) c) d e in
    let two = or_none (bit_or a b) c three.0 in
    (or_none a b two.0, (two.1, three.1))

module _ (s : List ℕ) (n : ℕ) where
  word_none : (i : ℕ) {j : ℕ} → j ≡ i + 1 → get_or s i 0 ≡ 0 → words_from i s n ≡ words_from j s n
  unfolding in_word bit_in
  word_none i next e = word_then s i n ∙ rw (e, and_false (eqb (n / 64) i) (no_digit (n % 64)), next) refl

  words_none : (i : ℕ) → four_from s i ≡ 0 → words_from i s n ≡ words_from (i + 4) s n
  words_none i e =
      let zero = four_none (get_or s i 0) (get_or s (i + 1) 0) (get_or s (i + 2) 0) (get_or s (i + 3) 0) e in
      word_none i refl zero.0.0 ∙ word_none (i + 1) (omega arith) zero.0.1 ∙ word_none (i + 2) (omega arith) zero.1.0 ∙ word_none (i + 3) (omega arith) zero.1.1

-- the way of `mark_names` where nothing is to be marked
pub holds_none_lem : (s : List ℕ) {b : Bool} → length s ≡ 16 → b ≡ holds_none s → b ≡ true → (n : ℕ) → contains s n ≡ false
unfolding holds_none
holds_none_lem s size told none n =
    let zero = four_none (four_from s 0) (four_from s 4) (four_from s 8) (four_from s 12) (eqb-true _ 0 (sym told ∙ none)) in
    all_words s n ∙ words_none s n 0 zero.0.0 ∙ words_none s n 4 zero.0.1 ∙ words_none s n 8 zero.1.0 ∙ words_none s n 12 zero.1.1 ∙ no_words s size (omega arith) n
