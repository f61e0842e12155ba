-- The laws of label sets: members, unions, words and bytes. Assumes nothing.
use mathlib.Core.Path.{◌≡◌, refl, sym, ap, ◌∙◌}
use mathlib.Core.Bool.{Bool, true, false, ◌||◌}
use mathlib.Core.List.{List, [], ◌∷◌, ◌++◌, append_assoc}
use Prim.Native.Nat.{ℕ, zero, suc, ◌+◌, ◌-◌, ◌*◌, ◌/◌, ◌%◌, ◌^◌, ◌≤◌, ◌<◌}
use native.Mathlib.Nat.{mod-lt, zero-lt-suc, zero-div, div_self, pow-suc, suc-add, one-mul}
use native.Mathlib.Omega.{arith}
use borrow.Author.Tests.{ltb-true, ltb-false, lt-ltb, le-ltb, eqb-true, eqb-false, ne_eqb, eq-eqb}
use lib.Bits.{bit_or, or_shr, or_mod, or_lt, or_zero_l, or_zero_r}
use lib.Dec.{eqb, ltb, lit<}
use lib.ListN.{length, get_or, length-append, get_or-append}
use lib.Pow.{pow_pos, pow-lt, shl_exact, field, mod-mod-pow}
use lib.Seq.{get_or-append-add}
use Rattle.wire.specs.Runs.{over}
use Rattle.wire.proofs.Laws.{then_store}
use Rattle.labels.specs.declared.Labels.{Labels}
use Rattle.labels.specs.Sets.{no_labels, bit_of, one_label, ◌∪◌, word_of, has, Words64}
use Rattle.labels.specs.Bytes.{low_bytes, number_at, label_bytes, labels_from}
use Rattle.labels.proofs.Digits.{digit, digit_shift, digit_pow, same_digits}

-- ---- which word a label stands in

-- the word that three tests lead to, and the set with v in that word: `word_of` and `one_label` without their label
abbrev pick : Bool → Bool → Bool → Labels → ℕ
pick x y z s = elim x [ true ↦ s.w0 | false ↦ elim y [ true ↦ s.w1 | false ↦ elim z [ true ↦ s.w2 | false ↦ s.w3 ] ] ]

abbrev pub put : Bool → Bool → Bool → ℕ → Labels
put x y z v = elim x [
  | true ↦ record { w0 = v; w1 = 0; w2 = 0; w3 = 0 }
  | false ↦ elim y [
    | true ↦ record { w0 = 0; w1 = v; w2 = 0; w3 = 0 }
    | false ↦ elim z [ true ↦ record { w0 = 0; w1 = 0; w2 = v; w3 = 0 } | false ↦ record { w0 = 0; w1 = 0; w2 = 0; w3 = v } ]
  ]
]

-- what holds in each of the four cases holds of n's tests
by_tests : (P : Bool → Bool → Bool → Type 0) (n : ℕ)
    → ((y z : Bool) → n < 64 → P true y z) → ((z : Bool) → 64 ≤ n → n < 128 → P false true z)
    → (128 ≤ n → n < 192 → P false false true) → (192 ≤ n → P false false false) → P (ltb n 64) (ltb n 128) (ltb n 192)
by_tests P n a b c d = go (ltb n 64) refl (ltb n 128) refl (ltb n 192) refl
  where
    go : (x : Bool) → ltb n 64 ≡ x → (y : Bool) → ltb n 128 ≡ y → (z : Bool) → ltb n 192 ≡ z → P x y z
    go true e y f z g = a y z (ltb-true n 64 e)
    go false e true f z g = b z (ltb-false n 64 e) (ltb-true n 128 f)
    go false e false f true g = c (ltb-false n 128 f) (ltb-true n 192 g)
    go false e false f false g = d (ltb-false n 192 g)

-- the same of the word that n stands in, and of the set of label n
pub word_of_lem : (P : ℕ → Type 0) (s : Labels) (n : ℕ) → (n < 64 → P s.w0) → (64 ≤ n → n < 128 → P s.w1) → (128 ≤ n → n < 192 → P s.w2) → (192 ≤ n → P s.w3) → P (word_of s n)
unfolding word_of
word_of_lem P s n a b c d = by_tests (λ x y z. P (pick x y z s)) n (λ y z. a) (λ z. b) c d

pub one_of : (P : Labels → Type 0) (n : ℕ)
    → (n < 64 → P (put true true true (bit_of n))) → (64 ≤ n → n < 128 → P (put false true true (bit_of n)))
    → (128 ≤ n → n < 192 → P (put false false true (bit_of n))) → (192 ≤ n → P (put false false false (bit_of n))) → P (one_label n)
unfolding one_label
one_of P n a b c d = by_tests (λ x y z. P (put x y z (bit_of n))) n (λ y z. a) (λ z. b) c d

-- labels of one block of 64 stand in one word
same_test : (q m n : ℕ) → m / 64 ≡ n / 64 → ltb m (q * 64) ≡ ltb n (q * 64)
same_test q m n same = go (ltb m (q * 64)) refl
  where
    go : (x : Bool) → ltb m (q * 64) ≡ x → ltb m (q * 64) ≡ ltb n (q * 64)
    go true e = let h : m < q * 64 = ltb-true m (q * 64) e in e ∙ sym (lt-ltb n (q * 64) (omega arith))
    go false e = let h : q * 64 ≤ m = ltb-false m (q * 64) e in e ∙ sym (le-ltb n (q * 64) (omega arith))

pub word_block : (s : Labels) (m n : ℕ) → m / 64 ≡ n / 64 → word_of s m ≡ word_of s n
unfolding word_of
word_block s m n same =
    ap (λ (x : Bool). pick x (ltb m 128) (ltb m 192) s) (same_test 1 m n same)
    ∙ ap (λ (x : Bool). pick (ltb n 64) x (ltb m 192) s) (same_test 2 m n same)
    ∙ ap (λ (x : Bool). pick (ltb n 64) (ltb n 128) x s) (same_test 3 m n same)

-- the set that code makes for label l by the tests of p, a label of the same block
pub one_block : (p l : ℕ) → p / 64 ≡ l / 64 → put (ltb p 64) (ltb p 128) (ltb p 192) (1 * 2 ^ (l % 64) % 2 ^ 64) ≡ one_label l
unfolding one_label bit_of
one_block p l same =
    let bit : 1 * 2 ^ (l % 64) % 2 ^ 64 ≡ 2 ^ (l % 64) = shl_exact 1 (l % 64) 64 (lit< tt) (omega (arith, mod-lt l (zero-lt-suc 63))) ∙ one-mul (2 ^ (l % 64)) in
    ap (put (ltb p 64) (ltb p 128) (ltb p 192)) bit
    ∙ ap (λ (x : Bool). put x (ltb p 128) (ltb p 192) (bit_of l)) (same_test 1 p l same)
    ∙ ap (λ (x : Bool). put (ltb l 64) x (ltb p 192) (bit_of l)) (same_test 2 p l same)
    ∙ ap (λ (x : Bool). put (ltb l 64) (ltb l 128) x (bit_of l)) (same_test 3 p l same)

-- label p + j, where p starts a block, is digit j of the block's word
pub has_digit : (s : Labels) (p j : ℕ) → p % 64 + j < 64 → has s (p + j) ≡ eqb (digit (word_of s p) (p % 64 + j)) 1
unfolding has bit_of
has_digit s p j h =
    let e : (p + j) % 64 ≡ p % 64 + j = omega arith in
    let b : word_of s (p + j) ≡ word_of s p = word_block s (p + j) p (omega arith) in
    ap (λ (i : ℕ). eqb (digit (word_of s (p + j)) i) 1) e ∙ ap (λ (w : ℕ). eqb (digit w (p % 64 + j)) 1) b

-- ---- words of 64 bits

pub word_small : (s : Labels) (n : ℕ) → Words64 s → word_of s n < 2 ^ 64
word_small s n w = word_of_lem (λ x. x < 2 ^ 64) s n (λ _. w.small0) (λ _ _. w.small1) (λ _ _. w.small2) (λ _. w.small3)

pub words_none : Words64 no_labels
unfolding no_labels
words_none = record { small0 = lit< tt; small1 = lit< tt; small2 = lit< tt; small3 = lit< tt }

pub words_one : (n : ℕ) → Words64 (one_label n)
unfolding bit_of
words_one n =
    let b : bit_of n < 2 ^ 64 = pow-lt (mod-lt n (zero-lt-suc 63)) in
    let z : 0 < 2 ^ 64 = lit< tt in
    one_of Words64 n (λ _. record { small0 = b; small1 = z; small2 = z; small3 = z }) (λ _ _. record { small0 = z; small1 = b; small2 = z; small3 = z })
    (λ _ _. record { small0 = z; small1 = z; small2 = b; small3 = z }) (λ _. record { small0 = z; small1 = z; small2 = z; small3 = b })

pub words_union : (a b : Labels) → Words64 a → Words64 b → Words64 (a ∪ b)
unfolding ◌∪◌
words_union a b p q = record {
  small0 = or_lt 64 _ _ p.small0 q.small0;
  small1 = or_lt 64 _ _ p.small1 q.small1;
  small2 = or_lt 64 _ _ p.small2 q.small2;
  small3 = or_lt 64 _ _ p.small3 q.small3;
}

-- ---- members

pub has_none_lem : (n : ℕ) → has no_labels n ≡ false
unfolding has no_labels
has_none_lem n =
    let e : word_of no_labels n ≡ 0 = word_of_lem (λ w. w ≡ 0) no_labels n (λ _. refl) (λ _ _. refl) (λ _ _. refl) (λ _. refl) in
    ap (λ (w : ℕ). eqb (w / bit_of n % 2) 1) e ∙ ap (λ (x : ℕ). eqb (x % 2) 1) (zero-div (bit_of n))

digit_or : (a b k : ℕ) → digit (bit_or a b) k ≡ bit_or (digit a k) (digit b k)
digit_or a b k = ap (λ (x : ℕ). x % 2) (or_shr a b k) ∙ or_mod (a / 2 ^ k) (b / 2 ^ k) 1

or_test : (x y : ℕ) → x < 2 → y < 2 → eqb (bit_or x y) 1 ≡ (eqb x 1 || eqb y 1)
or_test zero zero h k = refl
or_test zero (suc zero) h k = refl
or_test zero (suc (suc y)) h k = absurd (omega arith)
or_test (suc zero) zero h k = refl
or_test (suc zero) (suc zero) h k = refl
or_test (suc zero) (suc (suc y)) h k = absurd (omega arith)
or_test (suc (suc x)) y h k = absurd (omega arith)

word_union : (a b : Labels) (n : ℕ) → word_of (a ∪ b) n ≡ bit_or (word_of a n) (word_of b n)
unfolding word_of ◌∪◌
word_union a b n =
    by_tests (λ x y z. pick x y z (a ∪ b) ≡ bit_or (pick x y z a) (pick x y z b)) n (λ _ _ _. refl) (λ _ _ _. refl) (λ _ _. refl) (λ _. refl)

pub has_union : (a b : Labels) (n : ℕ) → has (a ∪ b) n ≡ (has a n || has b n)
unfolding has bit_of
has_union a b n =
    let x : ℕ = word_of a n / 2 ^ (n % 64) in
    let y : ℕ = word_of b n / 2 ^ (n % 64) in
    ap (λ (w : ℕ). eqb (digit w (n % 64)) 1) (word_union a b n)
    ∙ ap (λ (w : ℕ). eqb w 1) (digit_or (word_of a n) (word_of b n) (n % 64))
    ∙ or_test (x % 2) (y % 2) (mod-lt x (zero-lt-suc 1)) (mod-lt y (zero-lt-suc 1))

own_word : (n : ℕ) → word_of (one_label n) n ≡ bit_of n
unfolding word_of one_label
own_word n = by_tests (λ x y z. pick x y z (put x y z (bit_of n)) ≡ bit_of n) n (λ _ _ _. refl) (λ _ _ _. refl) (λ _ _. refl) (λ _. refl)

pub has_own : (n : ℕ) → has (one_label n) n ≡ true
unfolding has bit_of
has_own n =
    ap (λ (w : ℕ). eqb (w / bit_of n % 2) 1) (own_word n) ∙ ap (λ (x : ℕ). eqb (x % 2) 1) (div_self (pow_pos (n % 64)))

-- a label of another block finds an empty word
other_word : (l n : ℕ) → l < 256 → n < 256 → (l / 64 ≡ n / 64 → ⊥) → word_of (one_label l) n ≡ 0
other_word l n p q apart =
    one_of (λ s. word_of s n ≡ 0) l
    (λ a. zero_word (λ h. absurd (apart (omega arith))) (λ _ _. refl) (λ _ _. refl) (λ _. refl))
    (λ a b. zero_word (λ _. refl) (λ h k. absurd (apart (omega arith))) (λ _ _. refl) (λ _. refl))
    (λ a b. zero_word (λ _. refl) (λ _ _. refl) (λ h k. absurd (apart (omega arith))) (λ _. refl))
    (λ a. zero_word (λ _. refl) (λ _ _. refl) (λ _ _. refl) (λ h. absurd (apart (omega arith))))
  where
    zero_word : {s : Labels} → (n < 64 → s.w0 ≡ 0) → (64 ≤ n → n < 128 → s.w1 ≡ 0) → (128 ≤ n → n < 192 → s.w2 ≡ 0) → (192 ≤ n → s.w3 ≡ 0) → word_of s n ≡ 0
    zero_word {s} a b c d = word_of_lem (λ w. w ≡ 0) s n a b c d

pub has_one : (l n : ℕ) → l < 256 → n < 256 → has (one_label l) n ≡ eqb n l
unfolding has bit_of
has_one l n p q = go (eqb (l / 64) (n / 64)) refl
  where
    go : (x : Bool) → eqb (l / 64) (n / 64) ≡ x → has (one_label l) n ≡ eqb n l
    go true e =
        let same : l / 64 ≡ n / 64 = eqb-true (l / 64) (n / 64) e in
        let w : word_of (one_label l) n ≡ 2 ^ (l % 64) = sym (word_block (one_label l) l n same) ∙ own_word l in
        ap (λ (x : ℕ). eqb (digit x (n % 64)) 1) w ∙ digit_pow (l % 64) (n % 64) ∙ low_eqb same (eqb (n % 64) (l % 64)) refl
      where
        low_eqb : l / 64 ≡ n / 64 → (x : Bool) → eqb (n % 64) (l % 64) ≡ x → eqb (n % 64) (l % 64) ≡ eqb n l
        low_eqb same true f = let g : n % 64 ≡ l % 64 = eqb-true (n % 64) (l % 64) f in f ∙ sym (eq-eqb n l (omega arith))
        low_eqb same false f = f ∙ sym (ne_eqb n l (λ g. eqb-false (n % 64) (l % 64) f (ap (λ (x : ℕ). x % 64) g)))
    go false e =
        let apart : l / 64 ≡ n / 64 → ⊥ = eqb-false (l / 64) (n / 64) e in
        ap (λ (w : ℕ). eqb (w / bit_of n % 2) 1) (other_word l n p q apart) ∙ ap (λ (x : ℕ). eqb (x % 2) 1) (zero-div (bit_of n))
        ∙ sym (ne_eqb n l (λ g. apart (ap (λ (x : ℕ). x / 64) (sym g))))

digit_lt : (w j : ℕ) → digit w j < 2
digit_lt w j = mod-lt (w / 2 ^ j) (zero-lt-suc 1)

-- a digit is known by whether it is 1
same_digit : (x y : ℕ) → x < 2 → y < 2 → eqb x 1 ≡ eqb y 1 → x ≡ y
same_digit zero zero p q e = refl
same_digit zero (suc y) p q e = let z : ◌≡◌ {A = ℕ} 0 1 = eqb-true 0 1 (e ∙ eq-eqb (suc y) 1 (omega arith)) in absurd (omega arith)
same_digit (suc x) zero p q e = let z : ◌≡◌ {A = ℕ} 0 1 = eqb-true 0 1 (sym e ∙ eq-eqb (suc x) 1 (omega arith)) in absurd (omega arith)
same_digit (suc x) (suc y) p q e = omega arith

-- a set is known by its words
same_words : (a b : Labels) → a.w0 ≡ b.w0 → a.w1 ≡ b.w1 → a.w2 ≡ b.w2 → a.w3 ≡ b.w3 → a ≡ b
same_words a b e0 e1 e2 e3 =
    let e : ◌≡◌ {A = Labels} (record { w0 = a.w0; w1 = a.w1; w2 = a.w2; w3 = a.w3 }) (record { w0 = b.w0; w1 = b.w1; w2 = b.w2; w3 = b.w3 }) = rw (e0, e1, e2, e3) in
    e

-- sets with the same members are the same
pub same_members : (a b : Labels) → Words64 a → Words64 b → ((n : ℕ) → n < 256 → has a n ≡ has b n) → a ≡ b
unfolding word_of
same_members a b u v same =
    same_words a b (same_word 0 refl (lit< tt)) (same_word 64 refl (lit< tt)) (same_word 128 refl (lit< tt)) (same_word 192 refl (lit< tt))
  where
    same_word : (p : ℕ) → p % 64 ≡ 0 → p < 256 → word_of a p ≡ word_of b p
    same_word p start h =
        same_digits 64 (word_of a p) (word_of b p) (word_small a p u) (word_small b p v)
        (λ j l.
        let e : p % 64 + j ≡ j = omega arith in
        let m : has a (p + j) ≡ has b (p + j) = same (p + j) (omega arith) in
        let f : eqb (digit (word_of a p) (p % 64 + j)) 1 ≡ eqb (digit (word_of b p) (p % 64 + j)) 1 =
        sym (has_digit a p j (omega arith)) ∙ m ∙ has_digit b p j (omega arith) in
        ap (λ (i : ℕ). digit (word_of a p) i) (sym e)
        ∙ same_digit _ _ (digit_lt (word_of a p) (p % 64 + j)) (digit_lt (word_of b p) (p % 64 + j)) f ∙ ap (λ (i : ℕ). digit (word_of b p) i) e)

-- ---- unions

-- of three digits
digit_or_assoc : (x y z : ℕ) → x < 2 → y < 2 → z < 2 → bit_or (bit_or x y) z ≡ bit_or x (bit_or y z)
digit_or_assoc zero y z p q r = ap (λ (w : ℕ). bit_or w z) (or_zero_l y) ∙ sym (or_zero_l (bit_or y z))
digit_or_assoc (suc zero) zero z p q r = ap (bit_or 1) (sym (or_zero_l z))
digit_or_assoc (suc zero) (suc zero) zero p q r = refl
digit_or_assoc (suc zero) (suc zero) (suc zero) p q r = refl
digit_or_assoc (suc zero) (suc zero) (suc (suc z)) p q r = absurd (omega arith)
digit_or_assoc (suc zero) (suc (suc y)) z p q r = absurd (omega arith)
digit_or_assoc (suc (suc x)) y z p q r = absurd (omega arith)

-- by the halves of a, which n bounds
or_assoc_up : (n a b c : ℕ) → a ≤ n → bit_or (bit_or a b) c ≡ bit_or a (bit_or b c)
or_assoc_up zero a b c h = let none : a ≡ 0 = omega arith in rw (none, or_zero_l b, or_zero_l (bit_or b c))
or_assoc_up (suc n) a b c h =
    let halves : bit_or (bit_or a b) c / 2 ≡ bit_or a (bit_or b c) / 2 =
    or_shr (bit_or a b) c 1 ∙ ap (λ (x : ℕ). bit_or x (c / 2)) (or_shr a b 1) ∙ or_assoc_up n (a / 2) (b / 2) (c / 2) (omega arith) ∙ sym (or_shr a (bit_or b c) 1 ∙ ap (bit_or (a / 2)) (or_shr b c 1)) in
    let digits : bit_or (bit_or a b) c % 2 ≡ bit_or a (bit_or b c) % 2 =
    or_mod (bit_or a b) c 1 ∙ ap (λ (x : ℕ). bit_or x (c % 2)) (or_mod a b 1) ∙ digit_or_assoc (a % 2) (b % 2) (c % 2) (omega arith) (omega arith) (omega arith) ∙ sym (or_mod a (bit_or b c) 1 ∙ ap (bit_or (a % 2)) (or_mod b c 1)) in
    omega arith

or_assoc : (a b c : ℕ) → bit_or (bit_or a b) c ≡ bit_or a (bit_or b c)
or_assoc a b c = or_assoc_up a a b c (omega arith)

pub union_assoc : (a b c : Labels) → (a ∪ b) ∪ c ≡ a ∪ (b ∪ c)
unfolding ◌∪◌
union_assoc a b c = λ i. record { w0 = or_assoc a.w0 b.w0 c.w0 i; w1 = or_assoc a.w1 b.w1 c.w1 i; w2 = or_assoc a.w2 b.w2 c.w2 i; w3 = or_assoc a.w3 b.w3 c.w3 i }

pub union_none : (a : Labels) → no_labels ∪ a ≡ a
unfolding ◌∪◌ no_labels
union_none a = λ i. record { w0 = or_zero_l a.w0 i; w1 = or_zero_l a.w1 i; w2 = or_zero_l a.w2 i; w3 = or_zero_l a.w3 i }

pub union_none_after : (a : Labels) → a ∪ no_labels ≡ a
unfolding ◌∪◌ no_labels
union_none_after a = λ i. record { w0 = or_zero_r a.w0 i; w1 = or_zero_r a.w1 i; w2 = or_zero_r a.w2 i; w3 = or_zero_r a.w3 i }

-- ---- bytes

low_length : (k v : ℕ) → length (low_bytes k v) ≡ k
unfolding low_bytes
low_length zero v = refl
low_length (suc k) v = ap suc (low_length k (v / 256))

pub label_length : (s : Labels) → length (label_bytes s) ≡ 32
unfolding label_bytes
label_length s = simp (length-append, low_length)

-- every byte of m is below 256, and so is the 0 past the end
abbrev Bytes : List ℕ → Type 0
Bytes m = (i : ℕ) → get_or m i 0 < 256

low_byte : (k v : ℕ) → Bytes (low_bytes k v)
unfolding low_bytes
low_byte zero v i = lit< tt
low_byte (suc k) v zero = mod-lt v (zero-lt-suc 255)
low_byte (suc k) v (suc i) = low_byte k (v / 256) i

append_byte : (a b : List ℕ) → Bytes a → Bytes b → Bytes (a ++ b)
append_byte [] b p q i = q i
append_byte (x ∷ a) b p q zero = p 0
append_byte (x ∷ a) b p q (suc i) = append_byte a b (λ j. p (suc j)) q i

pub label_byte : (s : Labels) (i : ℕ) → get_or (label_bytes s) i 0 < 256
unfolding label_bytes
label_byte s =
    let b2 : Bytes (low_bytes 8 s.w2 ++ low_bytes 8 s.w3) = append_byte (low_bytes 8 s.w2) (low_bytes 8 s.w3) (low_byte 8 s.w2) (low_byte 8 s.w3) in
    let b1 : Bytes (low_bytes 8 s.w1 ++ (low_bytes 8 s.w2 ++ low_bytes 8 s.w3)) = append_byte (low_bytes 8 s.w1) _ (low_byte 8 s.w1) b2 in
    append_byte (low_bytes 8 s.w0) _ (low_byte 8 s.w0) b1

number_cons : (x : ℕ) (m : List ℕ) (at k : ℕ) → number_at (x ∷ m) (suc at) k ≡ number_at m at k
unfolding number_at
number_cons x m at zero = refl
number_cons x m at (suc k) = ap (λ (n : ℕ). n * 256 + get_or m at 0) (number_cons x m (suc at) k)

-- a number past a first part is read from the rest
number_skip : (a m : List ℕ) (at k : ℕ) → number_at (a ++ m) (length a + at) k ≡ number_at m at k
number_skip [] m at k = ap (λ (i : ℕ). number_at m i k) (omega arith)
number_skip (x ∷ a) m at k =
    ap (λ (i : ℕ). number_at (x ∷ a ++ m) i k) (suc-add (length a) at) ∙ number_cons x (a ++ m) (length a + at) k ∙ number_skip a m at k

number_back : (k v : ℕ) (rest : List ℕ) → v < 256 ^ k → number_at (low_bytes k v ++ rest) 0 k ≡ v
unfolding number_at low_bytes
number_back zero v rest h = omega arith
number_back (suc k) v rest h =
    let p : 256 ^ suc k ≡ 256 ^ k * 256 = pow-suc 256 k in
    let e : number_at (v % 256 ∷ low_bytes k (v / 256) ++ rest) 1 k ≡ v / 256 =
    number_cons (v % 256) (low_bytes k (v / 256) ++ rest) 0 k ∙ number_back k (v / 256) rest (omega arith) in
    ap (λ (n : ℕ). n * 256 + v % 256) e ∙ omega arith

-- a number of bytes is below the power that they hold
pub number_lt : (m : List ℕ) (at k : ℕ) → ((i : ℕ) → get_or m i 0 < 256) → number_at m at k < 256 ^ k
unfolding number_at
number_lt m at zero b = lit< tt
number_lt m at (suc k) b = let p : 256 ^ suc k ≡ 256 ^ k * 256 = pow-suc 256 k in omega (arith, number_lt m (suc at) k b, b at)

pub words_from_lem : (m : List ℕ) → ((i : ℕ) → get_or m i 0 < 256) → Words64 (labels_from m)
unfolding labels_from
words_from_lem m b = record { small0 = number_lt m 0 8 b; small1 = number_lt m 8 8 b; small2 = number_lt m 16 8 b; small3 = number_lt m 24 8 b }

number_next : (v : ℕ) (m : List ℕ) (at : ℕ) → number_at (low_bytes 8 v ++ m) (8 + at) 8 ≡ number_at m at 8
number_next v m at = ap (λ (n : ℕ). number_at (low_bytes 8 v ++ m) (n + at) 8) (sym (low_length 8 v)) ∙ number_skip (low_bytes 8 v) m at 8

-- what is written is read back, whatever follows
pub label_back : (s : Labels) (rest : List ℕ) → Words64 s → labels_from (label_bytes s ++ rest) ≡ s
unfolding labels_from label_bytes
label_back s rest w =
    let m3 : List ℕ = low_bytes 8 s.w3 ++ rest in
    let m2 : List ℕ = low_bytes 8 s.w2 ++ m3 in
    let m1 : List ℕ = low_bytes 8 s.w1 ++ m2 in
    let m0 : List ℕ = low_bytes 8 s.w0 ++ m1 in
    let e : label_bytes s ++ rest ≡ m0 = simp append_assoc in
    ap labels_from e
    ∙ same_words (labels_from m0) s
    (number_back 8 s.w0 m1 w.small0)
    (number_next s.w0 m1 0 ∙ number_back 8 s.w1 m2 w.small1)
    (number_next s.w0 m1 8 ∙ number_next s.w1 m2 0 ∙ number_back 8 s.w2 m3 w.small2)
    (number_next s.w0 m1 16 ∙ number_next s.w1 m2 8 ∙ number_next s.w2 m3 0 ∙ number_back 8 s.w3 rest w.small3)

-- four stores of a word make the 32 bytes
pub label_stored : (s : Labels) (m : List ℕ) (p : ℕ) {m1 m2 m3 m4 : List ℕ} → m1 ≡ over m p (low_bytes 8 s.w0) → m2 ≡ over m1 (p + 8) (low_bytes 8 s.w1) → m3 ≡ over m2 (p + 16) (low_bytes 8 s.w2) → m4 ≡ over m3 (p + 24) (low_bytes 8 s.w3)
    → m4 ≡ over m p (label_bytes s)
unfolding label_bytes
label_stored s m p {m1} {m2} {m3} {m4} e1 e2 e3 e4 =
    let two : m4 ≡ over m2 (p + 16) (low_bytes 8 s.w2 ++ low_bytes 8 s.w3) = next m2 (p + 16) s.w2 (p + 24) (low_bytes 8 s.w3) e3 e4 (omega arith) in
    let three : m4 ≡ over m1 (p + 8) (low_bytes 8 s.w1 ++ (low_bytes 8 s.w2 ++ low_bytes 8 s.w3)) = next m1 (p + 8) s.w1 (p + 16) (low_bytes 8 s.w2 ++ low_bytes 8 s.w3) e2 two (omega arith) in
    next m p s.w0 (p + 8) (low_bytes 8 s.w1 ++ (low_bytes 8 s.w2 ++ low_bytes 8 s.w3)) e1 three (omega arith)
  where
    next : (d : List ℕ) (at v q : ℕ) (b : List ℕ) {d1 d2 : List ℕ} → d1 ≡ over d at (low_bytes 8 v) → d2 ≡ over d1 q b → q ≡ at + 8 → d2 ≡ over d at (low_bytes 8 v ++ b)
    next d at v q b first second end = then_store d at (low_bytes 8 v) q b first second (omega (arith, low_length 8 v))

-- "Label n is bit n mod 8, lowest first, of byte n / 8"
low_digit : (v r : ℕ) → r < 8 → digit (v % 256) r ≡ digit v r
low_digit v r h =
    let j : ℕ = 7 - r in
    let e : 8 ≡ (j + 1) + r = omega arith in
    ap (λ (k : ℕ). v % 2 ^ k / 2 ^ r % 2) e ∙ ap (λ (x : ℕ). x % 2) (field v (j + 1) r) ∙ mod-mod-pow (v / 2 ^ r) j 1

byte_digit : (k v i r : ℕ) → i < k → r < 8 → digit (get_or (low_bytes k v) i 0) r ≡ digit v (i * 8 + r)
unfolding low_bytes
byte_digit zero v i r p q = absurd (omega arith)
byte_digit (suc k) v zero r p q = low_digit v r q ∙ ap (digit v) (omega arith)
byte_digit (suc k) v (suc i) r p q =
    byte_digit k (v / 256) i r (omega arith) q ∙ digit_shift v 8 (i * 8 + r) ∙ ap (digit v) (omega arith)

pub label_bit : (s : Labels) (n : ℕ) → n < 256 → has s n ≡ eqb (digit (get_or (label_bytes s) (n / 8) 0) (n % 8)) 1
unfolding has bit_of label_bytes
label_bit s n h =
    let m2 : List ℕ = low_bytes 8 s.w2 ++ low_bytes 8 s.w3 in
    let m1 : List ℕ = low_bytes 8 s.w1 ++ m2 in
    ap (λ (d : ℕ). eqb d 1)
    (word_of_lem (λ w. digit w (n % 64) ≡ digit (get_or (label_bytes s) (n / 8) 0) (n % 8)) s n
    (λ a. own s.w0 i (omega arith) (inside s.w0 m1 i (omega arith)))
    (λ a b. own s.w1 (8 + i) (omega arith) (past s.w0 m1 i ∙ inside s.w1 m2 i (omega arith)))
    (λ a b. own s.w2 (8 + (8 + i)) (omega arith) (past s.w0 m1 (8 + i) ∙ past s.w1 m2 i ∙ inside s.w2 (low_bytes 8 s.w3) i (omega arith)))
    (λ a. own s.w3 (8 + (8 + (8 + i))) (omega arith) (past s.w0 m1 (8 + (8 + i)) ∙ past s.w1 m2 (8 + i) ∙ past s.w2 (low_bytes 8 s.w3) i)))
  where
    i : ℕ
    i = n % 64 / 8

    inside : (v : ℕ) (m : List ℕ) (j : ℕ) → j < 8 → get_or (low_bytes 8 v ++ m) j 0 ≡ get_or (low_bytes 8 v) j 0
    inside v m j l = get_or-append (low_bytes 8 v) m 0 j (omega (arith, low_length 8 v))

    past : (v : ℕ) (m : List ℕ) (j : ℕ) → get_or (low_bytes 8 v ++ m) (8 + j) 0 ≡ get_or m j 0
    past v m j = ap (λ (k : ℕ). get_or (low_bytes 8 v ++ m) (k + j) 0) (sym (low_length 8 v)) ∙ get_or-append-add (low_bytes 8 v) m j 0

    own : (v j : ℕ) → n / 8 ≡ j → get_or (label_bytes s) j 0 ≡ get_or (low_bytes 8 v) i 0 → digit v (n % 64) ≡ digit (get_or (label_bytes s) (n / 8) 0) (n % 8)
    own v j at e =
        let k : i * 8 + n % 8 ≡ n % 64 = omega arith in
        ap (digit v) (sym k) ∙ sym (byte_digit 8 v i (n % 8) (omega arith) (mod-lt n (zero-lt-suc 7)))
        ∙ ap (λ (b : ℕ). digit b (n % 8)) (sym (ap (λ (k : ℕ). get_or (label_bytes s) k 0) at ∙ e))
