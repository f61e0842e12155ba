-- The laws of texts: one for each way through the loops that read and write them. Assumes nothing.
use mathlib.Core.Path.{◌≡◌, refl, sym, ap, ◌∙◌}
use mathlib.Core.Bool.{Bool, true, false}
use mathlib.Core.List.{List, [], ◌∷◌}
use Prim.Native.Nat.{ℕ, zero, suc, ◌+◌, ◌*◌, ◌-◌, ◌/◌, ◌%◌, ◌≤◌, ◌<◌, min}
use native.Mathlib.Nat.{zero-add}
use native.Mathlib.Numerals.{add-one, unary_clauses}
use native.Mathlib.Omega.{arith}
use borrow.Author.Tests.{ltb-true, ltb-false, le-leb, lt-leb}
use lib.Dec.{ltb, leb}
use lib.ListN.{length, set, take, drop, drop_of_length-le, get_or-eq_default}
use lib.Seq.{drop-cons, length-take-le}
use Rattle.wire.specs.Bytes.{byte, pick}
use Rattle.wire.specs.Runs.{over}
use Rattle.wire.proofs.Laws.{over_more, over_none, same_over_length}
use Rattle.run_cases.specs.Text.{IsPrefixLen, hex_value, hex_digit, pair_at, pairs, hex_text, number_up_to}

-- n of the bytes are counted from the start
pub counts : (n : ℕ) (bytes : List ℕ) → n ≤ length bytes → IsPrefixLen n bytes
counts n bytes h = (h, sym (length-take-le n bytes h))

-- what lies within the first n bytes is at most n
pub within_first : (k n : ℕ) (bytes : List ℕ) → n ≤ length bytes → k ≤ length (take n bytes) → k ≤ n
within_first k n bytes h l = omega (arith, length-take-le n bytes h)

-- ---- Decimal numbers

pub number_more : (most : ℕ) (text : List ℕ) (i n d : ℕ) → i < length text → d ≡ hex_value (byte text i) → d ≤ 9 → number_up_to most (drop (i + 1) text) (min most (n * 10 + d)) ≡ number_up_to most (drop i text) n
unfolding number_up_to
number_more most text i n d h value low =
    rw (add-one, drop-cons text i 0 h, ← value, le-leb d 9 low)

pub number_stops : (most : ℕ) (text : List ℕ) (i n d : ℕ) → i < length text → d ≡ hex_value (byte text i) → 9 < d → n ≡ number_up_to most (drop i text) n
unfolding number_up_to
number_stops most text i n d h value high = rw (drop-cons text i 0 h, ← value, lt-leb d 9 high)

pub number_ends : (most : ℕ) (text : List ℕ) (i n : ℕ) → length text ≤ i → n ≡ number_up_to most (drop i text) n
unfolding number_up_to
number_ends most text i n h = rw drop_of_length-le

-- ---- Pairs of digits

-- where the second digit is past the end there is no pair
pub no_pair : (text : List ℕ) (i : ℕ) → length text ≤ i + 1 → pair_at text i ≡ 256
unfolding pair_at hex_value
no_pair text i h = rw (get_or-eq_default text 0 {n = i + 1} h) (go (leb (hex_value (byte text i)) 15))
  where
    go : (t : Bool) → ◌≡◌ {A = ℕ} (pick t 256 256) 256
    go true = refl
    go false = refl

pub first_no_digit : (text : List ℕ) (i v : ℕ) → v ≡ hex_value (byte text i) → 15 < v → 256 ≡ pair_at text i
unfolding pair_at
first_no_digit text i v value high = rw (← value, lt-leb v 15 high)

pub second_no_digit : (text : List ℕ) (i v w : ℕ) → v ≡ hex_value (byte text i) → v ≤ 15 → w ≡ hex_value (byte text (i + 1)) → 15 < w → 256 ≡ pair_at text i
unfolding pair_at
second_no_digit text i v w value low value' high = rw (← value, ← value', le-leb v 15 low, lt-leb w 15 high)

pub two_digits : (text : List ℕ) (i v w : ℕ) → v ≡ hex_value (byte text i) → v ≤ 15 → w ≡ hex_value (byte text (i + 1)) → w ≤ 15 → 16 * v + w ≡ pair_at text i
unfolding pair_at
two_digits text i v w value low value' low' = rw (← value, ← value', le-leb v 15 low, le-leb w 15 low')

-- a pair stands within the text
pair_within : (text : List ℕ) (i : ℕ) → pair_at text i ≤ 255 → i + 2 ≤ length text
pair_within text i low = go (ltb (i + 1) (length text)) refl
  where
    go : (t : Bool) → ltb (i + 1) (length text) ≡ t → i + 2 ≤ length text
    go true h = omega (arith, ltb-true (i + 1) (length text) h)
    go false h = absurd (omega (arith, no_pair text i (ltb-false (i + 1) (length text) h)))

-- one pair, then the others
one_pair : (k : ℕ) (text : List ℕ) (i : ℕ) → pair_at text i ≤ 255 → pair_at text i ∷ pairs k text (i + 2) ≡ pairs (suc k) text i
unfolding pairs
one_pair k text i low = rw (le-leb (pair_at text i) 255 low)

no_pairs : (k : ℕ) (text : List ℕ) (i : ℕ) → 255 < pair_at text i → length (pairs k text i) ≡ 0
unfolding pairs
no_pairs zero text i high = refl
no_pairs (suc k) text i high = rw (lt-leb (pair_at text i) 255 high)

some_pairs : (m n : ℕ) (text : List ℕ) (i : ℕ) → n < m → pair_at text i ≤ 255 → pair_at text i ∷ pairs (m - (n + 1)) text (i + 2) ≡ pairs (m - n) text i
some_pairs m n text i h low = one_pair (m - (n + 1)) text i low ∙ ap (λ (k : ℕ). pairs k text i) (omega arith)

-- `into` with n bytes stored of those that the digits of the text stand for, the digits before i being read
pub record Reading (text into₀ into : List ℕ) (n i : ℕ) : Type 0 where
  pub stored : over into n (pairs (length into₀ - n) text i) ≡ over into₀ 0 (pairs (length into₀) text 0)
  pub counted : n + length (pairs (length into₀ - n) text i) ≡ length (pairs (length into₀) text 0)
  pub within : i ≤ length text
  pub room : n ≤ length into₀

-- what `read_hex` ensures
abbrev pub Read : List ℕ → List ℕ → List ℕ → ℕ → Type 0
Read text into₀ into r = (into ≡ over into₀ 0 (pairs (length into₀) text 0)) × ((r ≡ length (pairs (length into₀) text 0)) × IsPrefixLen r into)

pub reading_first : (text into : List ℕ) → Reading text into into 0 0
reading_first text into = record { stored = simp unary_clauses; counted = simp (unary_clauses, zero-add); within = omega arith; room = omega arith }

module _ (text into₀ into : List ℕ) (n i : ℕ) (reads : Reading text into₀ into n i) where
  pub reading_length : length into ≡ length into₀
  reading_length = same_over_length _ _ _ _ _ _ reads.stored

  pub reading_more : (b : ℕ) → b ≡ pair_at text i → n < length into → b ≤ 255 → Reading text into₀ (set into n b) (n + 1) (i + 2)
  reading_more b value h low =
      let low' : pair_at text i ≤ 255 = omega arith in
      let room : n < length into₀ = omega (arith, reading_length) in
      let here : b ∷ pairs (length into₀ - (n + 1)) text (i + 2) ≡ pairs (length into₀ - n) text i = rw value (some_pairs (length into₀) n text i room low') in
      record {
        stored = over_more into n b (pairs (length into₀ - (n + 1)) text (i + 2)) ∙ ap (over into n) here ∙ reads.stored;
        counted = omega (arith, ap length here, reads.counted);
        within = pair_within text i low';
        room = omega arith;
      }

  -- nothing is left to store
  done : length (pairs (length into₀ - n) text i) ≡ 0 → Read text into₀ into n
  done none =
      (sym (over_none into n (pairs (length into₀ - n) text i) (omega arith)) ∙ reads.stored, (omega (arith, reads.counted), counts n into (omega (arith, reading_length, reads.room))))

  pub reading_stops : (b : ℕ) → b ≡ pair_at text i → 255 < b → Read text into₀ into n
  reading_stops b value high = done (no_pairs (length into₀ - n) text i (omega arith))

  pub reading_full : length into ≤ n → Read text into₀ into n
  unfolding pairs
  reading_full h = done (ap (λ (k : ℕ). length (pairs k text i)) {x = length into₀ - n} {y = 0} (omega (arith, reading_length)))

-- ---- Bytes as digits

one_text : (k : ℕ) (bytes : List ℕ) (n : ℕ) → hex_digit (byte bytes n / 16) ∷ (hex_digit (byte bytes n % 16) ∷ hex_text k bytes (n + 1)) ≡ hex_text (suc k) bytes n
unfolding hex_text
one_text k bytes n = refl

-- `into` with the digits of n bytes stored, of `count` in all
pub record Writing (bytes into₀ into : List ℕ) (count n : ℕ) : Type 0 where
  pub stored : over into (2 * n) (hex_text (count - n) bytes n) ≡ over into₀ 0 (hex_text count bytes 0)
  pub within : n ≤ count

pub writing_first : (bytes into : List ℕ) (count : ℕ) → Writing bytes into into count 0
writing_first bytes into count = record { stored = simp unary_clauses; within = omega arith }

module _ (bytes into₀ into : List ℕ) (count n : ℕ) (writes : Writing bytes into₀ into count n) where
  pub writing_length : length into ≡ length into₀
  writing_length = same_over_length _ _ _ _ _ _ writes.stored

  pub writing_more : (a b : ℕ) → n < count → a ≡ hex_digit (byte bytes n / 16) → b ≡ hex_digit (byte bytes n % 16) → Writing bytes into₀ (set (set into (2 * n) a) (2 * n + 1) b) count (n + 1)
  writing_more a b h first second =
      let rest : List ℕ = hex_text (count - (n + 1)) bytes (n + 1) in
      let here : a ∷ (b ∷ rest) ≡ hex_text (count - n) bytes n = rw (first, second) (one_text (count - (n + 1)) bytes n ∙ ap (λ (k : ℕ). hex_text k bytes n) (omega arith)) in
      record {
        stored =
            ap (λ (p : ℕ). over (set (set into (2 * n) a) (2 * n + 1) b) p rest) (omega arith) ∙
            over_more (set into (2 * n) a) (2 * n + 1) b rest ∙
            over_more into (2 * n) a (b ∷ rest) ∙
            ap (over into (2 * n)) here ∙
            writes.stored;
        within = omega arith;
      }

  pub writing_done : (k : ℕ) → count ≡ k → count ≤ n → into ≡ over into₀ 0 (hex_text k bytes 0)
  unfolding hex_text
  writing_done k same h =
      let none : length (hex_text (count - n) bytes n) ≡ 0 = ap (λ (j : ℕ). length (hex_text j bytes n)) {x = count - n} {y = 0} (omega arith) in
      sym (over_none into (2 * n) (hex_text (count - n) bytes n) (omega arith)) ∙ writes.stored ∙ ap (λ (j : ℕ). over into₀ 0 (hex_text j bytes 0)) same
