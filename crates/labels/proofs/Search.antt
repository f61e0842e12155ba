-- Counting the labels of a set, and finding the next one, word by word. Assumes nothing.
use mathlib.Core.Path.{◌≡◌, refl, sym, ap, ◌∙◌, subst⁻¹}
use mathlib.Core.Bool.{Bool, true, false}
use Prim.Native.Nat.{ℕ, zero, suc, ◌+◌, ◌-◌, ◌*◌, ◌/◌, ◌%◌, ◌^◌, ◌≤◌, ◌<◌}
use native.Mathlib.Nat.{mod-lt, zero-lt-suc, zero-add, add-zero, add-suc, suc-add, zero-div, lt_of_not-le, lt_of_le_of_lt}
use native.Mathlib.Omega.{arith}
use lib.Count.{ones, count_trailing_zeros}
use lib.Dec.{eqb}
use lib.Pow.{shr_le}
use Rattle.labels.specs.declared.Labels.{Labels}
use Rattle.labels.specs.Sets.{word_of, has, Words64}
use Rattle.labels.specs.Search.{tally, count_below, count_of, first_of, next_from}
use Rattle.labels.proofs.Digits.{digit, digit_shift, digit_high, sum_below, sum_same, ones_digits, trailing_low, trailing_set}
use Rattle.labels.proofs.Laws.{has_digit, word_small}
use Rattle.std.specs.Prelude.{Some, None}

-- ---- the count

count_more : (s : Labels) (n k : ℕ) → count_below s (n + k) ≡ count_below s n + sum_below (λ j. tally (has s (n + j))) k
unfolding sum_below count_below
count_more s n zero = ap (count_below s) (add-zero n) ∙ sym (add-zero (count_below s n))
count_more s n (suc k) = ap (count_below s) (add-suc n k) ∙ omega (arith, count_more s n k)

tally_digit : (d : ℕ) → d < 2 → tally (eqb d 1) ≡ d
unfolding tally
tally_digit zero h = refl
tally_digit (suc zero) h = refl
tally_digit (suc (suc d)) h = absurd (omega arith)

-- the labels of a block are the ones of its word
count_block : (s : Labels) (p : ℕ) → Words64 s → p % 64 ≡ 0 → count_below s (p + 64) ≡ count_below s p + ones (word_of s p)
count_block s p w start = count_more s p 64 ∙ ap (λ (x : ℕ). count_below s p + x) (same ∙ sym (ones_digits 64 (word_of s p) (word_small s p w)))
  where
    same : sum_below (λ j. tally (has s (p + j))) 64 ≡ sum_below (digit (word_of s p)) 64
    same =
        sum_same _ _ 64
        (λ j h.
        let e : p % 64 + j ≡ j = omega arith in
        ap tally (has_digit s p j (omega arith) ∙ ap (λ (i : ℕ). eqb (digit (word_of s p) i) 1) e)
        ∙ tally_digit (digit (word_of s p) j) (mod-lt (word_of s p / 2 ^ j) (zero-lt-suc 1)))

count_none : (s : Labels) → count_below s 0 ≡ 0
unfolding count_below
count_none s = refl

pub count_words : (s : Labels) → Words64 s → (ones s.w0 + ones s.w1) + (ones s.w2 + ones s.w3) ≡ count_of s
unfolding count_of word_of
count_words s w =
    omega
    (arith, count_none s, count_block s 0 w refl, count_block s 64 w refl, count_block s 128 w refl, count_block s 192 w refl)

-- ---- the next label

-- labels that are not in the set are passed over
first_skip : (s : Labels) (k m n : ℕ) → ((j : ℕ) → j < k → has s (n + j) ≡ false) → first_of s (k + m) n ≡ first_of s m (n + k)
unfolding first_of
first_skip s zero m n none = rw (zero-add m, add-zero n)
first_skip s (suc k) m n none =
    let here : has s n ≡ false = ap (has s) (sym (add-zero n)) ∙ none 0 (omega arith) in
    let later : (j : ℕ) → j < k → has s (suc n + j) ≡ false = λ j h. ap (has s) (suc-add n j ∙ sym (add-suc n j)) ∙ none (suc j) (omega arith) in
    ap (λ (i : ℕ). first_of s i n) (suc-add k m)
    ∙ ap (λ (x : Bool). elim x [ true ↦ Some n | false ↦ first_of s (k + m) (suc n) ]) here
    ∙ first_skip s k m (suc n) later
    ∙ ap (first_of s m) (suc-add n k ∙ sym (add-suc n k))

first_here : (s : Labels) (k n : ℕ) → has s n ≡ true → first_of s (suc k) n ≡ Some n
unfolding first_of
first_here s k n here = ap (λ (x : Bool). elim x [ true ↦ Some n | false ↦ first_of s k (suc n) ]) here

-- what is left of n's word v from n on
abbrev rest_of : ℕ → ℕ → ℕ
rest_of v n = v / 2 ^ (n % 64)

module _ (s : Labels) (n v : ℕ) (e : v ≡ word_of s n) (h : n < 256) where
  rest_digit : (j : ℕ) → n % 64 + j < 64 → has s (n + j) ≡ eqb (digit (rest_of v n) j) 1
  rest_digit j l =
      has_digit s n j l ∙ ap (λ (x : ℕ). eqb (digit x (n % 64 + j)) 1) (sym e) ∙ ap (λ (x : ℕ). eqb x 1) (sym (digit_shift v (n % 64) j))

  -- where nothing is left, the search goes on at the next block
  pub next_skip : rest_of v n ≡ 0 → next_from s (n / 64 * 64 + 64) ≡ next_from s n
  unfolding next_from
  next_skip empty =
      let k : ℕ = 64 - n % 64 in
      let to : n + k ≡ n / 64 * 64 + 64 = omega arith in
      let f : 256 - n ≡ k + (256 - (n + k)) = omega arith in
      let none : (j : ℕ) → j < k → has s (n + j) ≡ false =
      λ j l. rest_digit j (omega arith) ∙ ap (λ (x : ℕ). eqb (digit x j) 1) empty ∙ ap (λ (x : ℕ). eqb (x % 2) 1) (zero-div (2 ^ j)) in
      sym (ap (λ (i : ℕ). first_of s i n) f ∙ first_skip s k (256 - (n + k)) n none ∙ ap (λ (i : ℕ). first_of s (256 - i) i) to)

  -- where something is left, its trailing zeros lead to the label
  module _ (w : Words64 s) (full : rest_of v n ≡ 0 → ⊥) where
    abbrev zeros : ℕ
    zeros = count_trailing_zeros 64 (rest_of v n)

    v_small : v < 2 ^ 64
    v_small = subst⁻¹ (λ (x : ℕ). x < 2 ^ 64) e (word_small s n w)

    zeros_set : digit (rest_of v n) zeros ≡ 1
    zeros_set = trailing_set 64 (rest_of v n) (lt_of_le_of_lt (shr_le v (n % 64)) v_small) full

    pub next_small : n % 64 + zeros < 64
    next_small =
        lt_of_not-le
        (λ l.
        let one : digit v (n % 64 + zeros) ≡ 1 = sym (digit_shift v (n % 64) zeros) ∙ zeros_set in
        let none : digit v (n % 64 + zeros) ≡ 0 = digit_high 64 v (n % 64 + zeros) v_small l in
        omega arith)

    pub next_found : Some (n + zeros) ≡ next_from s n
    unfolding next_from
    next_found =
        let m : ℕ = 255 - (n + zeros) in
        let f : 256 - n ≡ zeros + suc m = omega (arith, next_small) in
        let none : (j : ℕ) → j < zeros → has s (n + j) ≡ false =
        λ j l. rest_digit j (omega (arith, next_small)) ∙ ap (λ (x : ℕ). eqb x 1) (trailing_low 64 (rest_of v n) j l) in
        let here : has s (n + zeros) ≡ true = rest_digit zeros next_small ∙ ap (λ (x : ℕ). eqb x 1) zeros_set in
        sym (ap (λ (i : ℕ). first_of s i n) f ∙ first_skip s zeros (suc m) n none ∙ first_here s m (n + zeros) here)

pub next_end : (s : Labels) (n : ℕ) → 256 ≤ n → None ≡ next_from s n
unfolding next_from first_of
next_end s n h = let e : 0 ≡ 256 - n = omega arith in ap (λ (k : ℕ). first_of s k n) e
