-- Decimal digits: how many there are, and that they are what the loops write. Assumes nothing.
use mathlib.Core.Path.{◌≡◌, refl, sym, ap, ◌∙◌}
use mathlib.Core.Bool.{Bool, true, false}
use mathlib.Core.List.{List, [], ◌∷◌, ◌++◌}
use Prim.Native.Nat.{ℕ, zero, suc, ◌+◌, ◌-◌, ◌*◌, ◌/◌, ◌%◌, ◌^◌, ◌≤◌, ◌<◌}
use native.Mathlib.Nat.{pow-suc, zero-add, add-zero, add-suc}
use native.Mathlib.Omega.{arith}
use borrow.Author.Tests.{ltb-true, lt-ltb, le-ltb, le-leb, lt-leb}
use lib.Dec.{ltb}
use lib.IntN.{ℤ, pos, negsuc}
use lib.ListN.{length, drop, set}
use lib.Seq.{sets, sets-eq, set_comm}
use Rattle.values.specs.Decimal.{digits, decimal, signed_decimal, last_digits, wrote, write_text}
use Rattle.values.specs.Integers.{fits64}

-- ---- how many digits

-- as `digits` goes on
unfoldable pub count_from : ℕ → ℕ → ℕ
count_from zero n = 1
count_from (suc k) n = elim (ltb n 10) [ true ↦ 1 | false ↦ suc (count_from k (n / 10)) ]

pub count_end : (k n : ℕ) → n < 10 → count_from k n ≡ 1
unfolding count_from
count_end zero n h = refl
count_end (suc k) n h = ap (λ (t : Bool). elim t [ true ↦ 1 | false ↦ suc (count_from k (n / 10)) ]) (lt-ltb n 10 h)

pub count_more : (k n : ℕ) → 10 ≤ n → count_from (suc k) n ≡ suc (count_from k (n / 10))
unfolding count_from
count_more k n h = ap (λ (t : Bool). elim t [ true ↦ 1 | false ↦ suc (count_from k (n / 10)) ]) (le-ltb n 10 h)

last_digits_lem : (k n : ℕ) (after : List ℕ) → digits k n after ≡ last_digits (count_from k n) n after
unfolding digits last_digits count_from
last_digits_lem zero n after = refl
last_digits_lem (suc k) n after = go (last_digits_lem k (n / 10) ((48 + n % 10) ∷ after)) (ltb n 10) refl
  where
    go : digits k (n / 10) ((48 + n % 10) ∷ after) ≡ last_digits (count_from k (n / 10)) (n / 10) ((48 + n % 10) ∷ after) → (t : Bool) → ltb n 10 ≡ t → elim t [ true ↦ (48 + n) ∷ after | false ↦ digits k (n / 10) ((48 + n % 10) ∷ after) ] ≡ last_digits (elim t [ true ↦ 1 | false ↦ suc (count_from k (n / 10)) ]) n after
    go rest true e = let h : n ≡ n % 10 = omega (arith, ltb-true n 10 e) in ap (λ (d : ℕ). (48 + d) ∷ after) h
    go rest false e = rest

length_last : (k n : ℕ) (after : List ℕ) → length (last_digits k n after) ≡ k + length after
unfolding last_digits
length_last zero n after = omega arith
length_last (suc k) n after = length_last k (n / 10) ((48 + n % 10) ∷ after) ∙ omega arith

pub count_length : (n : ℕ) → count_from 20 n ≡ length (decimal n)
unfolding decimal
count_length n = sym (ap length (last_digits_lem 20 n []) ∙ length_last (count_from 20 n) n [] ∙ omega arith)

pub last_decimal : (k n : ℕ) → k ≡ length (decimal n) → last_digits k n [] ≡ decimal n
unfolding decimal
last_decimal k n e = ap (λ (j : ℕ). last_digits j n []) (e ∙ sym (count_length n)) ∙ sym (last_digits_lem 20 n [])

count_small : (k f n : ℕ) → n < 10 ^ suc k → count_from f n ≤ suc k
unfolding count_from
count_small k zero n h = omega arith
count_small zero (suc f) n h = omega (arith, count_end (suc f) n h)
count_small (suc k) (suc f) n h = go (λ l. count_small k f (n / 10) l) (ltb n 10)
  where
    go : (n / 10 < 10 ^ suc k → count_from f (n / 10) ≤ suc k) → (t : Bool) → elim t [ true ↦ 1 | false ↦ suc (count_from f (n / 10)) ] ≤ suc (suc k)
    go rest true = omega arith
    go rest false = let e : 10 ^ suc (suc k) ≡ 10 ^ suc k * 10 = pow-suc 10 (suc k) in let l : count_from f (n / 10) ≤ suc k = rest (omega arith) in omega arith

-- 20 bytes hold the text of any number and any integer of 64 bits
pub decimal_short : (n : ℕ) → n < 2 ^ 64 → length (decimal n) ≤ 20
decimal_short n h = omega (arith, count_length n, count_small 19 20 n (omega arith))

pub signed_short : (z : ℤ) → fits64 z ≡ true → length (signed_decimal z) ≤ 20
unfolding fits64 signed_decimal
signed_short (pos n) e = decimal_short n (omega (arith, ltb-true n 9223372036854775808 e))
signed_short (negsuc n) e = omega (arith, count_length (suc n), count_small 18 20 (suc n) (omega (arith, ltb-true n 9223372036854775808 e)))

-- one digit more, in the words of the loop
pub count_turn : (n count rest : ℕ) → 1 ≤ count → count ≤ 20 → rest < 10 ^ (21 - count) → count_from (21 - count) rest + count ≡ count_from 20 n + 1 → 10 ≤ rest
    → (1 ≤ count + 1) × (count + 1 ≤ 20) × (rest / 10 < 10 ^ (21 - (count + 1))) × (count_from (21 - (count + 1)) (rest / 10) + (count + 1) ≡ count_from 20 n + 1)
count_turn n count rest l u small all h = go (20 - count) (omega arith)
  where
    go : (k : ℕ) → 20 - count ≡ k → (1 ≤ count + 1) × (count + 1 ≤ 20) × (rest / 10 < 10 ^ (21 - (count + 1))) × (count_from (21 - (count + 1)) (rest / 10) + (count + 1) ≡ count_from 20 n + 1)
    go k e =
        let f : 21 - (count + 1) ≡ k = omega arith in
        let g : 21 - count ≡ suc k = omega arith in
        let p : 10 ^ (21 - count) ≡ 10 ^ k * 10 = ap (λ (j : ℕ). 10 ^ j) g ∙ pow-suc 10 k in
        let q : 10 ^ (21 - (count + 1)) ≡ 10 ^ k = ap (λ (j : ℕ). 10 ^ j) f in
        let r : count_from (21 - count) rest ≡ suc (count_from k (rest / 10)) = ap (λ (j : ℕ). count_from j rest) g ∙ count_more k rest h in
        let s : count_from (21 - (count + 1)) (rest / 10) ≡ count_from k (rest / 10) = ap (λ (j : ℕ). count_from j (rest / 10)) f in
        (omega arith, room k e p, omega arith, omega arith)
      where
        room : (k : ℕ) → 20 - count ≡ k → 10 ^ (21 - count) ≡ 10 ^ k * 10 → count + 1 ≤ 20
        room zero e p = absurd (omega arith)
        room (suc k) e p = omega arith

-- ---- the digits from the last to the first, into a list

unfoldable pub store_digits : ℕ → ℕ → ℕ → List ℕ → List ℕ
store_digits at zero n m = m
store_digits at (suc k) n m = store_digits at k (n / 10) (set m (at + k) (48 + n % 10))

-- a store past them can come first or last
store_past : (at k n : ℕ) (m : List ℕ) (i v : ℕ) → at + k ≤ i → set (store_digits at k n m) i v ≡ store_digits at k n (set m i v)
unfolding store_digits
store_past at zero n m i v h = refl
store_past at (suc k) n m i v h =
    store_past at k (n / 10) (set m (at + k) (48 + n % 10)) i v (omega arith)
    ∙ ap (store_digits at k (n / 10)) (set_comm m (at + k) i (48 + n % 10) v (λ e. omega arith))

store_before : (at k n : ℕ) (m after : List ℕ) → sets (store_digits at k n m) (at + k) after ≡ sets m at (last_digits k n after)
unfolding store_digits last_digits
store_before at zero n m after = ap (λ (i : ℕ). sets m i after) (add-zero at)
store_before at (suc k) n m after =
    ap (λ (l : List ℕ). sets l (at + suc k) after) (sym (store_past at k (n / 10) m (at + k) (48 + n % 10) (omega arith)))
    ∙ ap (λ (i : ℕ). sets (set (store_digits at k (n / 10) m) (at + k) (48 + n % 10)) i after) (add-suc at k)
    ∙ store_before at k (n / 10) m ((48 + n % 10) ∷ after)

pub store_sets : (at k n : ℕ) (m : List ℕ) → store_digits at k n m ≡ sets m at (last_digits k n [])
store_sets at k n m = store_before at k n m []

-- one store, in the words of the loop
pub store_turn : (at i rest : ℕ) (m : List ℕ) → 0 < i → store_digits at (i - 1) (rest / 10) (set m (at + (i - 1)) (48 + rest % 10)) ≡ store_digits at i rest m
unfolding store_digits
store_turn at i rest m h = let e : suc (i - 1) ≡ i = omega arith in ap (λ (k : ℕ). store_digits at k rest m) e

pub store_done : (at k rest : ℕ) (m : List ℕ) → k ≤ 0 → m ≡ store_digits at k rest m
unfolding store_digits
store_done at k rest m h = let e : 0 ≡ k = omega arith in ap (λ (j : ℕ). store_digits at j rest m) e

-- ---- a text at the start of a buffer

pub text_fits : (t m : List ℕ) → length t ≤ length m → wrote (length t) (t ++ drop (length t) m) ≡ write_text t m
unfolding write_text
text_fits t m h = ap (λ (b : Bool). elim b [ true ↦ wrote (length t) (t ++ drop (length t) m) | false ↦ wrote 0 m ]) (sym (le-leb (length t) (length m) h))

pub text_long : (t m : List ℕ) → length m < length t → wrote 0 m ≡ write_text t m
unfolding write_text
text_long t m h = ap (λ (b : Bool). elim b [ true ↦ wrote (length t) (t ++ drop (length t) m) | false ↦ wrote 0 m ]) (sym (lt-leb (length t) (length m) h))

sets_start : (t m : List ℕ) → length t ≤ length m → sets m 0 t ≡ t ++ drop (length t) m
sets_start t m h = sets-eq t m 0 (omega arith) ∙ ap (λ (i : ℕ). t ++ drop i m) (zero-add (length t))

-- a text that is stored from the start on
pub text_stored : (t m last : List ℕ) (k : ℕ) → k ≡ length t → k ≤ length m → last ≡ sets m 0 t → wrote k last ≡ write_text t m
text_stored t m last k e h l =
    let f : length t ≤ length m = omega arith in
    ap (λ (j : ℕ). wrote j last) e ∙ ap (wrote (length t)) (l ∙ sets_start t m f) ∙ text_fits t m f
