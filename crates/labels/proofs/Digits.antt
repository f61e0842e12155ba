-- The binary digits of a number, by division: what the laws of label sets rest on. Assumes nothing.
use mathlib.Core.Path.{◌≡◌, refl, sym, ap, ◌∙◌}
use Prim.Native.Nat.{ℕ, zero, suc, ◌+◌, ◌*◌, ◌/◌, ◌%◌, ◌^◌, ◌≤◌, ◌<◌}
use native.Mathlib.Nat.{div-one, zero-div, div-eq_of_lt, lt_of_lt_of_le, pow-suc, zero-lt-suc, mul-div_cancel, mul-mod_left}
use native.Mathlib.Numerals.{one-add}
use native.Mathlib.Omega.{arith}
use lib.Arith.{lt-one}
use lib.Count.{ones, count_trailing_zeros, under, ones_step}
use lib.Dec.{eqb, eqb-zero-suc, eqb-suc-zero, eqb-suc-suc}
use lib.Pow.{pow_mono, shr-shr}

-- digit j of w, the lowest being digit 0
abbrev pub digit : ℕ → ℕ → ℕ
digit w j = w / 2 ^ j % 2

pub digit_zero : (w : ℕ) → digit w 0 ≡ w % 2
digit_zero w = ap (λ (x : ℕ). x % 2) (div-one w)

pub digit_suc : (w j : ℕ) → digit w (suc j) ≡ digit (w / 2) j
digit_suc w j = ap (λ (x : ℕ). x % 2) (sym (shr-shr w 1 j ∙ ap (λ (i : ℕ). w / 2 ^ i) (one-add j)))

pub digit_shift : (w i j : ℕ) → digit (w / 2 ^ i) j ≡ digit w (i + j)
digit_shift w i j = ap (λ (x : ℕ). x % 2) (shr-shr w i j)

pub digit_high : (k w j : ℕ) → w < 2 ^ k → k ≤ j → digit w j ≡ 0
digit_high k w j h l = ap (λ (x : ℕ). x % 2) (div-eq_of_lt (lt_of_lt_of_le h (pow_mono l)))

half_lt : (k w : ℕ) → w < 2 ^ suc k → w / 2 < 2 ^ k
half_lt k w h = let e : 2 ^ suc k ≡ 2 ^ k * 2 = pow-suc 2 k in omega arith

-- a number of k digits is known by them
pub same_digits : (k x y : ℕ) → x < 2 ^ k → y < 2 ^ k → ((j : ℕ) → j < k → digit x j ≡ digit y j) → x ≡ y
same_digits zero x y p q same = lt-one p ∙ sym (lt-one q)
same_digits (suc k) x y p q same =
    let low : x % 2 ≡ y % 2 = sym (digit_zero x) ∙ same 0 (omega arith) ∙ digit_zero y in
    let high : x / 2 ≡ y / 2 =
    same_digits k (x / 2) (y / 2) (half_lt k x p) (half_lt k y q) (λ j h. sym (digit_suc x j) ∙ same (suc j) (omega arith) ∙ digit_suc y j) in
    omega arith

-- a power of two has one digit set
pub digit_pow : (i j : ℕ) → eqb (digit (2 ^ i) j) 1 ≡ eqb j i
digit_pow zero zero = refl
digit_pow zero (suc j) = ap (λ (x : ℕ). eqb x 1) (digit_suc 1 j ∙ ap (λ (x : ℕ). x % 2) (zero-div (2 ^ j))) ∙ sym (eqb-suc-zero j)
digit_pow (suc i) zero =
    ap (λ (x : ℕ). eqb x 1) (digit_zero (2 ^ suc i) ∙ ap (λ (x : ℕ). x % 2) (pow-suc 2 i) ∙ mul-mod_left (2 ^ i) 2) ∙ sym (eqb-zero-suc i)
digit_pow (suc i) (suc j) =
    let half : 2 ^ suc i / 2 ≡ 2 ^ i = ap (λ (x : ℕ). x / 2) (pow-suc 2 i) ∙ mul-div_cancel (2 ^ i) (zero-lt-suc 1) in
    ap (λ (x : ℕ). eqb x 1) (digit_suc (2 ^ suc i) j ∙ ap (λ (x : ℕ). digit x j) half) ∙ digit_pow i j ∙ sym (eqb-suc-suc j i)

-- f 0 + .. + f (n - 1)
unfoldable pub sum_below : (ℕ → ℕ) → ℕ → ℕ
sum_below f zero = 0
sum_below f (suc n) = sum_below f n + f n

pub sum_same : (f g : ℕ → ℕ) (n : ℕ) → ((j : ℕ) → j < n → f j ≡ g j) → sum_below f n ≡ sum_below g n
unfolding sum_below
sum_same f g zero same = refl
sum_same f g (suc n) same = omega (arith, sum_same f g n (λ j h. same j (omega arith)), same n (omega arith))

sum_front : (f : ℕ → ℕ) (n : ℕ) → sum_below f (suc n) ≡ f 0 + sum_below (λ j. f (suc j)) n
unfolding sum_below
sum_front f zero = omega arith
sum_front f (suc n) = omega (arith, sum_front f n)

-- the count of ones is the sum of the digits
pub ones_digits : (k w : ℕ) → w < 2 ^ k → ones w ≡ sum_below (digit w) k
unfolding sum_below ones
ones_digits zero w h = ap ones (lt-one h)
ones_digits (suc k) w h =
    ones_step w ∙ ap (λ (x : ℕ). w % 2 + x) (ones_digits k (w / 2) (half_lt k w h) ∙ sum_same _ _ k (λ j _. sym (digit_suc w j)))
    ∙ ap (λ (x : ℕ). x + sum_below (λ j. digit w (suc j)) k) (sym (digit_zero w))
    ∙ sym (sum_front (digit w) k)

-- below the trailing zeros' count every digit is 0, and the digit there is set
pub trailing_low : (k w j : ℕ) → j < count_trailing_zeros k w → digit w j ≡ 0
unfolding count_trailing_zeros
trailing_low zero w j h = absurd (omega arith)
trailing_low (suc k) w j h = go (λ i p. trailing_low k (w / 2) i p) (w % 2) refl j h
  where
    go : ((i : ℕ) → i < count_trailing_zeros k (w / 2) → digit (w / 2) i ≡ 0) → (d : ℕ) → w % 2 ≡ d → (j : ℕ) → j < under d (count_trailing_zeros k (w / 2)) → digit w j ≡ 0
    go rest zero e zero h = digit_zero w ∙ e
    go rest zero e (suc j) h = digit_suc w j ∙ rest j (omega arith)
    go rest (suc d) e j h = absurd (omega arith)

pub trailing_set : (k w : ℕ) → w < 2 ^ k → (w ≡ 0 → ⊥) → digit w (count_trailing_zeros k w) ≡ 1
unfolding count_trailing_zeros
trailing_set zero w h n = absurd (n (lt-one h))
trailing_set (suc k) w h n = go (λ m. trailing_set k (w / 2) (half_lt k w h) m) (w % 2) refl
  where
    go : ((w / 2 ≡ 0 → ⊥) → digit (w / 2) (count_trailing_zeros k (w / 2)) ≡ 1) → (d : ℕ) → w % 2 ≡ d → digit w (under d (count_trailing_zeros k (w / 2))) ≡ 1
    go rest zero e = digit_suc w (count_trailing_zeros k (w / 2)) ∙ rest (λ z. n (omega arith))
    go rest (suc d) e = digit_zero w ∙ omega arith
