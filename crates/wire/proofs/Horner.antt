-- Eight bytes read one by one as a number: what a loop over them keeps.
use mathlib.Core.List.{List}
use mathlib.Core.Path.{◌≡◌, refl, ap, ◌∙◌}
use Prim.Native.Nat.{ℕ, zero, suc, ◌+◌, ◌*◌, ◌-◌, ◌^◌, ◌≤◌, ◌<◌}
use native.Mathlib.Nat.{lt_of_lt_of_le, pow-le-pow_right, pow-suc, zero-lt-suc}
use native.Mathlib.Numerals.{add-one}
use native.Mathlib.Omega.{arith}
use lib.Arith.{digits_lt}
use lib.ListN.{drop}
use Rattle.wire.specs.Bytes.{byte}
use Rattle.wire.specs.Numbers.{number}
use Rattle.wire.specs.Runs.{bytes_at}
use Rattle.wire.proofs.Laws.{same_rest}

-- seven bytes leave room for one
pub room : (n k : ℕ) → n < 256 ^ (8 - k) → 0 < k → n < 256 ^ 7
room n k h some = let most : 8 - k ≤ 7 = omega arith in lt_of_lt_of_le h (pow-le-pow_right (zero-lt-suc 255) most)

pub one_more : (n b k : ℕ) → n < 256 ^ (8 - k) → 0 < k → k ≤ 8 → b < 256 → n * 256 + b < 256 ^ (8 - (k - 1))
one_more n b k h some most small =
    let more : 8 - (k - 1) ≡ suc (8 - k) = omega arith in
    rw (more, pow-suc) (digits_lt h small)

-- one byte, in the words of the loop
pub step : (m : List ℕ) (p q k n b : ℕ) → 0 < k → drop q m ≡ drop (p + 1) m → b ≡ byte m p → number (bytes_at m q (k - 1)) (n * 256 + b) ≡ number (bytes_at m p k) n
unfolding number bytes_at
step m p q zero n b some same e = absurd (omega arith)
step m p q (suc k) n b some same e =
    let less : suc k - 1 ≡ k = omega arith in
    ap (λ (j : ℕ). number (bytes_at m q j) (n * 256 + b)) less
    ∙ ap (λ (bs : List ℕ). number bs (n * 256 + b)) (same_rest m m q (p + 1) same k ∙ ap (λ (r : ℕ). bytes_at m r k) (add-one p))
    ∙ ap (λ (x : ℕ). number (bytes_at m (suc p) k) (n * 256 + x)) e

pub done : (m : List ℕ) (p k n : ℕ) → k ≤ 0 → n ≡ number (bytes_at m p k) n
unfolding number bytes_at
done m p zero n h = refl
done m p (suc k) n h = absurd (omega arith)
