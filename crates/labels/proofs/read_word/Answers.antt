-- `read_word`: the word at the loop's head is the number in the bytes from i on.
use mathlib.Core.Path.{◌≡◌, refl, ap, ◌∙◌}
use mathlib.Core.List.{List}
use Prim.Native.Nat.{ℕ, suc, ◌+◌, ◌-◌, ◌*◌, ◌^◌, ◌≤◌, ◌<◌}
use native.Mathlib.Nat.{add-zero, lt_of_lt_of_le, pow-le-pow_right, zero-lt-suc}
use native.Mathlib.Omega.{arith}
use lib.ListN.{get_or}
use Rattle.labels.specs.Bytes.{number_at}
use Rattle.labels.proofs.Laws.{number_lt}
use Rattle.labels.proofs.read_word.Goals as goal

-- one more byte, in the words of the loop
step : (m : List ℕ) (at i : ℕ) → 0 < i → i ≤ 8 → number_at m (at + (i - 1)) (8 - (i - 1)) ≡ number_at m (at + i) (8 - i) * 256 + get_or m (at + (i - 1)) 0
unfolding number_at
step m at i p q =
    let e : 8 - (i - 1) ≡ suc (8 - i) = omega arith in
    let f : suc (at + (i - 1)) ≡ at + i = omega arith in
    ap (number_at m (at + (i - 1))) e ∙ ap (λ (k : ℕ). number_at m k (8 - i) * 256 + get_or m (at + (i - 1)) 0) f

-- seven bytes leave room for one
small : (m : List ℕ) (at i : ℕ) → ((k : ℕ) → get_or m k 0 < 256) → 0 < i → number_at m (at + i) (8 - i) < 256 ^ 7
small m at i b p = let h : 8 - i ≤ 7 = omega arith in lt_of_lt_of_le (number_lt m (at + i) (8 - i) b) (pow-le-pow_right (zero-lt-suc 255) h)

pub loop-i-init : goal.loop-i-init
unfolding number_at
loop-i-init c = (omega arith, refl)

pub overflow_mul-word : goal.overflow_mul-word
overflow_mul-word c =
    let s = c.args in
    omega (arith, small s.b.now s.at c.loop-i.i (λ k. omega (arith, c.shared_slice_known-1.given k)) (omega arith))

pub overflow_add-word : goal.overflow_add-word
overflow_add-word c =
    let s = c.args in
    let given = c.shared_slice_known-1.given in
    let i = c.loop-i.i in
    omega (arith, small s.b.now s.at i (λ k. omega (arith, given k)) (omega arith), given (s.at + (i - 1)))

pub loop-i-preserved : goal.loop-i-preserved
loop-i-preserved c =
    let s = c.args in
    (omega arith, omega (arith, step s.b.now s.at c.loop-i.i (omega arith) (omega arith)))

pub returns : goal.returns
returns c =
    let l = c.loop-i in
    let s = c.args in
    let e : l.i ≡ 0 = omega arith in
    l.invariant.1 ∙ ap (λ (i : ℕ). number_at s.b.now (s.at + i) (8 - i)) e ∙ ap (λ (k : ℕ). number_at s.b.now k 8) (add-zero s.at)
