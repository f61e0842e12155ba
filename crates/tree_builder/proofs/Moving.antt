-- The loop that moves bytes up. Assumes nothing.
use mathlib.Core.Path.{◌≡◌, sym, ap, ◌∙◌}
use mathlib.Core.List.{List, [], ◌∷◌}
use Prim.Native.Nat.{ℕ, suc, ◌+◌, ◌-◌, ◌≤◌, ◌<◌}
use native.Mathlib.Omega.{arith}
use Rattle.wire.specs.Bytes.{byte}
use Rattle.wire.specs.Numbers.{high_bytes}
use Rattle.wire.specs.Runs.{bytes_at, over}
use Rattle.wire.proofs.Laws.{run_length, over_none, over_join, byte_outside, one_byte}
use Rattle.tree_builder.proofs.Stores.{over_swap}

-- nothing is moved yet
pub move_none : (m : List ℕ) (to by : ℕ) → m ≡ over m (to + by) (bytes_at m to (to - to))
move_none m to by = sym (over_none m (to + by) (bytes_at m to (to - to)) (omega (arith, run_length m to (to - to))))

-- one byte more, before those that are moved
one_moved : (m : List ℕ) (q n by b : ℕ) {out out' : List ℕ} → out ≡ over m (suc q + by) (bytes_at m (suc q) n) → b ≡ byte out q → b < 256 → out' ≡ over out (q + by) (high_bytes 1 b) → out' ≡ over m (q + by) (bytes_at m q (suc n))
unfolding bytes_at
one_moved m q n by b {out} {out'} is read small put =
    let rest : List ℕ = bytes_at m (suc q) n in
    let same : b ≡ byte m q = read ∙ ap (λ (l : List ℕ). byte l q) is ∙ byte_outside m (suc q + by) rest q (λ l u. omega arith) in
    let place : suc q + by ≡ q + by + 1 = omega arith in
    put ∙ ap (over out (q + by)) (one_byte b small ∙ ap (λ (x : ℕ). x ∷ []) same) ∙ ap (λ (l : List ℕ). over l (q + by) (byte m q ∷ [])) is
    ∙ sym (over_swap m (q + by) (byte m q ∷ []) (suc q + by) rest (omega arith)) ∙ ap (λ (k : ℕ). over (over m (q + by) (byte m q ∷ [])) k rest) place ∙ over_join m (q + by) (byte m q ∷ []) rest

pub move_again : (m : List ℕ) (p to by b : ℕ) {out out' : List ℕ} → 0 < p → p ≤ to → out ≡ over m (p + by) (bytes_at m p (to - p)) → b ≡ byte out (p - 1) → b < 256 → out' ≡ over out (p - 1 + by) (high_bytes 1 b)
    → out' ≡ over m (p - 1 + by) (bytes_at m (p - 1) (to - (p - 1)))
move_again m p to by b left within is read small put =
    let next : p ≡ suc (p - 1) = omega arith in
    let count : suc (to - p) ≡ to - (p - 1) = omega arith in
    one_moved m (p - 1) (to - p) by b (is ∙ ap (λ (i : ℕ). over m (i + by) (bytes_at m i (to - p))) next) read small put ∙ ap (λ (i : ℕ). over m (p - 1 + by) (bytes_at m (p - 1) i)) count

-- all is moved
pub move_done : (m : List ℕ) (p from to by : ℕ) {out : List ℕ} → from ≤ p → p ≤ from → out ≡ over m (p + by) (bytes_at m p (to - p)) → out ≡ over m (from + by) (bytes_at m from (to - from))
move_done m p from to by low high is = let same : p ≡ from = omega arith in is ∙ ap (λ (i : ℕ). over m (i + by) (bytes_at m i (to - i))) same
