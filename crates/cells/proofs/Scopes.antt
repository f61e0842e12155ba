-- Scopes and their numbers, and cells by number as cells by scope.
use mathlib.Core.Path.{◌≡◌, refl, sym, ap, ◌∙◌, fun_ext}
use mathlib.Core.Bool.{Bool, true, false, false≢true}
use Prim.Native.Nat.{ℕ, ◌+◌, ◌-◌, ◌≤◌, ◌<◌}
use native.Mathlib.Omega.{arith}
use lib.Dec.{eqb, ltb}
use borrow.Author.Tests.{eqb-true, eqb-false, ltb-true, ltb-false, ne_eqb, lt-ltb, le-ltb}
use Rattle.wire.specs.Bytes.{pick}
use Rattle.rules.specs.State.{Scope, top_scope, node_scope, class_scope, body_scope, same_scope, Cell, no_cell}
use Rattle.rules.proofs.Lists.{scope_same, scope_only}
use Rattle.cells.specs.Scopes.{scope_number, scope_of, numbered}
use Rattle.cells.specs.Memory.{by_scope}

-- what holds in each of the four ranges holds of the scope of a number
pub scope_cases : (P : Scope → Type 0) (a : ℕ) → (a ≡ 0 → P top_scope) → (a ≡ 1 → P node_scope) → (2 ≤ a → a < 1026 → P (class_scope (a - 2)))
    → (1026 ≤ a → P (body_scope (a - 1026))) → P (scope_of a)
unfolding scope_of
scope_cases P a top node class body = go (eqb a 0) refl (eqb a 1) refl (ltb a 1026) refl
  where
    go : (x : Bool) → eqb a 0 ≡ x → (y : Bool) → eqb a 1 ≡ y → (z : Bool) → ltb a 1026 ≡ z → P (pick x top_scope (pick y node_scope (pick z (class_scope (a - 2)) (body_scope (a - 1026)))))
    go true e y f z g = top (eqb-true a 0 e)
    go false e true f z g = node (eqb-true a 1 f)
    go false e false f true g =
        let p : a ≡ 0 → ⊥ = eqb-false a 0 e in
        let q : a ≡ 1 → ⊥ = eqb-false a 1 f in
        class (omega arith) (ltb-true a 1026 g)
    go false e false f false g = body (ltb-false a 1026 g)

pub number_back : (a : ℕ) → scope_number (scope_of a) ≡ a
unfolding scope_number
number_back a = scope_cases (λ s. scope_number s ≡ a) a (λ e. sym e) (λ e. sym e) (λ p q. omega arith) (λ p. omega arith)

pub scope_numbered : (a : ℕ) → numbered (scope_of a) ≡ true
unfolding numbered
scope_numbered a = scope_cases (λ s. numbered s ≡ true) a (λ e. refl) (λ e. refl) (λ p q. lt-ltb (a - 2) 1024 (omega arith)) (λ p. refl)

pub class_scope_lem : (c : ℕ) → c < 1024 → scope_of (2 + c) ≡ class_scope c
unfolding scope_of
class_scope_lem c h =
    let back : 2 + c - 2 ≡ c = omega arith in
    rw (ne_eqb (2 + c) 0 (λ e. omega arith), ne_eqb (2 + c) 1 (λ e. omega arith), lt-ltb (2 + c) 1026 (omega arith), back)

pub body_scope_lem : (n : ℕ) → scope_of (1026 + n) ≡ body_scope n
unfolding scope_of
body_scope_lem n =
    let back : 1026 + n - 1026 ≡ n = omega arith in
    rw (ne_eqb (1026 + n) 0 (λ e. omega arith), ne_eqb (1026 + n) 1 (λ e. omega arith), le-ltb (1026 + n) 1026 (omega arith), back)

pub top_scope_lem : scope_of 0 ≡ top_scope
unfolding scope_of
top_scope_lem = refl

pub node_scope_lem : scope_of 1 ≡ node_scope
unfolding scope_of
node_scope_lem = refl

pub scope_back : (s : Scope) → numbered s ≡ true → scope_of (scope_number s) ≡ s
unfolding scope_number numbered
scope_back top_scope e = top_scope_lem
scope_back node_scope e = node_scope_lem
scope_back (class_scope c) e = class_scope_lem c (ltb-true c 1024 e)
scope_back (body_scope n) e = body_scope_lem n

-- a scope is that of a number if it has that number
pub same_number : (t : Scope) (a : ℕ) → numbered t ≡ true → eqb (scope_number t) a ≡ same_scope t (scope_of a)
same_number t a known = go (eqb (scope_number t) a) refl (same_scope t (scope_of a)) refl
  where
    go : (x : Bool) → eqb (scope_number t) a ≡ x → (y : Bool) → same_scope t (scope_of a) ≡ y → x ≡ y
    go true e y f =
        let back : t ≡ scope_of a = sym (scope_back t known) ∙ ap scope_of (eqb-true (scope_number t) a e) in
        let same : same_scope t (scope_of a) ≡ true = rw (sym back) (scope_same t) in
        sym same ∙ f
    go false e true f = absurd (eqb-false (scope_number t) a e (ap scope_number (scope_only t (scope_of a) f) ∙ number_back a))
    go false e false f = refl

pub no_number : (t : Scope) (a : ℕ) → numbered t ≡ false → same_scope t (scope_of a) ≡ false
no_number t a unknown = go (same_scope t (scope_of a)) refl
  where
    go : (y : Bool) → same_scope t (scope_of a) ≡ y → y ≡ false
    go true f = absurd (false≢true (sym unknown ∙ ap numbered (scope_only t (scope_of a) f) ∙ scope_numbered a))
    go false f = refl

-- ---- Cells

pub cell_at_lem : (c : ℕ → ℕ → Cell) (a n : ℕ) → by_scope c (scope_of a) n ≡ c a n
unfolding by_scope
cell_at_lem c a n = rw (scope_numbered a, number_back a)

-- a change of the cells of one scope
pub by_number : (a : ℕ) (c c' : ℕ → ℕ → Cell) (g : Bool → ℕ → Cell → Cell) → ((m : ℕ) (x : Cell) → g false m x ≡ x) → ((s m : ℕ) → c' s m ≡ g (eqb s a) m (c s m))
    → by_scope c' ≡ λ t m. g (same_scope t (scope_of a)) m (by_scope c t m)
unfolding by_scope
by_number a c c' g keeps change = fun_ext (λ t. fun_ext (λ m. go t m (numbered t) refl))
  where
    go : (t : Scope) (m : ℕ) (b : Bool) → numbered t ≡ b → pick b (c' (scope_number t) m) no_cell ≡ g (same_scope t (scope_of a)) m (pick b (c (scope_number t) m) no_cell)
    go t m true e = change (scope_number t) m ∙ ap (λ (x : Bool). g x m (c (scope_number t) m)) (same_number t a e)
    go t m false e = sym (ap (λ (x : Bool). g x m no_cell) (no_number t a e) ∙ keeps m no_cell)
