-- The rule of a table that a `match` makes of tags: one computed test over a range of tags says what holds at each tag that has no arm of its own.
use mathlib.Core.Path.{◌≡◌, refl, sym, subst}
use mathlib.Core.Bool.{Bool, true, false, ◌&&◌, ◌||◌}
use mathlib.Core.List.{List, [], ◌∷◌}
use Prim.Native.Nat.{ℕ, zero, suc, ◌+◌, ◌<◌, ◌≤◌}
use native.Mathlib.Omega.{arith}
use lib.Dec.{eqb}
use borrow.Author.Tests.{ne_eqb, eqb-true, eqb-false}
use Rattle.rules.proofs.Listed.{both_left, both_right}

-- t is none of the keys, the last one first, as a `match` tells it
abbrev pub unlike : ℕ → List ℕ → Type 0
unlike t [] = Unit {0}
unlike t (k ∷ ks) = unlike t ks × (t ≡ k → ⊥)

abbrev member : ℕ → List ℕ → Bool
member t [] = false
member t (k ∷ ks) = eqb t k || member t ks

-- each of n tags from lo on is a key or passes the test
abbrev pub along : (ℕ → Bool) → List ℕ → (n lo : ℕ) → Bool
along f ks zero lo = true
along f ks (suc n) lo = (member lo ks || f lo) && along f ks n (suc lo)

no_member : (t : ℕ) (ks : List ℕ) → unlike t ks → member t ks ≡ false
no_member t [] u = refl
no_member t (k ∷ ks) u = rw (ne_eqb t k u.1) (no_member t ks u.0)

pub elsewhere : (f : ℕ → Bool) (ks : List ℕ) (n lo : ℕ) → along f ks n lo ≡ true → (t : ℕ) → lo ≤ t → t < lo + n → unlike t ks → f t ≡ true
elsewhere f ks zero lo h t a b u = absurd (omega arith)
elsewhere f ks (suc n) lo h t a b u = go (elsewhere f ks n (suc lo) (both_right (member lo ks || f lo) (along f ks n (suc lo)) h) t) (eqb t lo) refl
  where
    go : (suc lo ≤ t → t < suc lo + n → unlike t ks → f t ≡ true) → (e : Bool) → eqb t lo ≡ e → f t ≡ true
    go later true e = let same : t ≡ lo = eqb-true t lo e in subst (λ (x : ℕ). f x ≡ true) (sym same) (rw (no_member lo ks (subst (λ (x : ℕ). unlike x ks) same u)) at (both_left (member lo ks || f lo) (along f ks n (suc lo)) h))
    go later false e = let other = eqb-false t lo e in later (omega arith) (omega arith) u
