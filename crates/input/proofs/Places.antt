-- Where a byte stands in a text. Assumes nothing.
use Prim.Native.Nat.{ℕ, suc, ◌+◌, ◌≤◌}
use mathlib.Core.Path.{◌≡◌, refl, ap}
use mathlib.Core.Bool.{Bool, true, false}
use mathlib.Core.List.{List, [], ◌∷◌}
use native.Mathlib.Omega.{arith}
use borrow.Author.Tests.{eq-eqb, ne_eqb}
use lib.Dec.{eqb}
use lib.ListN.{length}
use Rattle.wire.specs.Bytes.{pick}
use Rattle.rules.specs.Schedule.{before_feed}
use Rattle.input.specs.Places.{place_of}

module _ (b : ℕ) where
  pub place_here : (x : ℕ) (xs : List ℕ) → x ≡ b → place_of b (x ∷ xs) ≡ 0
  unfolding place_of
  place_here x xs e = rw (eq-eqb x b e) refl

  pub place_later : (x : ℕ) (xs : List ℕ) → (x ≡ b → ⊥) → place_of b (x ∷ xs) ≡ place_of b xs + 1
  unfolding place_of
  place_later x xs n = rw (ne_eqb x b n) (omega arith)

  pub place_within : (xs : List ℕ) → place_of b xs ≤ length xs
  unfolding place_of
  place_within [] = omega arith
  place_within (x ∷ xs) = go (eqb x b) (place_within xs)
    where
      go : (t : Bool) → place_of b xs ≤ length xs → pick t 0 (suc (place_of b xs)) ≤ length (x ∷ xs)
      go true w = omega arith
      go false w = omega arith

-- before the line feed are as many bytes as its place says
pub feed_place : (xs : List ℕ) → place_of 10 xs ≡ length (before_feed xs)
unfolding place_of before_feed
feed_place [] = refl
feed_place (x ∷ xs) = go (eqb x 10) (feed_place xs)
  where
    go : (t : Bool) → place_of 10 xs ≡ length (before_feed xs) → pick t 0 (suc (place_of 10 xs)) ≡ length {A = ℕ} (elim t [ true ↦ [] | false ↦ x ∷ before_feed xs ])
    go true e = refl
    go false e = ap suc e
