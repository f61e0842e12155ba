-- The fields from a place up to an end, `fields_in`: none at the end; before it, the first one and then the fields from its end on. The bound on
-- how many there are, which `fields_up` counts down, does not matter.
use Prim.Native.Nat.{ℕ, zero, suc, ◌+◌, ◌*◌, ◌-◌, ◌<◌, ◌≤◌}
use mathlib.Core.Path.{◌≡◌, refl, ap}
use mathlib.Core.Bool.{Bool, true, false}
use mathlib.Core.List.{List, [], ◌∷◌}
use native.Mathlib.Omega.{arith}
use lib.Dec.{ltb}
use lib.ListN.{length}
use borrow.Author.Tests.{lt-ltb, le-ltb, ltb-true}
use Rattle.wire.specs.Bytes.{pick, end_of, fields_up, fields_in}

-- two bounds that suffice give the same fields
pub bounds_agree : (j k : ℕ) (m : List ℕ) (p e : ℕ) → e - p ≤ j → e - p ≤ k → fields_up j m p e ≡ fields_up k m p e
unfolding fields_up
bounds_agree zero zero m p e a b = refl
bounds_agree zero (suc k) m p e a b = rw (le-ltb p e (omega arith))
bounds_agree (suc j) zero m p e a b = rw (le-ltb p e (omega arith))
bounds_agree (suc j) (suc k) m p e a b = go (λ x y. bounds_agree j k m (end_of m p) e x y) (ltb p e) refl
  where
    go : (e - end_of m p ≤ j → e - end_of m p ≤ k → fields_up j m (end_of m p) e ≡ fields_up k m (end_of m p) e) → (t : Bool) → ltb p e ≡ t → pick t (p ∷ fields_up j m (end_of m p) e) [] ≡ pick t (p ∷ fields_up k m (end_of m p) e) []
    go later true t =
        let before : p < e = ltb-true p e t in
        ap (λ (ps : List ℕ). p ∷ ps) (later (omega arith) (omega arith))
    go later false t = refl

-- any bound that suffices gives the fields
pub any_bound : (k : ℕ) (m : List ℕ) (p e : ℕ) → e - p ≤ k → fields_up k m p e ≡ fields_in m p e
unfolding fields_in
any_bound k m p e a = bounds_agree k (e - p) m p e a (omega arith)

-- at the end there is no field
pub no_fields : (m : List ℕ) (p e : ℕ) → e ≤ p → fields_in m p e ≡ []
unfolding fields_in fields_up
no_fields m p e h = go (e - p)
  where
    go : (k : ℕ) → fields_up k m p e ≡ []
    go zero = refl
    go (suc k) = rw (le-ltb p e h)

-- before the end there is a field, and then those from its end on
pub field_first : (m : List ℕ) (p e : ℕ) → p < e → fields_in m p e ≡ p ∷ fields_in m (end_of m p) e
unfolding fields_in fields_up
field_first m p e h = go (e - p) refl
  where
    go : (k : ℕ) → e - p ≡ k → fields_up k m p e ≡ p ∷ fields_up (e - end_of m p) m (end_of m p) e
    go zero q = absurd (omega arith)
    go (suc k) q = rw (lt-ltb p e h, bounds_agree k (e - end_of m p) m (end_of m p) e (omega arith) (omega arith))

-- each field takes three bytes at least
pub few_fields : (m : List ℕ) (p e : ℕ) → 3 * length (fields_in m p e) ≤ (e - p) + 2
unfolding fields_in fields_up
few_fields m p e = few (e - p) p
  where
    few : (k p : ℕ) → 3 * length (fields_up k m p e) ≤ (e - p) + 2
    few zero p = omega arith
    few (suc k) p = by (λ (q : ℕ). few k q) (ltb p e) refl
      where
        by : ((q : ℕ) → 3 * length (fields_up k m q e) ≤ (e - q) + 2) → (t : Bool) → ltb p e ≡ t → 3 * length (pick t (p ∷ fields_up k m (end_of m p) e) []) ≤ (e - p) + 2
        by later true t =
            let before : p < e = ltb-true p e t in
            omega (arith, later (end_of m p))
        by later false t = omega arith
