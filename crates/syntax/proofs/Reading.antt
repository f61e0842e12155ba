-- The fields in reading order, `places_in`, and one law for each way through `check_names`.
use mathlib.Core.Path.{◌≡◌, refl, ap}
use mathlib.Core.Bool.{Bool, true, false}
use mathlib.Core.List.{List, [], ◌∷◌}
use Prim.Native.Nat.{ℕ, zero, suc, ◌+◌, ◌-◌, ◌<◌, ◌≤◌}
use native.Mathlib.Omega.{arith}
use lib.Dec.{ltb}
use borrow.Author.Tests.{lt-ltb, le-ltb, ltb-true}
use Rattle.values.specs.declared.Reason.TheVariants.{StringOrder}
use Rattle.rules.specs.Bytes.{pick, byte, two}
use Rattle.rules.specs.Format.{form_of, head_size, names_right}
use Rattle.rules.specs.Check.{stride, next_in_order, places_up, places_in, names_known}
use Rattle.rules.specs.Verdicts.{Verdict, fault_at, no_fault}

-- two bounds that suffice give the same places
bounds_agree : (j k : ℕ) (m : List ℕ) (p e : ℕ) → e - p ≤ j → e - p ≤ k → places_up j m p e ≡ places_up k m p e
unfolding places_up
bounds_agree zero zero m p e a b = refl
bounds_agree zero (suc k) m p e a b = rw (le-ltb p e (omega arith))
bounds_agree (suc j) zero m p e a b = rw (le-ltb p e (omega arith))
bounds_agree (suc j) (suc k) m p e a b = go (λ x y. bounds_agree j k m (next_in_order m p) e x y) (ltb p e) refl
  where
    go : (e - next_in_order m p ≤ j → e - next_in_order m p ≤ k → places_up j m (next_in_order m p) e ≡ places_up k m (next_in_order m p) e) → (t : Bool) → ltb p e ≡ t → pick t (p ∷ places_up j m (next_in_order m p) e) [] ≡ pick t (p ∷ places_up k m (next_in_order m p) e) []
    go later true h =
        let l : p < e = ltb-true p e h in
        ap (λ (ps : List ℕ). p ∷ ps) (later (omega arith) (omega arith))
    go later false h = refl

-- at the end there is no field
pub no_places : (m : List ℕ) (p e : ℕ) → e ≤ p → places_in m p e ≡ []
unfolding places_in places_up
no_places m p e h = go (e - p) refl
  where
    go : (k : ℕ) → e - p ≡ k → places_up k m p e ≡ []
    go zero q = refl
    go (suc k) q = rw (le-ltb p e h)

-- before the end there is a field, and then those from the next one on
pub place_first : (m : List ℕ) (p e : ℕ) → p < e → places_in m p e ≡ p ∷ places_in m (next_in_order m p) e
unfolding places_in places_up
place_first m p e h = go (e - p) refl
  where
    go : (k : ℕ) → e - p ≡ k → places_up k m p e ≡ p ∷ places_up (e - next_in_order m p) m (next_in_order m p) e
    go zero q = absurd (omega arith)
    go (suc k) q =
        rw (lt-ltb p e h, bounds_agree k (e - next_in_order m p) m (next_in_order m p) e (omega arith) (omega arith))

-- the walk
module _ (m : List ℕ) (n p e : ℕ) where
  module _ {t : ℕ} {b : Bool} (l : p < e) (et : t ≡ byte m p) (eb : b ≡ names_right m n p (form_of t)) where
    named : names_known m n (places_in m p e) ≡ pick b (names_known m n (places_in m (next_in_order m p) e)) (fault_at StringOrder p)
    unfolding names_known
    named = rw (place_first m p e l, eb, et)

    pub next_names : {k w : ℕ} {whole : Verdict} → b ≡ true → k ≡ two m (p + 1) → w ≡ stride (form_of t).rest (head_size (form_of t)) k → names_known m n (places_in m p e) ≡ whole → names_known m n (places_in m (p + 3 + w) e) ≡ whole
    next_names hb ek ew inv = rw (ew, ek, et) (rw (named, hb) at inv)

    pub name_past : {whole : Verdict} → b ≡ false → names_known m n (places_in m p e) ≡ whole → fault_at StringOrder p ≡ whole
    name_past h inv = rw (named, h) at inv

  pub names_end : {whole : Verdict} → e ≤ p → names_known m n (places_in m p e) ≡ whole → no_fault ≡ whole
  unfolding names_known
  names_end h inv = rw (no_places m p e h) at inv
