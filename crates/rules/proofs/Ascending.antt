-- The order of strings: it is strict, and of two strings that differ one comes first.
use Prim.Native.Nat.{ℕ, zero, suc, ◌+◌, ◌-◌, ◌<◌}
use mathlib.Core.Path.{◌≡◌, refl, sym, ap, ap₂, ◌∙◌}
use mathlib.Core.Bool.{Bool, true, false, ◌&&◌}
use mathlib.Core.List.{List, [], ◌∷◌}
use mathlib.Core.Logic.{◌⊎◌, inl, inr}
use native.Mathlib.Omega.{arith}
use lib.Dec.{ltb, eqb}
use borrow.Author.Tests.{ltb-true, ltb-false, lt-ltb, le-ltb, eq-eqb, ne_eqb}
use Rattle.rules.specs.Bytes.{pick}
use Rattle.rules.specs.Check.{ascends}
use Rattle.rules.specs.Compile.{same_bytes}
use Rattle.rules.proofs.Within.{false_not_true}

-- the first bytes decide, or they are the same and what follows decides
decided : (a b : ℕ) (x y : List ℕ) → ascends (a ∷ x) (b ∷ y) ≡ true → (a < b) ⊎ ((a ≡ b) × (ascends x y ≡ true))
unfolding ascends
decided a b x y e = go (ltb a b) refl (ltb b a) refl e
  where
    go : (p : Bool) → ltb a b ≡ p → (q : Bool) → ltb b a ≡ q → pick p true (pick q false (ascends x y)) ≡ true → (a < b) ⊎ ((a ≡ b) × (ascends x y ≡ true))
    go true i q j e = inl (ltb-true a b i)
    go false i true j e = false_not_true e
    go false i false j e =
        let low = ltb-false a b i in
        let high = ltb-false b a j in
        inr (omega arith, e)

by_first : (a b : ℕ) (x y : List ℕ) → a < b → ascends (a ∷ x) (b ∷ y) ≡ true
unfolding ascends
by_first a b x y l = rw (lt-ltb a b l)

by_others : (a b : ℕ) (x y : List ℕ) → a ≡ b → ascends x y ≡ true → ascends (a ∷ x) (b ∷ y) ≡ true
unfolding ascends
by_others a b x y same e = rw (le-ltb a b (omega arith), le-ltb b a (omega arith), e)

-- a string before one that comes before a third comes before that
pub before_both : (x y z : List ℕ) → ascends x y ≡ true → ascends y z ≡ true → ascends x z ≡ true
unfolding ascends
before_both x [] [] e f = false_not_true f
before_both x (b ∷ y) [] e f = false_not_true f
before_both [] y (c ∷ z) e f = refl
before_both (a ∷ x) [] (c ∷ z) e f = false_not_true e
before_both (a ∷ x) (b ∷ y) (c ∷ z) e f = go (decided a b x y e) (decided b c y z f) (λ i j. before_both x y z i j)
  where
    go : (a < b) ⊎ ((a ≡ b) × (ascends x y ≡ true)) → (b < c) ⊎ ((b ≡ c) × (ascends y z ≡ true)) → (ascends x y ≡ true → ascends y z ≡ true → ascends x z ≡ true) → ascends (a ∷ x) (c ∷ z) ≡ true
    go (inl l) (inl m) others = by_first a c x z (omega arith)
    go (inl l) (inr m) others = by_first a c x z (omega (arith, m.0))
    go (inr l) (inl m) others = by_first a c x z (omega (arith, l.0))
    go (inr l) (inr m) others = by_others a c x z (l.0 ∙ m.0) (others l.1 m.1)

-- no string comes before itself
pub not_itself : (x : List ℕ) → ascends x x ≡ false
unfolding ascends
not_itself [] = refl
not_itself (a ∷ x) = rw (le-ltb a a (omega arith)) (not_itself x)

-- nor before one that comes before it
pub not_back : (x y : List ℕ) → ascends x y ≡ true → ascends y x ≡ false
not_back x y e = go (ascends y x) refl
  where
    go : (b : Bool) → ascends y x ≡ b → ascends y x ≡ false
    go true i = false_not_true (sym (not_itself x) ∙ before_both x y x e i)
    go false i = i

-- of two strings that differ, one comes first
pub neither_first : (x y : List ℕ) → ascends x y ≡ false → ascends y x ≡ false → x ≡ y
unfolding ascends
neither_first [] [] e f = refl
neither_first [] (b ∷ y) e f = false_not_true (sym e)
neither_first (a ∷ x) [] e f = false_not_true (sym f)
neither_first (a ∷ x) (b ∷ y) e f = go (ltb a b) refl (ltb b a) refl (λ i j. neither_first x y i j) e f
  where
    go : (p : Bool) → ltb a b ≡ p → (q : Bool) → ltb b a ≡ q → (ascends x y ≡ false → ascends y x ≡ false → x ≡ y) → pick p true (pick q false (ascends x y)) ≡ false → pick q true (pick p false (ascends y x)) ≡ false → ◌≡◌ {A = List ℕ} (a ∷ x) (b ∷ y)
    go true i q j others e f = false_not_true (sym e)
    go false i true j others e f = false_not_true (sym f)
    go false i false j others e f =
        let low = ltb-false a b i in
        let high = ltb-false b a j in
        let same : a ≡ b = omega arith in
        ap₂ ◌∷◌ same (others e f)

-- a string that comes first has other bytes
pub other_bytes : (x y : List ℕ) → ascends x y ≡ true → same_bytes y x ≡ false
unfolding ascends same_bytes
other_bytes [] [] e = false_not_true e
other_bytes [] (b ∷ y) e = refl
other_bytes (a ∷ x) [] e = refl
other_bytes (a ∷ x) (b ∷ y) e = go (decided a b x y e) (λ i. other_bytes x y i)
  where
    go : (a < b) ⊎ ((a ≡ b) × (ascends x y ≡ true)) → (ascends x y ≡ true → same_bytes y x ≡ false) → (eqb b a && same_bytes y x) ≡ false
    go (inl l) others = rw (ne_eqb b a (λ e. omega arith))
    go (inr l) others = rw (eq-eqb b a (sym l.0), others l.1)

-- a string has its own bytes
pub own_bytes : (x : List ℕ) → same_bytes x x ≡ true
unfolding same_bytes
own_bytes [] = refl
own_bytes (a ∷ x) = rw (eq-eqb a a refl, own_bytes x)

-- strings each of which comes before the next come before all behind them
far_rises : (f : ℕ → List ℕ) (n : ℕ) → ((i : ℕ) → i + 1 < n → ascends (f i) (f (suc i)) ≡ true) → (i d : ℕ) → i + d + 1 < n → ascends (f i) (f (suc (i + d))) ≡ true
far_rises f n next i zero l = let same : i + 0 ≡ i = omega arith in rw same (next i (omega arith))
far_rises f n next i (suc d) l =
    let same : i + suc d ≡ suc (i + d) = omega arith in
    rw same (before_both (f i) (f (suc (i + d))) (f (suc (suc (i + d)))) (far_rises f n next i d (omega arith)) (next (suc (i + d)) (omega arith)))

pub all_rise : (f : ℕ → List ℕ) (n : ℕ) → ((i : ℕ) → i + 1 < n → ascends (f i) (f (suc i)) ≡ true) → (i j : ℕ) → i < j → j < n → ascends (f i) (f j) ≡ true
all_rise f n next i j l h =
    let place : suc (i + (j - suc i)) ≡ j = omega arith in
    ap (λ (k : ℕ). ascends (f i) (f k)) (sym place) ∙ far_rises f n next i (j - suc i) (omega arith)
