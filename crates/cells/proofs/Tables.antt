-- Laws of entries by number: a store at one of them.
use mathlib.Core.Path.{◌≡◌, refl, ap, fun_ext}
use mathlib.Core.Bool.{Bool, true, false}
use Prim.Native.Nat.{ℕ, ◌<◌, ◌≤◌}
use native.Mathlib.Omega.{arith}
use lib.Dec.{eqb, ltb}
use borrow.Author.Tests.{eqb-true, eqb-false, eq-eqb, ne_eqb, ltb-true, ltb-false, lt-ltb}
use Rattle.wire.specs.Bytes.{pick}
use Rattle.cells.specs.Layout.{table, put_at}

module _ {A : Type 0} where
  pub put_same : (i : ℕ) (x : A) (f : ℕ → A) → put_at i x f i ≡ x
  unfolding put_at
  put_same i x f = simp (eq-eqb i i refl)

  pub put_other : (i : ℕ) (x : A) (f : ℕ → A) (j : ℕ) → (j ≡ i → ⊥) → put_at i x f j ≡ f j
  unfolding put_at
  put_other i x f j ne = simp (ne_eqb j i ne)

  pub put_put : (i : ℕ) (x y : A) (f : ℕ → A) → put_at i x (put_at i y f) ≡ put_at i x f
  unfolding put_at
  put_put i x y f = fun_ext (λ j. go (eqb j i) (f j))
    where
      go : (t : Bool) (z : A) → pick t x (pick t y z) ≡ pick t x z
      go true z = refl
      go false z = refl

  -- a store of what is there
  pub put_self : (i : ℕ) (f : ℕ → A) → f ≡ put_at i (f i) f
  unfolding put_at
  put_self i f = fun_ext (λ j. go j (eqb j i) refl)
    where
      go : (j : ℕ) (t : Bool) → eqb j i ≡ t → f j ≡ pick t (f i) (f j)
      go j true p = ap f (eqb-true j i p)
      go j false p = refl

  -- what is read off each entry
  pub put_map : {B : Type 0} (g : A → B) (i : ℕ) (x : A) (f : ℕ → A) → ◌≡◌ {A = ℕ → B} (λ j. g (put_at i x f j)) (put_at i (g x) (λ j. g (f j)))
  unfolding put_at
  put_map g i x f = fun_ext (λ j. go (eqb j i) (f j))
    where
      go : (t : Bool) (z : A) → g (pick t x z) ≡ pick t (g x) (g z)
      go true z = refl
      go false z = refl

  pub put_kept : {B : Type 0} (g : A → B) (i : ℕ) (x : A) (f : ℕ → A) → g x ≡ g (f i) → ◌≡◌ {A = ℕ → B} (λ j. g (put_at i x f j)) (λ j. g (f j))
  unfolding put_at
  put_kept g i x f e = fun_ext (λ j. go j (eqb j i) refl)
    where
      go : (j : ℕ) (t : Bool) → eqb j i ≡ t → g (pick t x (f j)) ≡ g (f j)
      go j true p = rw (eqb-true j i p) e
      go j false p = refl

  pub table_in : (n : ℕ) (f : ℕ → A) (blank : A) (i : ℕ) → i < n → table n f blank i ≡ f i
  unfolding table
  table_in n f blank i h = simp (lt-ltb i n h)

  pub table_same : (n : ℕ) (f g : ℕ → A) (blank : A) → ((i : ℕ) → i < n → g i ≡ f i) → table n g blank ≡ table n f blank
  unfolding table
  table_same n f g blank same = fun_ext (λ i. go i (ltb i n) refl)
    where
      go : (i : ℕ) (t : Bool) → ltb i n ≡ t → pick t (g i) blank ≡ pick t (f i) blank
      go i true p = same i (ltb-true i n p)
      go i false p = refl

  -- one entry changes
  pub table_put : (n : ℕ) (f g : ℕ → A) (blank : A) (j : ℕ) (x : A) → j < n → g j ≡ x → ((i : ℕ) → i < n → (i ≡ j → ⊥) → g i ≡ f i) → table n g blank ≡ put_at j x (table n f blank)
  unfolding table put_at
  table_put n f g blank j x h own others = fun_ext (λ i. go i (eqb i j) refl (ltb i n) refl)
    where
      go : (i : ℕ) (t : Bool) → eqb i j ≡ t → (u : Bool) → ltb i n ≡ u → pick u (g i) blank ≡ pick t x (pick u (f i) blank)
      go i true p true q = rw (eqb-true i j p) own
      go i true p false q = let a : i ≡ j = eqb-true i j p in let b : n ≤ i = ltb-false i n q in absurd (omega arith)
      go i false p true q = others i (ltb-true i n q) (eqb-false i j p)
      go i false p false q = refl
