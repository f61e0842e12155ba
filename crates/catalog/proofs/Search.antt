-- The first that passes a test, among fields of one kind written one after the other: stated once, for any element type. Assumes nothing.
use mathlib.Core.Path.{◌≡◌, refl, sym, ap, ◌∙◌}
use mathlib.Core.Bool.{Bool, true, false, ◌||◌}
use mathlib.Core.List.{List, [], ◌∷◌, ◌++◌}
use mathlib.Core.Option.{Option, none, some}
use Prim.Native.Nat.{ℕ, ◌+◌, ◌≤◌}
use native.Mathlib.Omega.{arith}
use lib.ListN.{length, length-append}
use Rattle.wire.specs.Bytes.{pick, end_of}
use Rattle.rules.specs.State.{is_some}
use Rattle.rules.specs.Evaluate.{any, first_with}
use Rattle.rules.specs.Catalog.{field_bytes}
use Rattle.rules.proofs.Lists.{Each, also}
use Rattle.rules.proofs.ReadBack.{field_length}
use Rattle.catalog.specs.Finding.{Stands, Listed, place_with}
use Rattle.catalog.proofs.Standing.{stands_first, stands_next, stands_same, field_end}
use Rattle.std.specs.Prelude.{Option as CodeOption, Some, None}

-- where the first that passes stands
pub data Hit {A : Type 0} (bytes_of : A → List ℕ) (Fits : A → Type 0) (m : List ℕ) : Option A → CodeOption ℕ → Type 0 where
  missed : Hit bytes_of Fits m none None
  hit : {x : A} {p : ℕ} → Fits x → Stands m p (bytes_of x) → length (bytes_of x) ≤ 65535 → Hit bytes_of Fits m (some x) (Some p)

-- what stands at a place that was found
pub record HitAt {A : Type 0} (bytes_of : A → List ℕ) (Fits : A → Type 0) (m : List ℕ) (o : Option A) (p : ℕ) : Type 0 where
  pub x : A
  pub first : o ≡ some x
  pub fits : Fits x
  pub stands : Stands m p (bytes_of x)
  pub short : length (bytes_of x) ≤ 65535

module _ {A : Type 0} {bytes_of : A → List ℕ} {Fits : A → Type 0} {m : List ℕ} where
  pub hit_nothing : {o : Option A} {q : CodeOption ℕ} → Hit bytes_of Fits m o q → q ≡ None → o ≡ none
  hit_nothing missed e = refl
  hit_nothing (hit f s l) e = let z : ◌≡◌ {A = ℕ} 0 1 = cc in absurd (omega arith)

  pub hit_at : {o : Option A} {q : CodeOption ℕ} (p : ℕ) → Hit bytes_of Fits m o q → q ≡ Some p → HitAt bytes_of Fits m o p
  hit_at p missed e = let z : ◌≡◌ {A = ℕ} 0 1 = cc in absurd (omega arith)
  hit_at p (hit {x = x} {p = p'} f s l) e = let same : p' ≡ p = cc in record { x = x; first = refl; fits = f; stands = rw same at s; short = l }

-- the first of those listed, where it stands, and the others after it
pub record FirstListed {A : Type 0} (bytes_of : A → List ℕ) (Fits : A → Type 0) (all_of : List A → List ℕ) (m : List ℕ) (p end : ℕ) (x : A) (xs : List A) : Type 0 where
  pub stands : Stands m p (bytes_of x)
  pub short : length (bytes_of x) ≤ 65535
  pub fits : Fits x
  pub ends : end_of m p ≡ p + length (bytes_of x)
  pub others : Listed Fits all_of m (end_of m p) end xs

module _ {A : Type 0} (tag : ℕ) (body : A → List ℕ) (bytes_of : A → List ℕ) (all_of : List A → List ℕ) (Fits : A → Type 0) (test : A → Bool)
    (is_field : (x : A) → bytes_of x ≡ field_bytes tag (body x)) (All-none : all_of [] ≡ []) (All-more : (x : A) (xs : List A) → all_of (x ∷ xs) ≡ bytes_of x ++ all_of xs) (m : List ℕ) where
  size_none : length (all_of []) ≡ 0
  size_none = ap length All-none

  size_more : (x : A) (xs : List A) → length (all_of (x ∷ xs)) ≡ length (bytes_of x) + length (all_of xs)
  size_more x xs = ap length (All-more x xs) ∙ length-append (bytes_of x) (all_of xs)

  size_field : (x : A) → length (bytes_of x) ≡ 3 + length (body x)
  size_field x = ap length (is_field x) ∙ field_length tag (body x)

  first_stands : (x : A) (xs : List A) {p : ℕ} → Stands m p (all_of (x ∷ xs)) → Stands m p (bytes_of x)
  first_stands x xs s = stands_first m (bytes_of x) (all_of xs) (stands_same m (All-more x xs) s)

  first_end : (x : A) {p : ℕ} → length (bytes_of x) ≤ 65535 → Stands m p (bytes_of x) → end_of m p ≡ p + length (bytes_of x)
  first_end x {p} short s =
      field_end m tag (body x) (omega (arith, size_field x)) (stands_same m (is_field x) s) ∙ ap (λ (l : List ℕ). p + length l) (sym (is_field x))

  others_listed : (x : A) (xs : List A) {p end : ℕ} → Listed Fits all_of m p end (x ∷ xs) → Listed Fits all_of m (p + length (bytes_of x)) end xs
  others_listed x xs {p} {end} l = go l.fits
    where
      go : Each Fits (x ∷ xs) → Listed Fits all_of m (p + length (bytes_of x)) end xs
      go (also f fs) = record {
        stands = stands_next m (bytes_of x) (all_of xs) refl (stands_same m (All-more x xs) l.stands);
        ends = omega (arith, size_more x xs, l.ends);
        short = omega (arith, size_more x xs, l.short);
        fits = fs;
      }

  first_fits : (x : A) (xs : List A) → Each Fits (x ∷ xs) → Fits x
  first_fits x xs (also f fs) = f

  pub first_listed : (x : A) (xs : List A) {p end : ℕ} → Listed Fits all_of m p end (x ∷ xs) → FirstListed bytes_of Fits all_of m p end x xs
  first_listed x xs {p} {end} l =
      let stands : Stands m p (bytes_of x) = first_stands x xs l.stands in
      let short : length (bytes_of x) ≤ 65535 = omega (arith, size_more x xs, l.short) in
      let ends : end_of m p ≡ p + length (bytes_of x) = first_end x short stands in
      record { stands = stands; short = short; fits = first_fits x xs l.fits; ends = ends; others = rw ends (others_listed x xs l) }

  -- ---- The place and the first that passes

  pub hits : (xs : List A) {p end : ℕ} → Listed Fits all_of m p end xs → Hit bytes_of Fits m (first_with test xs) (place_with bytes_of test xs p)
  unfolding first_with place_with
  hits [] l = missed
  hits (x ∷ xs) {p} l = go (test x) (hits xs (others_listed x xs l))
    where
      go : (b : Bool) → Hit bytes_of Fits m (first_with test xs) (place_with bytes_of test xs (p + length (bytes_of x)))
          → Hit bytes_of Fits m (elim b [ true ↦ some x | false ↦ first_with test xs ]) (pick b (Some p) (place_with bytes_of test xs (p + length (bytes_of x))))
      go true h = hit (first_fits x xs l.fits) (first_stands x xs l.stands) (omega (arith, size_more x xs, l.short))
      go false h = h

-- whether there is one that passes
pub any_first : {A : Type 0} (test : A → Bool) (xs : List A) → any test xs ≡ is_some (first_with test xs)
unfolding any first_with is_some
any_first test [] = refl
any_first {A} test (x ∷ xs) = go (test x) (any_first test xs)
  where
    go : (b : Bool) → any test xs ≡ is_some (first_with test xs) → (b || any test xs) ≡ is_some {A = A} (elim b [ true ↦ some x | false ↦ first_with test xs ])
    go true h = refl
    go false h = h
