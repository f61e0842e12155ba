-- What a search among the postings of things written one after the other finds. Assumes nothing.
use mathlib.Core.Path.{◌≡◌, refl, sym, ap, ◌∙◌}
use mathlib.Core.Bool.{Bool, true, false}
use mathlib.Core.List.{List, [], ◌∷◌, ◌++◌}
use Prim.Native.Nat.{ℕ, ◌+◌, ◌*◌, ◌≤◌}
use native.Mathlib.Omega.{arith}
use borrow.Author.Tests.{eq-eqb}
use lib.Dec.{eqb}
use lib.ListN.{length, length-append}
use Rattle.wire.specs.Bytes.{pick}
use Rattle.catalog.specs.Finding.{Stands, Listed, place_with}
use Rattle.catalog.proofs.Search.{FirstListed}
use Rattle.catalog_index.specs.Chains.{last_with, Posting, posting, places_in, gather}
use Rattle.std.specs.Prelude.{Option, Some, None}

-- the last posting of a bucket whose place passes a test, or else another place
unfoldable pub last_in : (bucket : ℕ) → (ℕ → Bool) → (otherwise : Option ℕ) → List Posting → Option ℕ
last_in b f v [] = v
last_in b f v (t ∷ ts) = last_in b f (pick (eqb t.bucket b) (pick (f t.place) (Some t.place) v) v) ts

pub last_in_lem : (b : ℕ) (f : ℕ → Bool) (v : Option ℕ) (ts : List Posting) → last_with f v (places_in b ts) ≡ last_in b f v ts
unfolding last_in last_with places_in
last_in_lem b f v [] = refl
last_in_lem b f v (t ∷ ts) =
    let there : Option ℕ = pick (f t.place) (Some t.place) v in
    go (last_in_lem b f there ts) (last_in_lem b f v ts) (eqb t.bucket b)
  where
    go : last_with f (pick (f t.place) (Some t.place) v) (places_in b ts) ≡ last_in b f (pick (f t.place) (Some t.place) v) ts → last_with f v (places_in b ts) ≡ last_in b f v ts
        → (s : Bool) → last_with f v (pick s (t.place ∷ places_in b ts) (places_in b ts)) ≡ last_in b f (pick s (pick (f t.place) (Some t.place) v) v) ts
    go same other true = same
    go same other false = other

-- one posting: what passes the test is in the bucket
pub posted : (b : ℕ) (f : ℕ → Bool) {p c : ℕ} (t : Bool) (v : Option ℕ) (ts : List Posting) → f p ≡ t → (t ≡ true → c ≡ b) → last_in b f v (posting p c ∷ ts) ≡ last_in b f (pick t (Some p) v) ts
unfolding last_in
posted b f {p} {c} t v ts is inside = go t is inside (eqb c b) refl
  where
    go : (t : Bool) → f p ≡ t → (t ≡ true → c ≡ b) → (s : Bool) → eqb c b ≡ s → last_in b f (pick s (pick (f p) (Some p) v) v) ts ≡ last_in b f (pick t (Some p) v) ts
    go true is inside s e = rw (sym e, eq-eqb c b (inside refl), is)
    go false is inside true e = rw is
    go false is inside false e = refl

-- the place of the first that passes a test, among things written one after the other from q on, or else another place
unfoldable pub place_or : {A : Type 0} → (A → List ℕ) → (A → Bool) → (otherwise : Option ℕ) → List A → ℕ → Option ℕ
place_or bytes_of test v [] q = v
place_or bytes_of test v (x ∷ xs) q = pick (test x) (Some q) (place_or bytes_of test v xs (q + length (bytes_of x)))

module _ {A : Type 0} (bytes_of : A → List ℕ) where
  pub or_nothing : (test : A → Bool) (xs : List A) (q : ℕ) → place_or bytes_of test None xs q ≡ place_with bytes_of test xs q
  unfolding place_or place_with
  or_nothing test [] q = refl
  or_nothing test (x ∷ xs) q = ap (pick (test x) (Some q)) (or_nothing test xs (q + length (bytes_of x)))

  pub or_never : (v : Option ℕ) (xs : List A) (q : ℕ) → place_or bytes_of (λ x. false) v xs q ≡ v
  unfolding place_or
  or_never v [] q = refl
  or_never v (x ∷ xs) q = or_never v xs (q + length (bytes_of x))

-- ---- Among things that stand one after the other up to an end

-- one of them stands from p on, not before q
pub record One {A : Type 0} (bytes_of : A → List ℕ) (Fits : A → Type 0) (m : List ℕ) (end q p : ℕ) (x : A) : Type 0 where
  pub from : q ≤ p
  pub within : p + length (bytes_of x) ≤ end
  pub fits : Fits x
  pub stands : Stands m p (bytes_of x)

module _ {A : Type 0} (bytes_of : A → List ℕ) (Fits : A → Type 0) (all_of : List A → List ℕ) (m : List ℕ) (end : ℕ) (first : (x : A) (xs : List A) (q : ℕ) → Listed Fits all_of m q end (x ∷ xs) → FirstListed bytes_of Fits all_of m q end x xs) where
  pub one_first : (q : ℕ) (x : A) (xs : List A) → Listed Fits all_of m q end (x ∷ xs) → One bytes_of Fits m end q q x
  one_first q x xs l = let f = first x xs q l in record { from = omega arith; within = omega (arith, f.ends, f.others.ends); fits = f.fits; stands = f.stands }

  one_later : {q p : ℕ} {x : A} (y : A) → One bytes_of Fits m end (q + length (bytes_of y)) p x → One bytes_of Fits m end q p x
  one_later y o = record { from = omega (arith, o.from); within = o.within; fits = o.fits; stands = o.stands }

  pub others : (q : ℕ) (x : A) (xs : List A) → Listed Fits all_of m q end (x ∷ xs) → Listed Fits all_of m (q + length (bytes_of x)) end xs
  others q x xs l = let f = first x xs q l in (rw f.ends at f.others)

  module _ (put : ℕ → A → List Posting → List Posting) where
    -- if each puts down what a test tells, the first that passes it is found
    pub among : (b : ℕ) (f : ℕ → Bool) (test : A → Bool) (xs : List A) (q : ℕ) → Listed Fits all_of m q end xs
        → ((x : A) (p : ℕ) → One bytes_of Fits m end q p x → (v : Option ℕ) (ts : List Posting) → last_in b f v (put p x ts) ≡ last_in b f (pick (test x) (Some p) v) ts)
        → (v : Option ℕ) (ts : List Posting) → last_in b f v (gather bytes_of put xs q ts) ≡ last_in b f (place_or bytes_of test v xs q) ts
    unfolding gather place_or
    among b f test [] q l step v ts = refl
    among b f test (x ∷ xs) q l step v ts =
        among b f test xs (q + length (bytes_of x)) (others q x xs l) (λ y p o. step y p (one_later x o)) v (put q x ts) ∙ step x q (one_first q x xs l) (place_or bytes_of test v xs (q + length (bytes_of x))) ts

    -- each takes 39 bytes for a posting
    pub few : (xs : List A) (q : ℕ) → Listed Fits all_of m q end xs → ((x : A) (p : ℕ) → One bytes_of Fits m end q p x → (ts : List Posting) → 39 * length (put p x ts) ≤ 39 * length ts + length (bytes_of x))
        → (ts : List Posting) → 39 * length (gather bytes_of put xs q ts) + q ≤ 39 * length ts + end
    unfolding gather
    few [] q l step ts = omega (arith, l.ends)
    few (x ∷ xs) q l step ts = omega (arith, few xs (q + length (bytes_of x)) (others q x xs l) (λ y p o. step y p (one_later x o)) (put q x ts), step x q (one_first q x xs l) ts)

-- one more thing after the others
pub gather_last : {A : Type 0} (bytes_of : A → List ℕ) (put : ℕ → A → List Posting → List Posting) (all_of : List A → List ℕ) → all_of [] ≡ [] → ((x : A) (xs : List A) → all_of (x ∷ xs) ≡ bytes_of x ++ all_of xs)
    → (xs : List A) (e : A) (q : ℕ) (ts : List Posting) → gather bytes_of put (xs ++ (e ∷ [])) q ts ≡ put (q + length (all_of xs)) e (gather bytes_of put xs q ts)
unfolding gather
gather_last bytes_of put all_of none more [] e q ts = let same : q + length (all_of []) ≡ q = omega (arith, ap length none) in rw same
gather_last bytes_of put all_of none more (x ∷ xs) e q ts =
    let size : length (all_of (x ∷ xs)) ≡ length (bytes_of x) + length (all_of xs) = ap length (more x xs) ∙ length-append (bytes_of x) (all_of xs) in
    let place : q + length (bytes_of x) + length (all_of xs) ≡ q + length (all_of (x ∷ xs)) = omega arith in
    gather_last bytes_of put all_of none more xs e (q + length (bytes_of x)) (put q x ts) ∙ ap (λ (p : ℕ). put p e (gather bytes_of put xs (q + length (bytes_of x)) (put q x ts))) place

-- what is gathered is not lost
pub gather_grows : {A : Type 0} (bytes_of : A → List ℕ) (put : ℕ → A → List Posting → List Posting) → ((p : ℕ) (x : A) (ts : List Posting) → length ts ≤ length (put p x ts)) → (xs : List A) (q : ℕ) (ts : List Posting) → length ts ≤ length (gather bytes_of put xs q ts)
unfolding gather
gather_grows bytes_of put grows [] q ts = omega arith
gather_grows bytes_of put grows (x ∷ xs) q ts = omega (arith, grows q x ts, gather_grows bytes_of put grows xs (q + length (bytes_of x)) (put q x ts))
