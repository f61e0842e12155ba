-- Chains of records: what a walk sees, and one record more. Assumes nothing.
use mathlib.Core.Path.{◌≡◌, refl, sym, ap, ◌∙◌}
use mathlib.Core.Bool.{Bool, true, false}
use mathlib.Core.List.{List, [], ◌∷◌}
use Prim.Native.Nat.{ℕ, zero, suc, ◌-◌, ◌≤◌, ◌<◌}
use native.Mathlib.Omega.{arith}
use borrow.Author.Tests.{eqb-true, eqb-false, eq-eqb, ne_eqb}
use lib.Dec.{eqb}
use lib.ListN.{length}
use Rattle.wire.specs.Bytes.{pick}
use Rattle.cells.specs.Layout.{most_chains}
use Rattle.catalog.specs.Finding.{Below}
use Rattle.catalog_index.specs.Chains.{follow, last_with, Posting, posting, places_in, Chained}
use Rattle.std.specs.Prelude.{Option, Some}

-- ---- A walk

module _ (places links : ℕ → ℕ) where
  pub follow_none : (k r : ℕ) → r ≡ 0 → follow places links k r ≡ []
  unfolding follow
  follow_none zero r z = refl
  follow_none (suc k) r z = rw (ne_eqb r (suc k) (λ e. omega arith), follow_none k r z)

  pub follow_past : (k r : ℕ) → k < r → follow places links k r ≡ []
  unfolding follow
  follow_past zero r h = refl
  follow_past (suc k) r h = rw (ne_eqb r (suc k) (λ e. omega arith), follow_past k r (omega arith))

  pub follow_on : (k i : ℕ) → i < k → follow places links k (suc i) ≡ places i ∷ follow places links i (links i)
  unfolding follow
  follow_on zero i h = absurd (omega arith)
  follow_on (suc k) i h = go (follow_on k i) (eqb (suc i) (suc k)) refl
    where
      go : (i < k → follow places links k (suc i) ≡ places i ∷ follow places links i (links i)) → (t : Bool) → eqb (suc i) (suc k) ≡ t
          → pick t (places k ∷ follow places links k (links k)) (follow places links k (suc i)) ≡ places i ∷ follow places links i (links i)
      go below true e = let same : i ≡ k = (let s : suc i ≡ suc k = eqb-true (suc i) (suc k) e in omega arith) in rw same
      go below false e = below (let other : suc i ≡ suc k → ⊥ = eqb-false (suc i) (suc k) e in omega (arith, other))

  -- records past the reference do not matter
  pub follow_less : (k j r : ℕ) → j ≤ k → r ≤ j → follow places links k r ≡ follow places links j r
  unfolding follow
  follow_less zero j r h l = let none : j ≡ 0 = omega arith in rw none
  follow_less (suc k) j r h l = go (λ below. follow_less k j r below l) (eqb j (suc k)) refl
    where
      go : (j ≤ k → follow places links k r ≡ follow places links j r) → (t : Bool) → eqb j (suc k) ≡ t → follow places links (suc k) r ≡ follow places links j r
      go later true e = rw (eqb-true j (suc k) e)
      go later false e =
          let other : j ≡ suc k → ⊥ = eqb-false j (suc k) e in
          rw (ne_eqb r (suc k) (λ q. omega (arith, other)), later (omega (arith, other)))

-- a walk depends on the records below its bound alone
follow_same : (places links places' links' : ℕ → ℕ) (k : ℕ) → ((i : ℕ) → i < k → places' i ≡ places i) → ((i : ℕ) → i < k → links' i ≡ links i) → (r : ℕ) → follow places' links' k r ≡ follow places links k r
unfolding follow
follow_same places links places' links' zero p l r = refl
follow_same places links places' links' (suc k) p l r =
    let later : (s : ℕ) → follow places' links' k s ≡ follow places links k s = follow_same places links places' links' k (λ i h. p i (omega arith)) (λ i h. l i (omega arith)) in
    rw (p k (omega arith), l k (omega arith), later (links k), later r)

-- ---- The last that passes a test, seen from the first on

module _ (f : ℕ → Bool) where
  pub last_none : {ps : List ℕ} (v : Option ℕ) → ps ≡ [] → last_with f v ps ≡ v
  unfolding last_with
  last_none v e = rw e

  pub last_next : {ps qs : List ℕ} {p : ℕ} (v : Option ℕ) → ps ≡ p ∷ qs → last_with f v ps ≡ last_with f (pick (f p) (Some p) v) qs
  unfolding last_with
  last_next v e = rw e

-- ---- Postings in chains

pub chained_none : (heads places links : ℕ → ℕ) → ((b : ℕ) → b < most_chains → heads b ≡ 0) → Chained heads places links []
unfolding follow places_in
chained_none heads places links z = record { low = λ b h. omega (arith, z b h); follows = λ b h. refl }

-- what a search sees that starts past the records
pub chain_seen : {heads places links : ℕ → ℕ} {ts : List Posting} (k b : ℕ) → length ts ≤ k → b < most_chains → Chained heads places links ts → follow places links k (heads b) ≡ places_in b ts
chain_seen {heads} {places} {links} {ts} k b few h c = follow_less places links k (length ts) (heads b) few (c.low b h) ∙ c.follows b h

-- one record more, the next by number, becomes the first of chain b
module _ {heads places links heads' places' links' : ℕ → ℕ} (ts : List Posting) (b p : ℕ) (head : heads' b ≡ suc (length ts)) (others : (c : ℕ) → c < most_chains → (c ≡ b → ⊥) → heads' c ≡ heads c)
    (place : places' (length ts) ≡ p) (link : links' (length ts) ≡ heads b) (same_places : (i : ℕ) → i < length ts → places' i ≡ places i) (same-links : (i : ℕ) → i < length ts → links' i ≡ links i) where
  later : (r : ℕ) → follow places' links' (length ts) r ≡ follow places links (length ts) r
  later = follow_same places links places' links' (length ts) same_places same-links

  pub chained_more : Chained heads places links ts → Chained heads' places' links' (posting p b ∷ ts)
  unfolding follow places_in
  chained_more c = record { low = λ d h. low d h (eqb d b) refl; follows = λ d h. follows d h (eqb b d) refl }
    where
      low : (d : ℕ) → d < most_chains → (t : Bool) → eqb d b ≡ t → heads' d ≤ suc (length ts)
      low d h true e = let same : d ≡ b = eqb-true d b e in rw (same, head) (omega arith)
      low d h false e = omega (arith, others d h (eqb-false d b e), c.low d h)

      follows : (d : ℕ) → d < most_chains → (t : Bool) → eqb b d ≡ t → follow places' links' (suc (length ts)) (heads' d) ≡ pick t (p ∷ places_in d ts) (places_in d ts)
      follows d h true e =
          let same : d ≡ b = sym (eqb-true b d e) in
          let first : heads' d ≡ suc (length ts) = ap heads' same ∙ head in
          let below : follow places links (length ts) (heads b) ≡ places_in d ts = rw same (c.follows b (omega arith)) in
          rw (eq-eqb (heads' d) (suc (length ts)) first, place, link, later (heads b), below)
      follows d h false e =
          let kept : heads' d ≡ heads d = others d h (λ q. eqb-false b d e (sym q)) in
          rw (kept, ne_eqb (heads d) (suc (length ts)) (λ q. omega (arith, c.low d h)), later (heads d), c.follows d h)

-- a place that passed is kept, and another is not
module _ (f : ℕ → Bool) {p : ℕ} (found : Option ℕ) {t : Option ℕ} {b : Bool} (test : b ≡ f p) where
  pub taken : b ≡ true → t ≡ Some p → t ≡ pick (f p) (Some p) found
  taken is e = rw (sym test, is) e

  pub passed_over : b ≡ false → t ≡ found → t ≡ pick (f p) (Some p) found
  passed_over is e = rw (sym test, is) e

pub below_place : {t : Option ℕ} {p e : ℕ} → t ≡ Some p → p < e → Below e t
unfolding Below
below_place is h = rw is h

pub below_same : {t v : Option ℕ} (e : ℕ) → t ≡ v → Below e v → Below e t
below_same e is h = rw is h

-- ---- The ways of `find`: so far the walk came to reference r, below record k, and `found` is the last place that passed

module _ (f : ℕ → Bool) (places links : ℕ → ℕ) {whole : Option ℕ} (found : Option ℕ) (k r : ℕ) (so_far : last_with f found (follow places links k r) ≡ whole) where
  pub walk_on : {p next : ℕ} (t : Option ℕ) → 0 < r → r ≤ k → p ≡ places (r - 1) → next ≡ links (r - 1) → t ≡ pick (f p) (Some p) found → last_with f t (follow places links (r - 1) next) ≡ whole
  walk_on {p} {next} t some within place link passed =
      let one_more : suc (r - 1) ≡ r = omega arith in
      let step = follow_on places links k (r - 1) (omega arith) in
      let seen : follow places links k r ≡ p ∷ follow places links (r - 1) next = ap (follow places links k) (sym one_more) ∙ step ∙ rw (place, link) in
      rw passed (sym (last_next f found seen) ∙ so_far)

  pub walk_ends : r ≡ 0 → found ≡ whole
  walk_ends z = sym (last_none f found (follow_none places links k r z)) ∙ so_far

  pub walk_breaks : k < r → found ≡ whole
  walk_breaks h = sym (last_none f found (follow_past places links k r h)) ∙ so_far
