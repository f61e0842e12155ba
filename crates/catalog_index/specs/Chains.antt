-- Chains of records, each with a place, and what they hold: postings, gathered from things that are written one after the other.
use Rattle.std.specs.Prelude.{ℕ, zero, suc, ◌+◌, ◌≤◌, ◌<◌, ◌≡◌, Bool, List, [], ◌∷◌, eqb, length, Option, Some}
use Rattle.wire.specs.Bytes.{pick}
use Rattle.cells.specs.Layout.{most_chains}

-- ---- Walking down a chain

-- the places that a reference leads to among the first k records: it is 0 for none, or one more than the number of a record. Numbers fall, so a chain ends whatever the bytes are
unfoldable pub follow : (places links : ℕ → ℕ) → (k reference : ℕ) → List ℕ
follow places links zero r = []
follow places links (suc k) r = pick (eqb r (suc k)) (places k ∷ follow places links k (links k)) (follow places links k r)

-- the last of some places that passes a test, or else another place
unfoldable pub last_with : (ℕ → Bool) → (otherwise : Option ℕ) → List ℕ → Option ℕ
last_with f v [] = v
last_with f v (p ∷ ps) = last_with f (pick (f p) (Some p) v) ps

-- ---- Postings

-- the place of an entry or an attribute, and the number of its chain
pub record Posting : Type 0 where
  pub place : ℕ
  pub bucket : ℕ

abbrev pub posting : (place bucket : ℕ) → Posting
posting p b = record { place = p; bucket = b }

-- the places in one chain
unfoldable pub places_in : (bucket : ℕ) → List Posting → List ℕ
places_in b [] = []
places_in b (t ∷ ts) = pick (eqb t.bucket b) (t.place ∷ places_in b ts) (places_in b ts)

-- things written one after the other from q on, each of which puts its postings before the earlier ones
unfoldable pub gather : {A : Type 0} → (bytes_of : A → List ℕ) → (put : ℕ → A → List Posting → List Posting) → List A → (q : ℕ) → List Posting → List Posting
gather bytes_of put [] q ts = ts
gather bytes_of put (x ∷ xs) q ts = gather bytes_of put xs (q + length (bytes_of x)) (put q x ts)

-- the chains hold the postings, the latest first: one more than its number tells each record
pub record Chained (heads places links : ℕ → ℕ) (ts : List Posting) : Type 0 where
  pub low : (b : ℕ) → b < most_chains → heads b ≤ length ts
  pub follows : (b : ℕ) → b < most_chains → follow places links (length ts) (heads b) ≡ places_in b ts
