-- The index over the catalog in the working memory: what it holds, what a search tests, and what a store changes.
use Rattle.std.specs.Prelude.{ℕ, ◌+◌, ◌-◌, ◌/◌, ◌%◌, ◌<◌, ◌≡◌, Bool, false, ◌&&◌, List, [], ◌∷◌, ◌++◌, eqb, ltb, length}
use Rattle.wire.specs.Bytes.{pick, byte, two}
use Rattle.rules.specs.State.{Attribute, Entry}
use Rattle.rules.specs.Catalog.{attribute_bytes, entry_bytes, catalog_bytes}
use Rattle.catalog.specs.Layout.{entry_type, entry_title, entry_attributes, attribute_name}
use Rattle.catalog.specs.Finding.{Written}
use Rattle.cells.specs.Layout.{head_at, count_at, index_at, index_link, most_records}
use Rattle.catalog_index.specs.declared.Sought.{Sought}
use Rattle.catalog_index.specs.declared.Sought.TheVariants.{Entry as SoughtEntry, Attribute as SoughtAttribute}
use Rattle.catalog_index.specs.Chains.{follow, Posting, posting, gather, Chained}

-- ---- The postings of a catalog: for each entry its own, then those of its attributes

abbrev pub entry_bucket : (title : ℕ) → ℕ
entry_bucket t = t % 256

-- how many chains the entry between two places has for its attributes: about as many as it has attributes, since each takes 41 to 48 bytes
unfoldable pub attribute_chains : (entry end : ℕ) → ℕ
attribute_chains p e = pick (ltb e (p + 87)) 1 ((e - p - 39) / 48)

-- They begin where those of the entry before it end, as every 41 bytes of the catalog have one chain: no two entries share a chain. An entry has a name once, and
-- names are below 1,024, so a chain holds at most as many attributes as numbers below 1,024 have one remainder, and no more than the entry has: 35.
abbrev pub attribute_bucket : (entry end name : ℕ) → ℕ
attribute_bucket p e n = 256 + (p / 41 + n % attribute_chains p e) % 1600

abbrev pub post_attribute : (entry end : ℕ) → ℕ → Attribute → List Posting → List Posting
post_attribute p e q a ts = posting q (attribute_bucket p e a.name) ∷ ts

unfoldable pub post_entry : ℕ → Entry → List Posting → List Posting
post_entry p e ts = gather attribute_bytes (post_attribute p (p + length (entry_bytes e))) e.attributes (p + entry_attributes) (posting p (entry_bucket e.title) ∷ ts)

unfoldable pub postings : List Entry → List Posting
postings es = gather entry_bytes post_entry es 0 []

-- ---- In the working memory

abbrev pub heads_of : List ℕ → ℕ → ℕ
heads_of w = λ b. two w (head_at b)

abbrev pub places_of : List ℕ → ℕ → ℕ
places_of w = λ i. two w (index_at i)

abbrev pub links_of : List ℕ → ℕ → ℕ
links_of w = λ i. two w (index_at i + index_link)

-- the places that a search in a chain sees, the latest first
unfoldable pub chain_in : List ℕ → (bucket : ℕ) → List ℕ
chain_in w b = follow (places_of w) (links_of w) most_records (heads_of w b)

pub record Holds (w : List ℕ) (ts : List Posting) : Type 0 where
  pub count : two w count_at ≡ length ts
  pub chains : Chained (heads_of w) (places_of w) (links_of w) ts

-- the index is that of the catalog es, in declaration order
abbrev pub Indexed : (w : List ℕ) → List Entry → Type 0
Indexed w es = Holds w (postings es)

-- from w to w' no byte before the index changes
pub record InIndex (w w' : List ℕ) : Type 0 where
  pub size : length w' ≡ length w
  pub before : (i : ℕ) → i < head_at 0 → byte w' i ≡ byte w i

-- one record more, if there is room
pub record Recorded (w w' : List ℕ) (bucket place : ℕ) : Type 0 where
  pub kept : InIndex w w'
  pub more : (ts : List Posting) → length ts < most_records → Holds w ts → Holds w' (posting place bucket ∷ ts)

-- the last entry e of the output, between two places, with its attributes
pub record Extended (out : List ℕ) (entry end : ℕ) (w w' : List ℕ) : Type 0 where
  pub kept : InIndex w w'
  pub more : (es : List Entry) (e : Entry) → entry ≡ length (catalog_bytes es) → Written out end (es ++ (e ∷ [])) → Indexed w es → Indexed w' (es ++ (e ∷ []))

-- ---- What a search tests at a place

unfoldable pub matches : List ℕ → Sought → ℕ → Bool
matches out (SoughtEntry t n) p = eqb (byte out p) 0x40 && (eqb (two out (p + entry_type)) t && eqb (two out (p + entry_title)) n)
matches out (SoughtAttribute n from end) p = pick (ltb p from) false (pick (ltb p end) (eqb (two out (p + attribute_name)) n) false)

-- no entry and no attribute is shorter than the header of an entry, and none stands past the fill point
unfoldable pub sought_at : (out : List ℕ) → (fill : ℕ) → Sought → ℕ → Bool
sought_at out fill s p = pick (ltb fill (p + entry_attributes)) false (matches out s p)
