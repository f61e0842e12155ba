-- Demand 3, stated: two manifests with one string table and one tree, and what it says of their catalogs.
use Rattle.std.specs.Prelude.{ℕ, suc, ◌<◌, ◌≡◌, Bool, true, false, ◌&&◌, ◌||◌, not, eqb}
use mathlib.Core.List.{List, [], ◌∷◌, Memᴰ}
use Rattle.labels.specs.declared.Labels.{Labels}
use Rattle.labels.specs.Sets.{has}
use Rattle.rules.specs.Bytes.{byte}
use Rattle.rules.specs.Format.{is_constant}
use Rattle.rules.specs.Fields.{Field, field, Fields, none, more, read_all}
use Rattle.rules.specs.State.{Attribute, Entry}
use Rattle.rules.specs.Evaluate.{is_entry, is_attribute}
use Rattle.rules.specs.Compile.{same_bytes}

-- ---- One tree

-- two fields opposite each other, by tag and head: the same; or two constants, with the same label, which is the first byte of a
-- constant's head: "a constant may have a constant of another kind or value opposite it"
unfoldable pub opposite : (tag : ℕ) → (head : List ℕ) → (tag : ℕ) → (head : List ℕ) → Bool
opposite t h u g = (eqb t u && same_bytes h g) || ((is_constant t && is_constant u) && eqb (byte h 0) (byte g 0))

-- "the same fields in the same order and nesting"; places are not compared, since "lengths follow"
unfoldable mutual
  pub same_field : Field → Field → Bool
  same_field (field p t h ks) (field q u g js) = opposite t h u g && same_fields ks js

  pub same_fields : Fields → Fields → Bool
  same_fields none none = true
  same_fields none (more j js) = false
  same_fields (more k ks) none = false
  same_fields (more k ks) (more j js) = same_field k j && same_fields ks js

-- two manifests with one string table and one tree: their fields 01 and their items
unfoldable pub one_tree : List ℕ → List ℕ → Bool
one_tree m m' = same_fields (read_all m) (read_all m')

-- ---- The labels of differing constants

-- "A constant differs if its kind or value is not that of the one opposite, whether or not it is ever evaluated."
unfoldable pub differs_here : (tag : ℕ) → (head : List ℕ) → (tag : ℕ) → (head : List ℕ) → (label : ℕ) → Bool
differs_here t h u g l = (is_constant t && not (eqb t u && same_bytes h g)) && eqb l (byte h 0)

unfoldable mutual
  pub differs_in : Field → Field → (label : ℕ) → Bool
  differs_in (field p t h ks) (field q u g js) l = differs_here t h u g l || differs_any ks js l

  pub differs_any : Fields → Fields → (label : ℕ) → Bool
  differs_any none none l = false
  differs_any none (more j js) l = false
  differs_any (more k ks) none l = false
  differs_any (more k ks) (more j js) l = differs_in k j l || differs_any ks js l

-- whether l is the label of a differing constant
unfoldable pub differing : List ℕ → List ℕ → (label : ℕ) → Bool
differing m m' l = differs_any (read_all m) (read_all m') l

-- ---- The claim

-- a set that "holds no label of a differing constant"
pub record Untouched (m m' : List ℕ) (s : Labels) : Type 0 where
  pub lacks : (l : ℕ) → differing m m' l ≡ true → has s l ≡ false

-- how many of a list pass a test
unfoldable pub one_more : Bool → ℕ → ℕ
one_more true n = suc n
one_more false n = n

unfoldable pub how_many : {A : Type 0} → (A → Bool) → List A → ℕ
how_many f [] = 0
how_many f (x ∷ xs) = one_more (f x) (how_many f xs)

-- the entry e of the first catalog is in the second, c, "exactly once, under the same type and title, with the same label set"
pub record KeptResource (e : Entry) (c : List Entry) : Type 0 where
  pub entry : Entry
  pub present : Memᴰ entry c
  pub type : entry.type ≡ e.type
  pub title : entry.title ≡ e.title
  pub labels : entry.labels ≡ e.labels
  pub once : how_many (is_entry e.type e.title) c ≡ 1

-- the attribute a of e is in the second catalog, c, "exactly once, under the same type, title and name, with the same value and the same
-- label set"
pub record KeptAttribute (e : Entry) (a : Attribute) (c : List Entry) : Type 0 where
  pub entry : Entry
  pub present : Memᴰ entry c
  pub type : entry.type ≡ e.type
  pub title : entry.title ≡ e.title
  pub entry_once : how_many (is_entry e.type e.title) c ≡ 1
  pub attribute : Attribute
  pub within : Memᴰ attribute entry.attributes
  pub name : attribute.name ≡ a.name
  pub value : attribute.content.value ≡ a.content.value
  pub labels : attribute.content.labels ≡ a.content.labels
  pub once : how_many (is_attribute a.name) entry.attributes ≡ 1

-- what demand 3 says of the entries of two catalogs
pub record Claim (m m' : List ℕ) (c c' : List Entry) : Type 0 where
  pub resources : (e : Entry) → Memᴰ e c → Untouched m m' e.labels → KeptResource e c'
  pub attributes : (e : Entry) (a : Attribute) → Memᴰ e c → Memᴰ a e.attributes → Untouched m m' a.content.labels → KeptAttribute e a c'

-- a byte string: every number in it is below 256
pub record IsBytes (m : List ℕ) : Type 0 where
  pub below : (i : ℕ) → byte m i < 256
