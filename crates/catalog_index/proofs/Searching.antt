-- A search in the index of a catalog finds what the definition finds in the catalog. Assumes nothing.
use mathlib.Core.Path.{◌≡◌, refl, sym, ap, ◌∙◌}
use mathlib.Core.Bool.{Bool, true, false, true≢false}
use mathlib.Core.List.{List, [], ◌∷◌}
use mathlib.Core.Option.{some}
use Prim.Native.Nat.{ℕ, ◌+◌, ◌*◌, ◌≤◌, ◌<◌}
use native.Mathlib.Omega.{arith}
use borrow.Author.Tests.{eqb-true, ltb-true, ltb-false, lt-ltb, le-ltb}
use lib.Dec.{eqb, ltb}
use lib.ListN.{length}
use Rattle.wire.specs.Bytes.{pick, two, end_of}
use Rattle.rules.specs.State.{Attribute, Entry}
use Rattle.rules.specs.Evaluate.{first_with, is_entry, is_attribute}
use Rattle.rules.specs.Catalog.{field_bytes, attribute_bytes, attributes_bytes, entry_bytes, catalog_bytes}
use Rattle.rules.proofs.Lists.{both_right}
use Rattle.rules.proofs.ReadBack.{FitsAttribute, FitsEntry}
use Rattle.cells.specs.Layout.{most_chains, most_records}
use Rattle.catalog.specs.Layout.{entry_attributes}
use Rattle.catalog.specs.Finding.{Written, Stands, EntryAt, Listed, place_with, entry_place, attribute_place}
use Rattle.catalog.proofs.Standing.{stands_byte}
use Rattle.catalog.proofs.Making.{value_least, attribute_size}
use Rattle.catalog.proofs.Search.{FirstListed}
use Rattle.catalog.proofs.Entries.{entry_length, entry_test_lem, attribute_test_lem, attributes_listed, entries_listed, entry_first, attribute_first}
use Rattle.catalog_index.specs.declared.Sought.TheVariants.{Entry as SoughtEntry, Attribute as SoughtAttribute}
use Rattle.catalog_index.specs.Chains.{last_with, Posting, posting, gather}
use Rattle.catalog_index.specs.Index.{entry_bucket, attribute_bucket, post_attribute, post_entry, postings, chain_in, Indexed, matches, sought_at}
use Rattle.catalog_index.proofs.Chains.{chain_seen}
use Rattle.catalog_index.proofs.Tests.{near_enough}
use Rattle.catalog_index.proofs.Postings.{last_in, last_in_lem, posted, place_or, or_nothing, or_never, One, one_first, among, others, few}
use Rattle.std.specs.Prelude.{Option, Some, None}

-- ---- Entries and attributes that stand up to an end

abbrev pub OneEntry : List ℕ → (end q p : ℕ) → Entry → Type 0
OneEntry m end q p e = One entry_bytes FitsEntry m end q p e

abbrev pub OneAttribute : List ℕ → (end q p : ℕ) → Attribute → Type 0
OneAttribute m end q p a = One attribute_bytes FitsAttribute m end q p a

pub attribute_least : (a : Attribute) → 41 ≤ length (attribute_bytes a)
attribute_least a = omega (arith, attribute_size a.name a.content, value_least a.content.value)

pub next : (m : List ℕ) {end : ℕ} (e : Entry) (es : List Entry) (q : ℕ) → Listed FitsEntry catalog_bytes m q end (e ∷ es) → FirstListed entry_bytes FitsEntry catalog_bytes m q end e es
next m e es q l = entry_first m e es l

next_attribute : (m : List ℕ) {end : ℕ} (a : Attribute) (ats : List Attribute) (q : ℕ) → Listed FitsAttribute attributes_bytes m q end (a ∷ ats) → FirstListed attribute_bytes FitsAttribute attributes_bytes m q end a ats
next_attribute m a ats q l = attribute_first m a ats l

module _ (m : List ℕ) {end q p : ℕ} (small : end ≤ 65535) (e : Entry) (o : OneEntry m end q p e) where
  standing : EntryAt m p e
  standing = record { stands = o.stands; short = omega (arith, o.within); fits = o.fits }

  pub own_attributes : Listed FitsAttribute attributes_bytes m (p + entry_attributes) (end_of m p) e.attributes
  own_attributes = attributes_listed m p e refl standing

  pub own_end : end_of m p ≡ p + length (entry_bytes e)
  own_end = omega (arith, own_attributes.ends, entry_length e)

  -- what the attributes put down, each of them as a test tells
  among_own : (b : ℕ) (f : ℕ → Bool) (test : Attribute → Bool)
      → ((a : Attribute) (i : ℕ) → OneAttribute m (end_of m p) (p + entry_attributes) i a → (v : Option ℕ) (ts : List Posting) → last_in b f v (post_attribute p (p + length (entry_bytes e)) i a ts) ≡ last_in b f (pick (test a) (Some i) v) ts)
      → (v : Option ℕ) (ts : List Posting) → last_in b f v (post_entry p e ts) ≡ last_in b f (place_or attribute_bytes test v e.attributes (p + entry_attributes)) (posting p (entry_bucket e.title) ∷ ts)
  unfolding post_entry
  among_own b f test step v ts =
      among attribute_bytes FitsAttribute attributes_bytes m (end_of m p) (next_attribute m) (post_attribute p (p + length (entry_bytes e))) b f test e.attributes (p + entry_attributes) own_attributes step v (posting p (entry_bucket e.title) ∷ ts)

  pub own_few : (ts : List Posting) → 39 * length (post_entry p e ts) ≤ 39 * length ts + length (entry_bytes e)
  unfolding post_entry
  own_few ts =
      omega (arith, own_end, few attribute_bytes FitsAttribute attributes_bytes m (end_of m p) (next_attribute m) (post_attribute p (p + length (entry_bytes e))) e.attributes (p + entry_attributes) own_attributes (λ a i oa ss. omega (arith, attribute_least a)) (posting p (entry_bucket e.title) ∷ ts))

module _ (m : List ℕ) (fill : ℕ) (small : fill ≤ 65535) (within : fill ≤ length m) (es : List Entry) (w : Written m fill es) where
  listed : Listed FitsEntry catalog_bytes m 0 fill es
  listed = entries_listed m fill es small within w

  among_all : (b : ℕ) (f : ℕ → Bool) (test : Entry → Bool) → ((e : Entry) (p : ℕ) → OneEntry m fill 0 p e → (v : Option ℕ) (ts : List Posting) → last_in b f v (post_entry p e ts) ≡ last_in b f (pick (test e) (Some p) v) ts)
      → last_in b f None (postings es) ≡ place_with entry_bytes test es 0
  unfolding postings last_in
  among_all b f test step = among entry_bytes FitsEntry catalog_bytes m fill (next m) post_entry b f test es 0 listed step None [] ∙ or_nothing entry_bytes test es 0

  pub postings_few : 39 * length (postings es) ≤ fill
  unfolding postings
  postings_few = omega (arith, few entry_bytes FitsEntry catalog_bytes m fill (next m) post_entry es 0 listed (λ e p o ts. own_few m small e o ts) [])

  -- what a search in a chain sees
  pub seen : (work : List ℕ) (b : ℕ) (f : ℕ → Bool) → b < most_chains → Indexed work es → last_with f None (chain_in work b) ≡ last_in b f None (postings es)
  unfolding chain_in
  seen work b f below i =
      ap (last_with f None) (chain_seen most_records b (omega (arith, postings_few)) below i.chains) ∙ last_in_lem b f None (postings es)

-- ---- The entry of a type and title

module _ (m : List ℕ) (fill t n : ℕ) (small : fill ≤ 65535) where
  entry_test : ℕ → Bool
  entry_test = sought_at m fill (SoughtEntry t n)

  no_attribute : (a : Attribute) {q : ℕ} → Stands m q (attribute_bytes a) → entry_test q ≡ false
  unfolding entry_test sought_at matches attribute_bytes field_bytes
  no_attribute a {q} s = rw (stands_byte m 0x41 _ s) (go (ltb fill (q + entry_attributes)))
    where
      go : (t : Bool) → pick t false false ≡ false
      go true = refl
      go false = refl

  this_entry : (e : Entry) {q p : ℕ} → OneEntry m fill q p e → entry_test p ≡ is_entry t n e
  unfolding entry_test matches entry_bytes field_bytes
  this_entry e {q} {p} o =
      let near : p + entry_attributes ≤ fill = omega (arith, o.within, entry_length e) in
      near_enough m fill (SoughtEntry t n) p near ∙ rw (stands_byte m 0x40 _ o.stands) (entry_test_lem m e o.stands t n o.fits)

  same_title : (e : Entry) → is_entry t n e ≡ true → entry_bucket e.title ≡ entry_bucket n
  unfolding is_entry
  same_title e is = ap entry_bucket (eqb-true e.title n (both_right (eqb e.type t) (eqb e.title n) is))

  entry_posts : (e : Entry) (p : ℕ) → OneEntry m fill 0 p e → (v : Option ℕ) (ts : List Posting) → last_in (entry_bucket n) entry_test v (post_entry p e ts) ≡ last_in (entry_bucket n) entry_test (pick (is_entry t n e) (Some p) v) ts
  entry_posts e p o v ts =
      among_own m small e o (entry_bucket n) entry_test (λ a. false) (λ a i oa u ss. posted (entry_bucket n) entry_test false u ss (no_attribute a oa.stands) (λ z. absurd (true≢false (sym z)))) v ts
      ∙ ap (λ (u : Option ℕ). last_in (entry_bucket n) entry_test u (posting p (entry_bucket e.title) ∷ ts)) (or_never attribute_bytes v e.attributes (p + entry_attributes))
      ∙ posted (entry_bucket n) entry_test (is_entry t n e) v ts (this_entry e o) (same_title e)

  -- find_entry
  pub entry_found : fill ≤ length m → (work : List ℕ) {b : ℕ} {r : Option ℕ} → b ≡ entry_bucket n → b < most_chains → r ≡ last_with (sought_at m fill (SoughtEntry t n)) None (chain_in work b)
      → (es : List Entry) → Written m fill es → Indexed work es → r ≡ entry_place t n es
  unfolding entry_test entry_place
  entry_found within work {b} {r} is below answer es w i =
      answer ∙ seen m fill small within es w work b entry_test below i ∙ rw is (among_all m fill small within es w (entry_bucket n) entry_test (is_entry t n) entry_posts)

-- ---- The attribute of a name in the entry at p

-- e stands at p among entries that are written from q on
data Within (e : Entry) (p : ℕ) : List Entry → ℕ → Type 0 where
  first : {es : List Entry} → Within e p (e ∷ es) p
  later : {x : Entry} {es : List Entry} {q : ℕ} → Within e p es (q + length (entry_bytes x)) → Within e p (x ∷ es) q

within_found : (test : Entry → Bool) {e : Entry} {p : ℕ} (es : List Entry) (q : ℕ) → place_with entry_bytes test es q ≡ Some p → first_with test es ≡ some e → Within e p es q
unfolding place_with first_with
within_found test {e} {p} [] q place is = let z : ◌≡◌ {A = ℕ} 0 1 = cc in absurd (omega arith)
within_found test {e} {p} (x ∷ es) q place is = go (λ a b. within_found test es (q + length (entry_bytes x)) a b) (test x) place is
  where
    go : (place_with entry_bytes test es (q + length (entry_bytes x)) ≡ Some p → first_with test es ≡ some e → Within e p es (q + length (entry_bytes x)))
        → (t : Bool) → pick t (Some q) (place_with entry_bytes test es (q + length (entry_bytes x))) ≡ Some p → elim t [ true ↦ some x | false ↦ first_with test es ] ≡ some e → Within e p (x ∷ es) q
    go below true a b = let here : q ≡ p = cc in let this : x ≡ e = cc in rw (here, this) first
    go below false a b = later (below a b)

within_from : {e : Entry} {p : ℕ} {es : List Entry} {q : ℕ} → Within e p es q → q ≤ p
within_from first = omega arith
within_from (later w) = omega (arith, within_from w)

within_end : (m : List ℕ) (fill : ℕ) {e : Entry} {p : ℕ} {es : List Entry} {q : ℕ} → Within e p es q → Listed FitsEntry catalog_bytes m q fill es → end_of m p ≡ p + length (entry_bytes e)
within_end m fill {e} (first {es = es}) l = (entry_first m e es l).ends
within_end m fill (later {x = x} {es = es} {q = q} w) l = within_end m fill w (others entry_bytes FitsEntry catalog_bytes m fill (next m) q x es l)

module _ (m : List ℕ) (fill n p : ℕ) (small : fill ≤ 65535) (e : Entry) (end : ℕ) (ends : end ≡ p + length (entry_bytes e)) where
  attribute_test : ℕ → Bool
  attribute_test = sought_at m fill (SoughtAttribute n (p + entry_attributes) end)

  bucket : ℕ
  bucket = attribute_bucket p end n

  outside : (i : ℕ) → (p + entry_attributes ≤ i → i < end → ⊥) → attribute_test i ≡ false
  unfolding attribute_test sought_at matches
  outside i out = go (ltb fill (i + entry_attributes)) (ltb i (p + entry_attributes)) refl (ltb i end) refl
    where
      go : (s t : Bool) → ltb i (p + entry_attributes) ≡ t → (u : Bool) → ltb i end ≡ u → pick s false (pick t false (pick u (eqb (two m (i + 3)) n) false)) ≡ false
      go true t a u b = refl
      go false true a u b = refl
      go false false a false b = refl
      go false false a true b = absurd (out (ltb-false i (p + entry_attributes) a) (ltb-true i end b))

  -- another entry, before or after it
  other_entry : (x : Entry) {q r : ℕ} → OneEntry m fill r q x → ((i : ℕ) → q ≤ i → i < q + length (entry_bytes x) → p + entry_attributes ≤ i → i < end → ⊥) → (v : Option ℕ) (ts : List Posting) → last_in bucket attribute_test v (post_entry q x ts) ≡ last_in bucket attribute_test v ts
  other_entry x {q} o apart v ts =
      let ends_at : end_of m q ≡ q + length (entry_bytes x) = own_end m small x o in
      among_own m small x o bucket attribute_test (λ a. false)
      (λ a i oa u ss. posted bucket attribute_test false u ss (outside i (apart i (omega (arith, oa.from)) (omega (arith, oa.within, attribute_least a)))) (λ z. absurd (true≢false (sym z)))) v ts
      ∙ ap (λ (u : Option ℕ). last_in bucket attribute_test u (posting q (entry_bucket x.title) ∷ ts)) (or_never attribute_bytes v x.attributes (q + entry_attributes))
      ∙ posted bucket attribute_test false v ts (outside q (apart q (omega arith) (omega (arith, entry_length x)))) (λ z. absurd (true≢false (sym z)))

  this_attribute : (a : Attribute) {i : ℕ} → OneAttribute m end (p + entry_attributes) i a → end ≤ fill → attribute_test i ≡ is_attribute n a
  unfolding attribute_test matches
  this_attribute a {i} o in-it =
      near_enough m fill (SoughtAttribute n (p + entry_attributes) end) i (omega (arith, o.within, attribute_least a))
      ∙ rw (le-ltb i (p + entry_attributes) o.from, lt-ltb i end (omega (arith, o.within, attribute_least a))) (attribute_test_lem m a o.stands n o.fits)

  same_name : (a : Attribute) → is_attribute n a ≡ true → attribute_bucket p (p + length (entry_bytes e)) a.name ≡ bucket
  unfolding is_attribute bucket
  same_name a is = ap (λ (to : ℕ). attribute_bucket p to a.name) (sym ends) ∙ ap (attribute_bucket p end) (eqb-true a.name n is)

  this_entry_posts : {r : ℕ} → OneEntry m fill r p e → (v : Option ℕ) (ts : List Posting) → last_in bucket attribute_test v (post_entry p e ts) ≡ last_in bucket attribute_test (place_or attribute_bytes (is_attribute n) v e.attributes (p + entry_attributes)) ts
  this_entry_posts o v ts =
      let same_end : end_of m p ≡ end = own_end m small e o ∙ sym ends in
      among_own m small e o bucket attribute_test (is_attribute n) (λ a i oa u ss. posted bucket attribute_test (is_attribute n a) u ss (this_attribute a (rw same_end at oa) (omega (arith, o.within))) (same_name a)) v ts
      ∙ posted bucket attribute_test false (place_or attribute_bytes (is_attribute n) v e.attributes (p + entry_attributes)) ts (outside p (λ a b. omega arith)) (λ z. absurd (true≢false (sym z)))

  among_written : (es : List Entry) (q : ℕ) → Within e p es q → Listed FitsEntry catalog_bytes m q fill es → (ts : List Posting) → ((v : Option ℕ) → last_in bucket attribute_test v ts ≡ v) → last_in bucket attribute_test None (gather entry_bytes post_entry es q ts) ≡ attribute_place n e p
  unfolding gather attribute_place
  among_written [] q x3 l ts clean = elim x3 [ ]
  among_written (_ ∷ es) q first l ts clean =
      let after = p + length (entry_bytes e) in
      among entry_bytes FitsEntry catalog_bytes m fill (next m) post_entry bucket attribute_test (λ x. false) es after (others entry_bytes FitsEntry catalog_bytes m fill (next m) p e es l) (λ x i o v ss. other_entry x o (λ j a b c d. omega (arith, o.from)) v ss) None (post_entry p e ts)
      ∙ ap (λ (u : Option ℕ). last_in bucket attribute_test u (post_entry p e ts)) (or_never entry_bytes None es after)
      ∙ this_entry_posts (one_first entry_bytes FitsEntry catalog_bytes m fill (next m) p e es l) None ts
      ∙ clean (place_or attribute_bytes (is_attribute n) None e.attributes (p + entry_attributes))
      ∙ or_nothing attribute_bytes (is_attribute n) e.attributes (p + entry_attributes)
  among_written (x ∷ es) q (later w) l ts clean =
      among_written es (q + length (entry_bytes x)) w (others entry_bytes FitsEntry catalog_bytes m fill (next m) q x es l) (post_entry q x ts)
      (λ v. other_entry x (one_first entry_bytes FitsEntry catalog_bytes m fill (next m) q x es l) (λ i a b c d. omega (arith, within_from w)) v ts ∙ clean v)

-- find_attribute
pub attribute_found : (m : List ℕ) (fill n p : ℕ) → fill ≤ 65535 → fill ≤ length m → (work : List ℕ) {b end : ℕ} {r : Option ℕ} → b ≡ attribute_bucket p end n → b < most_chains → end ≡ end_of m p → r ≡ last_with (sought_at m fill (SoughtAttribute n (p + entry_attributes) end)) None (chain_in work b)
    → (es : List Entry) (t title : ℕ) (e : Entry) → Written m fill es → Indexed work es → entry_place t title es ≡ Some p → first_with (is_entry t title) es ≡ some e → r ≡ attribute_place n e p
unfolding entry_place postings bucket attribute_test last_in
attribute_found m fill n p small within work {b} {end} {r} is below at_end_lem answer es t title e w i place found =
    let all = listed m fill small within es w in
    let there = within_found (is_entry t title) es 0 place found in
    let ends : end ≡ p + length (entry_bytes e) = at_end_lem ∙ within_end m fill there all in
    answer ∙ seen m fill small within es w work b (sought_at m fill (SoughtAttribute n (p + entry_attributes) end)) below i ∙ rw is (among_written m fill n p small e end ends es 0 there all [] (λ v. refl))
