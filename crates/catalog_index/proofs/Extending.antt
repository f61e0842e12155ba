-- The ways of `index_entry`: the last entry of the output and its attributes, one after the other. Assumes nothing.
use mathlib.Core.Path.{◌≡◌, refl, sym, ap, ◌∙◌}
use mathlib.Core.List.{List, [], ◌∷◌, ◌++◌}
use Prim.Native.Nat.{ℕ, ◌+◌, ◌≤◌, ◌<◌}
use native.Mathlib.Omega.{arith}
use lib.ListN.{length, length-append}
use Rattle.wire.specs.Bytes.{two, end_of}
use Rattle.rules.specs.State.{Attribute, Entry}
use Rattle.rules.specs.Catalog.{attribute_bytes, attributes_bytes, entry_bytes, catalog_bytes}
use Rattle.rules.proofs.ReadBack.{FitsAttribute, FitsEntry}
use Rattle.cells.specs.Layout.{most_records}
use Rattle.catalog.specs.Layout.{entry_title, entry_attributes, attribute_name}
use Rattle.catalog.specs.Finding.{Written, Listed}
use Rattle.catalog.proofs.Standing.{stands_two}
use Rattle.catalog.proofs.Entries.{entries_listed, after_type, attribute_body_lem, attribute_first}
use Rattle.catalog_index.specs.Chains.{Posting, posting, gather}
use Rattle.catalog_index.specs.Index.{entry_bucket, attribute_bucket, post_attribute, post_entry, postings, Holds, Indexed, InIndex, Recorded}
use Rattle.catalog_index.proofs.Postings.{others, one_first, gather_last, gather_grows}
use Rattle.catalog_index.proofs.Searching.{OneEntry, own_end, next, own_attributes, postings_few}
use Rattle.catalog_index.proofs.Storing.{in_index_both}

-- the last of those listed
last_listed : (m : List ℕ) (end : ℕ) (es : List Entry) (e : Entry) (q : ℕ) → Listed FitsEntry catalog_bytes m q end (es ++ (e ∷ [])) → Listed FitsEntry catalog_bytes m (q + length (catalog_bytes es)) end (e ∷ [])
unfolding catalog_bytes
last_listed m end [] e q l = let same : q + length {A = ℕ} [] ≡ q = omega arith in rw same l
last_listed m end (x ∷ es) e q l =
    let place : q + length (entry_bytes x) + length (catalog_bytes es) ≡ q + length (entry_bytes x ++ catalog_bytes es) = omega (arith, length-append (entry_bytes x) (catalog_bytes es)) in
    rw place at (last_listed m end es e (q + length (entry_bytes x)) (others entry_bytes FitsEntry catalog_bytes m end (next m) q x (es ++ (e ∷ [])) l))

-- the attributes from q on are still to come, and with them the index has all postings
pub record Going (out : List ℕ) (entry end q : ℕ) (w : List ℕ) (goal : List Posting) : Type 0 where
  pub ats : List Attribute
  pub left : Listed FitsAttribute attributes_bytes out q end ats
  pub ts : List Posting
  pub held : Holds w ts
  pub goes : gather attribute_bytes (post_attribute entry end) ats q ts ≡ goal
  pub room : length goal ≤ most_records

-- and so they are later, at q with w, if they were at q₀ with w₀
abbrev pub Goes : (out : List ℕ) (entry end : ℕ) (q₀ : ℕ) (w₀ : List ℕ) (q : ℕ) (w : List ℕ) → Type 0
Goes out entry end q₀ w₀ q w = InIndex w₀ w × ((goal : List Posting) → Going out entry end q₀ w₀ goal → Going out entry end q w goal)

posted_more : (entry end : ℕ) (ats : List Attribute) (q : ℕ) (ts : List Posting) → length ts ≤ length (gather attribute_bytes (post_attribute entry end) ats q ts)
posted_more entry end ats q ts = gather_grows attribute_bytes (post_attribute entry end) (λ p x ss. omega arith) ats q ts

module _ (out : List ℕ) (entry end : ℕ) (within : end ≤ length out) (small : end ≤ 65535) where
  pub extend_begin : (w w' : List ℕ) {b title : ℕ} → title ≡ two out (entry + entry_title) → b ≡ entry_bucket title → Recorded w w' b entry
      → (es : List Entry) (e : Entry) → entry ≡ length (catalog_bytes es) → Written out end (es ++ (e ∷ [])) → Indexed w es → Going out entry end (entry + entry_attributes) w' (postings (es ++ (e ∷ [])))
  unfolding postings post_entry catalog_bytes
  extend_begin w w' {b} {title} read is r es e at written i =
      let place : 0 + length (catalog_bytes es) ≡ entry = omega arith in
      let last : Listed FitsEntry catalog_bytes out entry end (e ∷ []) = rw place at (last_listed out end es e 0 (entries_listed out end (es ++ (e ∷ [])) small within written)) in
      let o : OneEntry out end entry entry e = one_first entry_bytes FitsEntry catalog_bytes out end (next out) entry e [] last in
      let ends : end_of out entry ≡ end = omega (arith, (next out e [] entry last).others.ends) in
      let own : Listed FitsAttribute attributes_bytes out (entry + entry_attributes) end e.attributes = rw ends at (own_attributes out small e o) in
      let to_end : end ≡ entry + length (entry_bytes e) = sym ends ∙ own_end out small e o in
      let same : title ≡ e.title = read ∙ stands_two out e.title _ o.fits.title (after_type out e o.stands) in
      let bucket : b ≡ entry_bucket e.title = is ∙ ap entry_bucket same in
      let goes : postings (es ++ (e ∷ [])) ≡ post_entry entry e (postings es) = rw place at (gather_last entry_bytes post_entry catalog_bytes refl (λ x xs. refl) es e 0 []) in
      let room : length (postings (es ++ (e ∷ []))) ≤ most_records = omega (arith, postings_few out end small within (es ++ (e ∷ [])) written) in
      let more : length (posting entry (entry_bucket e.title) ∷ postings es) ≤ length (postings (es ++ (e ∷ []))) = rw goes (posted_more entry (entry + length (entry_bytes e)) e.attributes (entry + entry_attributes) (posting entry (entry_bucket e.title) ∷ postings es)) in
      record {
        ats = e.attributes;
        left = own;
        ts = posting entry (entry_bucket e.title) ∷ postings es;
        held = rw bucket at (r.more (postings es) (omega arith) i);
        goes = ap (λ (to : ℕ). gather attribute_bytes (post_attribute entry to) e.attributes (entry + entry_attributes) (posting entry (entry_bucket e.title) ∷ postings es)) to_end ∙ sym goes;
        room = room;
      }

  module _ (q₀ : ℕ) (w₀ : List ℕ) (q : ℕ) (w : List ℕ) (so_far : Goes out entry end q₀ w₀ q w) where
    step : {w' : List ℕ} {b name q' : ℕ} → q < end → name ≡ two out (q + attribute_name) → b ≡ attribute_bucket entry end name → Recorded w w' b q → q' ≡ end_of out q → (goal : List Posting) (ats : List Attribute) (ts : List Posting) → Listed FitsAttribute attributes_bytes out q end ats
        → Holds w ts → gather attribute_bytes (post_attribute entry end) ats q ts ≡ goal → length goal ≤ most_records → Going out entry end q' w' goal
    unfolding gather attributes_bytes
    step before read is r after goal [] ts l held goes room = absurd (omega (arith, l.ends))
    step {w'} {b} {name} {q'} before read is r after goal (a ∷ ats) ts l held goes room =
        let f = attribute_first out a ats l in
        let next : q' ≡ q + length (attribute_bytes a) = after ∙ f.ends in
        let same : name ≡ a.name = read ∙ stands_two out a.name _ f.fits.name (attribute_body_lem out a f.stands) in
        let bucket : b ≡ attribute_bucket entry end a.name = is ∙ ap (attribute_bucket entry end) same in
        let more : length (post_attribute entry end q a ts) ≤ length goal = rw goes at (posted_more entry end ats (q + length (attribute_bytes a)) (post_attribute entry end q a ts)) in
        record {
          ats = ats;
          left = rw after f.others;
          ts = post_attribute entry end q a ts;
          held = rw bucket at (r.more ts (omega arith) held);
          goes = rw next goes;
          room = room;
        }

    pub extend_on : {w' : List ℕ} {b name q' : ℕ} → q < end → name ≡ two out (q + attribute_name) → b ≡ attribute_bucket entry end name → Recorded w w' b q → q' ≡ end_of out q → Goes out entry end q₀ w₀ q' w'
    extend_on before read is r after = (in_index_both so_far.0 r.kept, λ goal begun. let g = so_far.1 goal begun in step before read is r after goal g.ats g.ts g.left g.held g.goes g.room)

    done : end ≤ q → (goal : List Posting) (ats : List Attribute) (ts : List Posting) → Listed FitsAttribute attributes_bytes out q end ats → Holds w ts → gather attribute_bytes (post_attribute entry end) ats q ts ≡ goal → Holds w goal
    unfolding gather attributes_bytes
    done past goal [] ts l held goes = rw goes at held
    done past goal (a ∷ ats) ts l held goes = let f = attribute_first out a ats l in absurd (omega (arith, f.ends, f.others.ends))

    pub extend_done : end ≤ q → (goal : List Posting) → Going out entry end q₀ w₀ goal → Holds w goal
    extend_done past goal begun = let g = so_far.1 goal begun in done past goal g.ats g.ts g.left g.held g.goes
