-- Searches for an entry and for an attribute in it are together the definition's. Assumes nothing.
use Rattle.std.specs.Option.{is_some as option_some}
use mathlib.Core.Path.{◌≡◌, refl, sym, ap, ◌∙◌}
use mathlib.Core.List.{List}
use mathlib.Core.Option.{Option, none, some}
use Prim.Native.Nat.{ℕ, ◌≤◌}
use lib.ListN.{length}
use Rattle.values.specs.declared.Labelled.{Labelled}
use Rattle.values.specs.declared.Reason.TheVariants.{NotInCatalog}
use Rattle.rules.specs.Outcome.{◌>>=◌, or_refuse, done}
use Rattle.rules.specs.State.{Attribute, Entry, is_some}
use Rattle.rules.specs.Evaluate.{any, first_with, is_entry, is_attribute, read_attribute}
use Rattle.rules.specs.Catalog.{entry_bytes}
use Rattle.rules.proofs.ReadBack.{FitsEntry}
use Rattle.catalog.specs.Finding.{Written, EntryAt, entry_place, attribute_place, content_at, content_of, content_in, look_up, found_in}
use Rattle.catalog.proofs.Search.{HitAt, hit_nothing, hit_at, any_first}
use Rattle.catalog.proofs.Entries.{entry_hits, attribute_hits, content_back}
use Rattle.std.specs.Prelude.{Option as CodeOption, Some, None}

stands_there : {m : List ℕ} {o : Option Entry} {p : ℕ} (h : HitAt entry_bytes FitsEntry m o p) → EntryAt m p h.x
stands_there h = record { stands = h.stands; short = h.short; fits = h.fits }

module _ (m : List ℕ) (fill t n : ℕ) (small : fill ≤ 65535) (within : fill ≤ length m) (es : List Entry) (w : Written m fill es) where
  -- an entry that was found stands there
  entry_at : (p : ℕ) → entry_place t n es ≡ Some p → HitAt entry_bytes FitsEntry m (first_with (is_entry t n) es) p
  entry_at p e = hit_at p (entry_hits m fill t n small within es w) e

  no_entry : entry_place t n es ≡ None → first_with (is_entry t n) es ≡ none
  no_entry e = hit_nothing (entry_hits m fill t n small within es w) e

  module _ {r : CodeOption ℕ} (answer : r ≡ entry_place t n es) where
    pub has_lem : option_some r ≡ any (is_entry t n) es
    unfolding is_some
    has_lem = go r refl
      where
        go : (o : CodeOption ℕ) → r ≡ o → option_some o ≡ any (is_entry t n) es
        go (Some p) is =
            let h = entry_at p (sym answer ∙ is) in
            sym (any_first (is_entry t n) es ∙ ap is_some h.first)
        go None is = sym (any_first (is_entry t n) es ∙ ap is_some (no_entry (sym answer ∙ is)))

    -- the ways of a read, of an attribute named a
    module _ (a : ℕ) where
      pub read_nothing : r ≡ None → None ≡ found_in (look_up t n a es)
      unfolding look_up content_in found_in
      read_nothing is = rw (no_entry (sym answer ∙ is))

      module _ (p : ℕ) (is : r ≡ Some p) {s : CodeOption ℕ} (next : (e : Entry) → entry_place t n es ≡ Some p → first_with (is_entry t n) es ≡ some e → s ≡ attribute_place a e p) where
        there : entry_place t n es ≡ Some p
        there = sym answer ∙ is

        pub read_missing : s ≡ None → None ≡ found_in (look_up t n a es)
        unfolding look_up content_in content_of found_in
        read_missing none' =
            let h = entry_at p there in
            let at = stands_there h in
            let none'' : first_with (is_attribute a) h.x.attributes ≡ none = hit_nothing (attribute_hits m p h.x a at) (sym (next h.x there h.first) ∙ none') in
            rw (h.first, none'')

        pub read_content : (q : ℕ) {x : Labelled} → s ≡ Some q → x ≡ content_at m q → Some x ≡ found_in (look_up t n a es)
        unfolding look_up content_in content_of found_in
        read_content q {x} is' content =
            let h = entry_at p there in
            let at = stands_there h in
            let g = hit_at q (attribute_hits m p h.x a at) (sym (next h.x there h.first) ∙ is') in
            let same : x ≡ g.x.content = content ∙ content_back m q g.x g.fits g.stands in
            rw (h.first, g.first, same)

-- the definition's reading of an attribute, by what is looked up
pub read_attribute_is : (p t m n : ℕ) (es : List Entry) → read_attribute p t m n es ≡ or_refuse (look_up t m n es) NotInCatalog p
unfolding read_attribute look_up content_in content_of or_refuse ◌>>=◌
read_attribute_is p t m n es = go (first_with (is_entry t m) es)
  where
    inner : (o : Option Attribute) → (or_refuse o NotInCatalog p >>= λ a. done a.content) ≡ or_refuse (content_of o) NotInCatalog p
    inner none = refl
    inner (some a) = refl

    go : (o : Option Entry) → (or_refuse o NotInCatalog p >>= λ e. or_refuse (first_with (is_attribute n) e.attributes) NotInCatalog p >>= λ a. done a.content) ≡ or_refuse (content_in n o) NotInCatalog p
    go none = refl
    go (some e) = inner (first_with (is_attribute n) e.attributes)
