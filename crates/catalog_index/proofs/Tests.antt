-- The ways of `is_sought`. Assumes nothing.
use mathlib.Core.Path.{◌≡◌, sym, ◌∙◌}
use mathlib.Core.Bool.{false}
use mathlib.Core.List.{List}
use Prim.Native.Nat.{ℕ, ◌+◌, ◌≤◌, ◌<◌}
use borrow.Author.Tests.{eq-eqb, ne_eqb, lt-ltb, le-ltb}
use lib.Dec.{eqb}
use Rattle.wire.specs.Bytes.{byte, two}
use Rattle.catalog.specs.Layout.{entry_type, entry_title, entry_attributes, attribute_name}
use Rattle.catalog_index.specs.declared.Sought.{Sought}
use Rattle.catalog_index.specs.declared.Sought.TheVariants.{Entry, Attribute}
use Rattle.catalog_index.specs.Index.{matches, sought_at}

module _ (out : List ℕ) (fill : ℕ) (s : Sought) (p : ℕ) where
  pub too_far : fill < p + entry_attributes → false ≡ sought_at out fill s p
  unfolding sought_at
  too_far h = rw (lt-ltb fill (p + entry_attributes) h)

  module _ (near : p + entry_attributes ≤ fill) where
    pub near_enough : sought_at out fill s p ≡ matches out s p
    unfolding sought_at
    near_enough = rw (le-ltb fill (p + entry_attributes) near)

    module _ {t n : ℕ} (is : s ≡ Entry t n) where
      pub other_tag : {b : ℕ} → b ≡ byte out p → (b ≡ 0x40 → ⊥) → false ≡ sought_at out fill s p
      unfolding matches
      other_tag read differs = rw (near_enough, is, ne_eqb (byte out p) 0x40 (λ e. differs (read ∙ e)))

      module _ {b : ℕ} (tag : b ≡ byte out p) (entry : b ≡ 0x40) where
        pub other_type : {k : ℕ} → k ≡ two out (p + entry_type) → (k ≡ t → ⊥) → false ≡ sought_at out fill s p
        unfolding matches
        other_type read differs = rw (near_enough, is, eq-eqb (byte out p) 0x40 (sym tag ∙ entry), ne_eqb (two out (p + entry_type)) t (λ e. differs (read ∙ e)))

        pub same_type_lem : {k m : ℕ} → k ≡ two out (p + entry_type) → k ≡ t → m ≡ two out (p + entry_title) → eqb m n ≡ sought_at out fill s p
        unfolding matches
        same_type_lem read same title = rw (near_enough, is, eq-eqb (byte out p) 0x40 (sym tag ∙ entry), eq-eqb (two out (p + entry_type)) t (sym read ∙ same), title)

    module _ {n from end : ℕ} (is : s ≡ Attribute n from end) where
      pub before_it : p < from → false ≡ sought_at out fill s p
      unfolding matches
      before_it h = rw (near_enough, is, lt-ltb p from h)

      pub after_it : from ≤ p → end ≤ p → false ≡ sought_at out fill s p
      unfolding matches
      after_it l h = rw (near_enough, is, le-ltb p from l, le-ltb p end h)

      pub within_it : {k : ℕ} → from ≤ p → p < end → k ≡ two out (p + attribute_name) → eqb k n ≡ sought_at out fill s p
      unfolding matches
      within_it l h read = rw (near_enough, is, le-ltb p from l, lt-ltb p end h, read)
