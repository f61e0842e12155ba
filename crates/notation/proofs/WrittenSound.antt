-- A tree of fields that is as listed, whose strings rise and whose names are known, written, passes the whole check.
use Prim.Native.Nat.{ℕ, zero, suc, ◌+◌, ◌-◌}
use mathlib.Core.Path.{◌≡◌, refl, ap, subst, ◌∙◌}
use mathlib.Core.Bool.{true}
use mathlib.Core.List.{List, ◌++◌}
use native.Mathlib.Omega.{arith}
use lib.ListN.{length, length-append}
use borrow.Author.Tests.{eqb-true}
use Rattle.rules.specs.Bytes.{end_of}
use Rattle.rules.specs.Format.{size, head_size, forms, form_in, form_of, allowed, follow, may_end, part_may_end}
use Rattle.rules.specs.Check.{rising, string_places, places_in, names_known, check}
use Rattle.rules.specs.Fields.{Field, field, Fields, none, more, write, write_all, head_of, tag_of, inner, first, others}
use Rattle.rules.specs.Read.{strings_from}
use Rattle.rules.specs.declared.Kind.TheVariants.{Table, Item}
use Rattle.rules.specs.declared.Part.TheVariants.{Over, Many}
use Rattle.rules.specs.declared.Parts.{Parts}
use Rattle.rules.specs.declared.Next.{Next}
use Rattle.rules.specs.declared.Next.TheVariants.{Go, Wrong}
use Rattle.rules.proofs.Within.{false_not_true, wrong_not_go, one_came}
use Rattle.notation.proofs.Stands.{Stands, stands_whole, stands_first, stands_second, body_of, FieldAt, field_at, starts, fields_found}
use Rattle.notation.proofs.Written.{onward, after, All, also_field, Complete, RightBody, Right, manifest_parts, shape_right}
use Rattle.notation.proofs.WrittenNames.{AllKnown, none_further, fields_known, field_known, Rising, StringField, all_strings, strings_counted, rising_right}
use Rattle.rules.specs.Verdicts.{no_fault}

-- ---- The string table

-- the first field of a manifest is k, with the strings in it
record TableAt (m : List ℕ) (k : Field) : Type 0 where
  strings : All StringField (inner k)
  stand : Stands m 3 (write_all (inner k))
  found : string_places m ≡ starts 3 (inner k)

-- a right field 01 is the string table
table_at : (m : List ℕ) (d : ℕ) (k : Field) → tag_of k ≡ 1 → Right d k → Stands m 0 (write k) → TableAt m k
unfolding string_places tag_of inner body_of head_of form_of form_in forms head_size size
table_at m zero k e r s = absurd r
table_at m (suc d) (field p t h ks) e r s = go (subst (λ (u : ℕ). RightBody (Right d) u h ks) e r) (field_at (field p t h ks) s)
  where
    go : RightBody (Right d) 1 h ks → FieldAt m 0 (field p t h ks) → TableAt m (field p t h ks)
    go r f =
        let empty : length h ≡ 0 = r.head.count in
        let sum = length-append h (write_all ks) in
        let start : 0 + 3 + length h ≡ 3 = omega arith in
        let stand : Stands m 3 (write_all ks) = rw start at (stands_second h (write_all ks) f.body) in
        record { strings = all_strings d 1024 r.fields.last r.fields.each r.fields.reached; stand = stand; found = fields_found ks 3 (end_of m 0) stand (omega (arith, f.count)) }

-- the first field of a manifest is a 01
table_first : (t : ℕ) (x : Parts) → follow manifest_parts t ≡ Go x → t ≡ 1
unfolding allowed
table_first t x e = eqb-true t 1 (one_came Table t (Many Item) Over x e).kind

-- a manifest m that is written of right fields: the string table, and the items after it
record Opened (d : ℕ) (ks : Fields) (m : List ℕ) : Type 0 where
  table : TableAt m (first ks)
  items : All (Right d) (others ks)
  stand : Stands m (end_of m 0) (write_all (others ks))
  ends : end_of m 0 + length (write_all (others ks)) ≡ length m

-- right fields are so written
opened : (d : ℕ) (ks : Fields) → Complete (Right d) manifest_parts ks → Opened d ks (write_all ks)
unfolding after may_end part_may_end first others write_all
opened d none c = let z : may_end manifest_parts ≡ true = cc (c.reached, c.ends) in false_not_true z
opened d (more k ks) c = go c.each (follow manifest_parts (tag_of k)) refl c.reached
  where
    m : List ℕ
    m = write k ++ write_all ks

    go : All (Right d) (more k ks) → (x : Next) → follow manifest_parts (tag_of k) ≡ x → onward x (λ y. after y ks) ≡ Go c.last → Opened d (more k ks) m
    go (also_field r all) (Go x) e h =
        let at_start_lem = stands_first (write k) (write_all ks) (stands_whole m) in
        let ends = (field_at k at_start_lem).ends in
        let sum = length-append (write k) (write_all ks) in
        record { table = table_at m d k (table_first (tag_of k) x e) r at_start_lem; items = all; stand = rw ends (stands_second (write k) (write_all ks) (stands_whole m)); ends = omega arith }
    go (also_field r all) Wrong e h = wrong_not_go h

-- ---- The whole check

module _ (ks : Fields) (c : Complete (Right 32) manifest_parts ks) where
  abbrev manifest : List ℕ
  manifest = write_all ks

  -- there are as many strings in the tree as are found
  pub strings_number : length (string_places manifest) ≡ length (strings_from (inner (first ks)))
  strings_number = let table = (opened 32 ks c).table in ap length table.found ∙ strings_counted table.strings 3

  -- strings that rise are sound
  pub strings_written : Rising (strings_from (inner (first ks))) → rising manifest (string_places manifest) ≡ no_fault
  strings_written up = let table = (opened 32 ks c).table in rw table.found (rising_right manifest table.strings 3 up table.stand)

  -- names below n are sound
  pub names_written : (n : ℕ) → AllKnown n (others ks) → names_known manifest n (places_in manifest (end_of manifest 0) (length manifest)) ≡ no_fault
  unfolding places_in
  names_written n w =
      let o = opened 32 ks c in
      let e : ℕ = length manifest in
      fields_known manifest n e 32 (λ q k r w s l. field_known manifest n e 32 q k r w s l) o.items w (end_of manifest 0) o.stand (rw o.ends (none_further manifest n e)) (e - end_of manifest 0)

  -- with strings that rise and names below their number, the manifest passes the check
  pub written_sound : Rising (strings_from (inner (first ks))) → AllKnown (length (strings_from (inner (first ks)))) (others ks) → check manifest ≡ no_fault
  unfolding check
  written_sound up w = rw (shape_right ks c, strings_written up, strings_number) (names_written (length (strings_from (inner (first ks)))) w)
