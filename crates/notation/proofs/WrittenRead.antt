-- A tree of fields that is as listed, written and read again, is the same tree but for the places of its fields.
use Prim.Native.Nat.{ℕ, zero, suc, ◌+◌}
use mathlib.Core.Path.{◌≡◌, refl, ap, ap₂}
use mathlib.Core.List.{List, [], append-nil}
use native.Mathlib.Omega.{arith}
use lib.ListN.{length, length-append}
use lib.Seq.{slice}
use Rattle.rules.specs.Bytes.{byte, end_of}
use Rattle.rules.specs.Format.{head_size, form_of}
use Rattle.rules.specs.Fields.{Field, field, Fields, none, more, read_each, read_body, read_field, read_all, write, write_all, head_of, tag_of, inner}
use Rattle.rules.specs.declared.Rest.{Rest}
use Rattle.rules.specs.declared.Rest.TheVariants.{Only, Text, Fields as Inner}
use Rattle.rules.specs.declared.Form.{Form}
use Rattle.rules.proofs.Listed.{same}
use Rattle.rules.proofs.TypedBack.{unplaced, unplaced_all}
use Rattle.notation.proofs.Stands.{Stands, stands_whole, stands_first, stands_second, stands_cut, body_of, FieldAt, field_at, starts, fields_found}
use Rattle.notation.proofs.Written.{All, no_field, also_field, Complete, RightHead, RightInner, Right, manifest_parts}

module _ (m : List ℕ) where
  -- a right field of at most d levels is read where it is written
  abbrev ReadAt : ℕ → Type 0
  ReadAt d = (q : ℕ) (k : Field) → Right d k → Stands m q (write k) → unplaced (read_field m d q) ≡ unplaced k

  -- so are right fields one after the other
  fields_read : (d : ℕ) → ReadAt d → {ks : Fields} → All (Right d) ks → (q : ℕ) → Stands m q (write_all ks) → unplaced_all (read_each (read_field m d) (starts q ks)) ≡ unplaced_all ks
  unfolding starts read_each write_all unplaced
  fields_read d each no_field q s = refl
  fields_read d each (also_field {k = k} {ks = ks} r all) q s =
      ap₂ more (each q k r (stands_first (write k) (write_all ks) s)) (fields_read d each all (q + length (write k)) (stands_second (write k) (write_all ks) s))

  -- a field without fields in it has all of its body for a head
  leaf_read : (q p t : ℕ) (h : List ℕ) → FieldAt m q (field p t h none) → field 0 (byte m q) (slice (q + 3) (end_of m q) m) none ≡ field 0 t h none
  unfolding tag_of body_of head_of inner write_all
  leaf_read q p t h f =
      let body : Stands m (q + 3) h = stands_first h [] f.body in
      let all = ap length (append-nil h) in
      rw (f.tag, stands_cut (end_of m q) (omega (arith, f.count)) body)

  -- one field, by what follows its pieces
  body_read : (d q p t : ℕ) → ReadAt d → (l : Form) (h : List ℕ) (ks : Fields) (x : Rest) → FieldAt m q (field p t h ks) → RightHead x l h → RightInner (Right d) x ks → unplaced (read_body m (read_field m d) q (head_size l) x) ≡ field 0 t h (unplaced_all ks)
  unfolding read_body unplaced tag_of body_of head_of inner
  body_read d q p t each l h ks Only f r same = leaf_read q p t h f
  body_read d q p t each l h ks Text f r same = leaf_read q p t h f
  body_read d q p t each l h ks (Inner ps) f r c =
      let n = length-append h (write_all ks) in
      let count = r.count in
      let from : ℕ = q + 3 + head_size l in
      let head = stands_cut from (omega arith) (stands_first h (write_all ks) f.body) in
      let after : Stands m from (write_all ks) = rw r.count at (stands_second h (write_all ks) f.body) in
      let found = fields_found ks from (end_of m q) after (omega (arith, f.count)) in
      rw (f.tag, head, found) (ap (field 0 t h) (fields_read d each c.each from after))

  -- a right field is read as itself
  field_read : (d q : ℕ) (k : Field) → Right d k → Stands m q (write k) → unplaced (read_field m d q) ≡ unplaced k
  unfolding read_field unplaced tag_of
  field_read zero q k r s = absurd r
  field_read (suc d) q (field p t h ks) r s =
      let f = field_at (field p t h ks) s in
      rw f.tag (body_read d q p t (λ q k r s. field_read d q k r s) (form_of t) h ks (form_of t).rest f r.head r.fields)

-- a manifest that is written of right fields is read as these fields
pub read_back : (ks : Fields) → Complete (Right 32) manifest_parts ks → unplaced_all (read_all (write_all ks)) ≡ unplaced_all ks
unfolding read_all
read_back ks c =
    let m : List ℕ = write_all ks in
    let s = stands_whole m in
    rw (fields_found ks 0 (length m) s (omega arith)) (fields_read m 32 (λ q k r s. field_read m 32 q k r s) c.each 0 s)
