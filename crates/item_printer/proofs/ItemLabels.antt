-- The line on which an item begins, by the fields in reading order.
use Prim.Native.Nat.{ℕ, ◌+◌, ◌-◌, ◌≤◌, ◌<◌}
use mathlib.Core.Path.{◌≡◌, refl, sym, ap, ◌∙◌}
use mathlib.Core.Bool.{Bool, true, false}
use mathlib.Core.List.{List, ◌++◌}
use mathlib.Core.Option.{none, some}
use native.Mathlib.Omega.{arith}
use lib.Dec.{eqb, ltb}
use borrow.Author.Tests.{eqb-true, ltb-true, ltb-false}
use Rattle.wire.proofs.Fields.{no_fields, field_first}
use Rattle.rules.specs.Bytes.{pick, byte, end_of, fields_in}
use Rattle.rules.specs.Format.{allowed, forms, form_in, form_of, size, head_size}
use Rattle.rules.specs.Check.{stride}
use Rattle.rules.specs.Tree.{Item}
use Rattle.rules.specs.declared.Kind.TheVariants.{Parameter, Device, Statement as StatementKind, Item as ItemKind}
use Rattle.places.specs.At.{constant_at, default_at, parameter_at, parameters_at, after_parent_at, block_at, item_at, StandsAs, Siblings, ended, sibling}
use Rattle.places.proofs.Tags.{IsItemTag, node_tag, type_definition_tag, class_definition_tag, statement_tag, item_tag}
use Rattle.places.proofs.Open.{level}
use Rattle.places.proofs.Items.{statement_item, parameter_opens, BlockEnds, type_definition_opens, after_given, after_none, class_definition_opens, NodeAt, node_opens}
use Rattle.notation.specs.Print.{constants_of_block, constants_of_default, constants_of_parameters, constants_of_item, line_for}
use Rattle.statement_printer.specs.Labels.{first_label}
use Rattle.statement_printer.proofs.FirstLabel.{line_join, siblings_within, next_is, constant_label}
use Rattle.statement_printer.proofs.StatementLabels.{statement_line, block_line}

module _ (m : List ℕ) (e v : ℕ) where
  -- ---- Parameters

  parameter_label : {d q : ℕ} → StandsAs m d Parameter q → end_of m q ≤ e → first_label m q e v ≡ line_for (constants_of_default (default_at m q)) (first_label m (end_of m q) e v)
  unfolding allowed form_of form_in forms head_size size stride default_at constants_of_default line_for constant_at
  parameter_label {d} {q} s l = go (ltb (q + 5) (end_of m q)) refl
    where
      begins : first_label m q e v ≡ first_label m (q + 5) e v
      begins = next_is m e v q 0x33 (q + 5) (eqb-true (byte m q) 0x33 s.kind) (omega arith) refl (omega (arith, l))

      go : (b : Bool) → ltb (q + 5) (end_of m q) ≡ b → first_label m q e v ≡ line_for (constants_of_default (pick b (some (constant_at m (q + 5))) none)) (first_label m (end_of m q) e v)
      go true h =
          let o = parameter_opens s (level s.stands) in
          let there : q + 5 < end_of m q = ltb-true (q + 5) (end_of m q) h in
          begins ∙ constant_label m e v (d - 1) (q + 5) (o.default there) (omega (arith, o.ends there, l))
      go false h =
          let o = parameter_opens s (level s.stands) in
          let over : q + 5 ≡ end_of m q = omega (arith, o.within, ltb-false (q + 5) (end_of m q) h) in
          begins ∙ ap (λ (x : ℕ). first_label m x e v) over

  parameters_label : {d q f : ℕ} → Siblings m d Parameter q f → f ≤ e → first_label m q e v ≡ line_for (constants_of_parameters (parameters_at m (fields_in m q f))) (first_label m f e v)
  unfolding parameters_at parameter_at constants_of_parameters line_for
  parameters_label {f = f} ended l = rw (no_fields m f f (omega arith))
  parameters_label {f = f} (sibling {q = q} before s r) l =
      let later = parameters_label r l in
      rw (field_first m q f before)
      (parameter_label s (omega (arith, siblings_within r, l)) ∙ ap (line_for (constants_of_default (default_at m q))) later
      ∙ sym (line_join (constants_of_default (default_at m q)) (constants_of_parameters (parameters_at m (fields_in m (end_of m q) f))) (first_label m f e v)))

  -- ---- Devices hold no constant

  devices_label : {d q f : ℕ} → Siblings m d Device q f → f ≤ e → first_label m q e v ≡ first_label m f e v
  unfolding allowed form_of form_in forms head_size size stride
  devices_label ended l = refl
  devices_label (sibling {q = q} before s r) l = next_is m e v q 0x31 (end_of m q) (eqb-true (byte m q) 0x31 s.kind) refl refl (omega (arith, before, l)) ∙ devices_label r l

-- ---- Blocks and definitions, where the walk ends with them

module _ (m : List ℕ) (v : ℕ) where
  last_block : {r e : ℕ} → BlockEnds m 31 r e → first_label m r e v ≡ line_for (constants_of_block (block_at m 31 r)) v
  last_block {r} b = ap (λ (x : ℕ). first_label m r x v) (sym b.ends) ∙ block_line m 31 r v b.block

  body_label : {q r e : ℕ} → Siblings m 31 Parameter q r → BlockEnds m 31 r e → first_label m q e v ≡ line_for (constants_of_parameters (parameters_at m (fields_in m q r)) ++ constants_of_block (block_at m 31 r)) v
  body_label {q} {r} {e} s b =
      parameters_label m e v s (omega (arith, b.before)) ∙ ap (line_for (constants_of_parameters (parameters_at m (fields_in m q r)))) (last_block b)
      ∙ sym (line_join (constants_of_parameters (parameters_at m (fields_in m q r))) (constants_of_block (block_at m 31 r)) v)

  -- a class's parent is no constant
  parent_label : (q : ℕ) {r e : ℕ} → Siblings m 31 Parameter (after_parent_at m q) r → BlockEnds m 31 r e → first_label m q e v ≡ first_label m (after_parent_at m q) e v
  unfolding form_of form_in forms head_size size stride
  parent_label q {r} {e} s b = go (eqb (byte m q) 0x35) refl
    where
      go : (x : Bool) → eqb (byte m q) 0x35 ≡ x → first_label m q e v ≡ first_label m (after_parent_at m q) e v
      go true h =
          let behind = after_given m q h in
          next_is m e v q 0x35 (end_of m q) (eqb-true (byte m q) 0x35 h) refl refl (omega (arith, behind, siblings_within s, b.before)) ∙ ap (λ (x : ℕ). first_label m x e v) (sym behind)
      go false h = ap (λ (x : ℕ). first_label m x e v) (sym (after_none m q h))

  -- nor is a node's default
  names_label : {p : ℕ} (o : NodeAt m p) → first_label m (p + 3) (end_of m p) v ≡ first_label m o.block (end_of m p) v
  unfolding form_of form_in forms head_size size stride
  names_label {p} o = go (eqb (byte m (p + 3)) 0x1b) refl
    where
      go : (x : Bool) → eqb (byte m (p + 3)) 0x1b ≡ x → first_label m (p + 3) (end_of m p) v ≡ first_label m o.block (end_of m p) v
      go true h = next_is m (end_of m p) v (p + 3) 0x1b (end_of m (p + 3)) (eqb-true (byte m (p + 3)) 0x1b h) refl refl (omega (arith, o.default h, o.body.before)) ∙ ap (λ (x : ℕ). first_label m x (end_of m p) v) (o.default h)
      go false h = devices_label m (end_of m p) v (o.devices h) (omega (arith, o.body.before))

-- the line on which an item begins, where the walk ends with it
pub item_line : (m : List ℕ) (p v : ℕ) → StandsAs m 32 ItemKind p → first_label m p (end_of m p) v ≡ line_for (constants_of_item (item_at m p)) v
unfolding form_of form_in forms head_size size stride constants_of_item
item_line m p v s = by_tag (byte m p) (item_tag (byte m p) s.kind) refl
  where
    read_as : {i : Item} → item_at m p ≡ i → first_label m p (end_of m p) v ≡ line_for (constants_of_item i) v → first_label m p (end_of m p) v ≡ line_for (constants_of_item (item_at m p)) v
    read_as tree h = h ∙ sym (ap (λ (i : Item). line_for (constants_of_item i) v) tree)

    by_tag : (t : ℕ) → IsItemTag t → byte m p ≡ t → first_label m p (end_of m p) v ≡ line_for (constants_of_item (item_at m p)) v
    by_tag t node_tag is =
        let o = node_opens s.stands is in
        read_as o.tree (next_is m (end_of m p) v p 0x30 (p + 3) is (omega arith) refl (omega arith) ∙ names_label m v o ∙ last_block m v o.body)
    by_tag t type_definition_tag is =
        let o = type_definition_opens s.stands is in
        read_as o.tree (next_is m (end_of m p) v p 0x32 (p + 5) is (omega arith) refl (omega arith) ∙ body_label m v o.parameters o.body)
    by_tag t class_definition_tag is =
        let o = class_definition_opens s.stands is in
        read_as o.tree (next_is m (end_of m p) v p 0x34 (p + 5) is (omega arith) refl (omega arith) ∙ parent_label m v (p + 5) o.parameters o.body ∙ body_label m v o.parameters o.body)
    by_tag t (statement_tag h) is =
        let k : StandsAs m 32 StatementKind p = record { stands = s.stands; kind = rw is h } in
        read_as (statement_item k) (statement_line m 32 p v k)
