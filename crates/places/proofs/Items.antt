-- A sound manifest at its places: its strings and its items, and each item by its tag with its parts at their places. An item has 32 levels left, its
-- parts have 31.
use Prim.Native.Nat.{ℕ, suc, ◌+◌, ◌<◌, ◌≤◌}
use mathlib.Core.Path.{◌≡◌, refl, sym, ap, ap₂, ◌∙◌, subst}
use mathlib.Core.Bool.{Bool, true, false}
use mathlib.Core.List.{List, [], ◌∷◌}
use mathlib.Core.Option.{Option, none, some}
use native.Mathlib.Omega.{arith}
use lib.Dec.{eqb}
use lib.ListN.{length}
use borrow.Author.Tests.{eqb-true, lt-ltb, le-ltb}
use Rattle.wire.specs.Bytes.{pick, byte, two, end_of, fields_in}
use Rattle.wire.proofs.Fields.{no_fields, field_first}
use Rattle.wire.proofs.Laws.{run_part}
use Rattle.rules.specs.Format.{allowed, forms, form_in, form_of, size, head_size, three}
use Rattle.rules.specs.Check.{shape, text, string_places, check}
use Rattle.rules.specs.Fields.{Field, field, Fields, none as fields_end, more, read_each, read_body, read_field, read_all, head_of, tag_of, inner, first, others}
use Rattle.rules.specs.Tree.{Parent, type_definition, class_definition, named, by_default, Item, statement, node, definition}
use Rattle.rules.specs.Read.{entry_for, is_default, statement_in, block_in, block_from, default_from, parameter_from, parameters_from, last_of, last_block, parent_from, after_parent, names_from, devices_from, a_statement, item_tags, item_by, item_from, items_from, strings_from, manifest_from, manifest_of}
use Rattle.rules.specs.declared.Kind.{Kind}
use Rattle.rules.specs.declared.Kind.TheVariants.{Table, Text, Constant as ConstantKind, Statement as StatementKind, Block as BlockKind, Parameter as ParameterKind, Parent as ParentKind, Item as ItemKind, Device}
use Rattle.rules.specs.declared.Part.TheVariants.{Over, One, UpTo, Many, Names}
use Rattle.rules.proofs.Within.{false_not_true, check_sound}
pub use Rattle.places.specs.Parts.{BlockEnds}
use Rattle.places.specs.At.{constant_at, statement_at, block_at, default_at, parameter_at, parent_at, after_parent_at, item_at, parameters_at, names_at, devices_at, items_at, texts_at, Stands, StandsAs, Siblings, ended, sibling}
use Rattle.places.proofs.Tags.{statement_tag_lem, statement_entry}
use Rattle.places.proofs.Parts.{PartsStand, one_part, many_part, last_many, up_to_part, up_to_most, PerhapsPart, there, not_there, perhaps_part, NamesPart, default, devices, names_part, all_over, siblings_rise}
use Rattle.places.proofs.Open.{part_run, run_two, level, tag_read, read_by, Leaf, Opened, opened, opened_leaf, first_read, others_read, one_read, siblings_read, all_read}
use Rattle.places.proofs.Expressions.{constant_read}
use Rattle.places.proofs.Statements.{block_at_lem}
use Rattle.rules.proofs.Lists.{when_true, when_false}
use Rattle.rules.specs.Verdicts.{no_fault}

-- ---- Tags

-- a tag that is one is not another
other_tag : (t u v : ℕ) → eqb t u ≡ true → eqb u v ≡ false → eqb t v ≡ false
other_tag t u v e n = rw (eqb-true t u e) n

-- ---- Statements outside others

item_statement : (k : Field) → entry_for item_tags a_statement (tag_of k) ≡ a_statement → item_from k ≡ statement (statement_in block_from k)
unfolding item_from item_by tag_of
item_statement (field p t h ks) e = ap (item_by (field p t h ks) p h ks) e

pub statement_item : {m : List ℕ} {p : ℕ} → StandsAs m 32 StatementKind p → item_at m p ≡ statement (statement_at m 32 p)
unfolding item_at statement_at block_from
statement_item {m} {p} s = item_statement (read_field m 32 p) (ap (entry_for item_tags a_statement) (tag_read s.stands) ∙ statement_entry (statement_tag_lem (byte m p) s.kind))

-- ---- Parameters

pub record ParameterAt (m : List ℕ) (d b q : ℕ) : Type 0 where
  pub read : parameter_from (read_field m d q) ≡ parameter_at m q
  pub default : q + 5 < end_of m q → StandsAs m b ConstantKind (q + 5)
  pub ends : q + 5 < end_of m q → end_of m (q + 5) ≡ end_of m q
  pub within : q + 5 ≤ end_of m q

pub parameter_opens : {m : List ℕ} {d b q : ℕ} → StandsAs m d ParameterKind q → d ≡ suc b → ParameterAt m d b q
unfolding allowed form_of form_in forms head_size size parameter_from parameter_at default_at default_from read_each
parameter_opens {m} {d} {b} {q} s l = go (perhaps_part o.parts)
  where
    o : Opened m d b q 0x33 2 (three (UpTo 1 ConstantKind) Over Over) (q + 5)
    o = opened s.stands l (eqb-true (byte m q) 0x33 s.kind) (record { head = refl; rest = refl }) (omega arith)

    read : default_from (read_each (read_field m b) (fields_in m (q + 5) (end_of m q))) ≡ default_at m q → parameter_from (read_field m d q) ≡ parameter_at m q
    read h = ap parameter_from o.read ∙ λ i. record { place = q; name = run_two m (q + 3) 2 0 (q + 3) (omega arith) (omega arith) i; default = h i }

    go : PerhapsPart m b q ConstantKind Over Over (q + 5) (end_of m q) → ParameterAt m d b q
    go (there x c r) =
        let given : default_at m q ≡ some (constant_at m (q + 5)) = ap (λ (t : Bool). pick t (some (constant_at m (q + 5))) none) (lt-ltb (q + 5) (end_of m q) x) in
        record { read = read (rw (field_first m (q + 5) (end_of m q) x) (ap some (constant_read c) ∙ sym given)); default = λ h. c; ends = λ h. all_over r; within = omega arith }
    go (not_there r) =
        let over = all_over r in
        let given : default_at m q ≡ none = ap (λ (t : Bool). pick t (some (constant_at m (q + 5))) none) (le-ltb (q + 5) (end_of m q) (omega arith)) in
        record { read = read (rw (no_fields m (q + 5) (end_of m q) (omega arith)) (sym given)); default = λ h. absurd (omega arith); ends = λ h. absurd (omega arith); within = omega arith }

-- a field whose tag is not u, tested for u
no_tag : {A : Type 0} {m : List ℕ} {d p : ℕ} (u : ℕ) (x y : A) → Stands m d p → eqb (byte m p) u ≡ false → ◌≡◌ {A = A} (elim (eqb (tag_of (read_field m d p)) u) [ true ↦ x | false ↦ y ]) y
no_tag {m = m} {d = d} {p = p} u x y s n = when_false (eqb (tag_of (read_field m d p)) u) x y (ap (λ (t : ℕ). eqb t u) (tag_read s) ∙ n)

has_tag : {A : Type 0} {m : List ℕ} {d p : ℕ} (u : ℕ) (x y : A) → Stands m d p → eqb (byte m p) u ≡ true → ◌≡◌ {A = A} (elim (eqb (tag_of (read_field m d p)) u) [ true ↦ x | false ↦ y ]) x
has_tag {m = m} {d = d} {p = p} u x y s n = when_true (eqb (tag_of (read_field m d p)) u) x y (ap (λ (t : ℕ). eqb t u) (tag_read s) ∙ n)

parameters_read : {m : List ℕ} {d q r e : ℕ} → Siblings m d ParameterKind q r → StandsAs m d BlockKind r → r < e → parameters_from (read_each (read_field m d) (fields_in m q e)) ≡ parameters_at m (fields_in m q r)
unfolding parameters_from parameters_at read_each allowed
parameters_read {m} {d} {q} {r} {e} i s l = siblings_read parameters_from (parameters_at m) i (omega arith) (rw (field_first m r e l) (no_tag 0x33 _ [] s.stands (other_tag (byte m r) 0x20 0x33 s.kind refl))) step
  where
    step : (p : ℕ) → StandsAs m d ParameterKind p → (ks : Fields) (ps : List ℕ) → parameters_from ks ≡ parameters_at m ps → parameters_from (more (read_field m d p) ks) ≡ parameter_at m p ∷ parameters_at m ps
    step p s ks ps h = has_tag 0x33 (parameter_from (read_field m d p) ∷ parameters_from ks) [] s.stands s.kind ∙ ap₂ ◌∷◌ (parameter_opens s (level s.stands)).read h

-- ---- The block at the end

block_ends : {m : List ℕ} {d p q e : ℕ} → PartsStand m d p (three (One BlockKind) Over Over) q e → BlockEnds m d q e
block_ends s = let o = one_part s in record { before = o.before; block = o.part; ends = all_over o.after }

-- the last field read is the block, whatever siblings come before it
last_read : {m : List ℕ} {d : ℕ} {k : Kind} {q r e : ℕ} → Siblings m d k q r → BlockEnds m d r e → (j : Field) → last_of j (read_each (read_field m d) (fields_in m q e)) ≡ read_field m d r
unfolding last_of read_each
last_read {m} {r = r} {e = e} ended b j = let over = b.ends in rw (field_first m r e b.before, no_fields m (end_of m r) e (omega arith)) refl
last_read {m} {d} {q = q} {r = r} {e = e} (sibling l s i) b j = let before = b.before in rw (field_first m q e (omega arith)) (last_read i b (read_field m d q))

-- so it is where another field comes before those
last_after : {m : List ℕ} {d q r e : ℕ} {k : Kind} → q < e → Siblings m d k (end_of m q) r → BlockEnds m d r e → (j : Field) → last_of j (read_each (read_field m d) (fields_in m q e)) ≡ read_field m d r
unfolding last_of read_each
last_after {m} {d} {q = q} {e = e} l i b j = rw (field_first m q e l) (last_read i b (read_field m d q))

block_read : (m : List ℕ) (d r : ℕ) (ks : Fields) → d ≤ 32 → last_of (first fields_end) ks ≡ read_field m d r → last_block ks ≡ block_at m d r
unfolding last_block block_from
block_read m d r ks l h = ap (block_in 32) h ∙ block_at_lem m d 32 r l

-- the parameters from q on and the block that ends a definition
pub record ParametersBlock (m : List ℕ) (d q e : ℕ) : Type 0 where
  pub to : ℕ
  pub parameters : Siblings m d ParameterKind q to
  pub body : BlockEnds m d to e

parameters_block : {m : List ℕ} {d p q e : ℕ} → PartsStand m d p (three (Many ParameterKind) (One BlockKind) Over) q e → ParametersBlock m d q e
parameters_block s = let i = many_part s in record { to = i.to; parameters = i.siblings; body = block_ends i.after }

-- ---- Definitions

-- the item read at p, opened
item_read : (m : List ℕ) (p t : ℕ) (h : List ℕ) (ks : Fields) → read_field m 32 p ≡ field p t h ks → item_at m p ≡ item_by (field p t h ks) p h ks (entry_for item_tags a_statement t)
unfolding item_at item_from
item_read m p t h ks r = ap item_from r

-- a 32
pub record TypeDefinitionAt (m : List ℕ) (p : ℕ) : Type 0 where
  pub block : ℕ
  pub tree : item_at m p ≡ definition (type_definition (record { place = p; name = two m (p + 3); parameters = parameters_at m (fields_in m (p + 5) block); body = block_at m 31 block }))
  pub parameters : Siblings m 31 ParameterKind (p + 5) block
  pub body : BlockEnds m 31 block (end_of m p)

pub type_definition_opens : {m : List ℕ} {p : ℕ} → Stands m 32 p → byte m p ≡ 0x32 → TypeDefinitionAt m p
unfolding form_of form_in forms head_size size item_by entry_for item_tags
type_definition_opens {m} {p} s e =
    let o = opened {b = 31} {h = 2} {q = p + 5} s refl e (record { head = refl; rest = refl }) (omega arith) in
    let x = parameters_block o.parts in
    let ks : Fields = read_each (read_field m 31) (fields_in m (p + 5) (end_of m p)) in
    let name = run_two m (p + 3) 2 0 (p + 3) (omega arith) (omega arith) in
    let parameters = parameters_read x.parameters x.body.block x.body.before in
    let body = block_read m 31 x.to ks (omega arith) (last_read x.parameters x.body (first fields_end)) in
    record {
      block = x.to;
      tree = item_read m p 0x32 _ _ o.read ∙ λ i. definition (type_definition (record { place = p; name = name i; parameters = parameters i; body = body i }));
      parameters = x.parameters;
      body = x.body;
    }

-- a class's parent, if it has one
parent_there_lem : {m : List ℕ} {d q : ℕ} → StandsAs m d ParentKind q → parent_from (read_field m d q) ≡ some (record { place = q; name = two m (q + 3) })
unfolding allowed form_of form_in forms head_size size parent_from
parent_there_lem {m} {d} {q} s =
    let o = opened_leaf {h = 2} s.stands (eqb-true (byte m q) 0x35 s.kind) (record { head = refl; rest = refl }) in
    ap parent_from o.read ∙ λ i. some (record { place = q; name = run_two m (q + 3) 2 0 (q + 3) (omega arith) (omega arith) i })

no_parent_lem : (k : Field) → eqb (tag_of k) 0x35 ≡ false → parent_from k ≡ none
unfolding parent_from tag_of
no_parent_lem (field p t h ks) e = when_false (eqb t 0x35) (some (record { place = p; name = two h 0 })) none e

-- the same at the place, by the tag there
pub parent_given : (m : List ℕ) (q : ℕ) → eqb (byte m q) 0x35 ≡ true → parent_at m q ≡ some (record { place = q; name = two m (q + 3) })
unfolding parent_at
parent_given m q e = ap (λ (b : Bool). pick b (some (record { place = q; name = two m (q + 3) })) none) e

pub parent_none : (m : List ℕ) (q : ℕ) → eqb (byte m q) 0x35 ≡ false → parent_at m q ≡ none
unfolding parent_at
parent_none m q e = ap (λ (b : Bool). pick b (some (record { place = q; name = two m (q + 3) })) none) e

pub after_given : (m : List ℕ) (q : ℕ) → eqb (byte m q) 0x35 ≡ true → after_parent_at m q ≡ end_of m q
unfolding after_parent_at
after_given m q e = ap (λ (b : Bool). pick b (end_of m q) q) e

pub after_none : (m : List ℕ) (q : ℕ) → eqb (byte m q) 0x35 ≡ false → after_parent_at m q ≡ q
unfolding after_parent_at
after_none m q e = ap (λ (b : Bool). pick b (end_of m q) q) e

-- what begins the parameters and the block of a class is no parent
record NoParent (m : List ℕ) (d q : ℕ) : Type 0 where
  stands : Stands m d q
  other : eqb (byte m q) 0x35 ≡ false

not_parent : {m : List ℕ} {d q r e : ℕ} → Siblings m d ParameterKind q r → BlockEnds m d r e → NoParent m d q
unfolding allowed
not_parent {m} {r = r} ended b = record { stands = b.block.stands; other = other_tag (byte m r) 0x20 0x35 b.block.kind refl }
not_parent {m} {q = q} (sibling l s i) b = record { stands = s.stands; other = other_tag (byte m q) 0x33 0x35 s.kind refl }

-- a 34
pub record ClassDefinitionAt (m : List ℕ) (p : ℕ) : Type 0 where
  pub block : ℕ
  pub tree : item_at m p ≡ definition (class_definition (record { place = p; name = two m (p + 3); parent = parent_at m (p + 5); parameters = parameters_at m (fields_in m (after_parent_at m (p + 5)) block); body = block_at m 31 block }))
  pub first : Stands m 31 (p + 5)
  pub parameters : Siblings m 31 ParameterKind (after_parent_at m (p + 5)) block
  pub body : BlockEnds m 31 block (end_of m p)

pub class_definition_opens : {m : List ℕ} {p : ℕ} → Stands m 32 p → byte m p ≡ 0x34 → ClassDefinitionAt m p
unfolding form_of form_in forms head_size size item_by entry_for item_tags allowed after_parent
class_definition_opens {m} {p} s e = go (perhaps_part o.parts)
  where
    o : Opened m 32 31 p 0x34 2 (three (UpTo 1 ParentKind) (Many ParameterKind) (One BlockKind)) (p + 5)
    o = opened s refl e (record { head = refl; rest = refl }) (omega arith)

    ks : Fields
    ks = read_each (read_field m 31) (fields_in m (p + 5) (end_of m p))

    finish : (q : ℕ) → Stands m 31 (p + 5) → (x : ParametersBlock m 31 q (end_of m p)) → parent_from (first ks) ≡ parent_at m (p + 5) → after_parent_at m (p + 5) ≡ q → after_parent (parent_from (first ks)) ks ≡ read_each (read_field m 31) (fields_in m q (end_of m p)) → last_of (first fields_end) ks ≡ read_field m 31 x.to → ClassDefinitionAt m p
    finish q t x parent start after last =
        let name = run_two m (p + 3) 2 0 (p + 3) (omega arith) (omega arith) in
        let parameters = ap parameters_from after ∙ parameters_read x.parameters x.body.block x.body.before ∙ ap (λ (n : ℕ). parameters_at m (fields_in m n x.to)) (sym start) in
        let body = block_read m 31 x.to ks (omega arith) last in
        record {
          block = x.to;
          tree = item_read m p 0x34 _ _ o.read ∙ λ i. definition (class_definition (record { place = p; name = name i; parent = parent i; parameters = parameters i; body = body i }));
          first = t;
          parameters = subst (λ (n : ℕ). Siblings m 31 ParameterKind n x.to) (sym start) x.parameters;
          body = x.body;
        }

    go : PerhapsPart m 31 p ParentKind (Many ParameterKind) (One BlockKind) (p + 5) (end_of m p) → ClassDefinitionAt m p
    go (there l t r) =
        let x = parameters_block r in
        let tag : eqb (byte m (p + 5)) 0x35 ≡ true = t.kind in
        let read : parent_from (first ks) ≡ some (record { place = p + 5; name = two m (p + 5 + 3) }) = ap parent_from (first_read (read_field m 31) m (p + 5) (end_of m p) l) ∙ parent_there_lem t in
        let after : after_parent (parent_from (first ks)) ks ≡ others ks = ap (λ (q : Option Parent). after_parent q ks) read in
        finish (end_of m (p + 5)) t.stands x (read ∙ sym (parent_given m (p + 5) tag)) (after_given m (p + 5) tag) (after ∙ others_read (read_field m 31) m (p + 5) (end_of m p) l) (last_after l x.parameters x.body (first fields_end))
    go (not_there r) =
        let x = parameters_block r in
        let n = not_parent x.parameters x.body in
        let up = siblings_rise x.parameters in
        let before = x.body.before in
        let l : p + 5 < end_of m p = omega arith in
        let tag : eqb (tag_of (read_field m 31 (p + 5))) 0x35 ≡ false = ap (λ (t : ℕ). eqb t 0x35) (tag_read n.stands) ∙ n.other in
        let read : parent_from (first ks) ≡ none = ap parent_from (first_read (read_field m 31) m (p + 5) (end_of m p) l) ∙ no_parent_lem (read_field m 31 (p + 5)) tag in
        let after : after_parent (parent_from (first ks)) ks ≡ ks = ap (λ (q : Option Parent). after_parent q ks) read in
        finish (p + 5) n.stands x (read ∙ sym (parent_none m (p + 5) n.other)) (after_none m (p + 5) n.other) after (last_read x.parameters x.body (first fields_end))

-- ---- Nodes

names_read : {m : List ℕ} {d q r e : ℕ} → Siblings m d Device q r → BlockEnds m d r e → names_from (read_each (read_field m d) (fields_in m q e)) ≡ names_at m (fields_in m q r)
unfolding names_from names_at read_each allowed
names_read {m} {d} {q} {r} {e} i b = let l = b.before in siblings_read names_from (names_at m) i (omega arith) (rw (field_first m r e b.before) (no_tag 0x31 _ [] b.block.stands (other_tag (byte m r) 0x20 0x31 b.block.kind refl))) step
  where
    name : (p : ℕ) → StandsAs m d Device p → two (head_of (read_field m d p)) 0 ≡ two m (p + 3)
    name p s =
        let leaf : Leaf 0x31 2 = unfold form_of form_in forms head_size size in record { head = refl; rest = refl } in
        let o = opened_leaf s.stands (eqb-true (byte m p) 0x31 s.kind) leaf in
        ap (λ (k : Field). two (head_of k) 0) o.read ∙ (unfold head_of in run_two m (p + 3) 2 0 (p + 3) (omega arith) (omega arith))

    step : (p : ℕ) → StandsAs m d Device p → (ks : Fields) (ps : List ℕ) → names_from ks ≡ names_at m ps → names_from (more (read_field m d p) ks) ≡ two m (p + 3) ∷ names_at m ps
    step p s ks ps h = has_tag 0x31 (two (head_of (read_field m d p)) 0 ∷ names_from ks) [] s.stands s.kind ∙ ap₂ ◌∷◌ (name p s) h

-- the names at the place, by the tag there
pub default_devices : (m : List ℕ) (q r : ℕ) → eqb (byte m q) 0x1b ≡ true → devices_at m q r ≡ by_default
unfolding devices_at
default_devices m q r e = ap (λ (b : Bool). pick b by_default (named (names_at m (fields_in m q r)))) e

pub named_devices : (m : List ℕ) (q r : ℕ) → eqb (byte m q) 0x1b ≡ false → devices_at m q r ≡ named (names_at m (fields_in m q r))
unfolding devices_at
named_devices m q r e = ap (λ (b : Bool). pick b by_default (named (names_at m (fields_in m q r)))) e

-- a 30
pub record NodeAt (m : List ℕ) (p : ℕ) : Type 0 where
  pub block : ℕ
  pub tree : item_at m p ≡ node (devices_at m (p + 3) block) (block_at m 31 block)
  pub first : Stands m 31 (p + 3)
  pub default : eqb (byte m (p + 3)) 0x1b ≡ true → end_of m (p + 3) ≡ block
  pub devices : eqb (byte m (p + 3)) 0x1b ≡ false → Siblings m 31 Device (p + 3) block
  pub body : BlockEnds m 31 block (end_of m p)

pub node_opens : {m : List ℕ} {p : ℕ} → Stands m 32 p → byte m p ≡ 0x30 → NodeAt m p
unfolding form_of form_in forms head_size size item_by entry_for item_tags allowed devices_from is_default
node_opens {m} {p} s e = go (names_part o.parts)
  where
    o : Opened m 32 31 p 0x30 0 (three Names (One BlockKind) Over) (p + 3)
    o = opened s refl e (record { head = refl; rest = refl }) (omega arith)

    ks : Fields
    ks = read_each (read_field m 31) (fields_in m (p + 3) (end_of m p))

    tree : (r : ℕ) → devices_from ks ≡ devices_at m (p + 3) r → last_of (first fields_end) ks ≡ read_field m 31 r → item_at m p ≡ node (devices_at m (p + 3) r) (block_at m 31 r)
    tree r names last = item_read m p 0x30 _ _ o.read ∙ ap₂ node names (block_read m 31 r ks (omega arith) last)

    -- whether the first field is a default
    tested : Stands m 31 (p + 3) → p + 3 < end_of m p → is_default (first ks) ≡ eqb (byte m (p + 3)) 0x1b
    tested t l = ap is_default (first_read (read_field m 31) m (p + 3) (end_of m p) l) ∙ ap (λ (u : ℕ). eqb u 0x1b) (tag_read t)

    go : NamesPart m 31 p (One BlockKind) Over (p + 3) (end_of m p) → NodeAt m p
    go (default l t u r) =
        let b = block_ends r in
        let tag : eqb (byte m (p + 3)) 0x1b ≡ true = ap (λ (x : ℕ). eqb x 0x1b) u in
        let read : devices_from ks ≡ by_default = when_true (is_default (first ks)) by_default (named (names_from ks)) (tested t l ∙ tag) in
        let last = last_after {k = Device} l ended b (first fields_end) in
        record { block = end_of m (p + 3); tree = tree (end_of m (p + 3)) (read ∙ sym (default_devices m (p + 3) (end_of m (p + 3)) tag)) last; first = t; default = λ h. refl; devices = λ h. false_not_true (sym h ∙ tag); body = b }
    go (devices l t i) =
        let b = block_ends i.after in
        let all = i.siblings in
        let tag : eqb (byte m (p + 3)) 0x1b ≡ false = other_tag (byte m (p + 3)) 0x31 0x1b t.kind refl in
        let read : devices_from ks ≡ named (names_from ks) = when_false (is_default (first ks)) by_default (named (names_from ks)) (tested t.stands l ∙ tag) in
        record { block = i.to; tree = tree i.to (read ∙ ap named (names_read all b) ∙ sym (named_devices m (p + 3) i.to tag)) (last_read all b (first fields_end)); first = t.stands; default = λ h. false_not_true (sym tag ∙ h); devices = λ h. all; body = b }

-- ---- The whole manifest

items_read : (m : List ℕ) (qs : List ℕ) → items_from (read_each (read_field m 32) qs) ≡ items_at m qs
unfolding items_from items_at item_at read_each
items_read m [] = refl
items_read m (q ∷ qs) = ap (λ (is : List Item). item_at m q ∷ is) (items_read m qs)

-- the text read at q
text_read : {m : List ℕ} {d q : ℕ} → StandsAs m d Text q → head_of (read_field m d q) ≡ text m q
unfolding allowed form_of form_in forms head_of read_body text
text_read {m} {d} {q} s =
    ap head_of (read_by m q 0x02 (level s.stands) (eqb-true (byte m q) 0x02 s.kind) refl refl)
    ∙ part_run m (q + 3) (two m (q + 1)) (end_of m q) refl s.stands.ends
    ∙ run_part m (q + 3) (two m (q + 1)) s.stands.ends

texts_read : {m : List ℕ} {d q e : ℕ} → Siblings m d Text q e → strings_from (read_each (read_field m d) (fields_in m q e)) ≡ texts_at m (fields_in m q e)
unfolding strings_from texts_at allowed
texts_read {m} {d} i = all_read strings_from (texts_at m) i refl (λ p s ks ps h. has_tag 0x02 (head_of (read_field m d p) ∷ strings_from ks) (strings_from ks) s.stands s.kind ∙ ap₂ ◌∷◌ (text_read s) h)

-- the strings and the items of a manifest
pub record ManifestAt (m : List ℕ) : Type 0 where
  pub strings : (manifest_of m).strings ≡ texts_at m (string_places m)
  pub items : (manifest_of m).items ≡ items_at m (fields_in m (end_of m 0) (length m))
  pub table : StandsAs m 32 Table 0
  pub texts : Siblings m 31 Text 3 (end_of m 0)
  pub each : Siblings m 32 ItemKind (end_of m 0) (length m)
  pub most : length (string_places m) ≤ 1024

pub shape_opens : (m : List ℕ) → shape m ≡ no_fault → ManifestAt m
unfolding shape allowed form_of form_in forms head_size size manifest_of manifest_from read_all string_places inner
shape_opens m w =
    let all : PartsStand m 32 0 (three (One Table) (Many ItemKind) Over) 0 (length m) = record { depth = omega arith; from = omega arith; ends = omega arith; sound = w } in
    let x = one_read all in
    let o = opened {b = 31} {h = 0} {q = 3} x.part.stands refl (eqb-true (byte m 0) 0x01 x.part.kind) (record { head = refl; rest = refl }) refl in
    let texts : Siblings m 31 Text 3 (end_of m 0) = last_many (up_to_part o.parts) in
    record {
      strings = ap (λ (k : Field). strings_from (inner k)) x.read ∙ ap (λ (k : Field). strings_from (inner k)) o.read ∙ texts_read texts;
      items = ap items_from x.read_after ∙ items_read m (fields_in m (end_of m 0) (length m));
      table = x.part;
      texts = texts;
      each = last_many (many_part x.after);
      most = up_to_most 1024 o.parts;
    }

pub manifest_opens : (m : List ℕ) → check m ≡ no_fault → ManifestAt m
manifest_opens m w = shape_opens m (check_sound m w).shaped
