-- Items: each is written when its parts are, one after the other. Assumes nothing.
use Prim.Native.Nat.{ℕ, ◌+◌, ◌≤◌, ◌<◌}
use mathlib.Core.Path.{◌≡◌, refl, sym, ap, ◌∙◌, subst}
use mathlib.Core.Bool.{Bool, true, false}
use mathlib.Core.List.{List, ◌∷◌}
use mathlib.Core.Option.{Option, none, some}
use native.Mathlib.Omega.{arith}
use borrow.Author.Tests.{lt-ltb, le-ltb, eq-eqb, ne_eqb}
use lib.ListN.{length}
use Rattle.wire.proofs.Fields.{no_fields, field_first}
use Rattle.rules.specs.Bytes.{byte, two, end_of, fields_in}
use Rattle.rules.specs.Format.{allowed}
use Rattle.rules.specs.Tree.{Parameter, Parent, Block, Devices, named, type_definition, class_definition, Item, node, definition}
use Rattle.rules.specs.declared.Kind.{Kind}
use Rattle.rules.specs.declared.Kind.TheVariants.{Parameter as ParameterKind, Statement as StatementKind, Block as BlockKind, Item as ItemKind, Device}
use Rattle.places.specs.At.{constant_at, default_at, parameter_at, parameters_at, parent_at, after_parent_at, names_at, statement_at, block_at, item_at, items_at, StandsAs, Siblings, ended, sibling}
use Rattle.places.proofs.Parts.{first_sibling}
use Rattle.places.proofs.Tags.{IsItemTag, node_tag, type_definition_tag, class_definition_tag, statement_tag, item_tag}
use Rattle.places.proofs.Items.{statement_item, parameter_opens, BlockEnds, TypeDefinitionAt, type_definition_opens, parent_given, parent_none, ClassDefinitionAt, class_definition_opens, default_devices, named_devices, NodeAt, node_opens}
use Rattle.notation.specs.Tokens
use Rattle.notation.specs.Tokens.{Lexeme}
use Rattle.notation.specs.Print.{Rest, at, the, constant_lexeme, constants_of_default, line_for, separated, printed_entries, printed_statement, printed_parameter, printed_parameters, printed_parent, printed_device, printed_devices, in_braces, constants_of_item, printed_item, printed_items}
use Rattle.token_writer.specs.declared.Pen.{Pen}
use Rattle.statement_printer.specs.Passing.{Going, Passes}
use Rattle.statement_printer.specs.Labels.{first_label}
use Rattle.statement_printer.specs.Forms.{EntryPasses}
use Rattle.item_printer.specs.Here.{ItemHere}
use Rattle.statement_printer.proofs.FirstLabel.{label_end, constant_label, siblings_within}
use Rattle.item_printer.proofs.ItemLabels.{item_line}

-- ---- The block at the end

-- whatever siblings come before the block, those from q on are the last of them
abbrev pub LastFrom : List ℕ → (from end q : ℕ) → Type 0
LastFrom m from e q = (k : Kind) (to : ℕ) → Siblings m 31 k from to → BlockEnds m 31 to e → Siblings m 31 k q to

field_further : {m : List ℕ} {d q to e : ℕ} {k : Kind} → Siblings m d k q to → BlockEnds m d to e → end_of m q < e → Siblings m d k (end_of m q) to
field_further ended b l = absurd (omega (arith, b.ends))
field_further (sibling before s r) b l = r

field_last : {m : List ℕ} {d q to e : ℕ} {k : Kind} → Siblings m d k q to → BlockEnds m d to e → e ≤ end_of m q → q ≡ to
field_last ended b l = refl
field_last (sibling before s r) b l = absurd (omega (arith, siblings_within r, b.before))

module _ (m : List ℕ) (from e : ℕ) {q next : ℕ} (is : next ≡ end_of m q) (last : LastFrom m from e q) where
  pub goes_further : next < e → LastFrom m from e next
  goes_further l k to s b = rw is (field_further (last k to s b) b (omega (arith, is, l)))

  pub is_last : e ≤ next → (k : Kind) (to : ℕ) → Siblings m 31 k from to → BlockEnds m 31 to e → q ≡ to
  is_last l k to s b = field_last (last k to s b) b (omega (arith, is, l))

-- what is found where the end is known by another name
pub block_found : {m : List ℕ} {from e f y to : ℕ} {k : Kind} → ((k : Kind) (to : ℕ) → Siblings m 31 k from to → BlockEnds m 31 to f → y ≡ to) → f ≡ e → Siblings m 31 k from to → BlockEnds m 31 to e → y ≡ to
block_found {m} {to = to} {k = k} found same s b = found k to s (subst (BlockEnds m 31 to) (sym same) b)

-- ---- Parts that have no places of their own

module _ (S : ℕ → List ℕ) where
  -- a device's name, behind a comma if one is wanted
  pub device_passes : {x : ℕ} (later : Bool) {n : ℕ} {a b c : List ℕ} {pen u pen' : Pen} → n ≡ x → Passes a b pen u (λ rest. separated later pen.line (rest pen.line)) → Passes b c u pen' (λ rest. at pen.line (Tokens.text (S n)) ∷ rest pen.line) → EntryPasses (printed_device S) x later a c pen pen'
  unfolding printed_entries
  device_passes {x} later {n} {a} {b} {c} {pen} {u} {pen'} en comma text =
      let named : Passes b c u pen' (λ rest. at pen.line (Tokens.text (S x)) ∷ rest pen.line) = subst (λ (y : ℕ). Passes b c u pen' (λ rest. at pen.line (Tokens.text (S y)) ∷ rest pen.line)) en text in
      record {
        goes = λ after o w k g.
            named.goes o w (λ y. printed_entries (printed_device S) after true y k)
            (comma.goes o w (λ y. at pen.line (Tokens.text (S x)) ∷ printed_entries (printed_device S) after true pen.line k) g);
      }

module _ (S : ℕ → List ℕ) (m : List ℕ) where
  -- ---- Parameters

  parameter_plain : (q : ℕ) → end_of m q ≤ q + 5 → parameter_at m q ≡ record { place = q; name = two m (q + 3); default = none }
  unfolding parameter_at default_at
  parameter_plain q h = rw (le-ltb (q + 5) (end_of m q) h) refl

  parameter_given : (q : ℕ) → q + 5 < end_of m q → parameter_at m q ≡ record { place = q; name = two m (q + 3); default = some (constant_at m (q + 5)) }
  unfolding parameter_at default_at
  parameter_given q h = rw (lt-ltb (q + 5) (end_of m q) h) refl

  module _ (q : ℕ) (later : Bool) {a b c : List ℕ} {pen u v : Pen} {n e line : ℕ} (s : StandsAs m 31 ParameterKind q) (en : n ≡ two m (q + 3)) (ee : e ≡ end_of m q) (first : line ≡ first_label m (q + 5) e pen.line)
      (comma : Passes a b pen u (λ rest. separated later pen.line (rest pen.line))) (name : Passes b c u v (λ rest. at line (Tokens.variable (S n)) ∷ rest line)) where
    name_on : {l : ℕ} → line ≡ l → Passes b c u v (λ rest. at l (Tokens.variable (S (two m (q + 3)))) ∷ rest l)
    name_on {l} same = subst (λ (y : ℕ). Passes b c u v (λ rest. at l (Tokens.variable (S y)) ∷ rest l)) en (subst (λ (y : ℕ). Passes b c u v (λ rest. at y (Tokens.variable (S n)) ∷ rest y)) same name)

    -- a name alone stays on the line at hand
    pub plain_parameter_passes : e ≤ q + 5 → EntryPasses (printed_parameter S) (parameter_at m q) later a c pen v
    unfolding printed_entries constants_of_default line_for
    plain_parameter_passes h =
        let here = name_on (first ∙ label_end m e pen.line (q + 5) h) in
        record {
          goes = λ after o w k g.
              here.goes o w (λ y. printed_entries (printed_parameter S) after true y k)
              (comma.goes o w (λ y. at pen.line (Tokens.variable (S (two m (q + 3)))) ∷ printed_entries (printed_parameter S) after true pen.line k)
              (subst (λ (y : Parameter). Going o a pen w (printed_entries (printed_parameter S) (y ∷ after) later pen.line k)) (parameter_plain q (omega (arith, ee, h))) g));
        }

    -- one with a default begins on the line of that
    pub given_parameter_passes : {d f : List ℕ} {x pen' : Pen} → q + 5 < e → Passes c d v x (λ rest. the v.line 23 ∷ rest v.line) → Passes d f x pen' (λ rest. constant_lexeme S (constant_at m (q + 5)) ∷ rest (byte m (q + 5 + 3))) → EntryPasses (printed_parameter S) (parameter_at m q) later a f pen pen'
    unfolding printed_entries constants_of_default line_for constant_at
    given_parameter_passes h sign constant =
        let there : q + 5 < end_of m q = omega (arith, ee, h) in
        let p = parameter_opens s refl in
        let label : ℕ = byte m (q + 5 + 3) in
        let here = name_on (first ∙ constant_label m e pen.line 30 (q + 5) (p.default there) (omega (arith, ee, p.ends there))) in
        record {
          goes = λ after o w k g.
              let follows : List Lexeme = constant_lexeme S (constant_at m (q + 5)) ∷ printed_entries (printed_parameter S) after true label k in
              constant.goes o w (λ y. printed_entries (printed_parameter S) after true y k)
              (sign.goes o w (λ y. follows)
              (here.goes o w (λ y. the y 23 ∷ follows)
              (comma.goes o w (λ y. at label (Tokens.variable (S (two m (q + 3)))) ∷ the label 23 ∷ follows)
              (subst (λ (y : Parameter). Going o a pen w (printed_entries (printed_parameter S) (y ∷ after) later pen.line k)) (parameter_given q there) g))));
        }

  -- no brackets without parameters
  pub no_parameters_pass : {first e : ℕ} {a : List ℕ} {pen : Pen} → e ≤ first → Passes a a pen pen (printed_parameters S (parameters_at m (fields_in m first e)) pen.line)
  unfolding parameters_at
  no_parameters_pass {first} {e} l = rw (no_fields m first e l) (record { goes = λ o w k g. g })

  pub parameters_pass : {first e : ℕ} {a b c d : List ℕ} {pen q r pen' : Pen} → first < e
      → Passes a b pen q (λ rest. the pen.line 9 ∷ rest pen.line) → Passes b c q r (printed_entries (printed_parameter S) (parameters_at m (fields_in m first e)) false q.line) → Passes c d r pen' (λ rest. the r.line 10 ∷ rest r.line)
      → Passes a d pen pen' (printed_parameters S (parameters_at m (fields_in m first e)) pen.line)
  unfolding parameters_at
  parameters_pass {first} {e} {a} {b} {c} {d} {pen} {q} {r} {pen'} l begin entries close =
      let some-there = field_first m first e l in
      let xs : List Parameter = parameter_at m first ∷ parameters_at m (fields_in m (end_of m first) e) in
      let each : Passes b c q r (printed_entries (printed_parameter S) xs false q.line) = subst (λ (ps : List ℕ). Passes b c q r (printed_entries (printed_parameter S) (parameters_at m ps) false q.line)) some-there entries in
      subst (λ (ps : List ℕ). Passes a d pen pen' (printed_parameters S (parameters_at m ps) pen.line)) (sym some-there)
      (record {
        goes = λ o w k g. close.goes o w k (each.goes o w (λ u. the u 10 ∷ k u) (begin.goes o w (λ u. printed_entries (printed_parameter S) xs false u (λ x. the x 10 ∷ k x)) g));
      })

  -- ---- The parent of a class

  pub no_parent_passes : (q : ℕ) {t : ℕ} {a : List ℕ} {pen : Pen} → t ≡ byte m q → (t ≡ 0x35 → ⊥) → Passes a a pen pen (printed_parent S (parent_at m q) pen.line)
  no_parent_passes q tag other = rw (parent_none m q (ne_eqb (byte m q) 0x35 (λ e. other (tag ∙ e)))) (record { goes = λ o w k g. g })

  pub parent_passes : (q : ℕ) {t n : ℕ} {a b c : List ℕ} {pen u pen' : Pen} → t ≡ byte m q → t ≡ 0x35 → n ≡ two m (q + 3) → Passes a b pen u (λ rest. the pen.line 36 ∷ rest pen.line) → Passes b c u pen' (λ rest. at u.line (Tokens.word (S n)) ∷ rest u.line) → Passes a c pen pen' (printed_parent S (parent_at m q) pen.line)
  parent_passes q {n = n} {a = a} {b = b} {c = c} {pen = pen} {u = u} {pen' = pen'} tag is en word name =
      let named : Passes b c u pen' (λ rest. at u.line (Tokens.word (S (two m (q + 3)))) ∷ rest u.line) = subst (λ (y : ℕ). Passes b c u pen' (λ rest. at u.line (Tokens.word (S y)) ∷ rest u.line)) en name in
      subst (λ (x : Option Parent). Passes a c pen pen' (printed_parent S x pen.line)) (sym (parent_given m q (eq-eqb (byte m q) 0x35 (sym tag ∙ is))))
      (record { goes = λ o w k g. named.goes o w k (word.goes o w (λ y. at y (Tokens.word (S (two m (q + 3)))) ∷ k y) g) })

  -- ---- Items

  module _ (p line : ℕ) {a d : List ℕ} {pen pen' : Pen} where
    -- an item by what is read of it
    pub item_as : {i : Item} → item_at m p ≡ i → Passes a d pen pen' (printed_item S i line) → Passes a d pen pen' (printed_item S (item_at m p) line)
    item_as same h = subst (λ (i : Item). Passes a d pen pen' (printed_item S i line)) (sym same) h

    pub statement_passes : StandsAs m 32 StatementKind p → Passes a d pen pen' (printed_statement S (statement_at m 32 p) line) → Passes a d pen pen' (printed_item S (item_at m p) line)
    unfolding printed_item
    statement_passes s h = item_as (statement_item s) h

  -- a keyword, devices and a block
  node_passes : (p y line : ℕ) {ds : Devices} {a b c d : List ℕ} {pen q r pen' : Pen} → item_at m p ≡ node ds (block_at m 31 y)
      → Passes a b pen q (λ rest. the line 34 ∷ rest line) → Passes b c q r (printed_devices S ds q.line) → Passes c d r pen' (in_braces S (block_at m 31 y) r.line) → Passes a d pen pen' (printed_item S (item_at m p) line)
  unfolding printed_item
  node_passes p y line {ds} tree word devices body =
      item_as p line tree
      (record { goes = λ o w k g. body.goes o w k (devices.goes o w (λ u. in_braces S (block_at m 31 y) u k) (word.goes o w (λ u. printed_devices S ds u (λ x. in_braces S (block_at m 31 y) x k)) g)) })

  module _ (p y line : ℕ) {t : ℕ} {a b c d : List ℕ} {pen q r pen' : Pen} (o : NodeAt m p) (ey : y ≡ o.block) (et : t ≡ byte m (p + 3)) (word : Passes a b pen q (λ rest. the line 34 ∷ rest line)) (body : Passes c d r pen' (in_braces S (block_at m 31 y) r.line)) where
    pub default_node_passes : t ≡ 0x1b → Passes b c q r (λ rest. the q.line 28 ∷ rest q.line) → Passes a d pen pen' (printed_item S (item_at m p) line)
    default_node_passes is every =
        let devices = default_devices m (p + 3) o.block (eq-eqb (byte m (p + 3)) 0x1b (sym et ∙ is)) in
        node_passes p y line (o.tree ∙ λ i. node (devices i) (block_at m 31 (sym ey i))) word every body

    pub named_node_passes : (t ≡ 0x1b → ⊥) → Passes b c q r (printed_entries (printed_device S) (names_at m (fields_in m (p + 3) y)) false q.line) → Passes a d pen pen' (printed_item S (item_at m p) line)
    named_node_passes other names =
        let devices = named_devices m (p + 3) o.block (ne_eqb (byte m (p + 3)) 0x1b (λ e. other (et ∙ e))) in
        node_passes p y line (o.tree ∙ λ i. node ((devices ∙ ap (λ (x : ℕ). named (names_at m (fields_in m (p + 3) x))) (sym ey)) i) (block_at m 31 (sym ey i))) word names body

  pub type_passes : (p y line : ℕ) {n : ℕ} {a b c d e : List ℕ} {pen q r s pen' : Pen} (o : TypeDefinitionAt m p) → y ≡ o.block → n ≡ two m (p + 3)
      → Passes a b pen q (λ rest. the line 35 ∷ rest line) → Passes b c q r (λ rest. at q.line (Tokens.word (S n)) ∷ rest q.line)
      → Passes c d r s (printed_parameters S (parameters_at m (fields_in m (p + 5) y)) r.line) → Passes d e s pen' (in_braces S (block_at m 31 y) s.line)
      → Passes a e pen pen' (printed_item S (item_at m p) line)
  unfolding printed_item
  type_passes p y line {n} o ey en word name given body =
      let ps : List Parameter = parameters_at m (fields_in m (p + 5) y) in
      let block : Block = block_at m 31 y in
      item_as p line (o.tree ∙ λ i. definition (type_definition (record { place = p; name = sym en i; parameters = parameters_at m (fields_in m (p + 5) (sym ey i)); body = block_at m 31 (sym ey i) })))
      (record {
        goes = λ o w k g.
            let inside : Rest = (λ u. in_braces S block u k) in
            body.goes o w k
            (given.goes o w inside
            (name.goes o w (λ u. printed_parameters S ps u inside)
            (word.goes o w (λ u. at u (Tokens.word (S n)) ∷ printed_parameters S ps u inside) g)));
      })

  pub class_passes : (p f y line : ℕ) {n : ℕ} {a b c d e h : List ℕ} {pen q r s t pen' : Pen} (o : ClassDefinitionAt m p) → f ≡ after_parent_at m (p + 5) → y ≡ o.block → n ≡ two m (p + 3)
      → Passes a b pen q (λ rest. the line 32 ∷ rest line) → Passes b c q r (λ rest. at q.line (Tokens.word (S n)) ∷ rest q.line)
      → Passes c d r s (printed_parameters S (parameters_at m (fields_in m f y)) r.line) → Passes d e s t (printed_parent S (parent_at m (p + 5)) s.line) → Passes e h t pen' (in_braces S (block_at m 31 y) t.line)
      → Passes a h pen pen' (printed_item S (item_at m p) line)
  unfolding printed_item
  class_passes p f y line {n} o ef ey en word name given above body =
      let ps : List Parameter = parameters_at m (fields_in m f y) in
      let block : Block = block_at m 31 y in
      item_as p line (o.tree ∙ λ i. definition (class_definition (record { place = p; name = sym en i; parent = parent_at m (p + 5); parameters = parameters_at m (fields_in m (sym ef i) (sym ey i)); body = block_at m 31 (sym ey i) })))
      (record {
        goes = λ o w k g.
            let inside : Rest = (λ u. in_braces S block u k) in
            let inherited : Rest = (λ u. printed_parent S (parent_at m (p + 5)) u inside) in
            body.goes o w k
            (above.goes o w inside
            (given.goes o w inherited
            (name.goes o w (λ u. printed_parameters S ps u inherited)
            (word.goes o w (λ u. at u (Tokens.word (S n)) ∷ printed_parameters S ps u inherited) g))));
      })

-- ---- Where the block of an item is

pub block_here : {m : List ℕ} {y to e : ℕ} → y ≡ to → BlockEnds m 31 to e → StandsAs m 31 BlockKind y
block_here same b = rw same b.block

module _ {m : List ℕ} {p t : ℕ} (o : NodeAt m p) (et : t ≡ byte m (p + 3)) where
  pub default_block : {y : ℕ} → y ≡ end_of m (p + 3) → t ≡ 0x1b → y ≡ o.block
  default_block ey is = ey ∙ o.default (eq-eqb (byte m (p + 3)) 0x1b (sym et ∙ is))

  pub devices_there : (t ≡ 0x1b → ⊥) → Siblings m 31 Device (p + 3) o.block
  devices_there other = o.devices (ne_eqb (byte m (p + 3)) 0x1b (λ e. other (et ∙ e)))

-- ---- Which item it is

module _ {m table : List ℕ} {strings p : ℕ} where
  pub node_here : ItemHere m table strings p 0x30 → NodeAt m p
  node_here h = node_opens h.stands.stands h.tag

  pub type_here : ItemHere m table strings p 0x32 → TypeDefinitionAt m p
  type_here h = type_definition_opens h.stands.stands h.tag

  pub class_here : ItemHere m table strings p 0x34 → ClassDefinitionAt m p
  class_here h = class_definition_opens h.stands.stands h.tag

-- an item that is neither node nor definition is a statement
pub statement_here : {m : List ℕ} {p t : ℕ} → StandsAs m 32 ItemKind p → t ≡ byte m p → (t ≡ 0x30 → ⊥) → (t ≡ 0x32 → ⊥) → (t ≡ 0x34 → ⊥) → StandsAs m 32 StatementKind p
statement_here {m} {p} {t} s tag a b c = record { stands = s.stands; kind = go (byte m p) (item_tag (byte m p) s.kind) (sym tag) }
  where
    go : (u : ℕ) → IsItemTag u → u ≡ t → allowed StatementKind u ≡ true
    go u node_tag e = absurd (a (sym e))
    go u type_definition_tag e = absurd (b (sym e))
    go u class_definition_tag e = absurd (c (sym e))
    go u (statement_tag h) e = h

-- ---- One item after the other

-- of the items from `first` on, those from q on are still to be written
pub record ItemsTo (S : ℕ → List ℕ) (m : List ℕ) (first q : ℕ) (out₀ out : List ℕ) (pen₀ pen : Pen) : Type 0 where
  pub left : Siblings m 32 ItemKind q (length m)
  pub goes : (o w : List ℕ) (k : Rest) → Going o out₀ pen₀ w (printed_items S (items_at m (fields_in m first (length m))) pen₀.line k) → Going o out pen w (printed_items S (items_at m (fields_in m q (length m))) pen.line k)

module _ (S : ℕ → List ℕ) (m : List ℕ) (first : ℕ) where
  pub no_item_yet : {out : List ℕ} {pen : Pen} → Siblings m 32 ItemKind first (length m) → ItemsTo S m first first out out pen pen
  no_item_yet s = record { left = s; goes = λ o w k g. g }

  pub item_stands : {q : ℕ} {out₀ out : List ℕ} {pen₀ pen : Pen} → q < length m → ItemsTo S m first q out₀ out pen₀ pen → StandsAs m 32 ItemKind q
  item_stands l t = (first_sibling t.left l).here

  -- an item begins on the line of its first constant
  pub one_item : {q r line : ℕ} {out₀ out out' : List ℕ} {pen₀ pen pen' : Pen} → q < length m → ItemsTo S m first q out₀ out pen₀ pen
      → r ≡ end_of m q → line ≡ first_label m q r pen.line → Passes out out' pen pen' (printed_item S (item_at m q) line) → ItemsTo S m first r out₀ out' pen₀ pen'
  unfolding items_at printed_items
  one_item {q} {r} {line = line} {out₀ = out₀} {out = out} {out' = out'} {pen₀ = pen₀} {pen = pen} {pen' = pen'} l t er eline p =
      let s = first_sibling t.left l in
      let begins = eline ∙ ap (λ (x : ℕ). first_label m q x pen.line) er ∙ item_line m q pen.line s.here in
      let here : Passes out out' pen pen' (printed_item S (item_at m q) (line_for (constants_of_item (item_at m q)) pen.line)) = subst (λ (x : ℕ). Passes out out' pen pen' (printed_item S (item_at m q) x)) begins p in
      subst (λ (x : ℕ). ItemsTo S m first x out₀ out' pen₀ pen') (sym er)
      (record {
        left = s.after;
        goes = λ o w k g. here.goes o w (λ u. printed_items S (items_at m (fields_in m (end_of m q) (length m))) u k) (subst (λ (qs : List ℕ). Going o out pen w (printed_items S (items_at m qs) pen.line k)) s.places (t.goes o w k g));
      })

  pub all_items : {q : ℕ} {out₀ out : List ℕ} {pen₀ pen : Pen} → length m ≤ q → ItemsTo S m first q out₀ out pen₀ pen → Passes out₀ out pen₀ pen (printed_items S (items_at m (fields_in m first (length m))) pen₀.line)
  unfolding items_at printed_items
  all_items {q} {out = out} {pen = pen} l t = record {
    goes = λ o w k g. subst (λ (qs : List ℕ). Going o out pen w (printed_items S (items_at m qs) pen.line k)) (no_fields m q (length m) l) (t.goes o w k g);
  }
