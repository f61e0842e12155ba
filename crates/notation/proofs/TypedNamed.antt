-- The tree that a sound manifest's printed text should build is the manifest's own tree by the bytes of every name.
use Prim.Native.Nat.{ℕ, ◌<◌}
use mathlib.Core.Path.{◌≡◌, refl, sym, ap, ap₂, ◌∙◌}
use mathlib.Core.List.{List, [], ◌∷◌, ◌++◌}
use mathlib.Core.Option.{Option}
use Rattle.values.specs.declared.Value.{Value}
use Rattle.rules.specs.Bytes.{two}
use Rattle.rules.specs.Format.{forms, form_in, form_of, size}
use Rattle.rules.specs.Check.{check}
use Rattle.rules.specs.Fields.{Field, field, Fields, none, more, read_all, others}
use Rattle.rules.specs.Tree.{Constant, Expression, Arms, AttributeField, Statement, Block, Branches, Parameter, Parent, Devices, Item}
use Rattle.rules.specs.Read.{manifest_of}
use Rattle.rules.specs.Catalog.{high_bytes}
use Rattle.rules.specs.Compile.{string_at}
use Rattle.rules.specs.EditRule.{IsBytes}
use Rattle.rules.proofs.Lists.{Each, none_left, also, Perhaps, not_there, there}
use Rattle.rules.proofs.ReadBack.{FitsValue, fits_integer, fits_string, fits_boolean, two_back}
use Rattle.rules.proofs.Fits.{FitsName, FitsConstant, FitsExpression, fits_constant, fits_variable, fits_top_variable, fits_class_variable, fits_operation, fits_negation, fits_attribute_read, fits_selector, fits_unreadable, FitsArms, fits_no_arm, fits_arm, fits_default_arm, FitsAttributeField, FitsStatement, fits_assignment, fits_conditional, fits_choice, fits_resource, fits_defined, fits_class, fits_include, fits_unreadable_statement, FitsBlock, fits_end, fits_next, FitsBranches, fits_no_branch, fits_branch, fits_default_branch, FitsParameter, FitsParent, fits_type_definition, fits_class_definitions, FitsDevices, fits_named, fits_by_default, FitsItem, fits_statement_item, fits_node, fits_definition_item, manifest_fits}
use Rattle.rules.proofs.TypedBack.{value_field, constant_field, operator_byte, expression_field, arm_fields, attribute_fields, statement_field, block_fields, branch_fields, default_fields, parameter_fields, parent_fields, device_fields, devices_fields, definition_field, item_field, item_fields, fields_of, unplaced, unplaced_all, typed_back}
use Rattle.notation.specs.Building.{Piece, byte, name, Node, node, Nodes, empty, ◌▸◌, leaf}
use Rattle.notation.specs.Named.{named_piece, named_head, named, named_onto, named_tree}
use Rattle.notation.proofs.Expected.{bare_node, default_node, nodes_onto, value_node, constant_node_of, node_of, arms_onto, attribute_node, statement_node, block_onto, branches_onto, block_node, default_onto, parameter_node, parent_onto, device_node, devices_onto, item_node, items_onto}
use Rattle.rules.specs.Verdicts.{no_fault}

-- ---- Places do not matter

module _ (strings : List (List ℕ)) where
  mutual
    unfolding unplaced named

    pub named_unplaced : (k : Field) → named strings (unplaced k) ≡ named strings k
    named_unplaced (field p t h ks) = ap (λ (js : Nodes). node 0 t (named_head strings t h) js) (onto_unplaced ks empty)

    pub onto_unplaced : (ks : Fields) (js : Nodes) → named_onto strings (unplaced_all ks) js ≡ named_onto strings ks js
    onto_unplaced none js = refl
    onto_unplaced (more k ks) js = onto_unplaced ks (js ▸ named strings (unplaced k)) ∙ ap (λ (j : Node). named_onto strings ks (js ▸ j)) (named_unplaced k)

-- ---- Names in two bytes

-- a name after a byte, and after another name
behind_label_lem : (l n : ℕ) → n < 65536 → two (l ∷ high_bytes 2 n) 1 ≡ n
unfolding two high_bytes
behind_label_lem l n h = two_back n [] h

behind_name : (c n : ℕ) → n < 65536 → two (high_bytes 2 c ++ high_bytes 2 n) 2 ≡ n
unfolding two high_bytes
behind_name c n h = two_back n [] h

name_alone : (n : ℕ) → n < 65536 → two (high_bytes 2 n) 0 ≡ n
unfolding two high_bytes
name_alone n h = two_back n [] h

-- ---- Each form

module _ (strings : List (List ℕ)) {Given : Type 0} (given : Given) where
  abbrev S : ℕ → List ℕ
  S = string_at strings

  abbrev as_named : Field → Node
  as_named k = named strings k

  -- a node by its one name, by two, by its fields
  with_name_lem : (t n : ℕ) → FitsName Given n → {ks js : Nodes} → ks ≡ js → bare_node t (name (S n) ∷ []) ks ≡ bare_node t (name (S (two (high_bytes 2 n) 0)) ∷ []) js
  with_name_lem t n f e = ap₂ (λ (i : ℕ) (ks : Nodes). bare_node t (name (S i) ∷ []) ks) (sym (name_alone n (f given))) e

  with_names : (t c n : ℕ) → FitsName Given c → FitsName Given n → {ks js : Nodes} → ks ≡ js → bare_node t (name (S c) ∷ name (S n) ∷ []) ks ≡ bare_node t (name (S (two (high_bytes 2 c ++ high_bytes 2 n) 0)) ∷ name (S (two (high_bytes 2 c ++ high_bytes 2 n) 2)) ∷ []) js
  with_names t c n f g e = rw (two_back c (high_bytes 2 n) (f given), behind_name c n (g given)) (ap (λ (ks : Nodes). bare_node t (name (S c) ∷ name (S n) ∷ []) ks) e)

  with_fields : (t : ℕ) (h : List Piece) {ks js : Nodes} → ks ≡ js → bare_node t h ks ≡ bare_node t h js
  with_fields t h e = ap (λ (ks : Nodes). bare_node t h ks) e

  one_behind : (ks : Nodes) {k j : Node} → k ≡ j → ks ▸ k ≡ ks ▸ j
  one_behind ks e = ap (λ (n : Node). ks ▸ n) e

  two_fields : {k j i l : Node} → k ≡ j → i ≡ l → empty ▸ k ▸ i ≡ empty ▸ j ▸ l
  two_fields e f = ap₂ (λ (x y : Node). empty ▸ x ▸ y) e f

  value_named : (l : ℕ) {v : Value} → FitsValue v → value_node S l v ≡ as_named (value_field l v)
  unfolding value_node value_field named named_head named_piece form_of form_in forms size high_bytes
  value_named l (fits_integer e) = refl
  value_named l (fits_string {n = n} h) = ap (λ (i : ℕ). leaf 0 0x11 (byte l ∷ name (S i) ∷ [])) (sym (behind_label_lem l n h))
  value_named l fits_boolean = refl

  constant_named : {c : Constant} → FitsConstant Given c → constant_node_of S c ≡ as_named (constant_field c)
  unfolding constant_field
  constant_named {c} f = value_named c.label (f given).value

  mutual
    unfolding node_of expression_field named named_head named_piece form_of form_in forms size

    expression_named : {e : Expression} → FitsExpression Given e → node_of S e ≡ as_named (expression_field e)
    expression_named (fits_constant c) = constant_named c
    expression_named (fits_variable {n = n} f) = with_name_lem 0x13 n f refl
    expression_named (fits_top_variable {n = n} f) = with_name_lem 0x14 n f refl
    expression_named (fits_class_variable {q = c} {n = n} f g) = with_names 0x15 c n f g refl
    expression_named (fits_operation {o = o} a b) = with_fields 0x16 (byte (operator_byte o) ∷ []) (two_fields (expression_named a) (expression_named b))
    expression_named (fits_negation a) = with_fields 0x17 [] (one_behind empty (expression_named a))
    expression_named (fits_attribute_read {t = t} {n = n} f g a) = with_names 0x18 t n f g (one_behind empty (expression_named a))
    expression_named (fits_selector {s = s} a arms) = with_fields 0x19 [] (ap (λ (k : Node). arms_onto S s (empty ▸ k)) (expression_named a) ∙ arms_named arms _)
    expression_named fits_unreadable = refl

    arms_named : {s : Arms} → FitsArms Given s → (ks : Nodes) → arms_onto S s ks ≡ named_onto strings (arm_fields s) ks
    arms_named fits_no_arm ks = refl
    arms_named (fits_arm {s = s} c a arms) ks =
        ap (λ (k : Node). arms_onto S s (ks ▸ k)) (with_fields 0x1a [] (two_fields (constant_named c) (expression_named a))) ∙ arms_named arms _
    arms_named (fits_default_arm {s = s} a arms) ks =
        ap (λ (k : Node). arms_onto S s (ks ▸ k)) (with_fields 0x1a [] (one_behind (empty ▸ default_node) (expression_named a))) ∙ arms_named arms _

  attributes_named : {fs : List AttributeField} → Each (FitsAttributeField Given) fs → (ks : Nodes) → nodes_onto (attribute_node S) fs ks ≡ named_onto strings (attribute_fields fs) ks
  unfolding nodes_onto attribute_node attribute_fields named named_head named_piece form_of form_in forms size
  attributes_named none_left ks = refl
  attributes_named (also {x = x} {xs = xs} f fs) ks =
      ap (λ (k : Node). nodes_onto (attribute_node S) xs (ks ▸ k)) (with_name_lem 0x26 x.name f.name (one_behind empty (expression_named f.expression))) ∙ attributes_named fs _

  mutual
    unfolding statement_node statement_field named named_head named_piece form_of form_in forms size

    statement_named : {s : Statement} → FitsStatement Given s → statement_node S s ≡ as_named (statement_field s)
    statement_named (fits_assignment {n = n} f a) = with_name_lem 0x21 n f (one_behind empty (expression_named a))
    statement_named (fits_conditional a y n) =
        with_fields 0x22 [] (ap₂ (λ (ks : Nodes) (k : Node). ks ▸ k) (two_fields (expression_named a) (with_fields 0x20 [] (block_named y empty))) (with_fields 0x20 [] (block_named n empty)))
    statement_named (fits_choice {bs = bs} a f) = with_fields 0x23 [] (ap (λ (k : Node). branches_onto S bs (empty ▸ k)) (expression_named a) ∙ branches_named f _)
    statement_named (fits_resource {t = t} {ats = fs} f a g) = with_name_lem 0x25 t f (ap (λ (k : Node). nodes_onto (attribute_node S) fs (empty ▸ k)) (expression_named a) ∙ attributes_named g _)
    statement_named (fits_defined {t = t} {ats = fs} f a g) = with_name_lem 0x27 t f (ap (λ (k : Node). nodes_onto (attribute_node S) fs (empty ▸ k)) (expression_named a) ∙ attributes_named g _)
    statement_named (fits_class {q = c} f g) = with_name_lem 0x28 c f (attributes_named g empty)
    statement_named (fits_include {q = c} f) = with_name_lem 0x29 c f refl
    statement_named fits_unreadable_statement = refl

    block_named : {b : Block} → FitsBlock Given b → (ks : Nodes) → block_onto S b ks ≡ named_onto strings (block_fields b) ks
    block_named fits_end ks = refl
    block_named (fits_next {b = b} s f) ks = ap (λ (k : Node). block_onto S b (ks ▸ k)) (statement_named s) ∙ block_named f _

    branches_named : {bs : Branches} → FitsBranches Given bs → (ks : Nodes) → branches_onto S bs ks ≡ named_onto strings (branch_fields bs) ks
    branches_named fits_no_branch ks = refl
    branches_named (fits_branch {bs = bs} c b f) ks =
        ap (λ (k : Node). branches_onto S bs (ks ▸ k)) (with_fields 0x24 [] (two_fields (constant_named c) (with_fields 0x20 [] (block_named b empty)))) ∙ branches_named f _
    branches_named (fits_default_branch {bs = bs} b f) ks =
        ap (λ (k : Node). branches_onto S bs (ks ▸ k)) (with_fields 0x24 [] (one_behind (empty ▸ default_node) (with_fields 0x20 [] (block_named b empty)))) ∙ branches_named f _

  -- ---- Items

  block_node_named : {b : Block} → FitsBlock Given b → block_node S b ≡ as_named (field 0 0x20 [] (block_fields b))
  unfolding named named_head named_piece form_of form_in forms size
  block_node_named f = with_fields 0x20 [] (block_named f empty)

  default_named : {c : Option Constant} → Perhaps (FitsConstant Given) c → (ks : Nodes) → default_onto S c ks ≡ named_onto strings (default_fields c) ks
  unfolding default_onto default_fields named
  default_named not_there ks = refl
  default_named (there f) ks = one_behind ks (constant_named f)

  -- parameters, and the fields behind them
  parameters_named : {qs : List Parameter} → Each (FitsParameter Given) qs → (rest : Fields) (ks : Nodes) → named_onto strings rest (nodes_onto (parameter_node S) qs ks) ≡ named_onto strings (parameter_fields qs rest) ks
  unfolding nodes_onto parameter_node parameter_fields named named_head named_piece form_of form_in forms size
  parameters_named none_left rest ks = refl
  parameters_named (also {x = x} {xs = xs} f fs) rest ks =
      ap (λ (k : Node). named_onto strings rest (nodes_onto (parameter_node S) xs (ks ▸ k))) (with_name_lem 0x33 x.name f.name (default_named f.default empty)) ∙ parameters_named fs rest _

  parent_named : {q : Option Parent} → Perhaps (FitsParent Given) q → (rest : Fields) (ks : Nodes) → named_onto strings rest (parent_onto S q ks) ≡ named_onto strings (parent_fields q rest) ks
  unfolding parent_onto parent_fields named named_head named_piece form_of form_in forms size
  parent_named not_there rest ks = refl
  parent_named (there {x = q} f) rest ks = ap (λ (k : Node). named_onto strings rest (ks ▸ k)) (with_name_lem 0x35 q.name f.name refl)

  device_named : {ns : List ℕ} → Each (FitsName Given) ns → (rest : Fields) (ks : Nodes) → named_onto strings rest (nodes_onto (device_node S) ns ks) ≡ named_onto strings (device_fields ns rest) ks
  unfolding nodes_onto device_node device_fields named named_head named_piece form_of form_in forms size
  device_named none_left rest ks = refl
  device_named (also {x = n} {xs = ns} f fs) rest ks = ap (λ (k : Node). named_onto strings rest (nodes_onto (device_node S) ns (ks ▸ k))) (with_name_lem 0x31 n f refl) ∙ device_named fs rest _

  devices_named : {ds : Devices} → FitsDevices Given ds → (rest : Fields) (ks : Nodes) → named_onto strings rest (devices_onto S ds ks) ≡ named_onto strings (devices_fields ds rest) ks
  unfolding devices_onto devices_fields named named_head named_piece form_of form_in forms size
  devices_named (fits_named f) rest ks = device_named f rest ks
  devices_named fits_by_default rest ks = refl

  item_named : {i : Item} → FitsItem Given i → item_node S i ≡ as_named (item_field i)
  unfolding item_node item_field definition_field named named_head named_piece form_of form_in forms size
  item_named (fits_statement_item s) = statement_named s
  item_named (fits_node {ds = ds} f b) = with_fields 0x30 [] (one_behind (devices_onto S ds empty) (block_node_named b) ∙ devices_named f _ empty)
  item_named (fits_definition_item (fits_type_definition {d = d} f)) =
      with_name_lem 0x32 d.name f.name (one_behind (nodes_onto (parameter_node S) d.parameters empty) (block_node_named f.body) ∙ parameters_named f.parameters _ empty)
  item_named (fits_definition_item (fits_class_definitions {d = d} f)) =
      with_name_lem 0x34 d.name f.name
      (one_behind (nodes_onto (parameter_node S) d.parameters (parent_onto S d.parent empty)) (block_node_named f.body) ∙ parameters_named f.parameters _ (parent_onto S d.parent empty) ∙ parent_named f.parent _ empty)

  items_named : {is : List Item} → Each (FitsItem Given) is → (ks : Nodes) → items_onto S is ks ≡ named_onto strings (item_fields is) ks
  unfolding items_onto nodes_onto item_fields named
  items_named none_left ks = refl
  items_named (also {xs = is} f fs) ks = ap (λ (k : Node). nodes_onto (item_node S) is (ks ▸ k)) (item_named f) ∙ items_named fs _

-- ---- The manifest

pub others_unplaced : (ks : Fields) → others (unplaced_all ks) ≡ unplaced_all (others ks)
unfolding others unplaced
others_unplaced none = refl
others_unplaced (more k ks) = refl

module _ (m : List ℕ) (bytes : IsBytes m) (w : check m ≡ no_fault) where
  -- the items of a sound manifest, written as fields, are the fields read behind the table, but for the places
  pub items_back : item_fields (manifest_of m).items ≡ unplaced_all (others (read_all m))
  unfolding fields_of others
  items_back = ap others (typed_back m bytes w) ∙ others_unplaced (read_all m)

  -- what its printed text should build is its own tree
  pub tree_named : items_onto (string_at (manifest_of m).strings) (manifest_of m).items empty ≡ named_tree m
  unfolding named_tree
  tree_named =
      let strings : List (List ℕ) = (manifest_of m).strings in
      items_named strings bytes (manifest_fits m) empty ∙ ap (λ (ks : Fields). named_onto strings ks empty) items_back ∙ onto_unplaced strings (others (read_all m)) empty
