-- What a printed manifest should build: its tree with the strings of its names, and the line on which each form ends.
use Prim.Native.Nat.{ℕ}
use mathlib.Core.List.{List, [], ◌∷◌, map}
use mathlib.Core.Option.{Option, none, some}
use Rattle.rules.specs.Catalog.{high_bytes, word64, boolean_byte}
use Rattle.values.specs.declared.Value.{Value}
use Rattle.values.specs.declared.Value.TheVariants.{Integer, String, Boolean}
use Rattle.rules.specs.Tree.{Constant, Expression, constant, variable, top_variable, class_variable, operation, negation, attribute_read, selector, Arms, no_arm, arm, default_arm, AttributeField, Statement, assignment, conditional, choice, built_in_resource, defined_resource, class_with_attributes, include, Block, end, next, Branches, no_branch, branch, default_branch, Parameter, Parent, type_definition, class_definition, Devices, named, by_default, Item, statement, definition}
use Rattle.rules.specs.Tree
use Rattle.rules.proofs.TypedBack.{operator_byte}
use Rattle.notation.specs.Building.{Piece, byte, name, Node, node, Nodes, empty, ◌▸◌, leaf}
use Rattle.notation.specs.Print.{constants_of, constants_of_statement, constants_of_block, constants_of_default, constants_of_item, line_for}

-- ---- The line on which something ends that begins on line v: that of its last constant

unfoldable mutual
  pub last_line : Expression → ℕ → ℕ
  last_line (constant c) v = c.label
  last_line (variable p n) v = v
  last_line (top_variable p n) v = v
  last_line (class_variable p c n) v = v
  last_line (operation p o a b) v = last_line b (last_line a v)
  last_line (negation p a) v = last_line a v
  last_line (attribute_read p t n a) v = last_line a v
  last_line (selector p a s) v = last_line_arms s (last_line a v)
  last_line (Expression.unreadable p) v = v

  pub last_line_arms : Arms → ℕ → ℕ
  last_line_arms no_arm v = v
  last_line_arms (arm c a s) v = last_line_arms s (last_line a c.label)
  last_line_arms (default_arm a s) v = last_line_arms s (last_line a (line_for (constants_of a) v))

-- entries with commas
unfoldable pub last_line_entries : {A : Type 0} → (A → ℕ → ℕ) → List A → ℕ → ℕ
last_line_entries last [] v = v
last_line_entries last (x ∷ xs) v = last_line_entries last xs (last x v)

unfoldable pub last_line_attribute : AttributeField → ℕ → ℕ
last_line_attribute f v = last_line f.expression (line_for (constants_of f.expression) v)

unfoldable mutual
  pub last_line_statement : Statement → ℕ → ℕ
  last_line_statement (assignment p n a) v = last_line a v
  last_line_statement (conditional p a y n) v = last_line_block n (last_line_block y (last_line a v))
  last_line_statement (choice p a bs) v = last_line_branches bs (last_line a v)
  last_line_statement (built_in_resource p t a fs) v = last_line_entries last_line_attribute fs (last_line a v)
  last_line_statement (defined_resource p t a fs) v = last_line_entries last_line_attribute fs (last_line a v)
  last_line_statement (class_with_attributes p c fs) v = last_line_entries last_line_attribute fs v
  last_line_statement (include p c) v = v
  last_line_statement (Statement.unreadable p) v = v

  pub last_line_block : Block → ℕ → ℕ
  last_line_block end v = v
  last_line_block (next s b) v = last_line_block b (last_line_statement s (line_for (constants_of_statement s) v))

  pub last_line_branches : Branches → ℕ → ℕ
  last_line_branches no_branch v = v
  last_line_branches (branch c b bs) v = last_line_branches bs (last_line_block b c.label)
  last_line_branches (default_branch b bs) v = last_line_branches bs (last_line_block b (line_for (constants_of_block b) v))

unfoldable pub last_line_default : Option Constant → ℕ → ℕ
last_line_default none v = v
last_line_default (some c) v = c.label

unfoldable pub last_line_parameter : Parameter → ℕ → ℕ
last_line_parameter q v = last_line_default q.default (line_for (constants_of_default q.default) v)

unfoldable pub last_line_item : Item → ℕ → ℕ
last_line_item (statement s) v = last_line_statement s v
last_line_item (Item.node ds b) v = last_line_block b v
last_line_item (definition (type_definition d)) v = last_line_block d.body (last_line_entries last_line_parameter d.parameters v)
last_line_item (definition (class_definition d)) v = last_line_block d.body (last_line_entries last_line_parameter d.parameters v)

unfoldable pub last_line_items : List Item → ℕ → ℕ
last_line_items [] v = v
last_line_items (i ∷ is) v = last_line_items is (last_line_item i (line_for (constants_of_item i) v))

-- ---- The tree. Its places are 0

abbrev pub bare_node : (tag : ℕ) → List Piece → Nodes → Node
bare_node t h ks = node 0 t h ks

abbrev pub default_node : Node
default_node = leaf 0 0x1b []

-- the fields of a list, behind other fields
unfoldable pub nodes_onto : {A : Type 0} → (A → Node) → List A → Nodes → Nodes
nodes_onto f [] ks = ks
nodes_onto f (x ∷ xs) ks = nodes_onto f xs (ks ▸ f x)

module _ (S : ℕ → List ℕ) where
  unfoldable pub value_node : (label : ℕ) → Value → Node
  value_node l (Integer z) = leaf 0 0x10 (byte l ∷ map byte (high_bytes 8 (word64 z)))
  value_node l (String n) = leaf 0 0x11 (byte l ∷ name (S n) ∷ [])
  value_node l (Boolean b) = leaf 0 0x12 (byte l ∷ byte (boolean_byte b) ∷ [])

  abbrev pub constant_node_of : Constant → Node
  constant_node_of c = value_node c.label c.value

  unfoldable mutual
    pub node_of : Expression → Node
    node_of (constant c) = constant_node_of c
    node_of (variable p n) = leaf 0 0x13 (name (S n) ∷ [])
    node_of (top_variable p n) = leaf 0 0x14 (name (S n) ∷ [])
    node_of (class_variable p c n) = leaf 0 0x15 (name (S c) ∷ name (S n) ∷ [])
    node_of (operation p o a b) = bare_node 0x16 (byte (operator_byte o) ∷ []) (empty ▸ node_of a ▸ node_of b)
    node_of (negation p a) = bare_node 0x17 [] (empty ▸ node_of a)
    node_of (attribute_read p t n a) = bare_node 0x18 (name (S t) ∷ name (S n) ∷ []) (empty ▸ node_of a)
    node_of (selector p a s) = bare_node 0x19 [] (arms_onto s (empty ▸ node_of a))
    node_of (Expression.unreadable p) = leaf 0 0 []

    -- the arms, behind other fields
    pub arms_onto : Arms → Nodes → Nodes
    arms_onto no_arm ks = ks
    arms_onto (arm c a s) ks = arms_onto s (ks ▸ bare_node 0x1a [] (empty ▸ constant_node_of c ▸ node_of a))
    arms_onto (default_arm a s) ks = arms_onto s (ks ▸ bare_node 0x1a [] (empty ▸ default_node ▸ node_of a))

  unfoldable pub attribute_node : AttributeField → Node
  attribute_node f = bare_node 0x26 (name (S f.name) ∷ []) (empty ▸ node_of f.expression)

  unfoldable mutual
    pub statement_node : Statement → Node
    statement_node (assignment p n a) = bare_node 0x21 (name (S n) ∷ []) (empty ▸ node_of a)
    statement_node (conditional p a y n) = bare_node 0x22 [] (empty ▸ node_of a ▸ bare_node 0x20 [] (block_onto y empty) ▸ bare_node 0x20 [] (block_onto n empty))
    statement_node (choice p a bs) = bare_node 0x23 [] (branches_onto bs (empty ▸ node_of a))
    statement_node (built_in_resource p t a fs) = bare_node 0x25 (name (S t) ∷ []) (nodes_onto attribute_node fs (empty ▸ node_of a))
    statement_node (defined_resource p t a fs) = bare_node 0x27 (name (S t) ∷ []) (nodes_onto attribute_node fs (empty ▸ node_of a))
    statement_node (class_with_attributes p c fs) = bare_node 0x28 (name (S c) ∷ []) (nodes_onto attribute_node fs empty)
    statement_node (include p c) = leaf 0 0x29 (name (S c) ∷ [])
    statement_node (Statement.unreadable p) = leaf 0 0 []

    pub block_onto : Block → Nodes → Nodes
    block_onto end ks = ks
    block_onto (next s b) ks = block_onto b (ks ▸ statement_node s)

    pub branches_onto : Branches → Nodes → Nodes
    branches_onto no_branch ks = ks
    branches_onto (branch c b bs) ks = branches_onto bs (ks ▸ bare_node 0x24 [] (empty ▸ constant_node_of c ▸ bare_node 0x20 [] (block_onto b empty)))
    branches_onto (default_branch b bs) ks = branches_onto bs (ks ▸ bare_node 0x24 [] (empty ▸ default_node ▸ bare_node 0x20 [] (block_onto b empty)))

  abbrev pub block_node : Block → Node
  block_node b = bare_node 0x20 [] (block_onto b empty)

  unfoldable pub default_onto : Option Constant → Nodes → Nodes
  default_onto none ks = ks
  default_onto (some c) ks = ks ▸ constant_node_of c

  unfoldable pub parameter_node : Parameter → Node
  parameter_node q = bare_node 0x33 (name (S q.name) ∷ []) (default_onto q.default empty)

  unfoldable pub parent_onto : Option Parent → Nodes → Nodes
  parent_onto none ks = ks
  parent_onto (some q) ks = ks ▸ leaf 0 0x35 (name (S q.name) ∷ [])

  unfoldable pub device_node : ℕ → Node
  device_node n = leaf 0 0x31 (name (S n) ∷ [])

  unfoldable pub devices_onto : Devices → Nodes → Nodes
  devices_onto (named ns) ks = nodes_onto device_node ns ks
  devices_onto by_default ks = ks ▸ default_node

  unfoldable pub item_node : Item → Node
  item_node (statement s) = statement_node s
  item_node (Item.node ds b) = bare_node 0x30 [] (devices_onto ds empty ▸ block_node b)
  item_node (definition (type_definition d)) = bare_node 0x32 (name (S d.name) ∷ []) (nodes_onto parameter_node d.parameters empty ▸ block_node d.body)
  item_node (definition (class_definition d)) = bare_node 0x34 (name (S d.name) ∷ []) (nodes_onto parameter_node d.parameters (parent_onto d.parent empty) ▸ block_node d.body)

  unfoldable pub items_onto : List Item → Nodes → Nodes
  items_onto is ks = nodes_onto item_node is ks
