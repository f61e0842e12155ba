-- From fields to the tree: total, so any bytes give a tree. Which part of a field is which follows from their order in document 01's list.
use Rattle.std.specs.Prelude.{ℕ, zero, suc, Bool, true, false, List, [], ◌∷◌, eqb, drop}
use Rattle.std.proofs.Math.Option.{Option, none, some}
use Rattle.values.specs.declared.Value.{Value}
use Rattle.values.specs.declared.Value.TheVariants.{Integer, String, Boolean}
unfoldable pub use Rattle.wire.specs.Numbers.{number, signed64}
use Rattle.rules.specs.Bytes.{byte, two}
use Rattle.rules.specs.Fields.{Field, field, Fields, none as fields_end, more, read_all, head_of, tag_of, inner, first, others}
use Rattle.rules.specs.Tree.{Constant, Operator, plus, minus, divide, greater, equal, and, or, Expression, constant, variable, top_variable, class_variable, operation, negation, attribute_read, selector, Arms, no_arm, arm, default_arm, AttributeField, Statement, assignment, conditional, choice, built_in_resource, defined_resource, class_with_attributes, include, Block, end, next, Branches, no_branch, branch, default_branch, Parameter, Parent, type_definition, class_definition, Devices, named, by_default, Item, statement, node, definition, Manifest}
use Rattle.rules.specs.Tree

-- what a list of numbers has for n
unfoldable pub entry_for : {A : Type 0} → List (ℕ × A) → A → ℕ → A
entry_for [] d n = d
entry_for (x ∷ xs) d n = elim (eqb n x.0) [ true ↦ x.1 | false ↦ entry_for xs d n ]

-- ---- Constants and operators

unfoldable pub value_from : ℕ → List ℕ → Value
value_from t h = elim (eqb t 0x10) [ true ↦ Integer (signed64 (number (drop 1 h) 0)) | false ↦ elim (eqb t 0x11) [ true ↦ String (two h 1) | false ↦ Boolean (eqb (byte h 1) 1) ] ]

unfoldable pub constant_from : Field → Constant
constant_from (field p t h ks) = record { place = p; label = byte h 0; value = value_from t h }

unfoldable pub operators : List (ℕ × Operator)
operators = (0, plus) ∷ (1, minus) ∷ (2, divide) ∷ (3, greater) ∷ (4, equal) ∷ (5, and) ∷ (6, or) ∷ []

unfoldable pub operator_from : ℕ → Operator
operator_from n = entry_for operators or n

-- "the empty field 1B, default"
unfoldable pub is_default : Field → Bool
is_default f = eqb (tag_of f) 0x1b

-- ---- Expressions

pub data ExpressionTag : Type 0 where
  a_constant a_variable a_top_variable a_class_variable an_operation a_negation an_attribute_read a_selector no_expression : ExpressionTag

unfoldable pub expression_tags : List (ℕ × ExpressionTag)
expression_tags =
    (0x10, a_constant) ∷ (0x11, a_constant) ∷ (0x12, a_constant) ∷ (0x13, a_variable) ∷ (0x14, a_top_variable) ∷ (0x15, a_class_variable)
    ∷ (0x16, an_operation) ∷ (0x17, a_negation) ∷ (0x18, an_attribute_read) ∷ (0x19, a_selector) ∷ []

-- one 1A: its pattern is the first part, its expression the second; f reads the expressions
unfoldable pub arm_from : (Field → Expression) → Bool → Fields → Arms → Arms
arm_from f true ks rest = default_arm (f (first (others ks))) rest
arm_from f false ks rest = arm (constant_from (first ks)) (f (first (others ks))) rest

unfoldable pub arms_from : (Field → Expression) → Fields → Arms
arms_from f fields_end = no_arm
arms_from f (more k ks) = arm_from f (is_default (first (inner k))) (inner k) (arms_from f ks)

-- the expression at p, by its tag; f reads the expressions in it
unfoldable pub expression_by : (Field → Expression) → Field → ℕ → List ℕ → Fields → ExpressionTag → Expression
expression_by f k p h ks a_constant = constant (constant_from k)
expression_by f k p h ks a_variable = variable p (two h 0)
expression_by f k p h ks a_top_variable = top_variable p (two h 0)
expression_by f k p h ks a_class_variable = class_variable p (two h 0) (two h 2)
expression_by f k p h ks an_operation = operation p (operator_from (byte h 0)) (f (first ks)) (f (first (others ks)))
expression_by f k p h ks a_negation = negation p (f (first ks))
expression_by f k p h ks an_attribute_read = attribute_read p (two h 0) (two h 2) (f (first ks))
expression_by f k p h ks a_selector = selector p (f (first ks)) (arms_from f (others ks))
expression_by f k p h ks no_expression = Expression.unreadable p

-- an expression of at most d levels
unfoldable pub expression_in : ℕ → Field → Expression
expression_in zero (field p t h ks) = Expression.unreadable p
expression_in (suc d) (field p t h ks) = expression_by (expression_in d) (field p t h ks) p h ks (entry_for expression_tags no_expression t)

unfoldable pub expression_from : Field → Expression
expression_from k = expression_in 32 k

-- ---- Statements and blocks

unfoldable pub attribute_from : Field → AttributeField
attribute_from (field p t h ks) = record { place = p; name = two h 0; expression = expression_from (first ks) }

-- the 26s
unfoldable pub attributes_from : Fields → List AttributeField
attributes_from fields_end = []
attributes_from (more k ks) = elim (eqb (tag_of k) 0x26) [ true ↦ attribute_from k ∷ attributes_from ks | false ↦ attributes_from ks ]

pub data StatementTag : Type 0 where
  an_assignment a_conditional a_choice a_resource a_defined a_class an_include no_statement : StatementTag

unfoldable pub statement_tags : List (ℕ × StatementTag)
statement_tags =
    (0x21, an_assignment) ∷ (0x22, a_conditional) ∷ (0x23, a_choice) ∷ (0x25, a_resource) ∷ (0x27, a_defined) ∷ (0x28, a_class) ∷ (0x29, an_include) ∷ []

-- one 24: its pattern is the first part, its block the second; f reads the blocks
unfoldable pub branch_from : (Field → Block) → Bool → Fields → Branches → Branches
branch_from f true ks rest = default_branch (f (first (others ks))) rest
branch_from f false ks rest = branch (constant_from (first ks)) (f (first (others ks))) rest

unfoldable pub branches_from : (Field → Block) → Fields → Branches
branches_from f fields_end = no_branch
branches_from f (more k ks) = branch_from f (is_default (first (inner k))) (inner k) (branches_from f ks)

-- the statement at p, by its tag; f reads the blocks in it
unfoldable pub statement_by : (Field → Block) → ℕ → List ℕ → Fields → StatementTag → Statement
statement_by f p h ks an_assignment = assignment p (two h 0) (expression_from (first ks))
statement_by f p h ks a_conditional = conditional p (expression_from (first ks)) (f (first (others ks))) (f (first (others (others ks))))
statement_by f p h ks a_choice = choice p (expression_from (first ks)) (branches_from f (others ks))
statement_by f p h ks a_resource = built_in_resource p (two h 0) (expression_from (first ks)) (attributes_from (others ks))
statement_by f p h ks a_defined = defined_resource p (two h 0) (expression_from (first ks)) (attributes_from (others ks))
statement_by f p h ks a_class = class_with_attributes p (two h 0) (attributes_from ks)
statement_by f p h ks an_include = include p (two h 0)
statement_by f p h ks no_statement = Statement.unreadable p

unfoldable pub statement_in : (Field → Block) → Field → Statement
statement_in f (field p t h ks) = statement_by f p h ks (entry_for statement_tags no_statement t)

unfoldable pub statements_from : (Field → Statement) → Fields → Block
statements_from f fields_end = end
statements_from f (more k ks) = next (f k) (statements_from f ks)

-- a block of at most d blocks in one another
unfoldable pub block_in : ℕ → Field → Block
block_in zero k = end
block_in (suc d) (field p t h ks) = statements_from (statement_in (block_in d)) ks

unfoldable pub block_from : Field → Block
block_from k = block_in 32 k

-- ---- Items

-- "name, then at most one constant as its default"
unfoldable pub default_from : Fields → Option Constant
default_from fields_end = none
default_from (more k ks) = some (constant_from k)

unfoldable pub parameter_from : Field → Parameter
parameter_from (field p t h ks) = record { place = p; name = two h 0; default = default_from ks }

-- the 33s, which come before the block
unfoldable pub parameters_from : Fields → List Parameter
parameters_from fields_end = []
parameters_from (more k ks) = elim (eqb (tag_of k) 0x33) [ true ↦ parameter_from k ∷ parameters_from ks | false ↦ [] ]

-- the block, which is the last part
unfoldable pub last_of : Field → Fields → Field
last_of k fields_end = k
last_of k (more j ks) = last_of j ks

unfoldable pub last_block : Fields → Block
last_block ks = block_from (last_of (first fields_end) ks)

-- "at most one 35 with the parent's name"
unfoldable pub parent_from : Field → Option Parent
parent_from (field p t h ks) = elim (eqb t 0x35) [ true ↦ some (record { place = p; name = two h 0 }) | false ↦ none ]

unfoldable pub after_parent : Option Parent → Fields → Fields
after_parent none ks = ks
after_parent (some q) ks = others ks

-- the 31s of a node
unfoldable pub names_from : Fields → List ℕ
names_from fields_end = []
names_from (more k ks) = elim (eqb (tag_of k) 0x31) [ true ↦ two (head_of k) 0 ∷ names_from ks | false ↦ [] ]

unfoldable pub devices_from : Fields → Devices
devices_from ks = elim (is_default (first ks)) [ true ↦ by_default | false ↦ named (names_from ks) ]

pub data ItemTag : Type 0 where
  a_node a_type_definition a_class_definition a_statement : ItemTag

unfoldable pub item_tags : List (ℕ × ItemTag)
item_tags = (0x30, a_node) ∷ (0x32, a_type_definition) ∷ (0x34, a_class_definition) ∷ []

unfoldable pub item_by : Field → ℕ → List ℕ → Fields → ItemTag → Item
item_by k p h ks a_node = node (devices_from ks) (last_block ks)
item_by k p h ks a_type_definition = definition (type_definition (record { place = p; name = two h 0; parameters = parameters_from ks; body = last_block ks }))
item_by k p h ks a_class_definition = definition (class_definition (record {
  place = p;
  name = two h 0;
  parent = parent_from (first ks);
  parameters = parameters_from (after_parent (parent_from (first ks)) ks);
  body = last_block ks;
}))
item_by k p h ks a_statement = statement (statement_in block_from k)

unfoldable pub item_from : Field → Item
item_from (field p t h ks) = item_by (field p t h ks) p h ks (entry_for item_tags a_statement t)

unfoldable pub items_from : Fields → List Item
items_from fields_end = []
items_from (more k ks) = item_from k ∷ items_from ks

-- ---- The manifest

-- the 02s
unfoldable pub strings_from : Fields → List (List ℕ)
strings_from fields_end = []
strings_from (more k ks) = elim (eqb (tag_of k) 0x02) [ true ↦ head_of k ∷ strings_from ks | false ↦ strings_from ks ]

-- "one field 01, then items"
unfoldable pub manifest_from : Fields → Manifest
manifest_from ks = record { strings = strings_from (inner (first ks)); items = items_from (others ks) }

unfoldable pub manifest_of : List ℕ → Manifest
manifest_of m = manifest_from (read_all m)
