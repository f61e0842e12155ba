-- The tree of a manifest as the rules go over it. Each node has its place: the offset of its field.
use Rattle.std.specs.Prelude.{ℕ, List}
use Rattle.std.proofs.Math.Option.{Option}
use Rattle.values.specs.declared.Value.{Value}

-- "10 integer (label, 8 bytes, signed); 11 string (label, name); 12 boolean (label, 00 or 01)"
pub record Constant : Type 0 where
  pub place : ℕ
  pub label : ℕ
  pub value : Value

-- "operator byte 0 to 6 for + − / > = and or"
pub data Operator : Type 0 where
  plus minus divide greater equal and or : Operator

-- Expressions. `unreadable` is a field that is not as listed: the check before running lets none pass.
mutual
  pub data Expression : Type 0 where
    constant : Constant → Expression  -- 10, 11, 12
    variable : (place name : ℕ) → Expression  -- 13
    top_variable : (place name : ℕ) → Expression  -- 14
    class_variable : (place class name : ℕ) → Expression  -- 15
    operation : (place : ℕ) → Operator → (left right : Expression) → Expression  -- 16
    negation : (place : ℕ) → Expression → Expression  -- 17
    attribute_read : (place type attribute : ℕ) → (title : Expression) → Expression  -- 18
    selector : (place : ℕ) → Expression → Arms → Expression  -- 19
    unreadable : (place : ℕ) → Expression

  -- the 1As of a selector: a constant pattern and its expression, or a default and its expression
  pub data Arms : Type 0 where
    no_arm : Arms
    arm : Constant → Expression → Arms → Arms
    default_arm : Expression → Arms → Arms

-- a 26: a name and an expression
pub record AttributeField : Type 0 where
  pub place : ℕ
  pub name : ℕ
  pub expression : Expression

-- Statements and blocks.
mutual
  pub data Statement : Type 0 where
    assignment : (place name : ℕ) → Expression → Statement  -- 21
    conditional : (place : ℕ) → Expression → (yes no : Block) → Statement  -- 22
    choice : (place : ℕ) → Expression → Branches → Statement  -- 23
    built_in_resource : (place type : ℕ) → (title : Expression) → List AttributeField → Statement  -- 25
    defined_resource : (place type : ℕ) → (title : Expression) → List AttributeField → Statement  -- 27
    class_with_attributes : (place class : ℕ) → List AttributeField → Statement  -- 28
    include : (place class : ℕ) → Statement  -- 29
    unreadable : (place : ℕ) → Statement

  pub data Block : Type 0 where
    end : Block
    next : Statement → Block → Block

  -- the 24s of a case: a constant pattern and its block, or a default and its block
  pub data Branches : Type 0 where
    no_branch : Branches
    branch : Constant → Block → Branches → Branches
    default_branch : Block → Branches → Branches

-- a 33: "a parameter: name, then at most one constant as its default"
pub record Parameter : Type 0 where
  pub place : ℕ
  pub name : ℕ
  pub default : Option Constant

-- a 35: "the parent's name"
pub record Parent : Type 0 where
  pub place : ℕ
  pub name : ℕ

-- a 32
pub record TypeDefinition : Type 0 where
  pub place : ℕ
  pub name : ℕ
  pub parameters : List Parameter
  pub body : Block

-- a 34
pub record ClassDefinition : Type 0 where
  pub place : ℕ
  pub name : ℕ
  pub parent : Option Parent
  pub parameters : List Parameter
  pub body : Block

pub data Definition : Type 0 where
  type_definition : TypeDefinition → Definition
  class_definition : ClassDefinition → Definition

-- "one or more 31, each a device's name, or one 1B"
pub data Devices : Type 0 where
  named : List ℕ → Devices
  by_default : Devices

pub data Item : Type 0 where
  statement : Statement → Item
  node : Devices → Block → Item  -- 30
  definition : Definition → Item  -- 32, 34

-- "one field 01, then items"
pub record Manifest : Type 0 where
  pub strings : List (List ℕ)
  pub items : List Item

-- the place of an expression
unfoldable pub place_of : Expression → ℕ
place_of (constant c) = c.place
place_of (variable p n) = p
place_of (top_variable p n) = p
place_of (class_variable p c n) = p
place_of (operation p o a b) = p
place_of (negation p a) = p
place_of (attribute_read p t n a) = p
place_of (selector p a s) = p
place_of (unreadable p) = p
