-- The tree of a manifest at its places: what is read of the field at a place, for fields of each sort, and what it means that a field stands there
-- soundly. A field has so many levels left for it and what is inside it: one outside others has 32, and one in a field with d levels has d - 1.
use Rattle.std.specs.Prelude.{ℕ, ◌+◌, ◌-◌, ◌<◌, ◌≤◌, ◌≡◌, true, List, [], ◌∷◌, eqb, ltb, length}
use Rattle.std.proofs.Math.Option.{Option, none, some}
use Rattle.values.specs.declared.Value.{Value}
use Rattle.values.specs.declared.Value.TheVariants.{Integer, String, Boolean}
use Rattle.wire.specs.Bytes.{pick, byte, two, end_of, fields_in}
use Rattle.wire.specs.Numbers.{number, signed64}
use Rattle.wire.specs.Runs.{bytes_at}
use Rattle.rules.specs.Format.{allowed, form_of, length_right}
use Rattle.rules.specs.Check.{inside, text}
use Rattle.rules.specs.Fields.{read_field}
use Rattle.rules.specs.Tree.{Constant, Expression, Arms, no_arm, arm, default_arm, AttributeField, Statement, Block, end, next, Branches, no_branch, branch, default_branch, Parameter, Parent, Devices, named, by_default, Item}
use Rattle.rules.specs.Read.{expression_in, statement_in, block_in, item_from}
use Rattle.rules.specs.declared.Kind.{Kind}
use Rattle.rules.specs.Verdicts.{no_fault}

-- ---- One field

-- a constant: its label, then its value by its tag
unfoldable pub value_at : List ℕ → (place tag : ℕ) → Value
value_at m p t = pick (eqb t 0x10) (Integer (signed64 (number (bytes_at m (p + 4) 8) 0))) (pick (eqb t 0x11) (String (two m (p + 4))) (Boolean (eqb (byte m (p + 4)) 1)))

unfoldable pub constant_at : List ℕ → (place : ℕ) → Constant
constant_at m p = record { place = p; label = byte m (p + 3); value = value_at m p (byte m p) }

-- the fields at p with d levels left for them
unfoldable pub expression_at : List ℕ → (d p : ℕ) → Expression
expression_at m d p = expression_in d (read_field m d p)

unfoldable pub statement_at : List ℕ → (d p : ℕ) → Statement
statement_at m d p = statement_in (block_in d) (read_field m d p)

unfoldable pub block_at : List ℕ → (d p : ℕ) → Block
block_at m d p = block_in d (read_field m d p)

-- a 1A and the arms after it: its pattern is the first part, its expression the second
unfoldable pub arm_at : List ℕ → (d q : ℕ) → Arms → Arms
arm_at m d q after = pick (eqb (byte m (q + 3)) 0x1b) (default_arm (expression_at m (d - 1) (end_of m (q + 3))) after) (arm (constant_at m (q + 3)) (expression_at m (d - 1) (end_of m (q + 3))) after)

-- a 24 and the branches after it
unfoldable pub branch_at : List ℕ → (d q : ℕ) → Branches → Branches
branch_at m d q after = pick (eqb (byte m (q + 3)) 0x1b) (default_branch (block_at m (d - 1) (end_of m (q + 3))) after) (branch (constant_at m (q + 3)) (block_at m (d - 1) (end_of m (q + 3))) after)

-- a 26
unfoldable pub attribute_at : List ℕ → (d q : ℕ) → AttributeField
attribute_at m d q = record { place = q; name = two m (q + 3); expression = expression_at m (d - 1) (q + 5) }

-- a 33: if anything follows the name, it is a constant
unfoldable pub default_at : List ℕ → (q : ℕ) → Option Constant
default_at m q = pick (ltb (q + 5) (end_of m q)) (some (constant_at m (q + 5))) none

unfoldable pub parameter_at : List ℕ → (q : ℕ) → Parameter
parameter_at m q = record { place = q; name = two m (q + 3); default = default_at m q }

-- a 35, if q has one
unfoldable pub parent_at : List ℕ → (q : ℕ) → Option Parent
parent_at m q = pick (eqb (byte m q) 0x35) (some (record { place = q; name = two m (q + 3) })) none

-- where the parameters of a class begin, if what follows its name is at q
unfoldable pub after_parent_at : List ℕ → (q : ℕ) → ℕ
after_parent_at m q = pick (eqb (byte m q) 0x35) (end_of m q) q

-- an item: it is outside others
unfoldable pub item_at : List ℕ → (p : ℕ) → Item
item_at m p = item_from (read_field m 32 p)

-- ---- The fields at a list of places

unfoldable pub arms_at : List ℕ → (d : ℕ) → (places : List ℕ) → Arms
arms_at m d [] = no_arm
arms_at m d (q ∷ qs) = arm_at m d q (arms_at m d qs)

unfoldable pub branches_at : List ℕ → (d : ℕ) → (places : List ℕ) → Branches
branches_at m d [] = no_branch
branches_at m d (q ∷ qs) = branch_at m d q (branches_at m d qs)

unfoldable pub attributes_at : List ℕ → (d : ℕ) → (places : List ℕ) → List AttributeField
attributes_at m d [] = []
attributes_at m d (q ∷ qs) = attribute_at m d q ∷ attributes_at m d qs

unfoldable pub statements_at : List ℕ → (d : ℕ) → (places : List ℕ) → Block
statements_at m d [] = end
statements_at m d (q ∷ qs) = next (statement_at m d q) (statements_at m d qs)

unfoldable pub parameters_at : List ℕ → (places : List ℕ) → List Parameter
parameters_at m [] = []
parameters_at m (q ∷ qs) = parameter_at m q ∷ parameters_at m qs

-- the names of 31s
unfoldable pub names_at : List ℕ → (places : List ℕ) → List ℕ
names_at m [] = []
names_at m (q ∷ qs) = two m (q + 3) ∷ names_at m qs

-- the names of a node, which begin at q: its block is at r
unfoldable pub devices_at : List ℕ → (q r : ℕ) → Devices
devices_at m q r = pick (eqb (byte m q) 0x1b) by_default (named (names_at m (fields_in m q r)))

unfoldable pub items_at : List ℕ → (places : List ℕ) → List Item
items_at m [] = []
items_at m (q ∷ qs) = item_at m q ∷ items_at m qs

-- the texts of 02s
unfoldable pub texts_at : List ℕ → (places : List ℕ) → List (List ℕ)
texts_at m [] = []
texts_at m (q ∷ qs) = text m q ∷ texts_at m qs

-- ---- Fields that stand soundly

-- at p stands a field with d levels left whose header and inside are right
pub record Stands (m : List ℕ) (d p : ℕ) : Type 0 where
  pub depth : d ≤ 32
  pub sound : inside m d p ≡ no_fault
  pub ends : end_of m p ≤ length m
  pub size : length_right (form_of (byte m p)) (two m (p + 1)) ≡ true

-- a field of the kind k
pub record StandsAs (m : List ℕ) (d : ℕ) (k : Kind) (p : ℕ) : Type 0 where
  pub stands : Stands m d p
  pub kind : allowed k (byte m p) ≡ true

-- the fields from q to e, one after the other, are of the kind k
pub data Siblings (m : List ℕ) (d : ℕ) (k : Kind) : (q e : ℕ) → Type 0 where
  ended : {e : ℕ} → Siblings m d k e e
  sibling : {q e : ℕ} → q < e → StandsAs m d k q → Siblings m d k (end_of m q) e → Siblings m d k q e
