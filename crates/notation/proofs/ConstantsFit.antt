-- Every constant of a manifest has a label of one byte, and fits its field: an integer 64 bits.
use mathlib.Core.List.{List, ◌++◌}
use mathlib.Core.Option.{Option}
use Prim.Native.Nat.{ℕ}
use Rattle.rules.specs.Tree.{Constant, Expression, Arms, AttributeField, Statement, Block, Branches, Parameter, Item}
use Rattle.rules.specs.Read.{manifest_of}
use Rattle.rules.specs.EditRule.{IsBytes}
use Rattle.rules.proofs.Lists.{Each, none_left, also, Perhaps, not_there, there}
use Rattle.rules.proofs.Fits.{ConstantInRange, FitsConstant, FitsExpression, fits_constant, fits_variable, fits_top_variable, fits_class_variable, fits_operation, fits_negation, fits_attribute_read, fits_selector, fits_unreadable, FitsArms, fits_no_arm, fits_arm, fits_default_arm, FitsAttributeField, FitsStatement, fits_assignment, fits_conditional, fits_choice, fits_resource, fits_defined, fits_class, fits_include, fits_unreadable_statement, FitsBlock, fits_end, fits_next, FitsBranches, fits_no_branch, fits_branch, fits_default_branch, FitsParameter, fits_type_definition, fits_class_definitions, FitsItem, fits_statement_item, fits_node, fits_definition_item, manifest_fits}
use Rattle.notation.specs.Print.{constants_of, constants_of_arms, constants_of_attributes, constants_of_statement, constants_of_block, constants_of_branches, constants_of_default, constants_of_parameters, constants_of_item}
use Rattle.notation.proofs.EntriesBack.{EachOf}

-- what holds of each of two lists holds of each of both
pub both : {A : Type 0} {P : A → Type 0} {xs ys : List A} → Each P xs → Each P ys → Each P (xs ++ ys)
both none_left b = b
both (also p a) b = also p (both a b)

-- the same by the elements
pub each_of : {A : Type 0} {P : A → Type 0} {xs : List A} → Each P xs → EachOf P xs
each_of none_left = tt
each_of (also p a) = (p, each_of a)

abbrev InRange : List Constant → Type 0
InRange cs = Each ConstantInRange cs

module _ {Given : Type 0} (given : Given) where
  mutual
    unfolding constants_of

    expression_in_range : {e : Expression} → FitsExpression Given e → InRange (constants_of e)
    expression_in_range (fits_constant c) = also (c given) none_left
    expression_in_range (fits_variable n) = none_left
    expression_in_range (fits_top_variable n) = none_left
    expression_in_range (fits_class_variable q n) = none_left
    expression_in_range (fits_operation a b) = both (expression_in_range a) (expression_in_range b)
    expression_in_range (fits_negation a) = expression_in_range a
    expression_in_range (fits_attribute_read t n a) = expression_in_range a
    expression_in_range (fits_selector a s) = both (expression_in_range a) (arms_in_range s)
    expression_in_range fits_unreadable = none_left

    arms_in_range : {s : Arms} → FitsArms Given s → InRange (constants_of_arms s)
    arms_in_range fits_no_arm = none_left
    arms_in_range (fits_arm c a s) = also (c given) (both (expression_in_range a) (arms_in_range s))
    arms_in_range (fits_default_arm a s) = both (expression_in_range a) (arms_in_range s)

  attributes_in_range : {fs : List AttributeField} → Each (FitsAttributeField Given) fs → InRange (constants_of_attributes fs)
  unfolding constants_of_attributes
  attributes_in_range none_left = none_left
  attributes_in_range (also a fs) = both (expression_in_range a.expression) (attributes_in_range fs)

  mutual
    unfolding constants_of_statement

    statement_in_range : {s : Statement} → FitsStatement Given s → InRange (constants_of_statement s)
    statement_in_range (fits_assignment n a) = expression_in_range a
    statement_in_range (fits_conditional a b c) = both (both (expression_in_range a) (block_in_range b)) (block_in_range c)
    statement_in_range (fits_choice a bs) = both (expression_in_range a) (branches_in_range bs)
    statement_in_range (fits_resource t a fs) = both (expression_in_range a) (attributes_in_range fs)
    statement_in_range (fits_defined t a fs) = both (expression_in_range a) (attributes_in_range fs)
    statement_in_range (fits_class c fs) = attributes_in_range fs
    statement_in_range (fits_include c) = none_left
    statement_in_range fits_unreadable_statement = none_left

    block_in_range : {b : Block} → FitsBlock Given b → InRange (constants_of_block b)
    block_in_range fits_end = none_left
    block_in_range (fits_next s b) = both (statement_in_range s) (block_in_range b)

    branches_in_range : {bs : Branches} → FitsBranches Given bs → InRange (constants_of_branches bs)
    branches_in_range fits_no_branch = none_left
    branches_in_range (fits_branch c b bs) = also (c given) (both (block_in_range b) (branches_in_range bs))
    branches_in_range (fits_default_branch b bs) = both (block_in_range b) (branches_in_range bs)

  default_in_range : {c : Option Constant} → Perhaps (FitsConstant Given) c → InRange (constants_of_default c)
  unfolding constants_of_default
  default_in_range not_there = none_left
  default_in_range (there c) = also (c given) none_left

  parameters_in_range : {qs : List Parameter} → Each (FitsParameter Given) qs → InRange (constants_of_parameters qs)
  unfolding constants_of_parameters
  parameters_in_range none_left = none_left
  parameters_in_range (also q qs) = both (default_in_range q.default) (parameters_in_range qs)

  item_in_range : {i : Item} → FitsItem Given i → InRange (constants_of_item i)
  unfolding constants_of_item
  item_in_range (fits_statement_item s) = statement_in_range s
  item_in_range (fits_node ds b) = block_in_range b
  item_in_range (fits_definition_item (fits_type_definition d)) = both (parameters_in_range d.parameters) (block_in_range d.body)
  item_in_range (fits_definition_item (fits_class_definitions d)) = both (parameters_in_range d.parameters) (block_in_range d.body)

abbrev pub ConstantsFit : Item → Type 0
ConstantsFit i = EachOf ConstantInRange (constants_of_item i)

items_in_range : {Given : Type 0} → Given → {is : List Item} → Each (FitsItem Given) is → EachOf ConstantsFit is
items_in_range given none_left = tt
items_in_range given (also i is) = (each_of (item_in_range given i), items_in_range given is)

-- the constants of a manifest's items are in their ranges
pub constants_fit : (m : List ℕ) → IsBytes m → EachOf ConstantsFit (manifest_of m).items
constants_fit m bytes = items_in_range bytes (manifest_fits m)
