-- The names in the tree of a sound manifest are known: each, of whatever sort, is below the number of its strings.
use Prim.Native.Nat.{ℕ, ◌<◌}
use mathlib.Core.Path.{◌≡◌, refl, ap, subst, ◌∙◌}
use mathlib.Core.Bool.{true}
use mathlib.Core.List.{List, [], ◌∷◌, ◌++◌}
use mathlib.Core.Option.{Option, none, some}
use lib.ListN.{length}
use borrow.Author.Tests.{ltb-true}
use Rattle.values.specs.declared.Value.{Value}
use Rattle.values.specs.declared.Value.TheVariants.{Integer, String, Boolean}
use Rattle.rules.specs.Bytes.{two}
use Rattle.rules.specs.Format.{forms, form_in, form_of, size, name_right}
use Rattle.rules.specs.Check.{check}
use Rattle.rules.specs.Fields.{Field, field, Fields, more}
use Rattle.rules.specs.Tree.{Constant, Expression, constant, variable, top_variable, class_variable, operation, negation, attribute_read, selector, Arms, no_arm, arm, default_arm, AttributeField, Statement, assignment, conditional, choice, built_in_resource, defined_resource, class_with_attributes, include, Block, end, next, Branches, no_branch, branch, default_branch, Parameter, Parent, type_definition, class_definition, Devices, named, by_default, Item, statement, definition}
use Rattle.rules.specs.Tree
use Rattle.rules.specs.Read.{manifest_of}
use Rattle.rules.specs.Catalog.{high_bytes}
use Rattle.rules.specs.EditRule.{IsBytes}
use Rattle.rules.specs.declared.Piece.{Piece}
use Rattle.rules.specs.declared.Piece.TheVariants.{Name}
use Rattle.rules.proofs.Lists.{Each, none_left, also, Perhaps, not_there, there}
use Rattle.rules.proofs.ReadBack.{FitsValue, fits_integer, fits_string, fits_boolean, two_back}
use Rattle.rules.proofs.Fits.{FitsName, FitsConstant, FitsExpression, fits_constant, fits_variable, fits_top_variable, fits_class_variable, fits_operation, fits_negation, fits_attribute_read, fits_selector, fits_unreadable, FitsArms, fits_no_arm, fits_arm, fits_default_arm, FitsAttributeField, FitsStatement, fits_assignment, fits_conditional, fits_choice, fits_resource, fits_defined, fits_class, fits_include, fits_unreadable_statement, FitsBlock, fits_end, fits_next, FitsBranches, fits_no_branch, fits_branch, fits_default_branch, FitsParameter, FitsParent, fits_type_definition, fits_class_definitions, FitsDevices, fits_named, fits_by_default, FitsItem, fits_statement_item, fits_node, fits_definition_item, manifest_fits}
use Rattle.rules.proofs.TypedBack.{value_field, constant_field, expression_field, arm_fields, attribute_fields, statement_field, block_fields, branch_fields, default_fields, parameter_fields, parent_fields, device_fields, devices_fields, definition_field, item_field, item_fields, unplaced, unplaced_all}
use Rattle.notation.proofs.EntriesBack.{EachOf}
use Rattle.notation.proofs.TypedNamed.{items_back}
use Rattle.notation.proofs.WrittenNames.{Known, known, AllKnown, none_known, also_known}
use Rattle.notation.proofs.KnownFields.{items_known}
use Rattle.rules.specs.Verdicts.{no_fault}

-- ---- Each name in a form is below n

module _ (n : ℕ) where
  abbrev pub KnownName : ℕ → Type 0
  KnownName i = i < n

  abbrev pub KnownValue : Value → Type 0
  KnownValue (Integer z) = Unit {0}
  KnownValue (String i) = KnownName i
  KnownValue (Boolean b) = Unit {0}

  abbrev pub KnownConstant : Constant → Type 0
  KnownConstant c = KnownValue c.value

  abbrev mutual
    pub KnownExpression : Expression → Type 0
    KnownExpression (constant c) = KnownConstant c
    KnownExpression (variable p i) = KnownName i
    KnownExpression (top_variable p i) = KnownName i
    KnownExpression (class_variable p c i) = KnownName c × KnownName i
    KnownExpression (operation p o a b) = KnownExpression a × KnownExpression b
    KnownExpression (negation p a) = KnownExpression a
    KnownExpression (attribute_read p t i a) = KnownName t × KnownName i × KnownExpression a
    KnownExpression (selector p a s) = KnownExpression a × KnownArms s
    KnownExpression (Expression.unreadable p) = Unit {0}

    pub KnownArms : Arms → Type 0
    KnownArms no_arm = Unit {0}
    KnownArms (arm c a s) = KnownConstant c × KnownExpression a × KnownArms s
    KnownArms (default_arm a s) = KnownExpression a × KnownArms s

  abbrev pub KnownAttribute : AttributeField → Type 0
  KnownAttribute f = KnownName f.name × KnownExpression f.expression

  abbrev mutual
    pub KnownStatement : Statement → Type 0
    KnownStatement (assignment p i a) = KnownName i × KnownExpression a
    KnownStatement (conditional p a y z) = KnownExpression a × KnownBlock y × KnownBlock z
    KnownStatement (choice p a bs) = KnownExpression a × KnownBranches bs
    KnownStatement (built_in_resource p t a fs) = KnownName t × KnownExpression a × EachOf KnownAttribute fs
    KnownStatement (defined_resource p t a fs) = KnownName t × KnownExpression a × EachOf KnownAttribute fs
    KnownStatement (class_with_attributes p c fs) = KnownName c × EachOf KnownAttribute fs
    KnownStatement (include p c) = KnownName c
    KnownStatement (Statement.unreadable p) = Unit {0}

    pub KnownBlock : Block → Type 0
    KnownBlock end = Unit {0}
    KnownBlock (next s b) = KnownStatement s × KnownBlock b

    pub KnownBranches : Branches → Type 0
    KnownBranches no_branch = Unit {0}
    KnownBranches (branch c b bs) = KnownConstant c × KnownBlock b × KnownBranches bs
    KnownBranches (default_branch b bs) = KnownBlock b × KnownBranches bs

  abbrev pub KnownDefault : Option Constant → Type 0
  KnownDefault none = Unit {0}
  KnownDefault (some c) = KnownConstant c

  abbrev pub KnownParameter : Parameter → Type 0
  KnownParameter q = KnownName q.name × KnownDefault q.default

  abbrev pub KnownParent : Option Parent → Type 0
  KnownParent none = Unit {0}
  KnownParent (some q) = KnownName q.name

  abbrev pub KnownDevices : Devices → Type 0
  KnownDevices (named is) = EachOf KnownName is
  KnownDevices by_default = Unit {0}

  abbrev pub KnownItem : Item → Type 0
  KnownItem (statement s) = KnownStatement s
  KnownItem (Item.node ds b) = KnownDevices ds × KnownBlock b
  KnownItem (definition (type_definition d)) = KnownName d.name × EachOf KnownParameter d.parameters × KnownBlock d.body
  KnownItem (definition (class_definition d)) = KnownName d.name × KnownParent d.parent × EachOf KnownParameter d.parameters × KnownBlock d.body

module _ (n : ℕ) where
  -- ---- Parts of known fields

  -- the fields in a known field, the first of known fields, and those behind it, are known
  inside_known : {p t : ℕ} {h : List ℕ} {ks : Fields} → Known n (field p t h ks) → AllKnown n ks
  inside_known (known h all) = all

  first_known : {k : Field} {ks : Fields} → AllKnown n (more k ks) → Known n k
  first_known (also_known k all) = k

  others_known : {k : Field} {ks : Fields} → AllKnown n (more k ks) → AllKnown n ks
  others_known (also_known k all) = all

  -- places do not matter
  mutual
    unfolding unplaced

    unplaced_known : {k : Field} → Known n k → Known n (unplaced k)
    unplaced_known (known h all) = known h (all_unplaced_known all)

    all_unplaced_known : {ks : Fields} → AllKnown n ks → AllKnown n (unplaced_all ks)
    all_unplaced_known none_known = none_known
    all_unplaced_known (also_known k all) = also_known (unplaced_known k) (all_unplaced_known all)

  -- ---- Names in heads

  -- a piece that is a name, whose number is j
  below : (h : List ℕ) (i : ℕ) {j : ℕ} {x : Piece} → x ≡ Name → two h i ≡ j → name_right h n i x ≡ true → KnownName n j
  unfolding name_right
  below h i e same w = subst (λ (j : ℕ). j < n) same (ltb-true (two h i) n (subst (λ (x : Piece). name_right h n i x ≡ true) e w))

  module _ {Given : Type 0} (given : Given) where
    -- a field with one name
    record OneKnown (i : ℕ) (ks : Fields) : Type 0 where
      name : KnownName n i
      inside : AllKnown n ks

    one_known : (t i : ℕ) {ks : Fields} → (form_of t).one ≡ Name → FitsName Given i → Known n (field 0 t (high_bytes 2 i) ks) → OneKnown i ks
    unfolding two high_bytes
    one_known t i e f (known h all) = record { name = below (high_bytes 2 i) 0 e (two_back i [] (f given)) h.first; inside = all }

    -- a field with two names
    record TwoKnown (c i : ℕ) (ks : Fields) : Type 0 where
      first : KnownName n c
      second : KnownName n i
      inside : AllKnown n ks

    two_known : (t c i : ℕ) {ks : Fields} → (form_of t).one ≡ Name → (form_of t).two ≡ Name → FitsName Given c → FitsName Given i → Known n (field 0 t (high_bytes 2 c ++ high_bytes 2 i) ks) → TwoKnown c i ks
    unfolding two high_bytes size
    two_known t c i d e f g (known h all) =
        let head : List ℕ = high_bytes 2 c ++ high_bytes 2 i in
        let place : size (form_of t).one ≡ 2 = ap size d in
        record {
          first = below head 0 d (two_back c (high_bytes 2 i) (f given)) h.first;
          second = below head (size (form_of t).one) e (ap (two head) place ∙ two_back i [] (g given)) h.second;
          inside = all;
        }

    -- a string behind a label
    label_known : (l i : ℕ) {ks : Fields} → i < 65536 → Known n (field 0 0x11 (l ∷ high_bytes 2 i) ks) → KnownName n i
    unfolding two high_bytes size form_of form_in forms
    label_known l i f (known h all) = below (l ∷ high_bytes 2 i) 1 refl (two_back i [] f) h.second

    -- ---- Expressions: where the field of a form is known, so are the names in the form

    value_known : (l : ℕ) {v : Value} → FitsValue v → Known n (value_field l v) → KnownValue n v
    unfolding value_field
    value_known l (fits_integer e) k = tt
    value_known l (fits_string {n = i} f) k = label_known l i f k
    value_known l fits_boolean k = tt

    constant_known : {c : Constant} → FitsConstant Given c → Known n (constant_field c) → KnownConstant n c
    unfolding constant_field
    constant_known {c} f k = value_known c.label (f given).value k

    mutual
      unfolding expression_field form_of form_in forms

      expression_known : {e : Expression} → FitsExpression Given e → Known n (expression_field e) → KnownExpression n e
      expression_known (fits_constant c) k = constant_known c k
      expression_known (fits_variable {n = i} f) k = (one_known 0x13 i refl f k).name
      expression_known (fits_top_variable {n = i} f) k = (one_known 0x14 i refl f k).name
      expression_known (fits_class_variable {q = c} {n = i} f g) k = let x = two_known 0x15 c i refl refl f g k in (x.first, x.second)
      expression_known (fits_operation a b) k = let ks = inside_known k in (expression_known a (first_known ks), expression_known b (first_known (others_known ks)))
      expression_known (fits_negation a) k = expression_known a (first_known (inside_known k))
      expression_known (fits_attribute_read {t = t} {n = i} f g a) k = let x = two_known 0x18 t i refl refl f g k in (x.first, x.second, expression_known a (first_known x.inside))
      expression_known (fits_selector a arms) k = let ks = inside_known k in (expression_known a (first_known ks), arms_known arms (others_known ks))
      expression_known fits_unreadable k = tt

      arms_known : {s : Arms} → FitsArms Given s → AllKnown n (arm_fields s) → KnownArms n s
      arms_known fits_no_arm ks = tt
      arms_known (fits_arm c a arms) ks = let js = inside_known (first_known ks) in (constant_known c (first_known js), expression_known a (first_known (others_known js)), arms_known arms (others_known ks))
      arms_known (fits_default_arm a arms) ks = (expression_known a (first_known (others_known (inside_known (first_known ks)))), arms_known arms (others_known ks))

    -- ---- Statements

    attributes_known : {fs : List AttributeField} → Each (FitsAttributeField Given) fs → AllKnown n (attribute_fields fs) → EachOf (KnownAttribute n) fs
    unfolding attribute_fields form_of form_in forms
    attributes_known none_left ks = tt
    attributes_known (also {x = x} f fs) ks = let a = one_known 0x26 x.name refl f.name (first_known ks) in ((a.name, expression_known f.expression (first_known a.inside)), attributes_known fs (others_known ks))

    mutual
      unfolding statement_field form_of form_in forms

      statement_known : {s : Statement} → FitsStatement Given s → Known n (statement_field s) → KnownStatement n s
      statement_known (fits_assignment {n = i} f a) k = let x = one_known 0x21 i refl f k in (x.name, expression_known a (first_known x.inside))
      statement_known (fits_conditional a y z) k =
          let ks = inside_known k in
          let js = others_known ks in
          (expression_known a (first_known ks), block_known y (inside_known (first_known js)), block_known z (inside_known (first_known (others_known js))))
      statement_known (fits_choice a bs) k = let ks = inside_known k in (expression_known a (first_known ks), branches_known bs (others_known ks))
      statement_known (fits_resource {t = t} f a fs) k = let x = one_known 0x25 t refl f k in (x.name, expression_known a (first_known x.inside), attributes_known fs (others_known x.inside))
      statement_known (fits_defined {t = t} f a fs) k = let x = one_known 0x27 t refl f k in (x.name, expression_known a (first_known x.inside), attributes_known fs (others_known x.inside))
      statement_known (fits_class {q = c} f fs) k = let x = one_known 0x28 c refl f k in (x.name, attributes_known fs x.inside)
      statement_known (fits_include {q = c} f) k = (one_known 0x29 c refl f k).name
      statement_known fits_unreadable_statement k = tt

      block_known : {b : Block} → FitsBlock Given b → AllKnown n (block_fields b) → KnownBlock n b
      block_known fits_end ks = tt
      block_known (fits_next s b) ks = (statement_known s (first_known ks), block_known b (others_known ks))

      branches_known : {bs : Branches} → FitsBranches Given bs → AllKnown n (branch_fields bs) → KnownBranches n bs
      branches_known fits_no_branch ks = tt
      branches_known (fits_branch c b bs) ks = let js = inside_known (first_known ks) in (constant_known c (first_known js), block_known b (inside_known (first_known (others_known js))), branches_known bs (others_known ks))
      branches_known (fits_default_branch b bs) ks = (block_known b (inside_known (first_known (others_known (inside_known (first_known ks))))), branches_known bs (others_known ks))

    -- ---- Items: what stands before a block, and the block's fields

    default_known : {c : Option Constant} → Perhaps (FitsConstant Given) c → AllKnown n (default_fields c) → KnownDefault n c
    unfolding default_fields
    default_known not_there ks = tt
    default_known (there f) ks = constant_known f (first_known ks)

    -- parameters, and the fields behind them
    parameters_known_lem : {qs : List Parameter} {rest : Fields} → Each (FitsParameter Given) qs → AllKnown n (parameter_fields qs rest) → EachOf (KnownParameter n) qs × AllKnown n rest
    unfolding parameter_fields form_of form_in forms
    parameters_known_lem none_left ks = (tt, ks)
    parameters_known_lem (also {x = q} f fs) ks =
        let a = one_known 0x33 q.name refl f.name (first_known ks) in
        let more = parameters_known_lem fs (others_known ks) in
        (((a.name, default_known f.default a.inside), more.0), more.1)

    parent_known : {q : Option Parent} {rest : Fields} → Perhaps (FitsParent Given) q → AllKnown n (parent_fields q rest) → KnownParent n q × AllKnown n rest
    unfolding parent_fields form_of form_in forms
    parent_known not_there ks = (tt, ks)
    parent_known (there {x = q} f) ks = ((one_known 0x35 q.name refl f.name (first_known ks)).name, others_known ks)

    device_known : {is : List ℕ} {rest : Fields} → Each (FitsName Given) is → AllKnown n (device_fields is rest) → EachOf (KnownName n) is × AllKnown n rest
    unfolding device_fields form_of form_in forms
    device_known none_left ks = (tt, ks)
    device_known (also {x = i} f fs) ks = let more = device_known fs (others_known ks) in (((one_known 0x31 i refl f (first_known ks)).name, more.0), more.1)

    devices_known : {ds : Devices} {rest : Fields} → FitsDevices Given ds → AllKnown n (devices_fields ds rest) → KnownDevices n ds × AllKnown n rest
    unfolding devices_fields
    devices_known (fits_named f) ks = device_known f ks
    devices_known fits_by_default ks = (tt, others_known ks)

    item_known : {i : Item} → FitsItem Given i → Known n (item_field i) → KnownItem n i
    unfolding item_field definition_field form_of form_in forms
    item_known (fits_statement_item s) k = statement_known s k
    item_known (fits_node f b) k = let x = devices_known f (inside_known k) in (x.0, block_known b (inside_known (first_known x.1)))
    item_known (fits_definition_item (fits_type_definition {d = d} f)) k =
        let a = one_known 0x32 d.name refl f.name k in
        let x = parameters_known_lem f.parameters a.inside in
        (a.name, x.0, block_known f.body (inside_known (first_known x.1)))
    item_known (fits_definition_item (fits_class_definitions {d = d} f)) k =
        let a = one_known 0x34 d.name refl f.name k in
        let p = parent_known f.parent a.inside in
        let x = parameters_known_lem f.parameters p.1 in
        (a.name, p.0, x.0, block_known f.body (inside_known (first_known x.1)))

    each_item_known : {is : List Item} → Each (FitsItem Given) is → AllKnown n (item_fields is) → EachOf (KnownItem n) is
    unfolding item_fields
    each_item_known none_left ks = tt
    each_item_known (also f fs) ks = (item_known f (first_known ks), each_item_known fs (others_known ks))

-- ---- A sound manifest

-- each name in its tree is below the number of its strings
pub tree_known : (m : List ℕ) → IsBytes m → check m ≡ no_fault → EachOf (KnownItem (length (manifest_of m).strings)) (manifest_of m).items
tree_known m bytes w =
    let n : ℕ = length (manifest_of m).strings in
    each_item_known n bytes (manifest_fits m) (rw (items_back m bytes w) (all_unplaced_known n (items_known m bytes w)))
