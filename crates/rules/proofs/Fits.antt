-- The ranges of a tree: every name fits two bytes and every constant its field. What is said of a number is said under a premise, `Given`: where
-- the tree is read from a manifest m, that m is a byte string. So a run of any tree can be followed once, and its ranges asked for only where
-- the premise holds. And the place of every constant is in the manifest, if the check before running finds no fault. Assumes nothing.
use mathlib.Core.Path.{◌≡◌, refl, sym, subst}
use mathlib.Core.Bool.{Bool, true, false}
use mathlib.Core.List.{List, [], ◌∷◌, Memᴰ}
use mathlib.Core.Option.{Option, none, some}
use Prim.Native.Nat.{ℕ, zero, suc, ◌+◌, ◌-◌, ◌≤◌, ◌<◌}
use native.Mathlib.Omega.{arith}
use borrow.Author.Tests.{ltb-false, lt-ltb}
use lib.Dec.{eqb, ltb, lit<}
use lib.IntN.{pos, negsuc}
use lib.ListN.{length, take, drop}
use lib.Seq.{slice, get_or-drop}
use Rattle.values.specs.declared.Value.TheVariants.{Integer, String, Boolean}
use Rattle.rules.specs.Bytes.{byte, two, end_of, fields_in}
use Rattle.rules.specs.Format.{form_of, head_size, three}
use Rattle.rules.specs.Check.{walk, inside, shape, check}
use Rattle.rules.specs.declared.Kind.TheVariants.{Table, Item as AnItem}
use Rattle.rules.specs.declared.Part.TheVariants.{Over, One, Many}
use Rattle.rules.specs.declared.Parts.{Parts}
use Rattle.rules.specs.declared.Rest.{Rest}
use Rattle.rules.specs.declared.Rest.TheVariants.{Only, Text, Fields as Inner}
use Rattle.rules.specs.Arithmetic.{fits64}
use Rattle.rules.specs.Fields.{Field, field, Fields, none as fields_end, more, read_each, read_body, read_field, read_all, head_of, tag_of, inner, first, others}
use Rattle.rules.specs.Tree.{Constant, Operator, Expression, constant, variable, top_variable, class_variable, operation, negation, attribute_read, selector, Arms, no_arm, arm, default_arm, AttributeField, Statement, assignment, conditional, choice, built_in_resource, defined_resource, class_with_attributes, include, Block, end, next, Branches, no_branch, branch, default_branch, Parameter, Parent, TypeDefinition, ClassDefinition, Definition, type_definition, class_definition, Devices, named, by_default, Item, statement, node, definition}
use Rattle.rules.specs.Tree
use Rattle.rules.specs.Read.{number, signed64, value_from, constant_from, is_default, entry_for, ExpressionTag, a_constant, a_variable, a_top_variable, a_class_variable, an_operation, a_negation, an_attribute_read, a_selector, no_expression, expression_tags, arm_from, arms_from, expression_by, expression_in, expression_from, attribute_from, attributes_from, StatementTag, an_assignment, a_conditional, a_choice, a_resource, a_defined, a_class, an_include, no_statement, statement_tags, branch_from, branches_from, statement_by, statement_in, statements_from, block_in, block_from, default_from, parameter_from, parameters_from, last_of, last_block, parent_from, after_parent, names_from, devices_from, ItemTag, a_node, a_type_definition, a_class_definition, a_statement, item_tags, item_by, item_from, items_from, manifest_from, manifest_of}
use Rattle.rules.specs.Evaluate.{find_type, find_class}
use Rattle.rules.specs.EditRule.{IsBytes}
use Rattle.rules.proofs.Lists.{Perhaps, not_there, there, Each, none_left, also}
use Rattle.rules.proofs.Within.{each_within, inside_sound, check_sound, shape_sound}
use Rattle.rules.proofs.ReadBack.{FitsValue, fits_integer, fits_string, fits_boolean}
use Rattle.rules.specs.Verdicts.{no_fault}

pub record ConstantInRange (v : Constant) : Type 0 where
  pub label : v.label < 256
  pub value : FitsValue v.value

-- ---- Trees

module _ (Given : Type 0) where
  abbrev pub FitsName : ℕ → Type 0
  FitsName n = Given → n < 65536

  pub record FitsParent (q : Parent) : Type 0 where
    pub name : FitsName q.name

  pub data FitsDevices : Devices → Type 0 where
    fits_named : {ns : List ℕ} → Each FitsName ns → FitsDevices (named ns)
    fits_by_default : FitsDevices by_default

-- a tree in which every name fits, and `Of` holds of every constant
module _ (Given : Type 0) (Of : Constant → Type 0) where
  mutual
    pub data InExpression : Expression → Type 0 where
      fits_constant : {v : Constant} → Of v → InExpression (constant v)
      fits_variable : {p n : ℕ} → FitsName Given n → InExpression (variable p n)
      fits_top_variable : {p n : ℕ} → FitsName Given n → InExpression (top_variable p n)
      fits_class_variable : {p q n : ℕ} → FitsName Given q → FitsName Given n → InExpression (class_variable p q n)
      fits_operation : {p : ℕ} {o : Operator} {a b : Expression} → InExpression a → InExpression b → InExpression (operation p o a b)
      fits_negation : {p : ℕ} {a : Expression} → InExpression a → InExpression (negation p a)
      fits_attribute_read : {p t n : ℕ} {a : Expression} → FitsName Given t → FitsName Given n → InExpression a → InExpression (attribute_read p t n a)
      fits_selector : {p : ℕ} {a : Expression} {s : Arms} → InExpression a → InArms s → InExpression (selector p a s)
      fits_unreadable : {p : ℕ} → InExpression (Expression.unreadable p)

    pub data InArms : Arms → Type 0 where
      fits_no_arm : InArms no_arm
      fits_arm : {v : Constant} {a : Expression} {s : Arms} → Of v → InExpression a → InArms s → InArms (arm v a s)
      fits_default_arm : {a : Expression} {s : Arms} → InExpression a → InArms s → InArms (default_arm a s)

  pub record InAttributeField (a : AttributeField) : Type 0 where
    pub name : FitsName Given a.name
    pub expression : InExpression a.expression

  mutual
    pub data InStatement : Statement → Type 0 where
      fits_assignment : {p n : ℕ} {e : Expression} → FitsName Given n → InExpression e → InStatement (assignment p n e)
      fits_conditional : {p : ℕ} {e : Expression} {a b : Block} → InExpression e → InBlock a → InBlock b → InStatement (conditional p e a b)
      fits_choice : {p : ℕ} {e : Expression} {bs : Branches} → InExpression e → InBranches bs → InStatement (choice p e bs)
      fits_resource : {p t : ℕ} {e : Expression} {ats : List AttributeField} → FitsName Given t → InExpression e → Each InAttributeField ats → InStatement (built_in_resource p t e ats)
      fits_defined : {p t : ℕ} {e : Expression} {ats : List AttributeField} → FitsName Given t → InExpression e → Each InAttributeField ats → InStatement (defined_resource p t e ats)
      fits_class : {p q : ℕ} {ats : List AttributeField} → FitsName Given q → Each InAttributeField ats → InStatement (class_with_attributes p q ats)
      fits_include : {p q : ℕ} → FitsName Given q → InStatement (include p q)
      fits_unreadable_statement : {p : ℕ} → InStatement (Statement.unreadable p)

    pub data InBlock : Block → Type 0 where
      fits_end : InBlock end
      fits_next : {s : Statement} {b : Block} → InStatement s → InBlock b → InBlock (next s b)

    pub data InBranches : Branches → Type 0 where
      fits_no_branch : InBranches no_branch
      fits_branch : {v : Constant} {b : Block} {bs : Branches} → Of v → InBlock b → InBranches bs → InBranches (branch v b bs)
      fits_default_branch : {b : Block} {bs : Branches} → InBlock b → InBranches bs → InBranches (default_branch b bs)

  pub record InParameter (q : Parameter) : Type 0 where
    pub name : FitsName Given q.name
    pub default : Perhaps Of q.default

  pub record InType (d : TypeDefinition) : Type 0 where
    pub name : FitsName Given d.name
    pub parameters : Each InParameter d.parameters
    pub body : InBlock d.body

  pub record InClassDefinition (d : ClassDefinition) : Type 0 where
    pub name : FitsName Given d.name
    pub parent : Perhaps (FitsParent Given) d.parent
    pub parameters : Each InParameter d.parameters
    pub body : InBlock d.body

  pub data InDefinition : Definition → Type 0 where
    fits_type_definition : {d : TypeDefinition} → InType d → InDefinition (type_definition d)
    fits_class_definitions : {d : ClassDefinition} → InClassDefinition d → InDefinition (class_definition d)

  pub data InItem : Item → Type 0 where
    fits_statement_item : {s : Statement} → InStatement s → InItem (statement s)
    fits_node : {ds : Devices} {b : Block} → FitsDevices Given ds → InBlock b → InItem (node ds b)
    fits_definition_item : {d : Definition} → InDefinition d → InItem (definition d)

  pub in_definition : {d : Definition} → InItem (definition d) → InDefinition d
  in_definition (fits_definition_item f) = f

-- the definition that a name finds is one of them
module _ {Given : Type 0} {Of : Constant → Type 0} where
  pub type_found : (n : ℕ) {ds : List Definition} → Each (InDefinition Given Of) ds → Perhaps (InType Given Of) (find_type n ds)
  unfolding find_type
  type_found n none_left = not_there
  type_found n (also (fits_type_definition {d = d} f) fs) = go (eqb d.name n) (type_found n fs)
    where
      go : (b : Bool) {o : Option TypeDefinition} → Perhaps (InType Given Of) o → Perhaps (InType Given Of) (elim b [ true ↦ some d | false ↦ o ])
      go true r = there f
      go false r = r
  type_found n (also (fits_class_definitions f) fs) = type_found n fs

  pub class_found : (n : ℕ) {ds : List Definition} → Each (InDefinition Given Of) ds → Perhaps (InClassDefinition Given Of) (find_class n ds)
  unfolding find_class
  class_found n none_left = not_there
  class_found n (also (fits_type_definition f) fs) = class_found n fs
  class_found n (also (fits_class_definitions {d = d} f) fs) = go (eqb d.name n) (class_found n fs)
    where
      go : (b : Bool) {o : Option ClassDefinition} → Perhaps (InClassDefinition Given Of) o → Perhaps (InClassDefinition Given Of) (elim b [ true ↦ some d | false ↦ o ])
      go true r = there f
      go false r = r

-- a tree in which every constant fits its field too
module _ (Given : Type 0) where
  abbrev pub FitsConstant : Constant → Type 0
  FitsConstant v = Given → ConstantInRange v

  abbrev pub FitsExpression : Expression → Type 0
  FitsExpression e = InExpression Given FitsConstant e

  abbrev pub FitsArms : Arms → Type 0
  FitsArms s = InArms Given FitsConstant s

  abbrev pub FitsAttributeField : AttributeField → Type 0
  FitsAttributeField a = InAttributeField Given FitsConstant a

  abbrev pub FitsStatement : Statement → Type 0
  FitsStatement s = InStatement Given FitsConstant s

  abbrev pub FitsBlock : Block → Type 0
  FitsBlock b = InBlock Given FitsConstant b

  abbrev pub FitsBranches : Branches → Type 0
  FitsBranches bs = InBranches Given FitsConstant bs

  abbrev pub FitsParameter : Parameter → Type 0
  FitsParameter q = InParameter Given FitsConstant q

  abbrev pub FitsClassDefinition : ClassDefinition → Type 0
  FitsClassDefinition d = InClassDefinition Given FitsConstant d

  abbrev pub FitsDefinition : Definition → Type 0
  FitsDefinition d = InDefinition Given FitsConstant d

  abbrev pub FitsItem : Item → Type 0
  FitsItem i = InItem Given FitsConstant i

-- ---- Fields: every byte of every head is below 256, and every place is in the manifest

take_bytes : (n : ℕ) (m : List ℕ) → ((i : ℕ) → byte m i < 256) → (i : ℕ) → byte (take n m) i < 256
take_bytes zero m b i = lit< tt
take_bytes (suc n) [] b i = lit< tt
take_bytes (suc n) (x ∷ m) b zero = b 0
take_bytes (suc n) (x ∷ m) b (suc i) = take_bytes n m (λ j. b (suc j)) i

slice_bytes : (a e : ℕ) (m : List ℕ) → IsBytes m → IsBytes (slice a e m)
slice_bytes a e m b = record { below = λ i. subst (λ (x : ℕ). x < 256) (sym (get_or-drop a (take e m) i 0)) (take_bytes e m b.below (a + i)) }

no_bytes : IsBytes []
no_bytes = record { below = λ i. lit< tt }

-- two bytes, wherever they stand
two_below : (m : List ℕ) (p : ℕ) → IsBytes m → two m p < 65536
unfolding two
two_below m p b = omega (arith, b.below p, b.below (p + 1))

-- a signed number of any bytes is one of 64 bits
signed_fits : (n : ℕ) → fits64 (signed64 n) ≡ true
unfolding signed64 fits64
signed_fits n = go (ltb n 9223372036854775808) refl
  where
    go : (b : Bool) → ltb n 9223372036854775808 ≡ b → fits64 (elim b [ true ↦ pos n | false ↦ negsuc (18446744073709551615 - n) ]) ≡ true
    go true e = e
    go false e = let h : 9223372036854775808 ≤ n = ltb-false n 9223372036854775808 e in lt-ltb (18446744073709551615 - n) 9223372036854775808 (omega arith)

value_fits : (t : ℕ) (h : List ℕ) → IsBytes h → FitsValue (value_from t h)
unfolding value_from
value_fits t h b = go (eqb t 0x10) (eqb t 0x11)
  where
    go : (x y : Bool) → FitsValue (elim x [ true ↦ Integer (signed64 (number (drop 1 h) 0)) | false ↦ elim y [ true ↦ String (two h 1) | false ↦ Boolean (eqb (byte h 1) 1) ] ])
    go true y = fits_integer (signed_fits (number (drop 1 h) 0))
    go false true = fits_string (two_below h 1 b)
    go false false = fits_boolean

-- a constant that is read from a manifest
pub record ConstantRead (m : List ℕ) (v : Constant) : Type 0 where
  pub fits : FitsConstant (IsBytes m) v
  pub place : check m ≡ no_fault → v.place < length m

module _ (m : List ℕ) where
  -- a place in the manifest, if the check finds no fault there
  abbrev Placed : ℕ → Type 0
  Placed p = check m ≡ no_fault → p < length m

  mutual
    data FitsField : Field → Type 0 where
      fits_field : {p t : ℕ} {h : List ℕ} {ks : Fields} → Placed p → (IsBytes m → IsBytes h) → FitsFields ks → FitsField (field p t h ks)

    data FitsFields : Fields → Type 0 where
      fits_none : FitsFields fields_end
      fits_more : {k : Field} {ks : Fields} → FitsField k → FitsFields ks → FitsFields (more k ks)

  -- the field at p, with d levels left for it, is without fault and ends in the manifest
  record Stands (d p : ℕ) : Type 0 where
    ends : end_of m p ≤ length m
    sound : inside m d p ≡ no_fault

  stands_placed : {d p : ℕ} → (check m ≡ no_fault → Stands d p) → Placed p
  stands_placed s ok = omega (arith, (s ok).ends)

  -- so does each field of a walk without fault
  walk_stands : (d p : ℕ) (ps : Parts) (from e : ℕ) → e ≤ length m → walk m (inside m d) p ps e (fields_in m from e) ≡ no_fault → (q : ℕ) → Memᴰ q (fields_in m from e) → Stands d q
  walk_stands d p ps from e h w q i = let there = each_within m (inside m d) p ps from e w q i in record { ends = omega (arith, h, there.ends); sound = there.sound }

  each_fits : (f : ℕ → Field) (ps : List ℕ) → ((p : ℕ) → Memᴰ p ps → FitsField (f p)) → FitsFields (read_each f ps)
  unfolding read_each
  each_fits f [] h = fits_none
  each_fits f (p ∷ ps) h = fits_more (h p (Memᴰ.head refl)) (each_fits f ps λ q i. h q (Memᴰ.tail i))

  body_fits : (d p : ℕ) → ((q : ℕ) → (check m ≡ no_fault → Stands d q) → FitsField (read_field m d q)) → (check m ≡ no_fault → Stands (suc d) p)
      → (r : Rest) → (form_of (byte m p)).rest ≡ r → FitsField (read_body m (read_field m d) p (head_size (form_of (byte m p))) r)
  unfolding read_body
  body_fits d p g s Only e = fits_field (stands_placed s) (slice_bytes (p + 3) (end_of m p) m) fits_none
  body_fits d p g s Text e = fits_field (stands_placed s) (slice_bytes (p + 3) (end_of m p) m) fits_none
  body_fits d p g s (Inner ps) e =
      let from : ℕ = p + 3 + head_size (form_of (byte m p)) in
      fits_field (stands_placed s) (slice_bytes (p + 3) from m)
      (each_fits (read_field m d) (fields_in m from (end_of m p)) λ q i. g q λ ok. walk_stands d p ps from (end_of m p) (s ok).ends ((inside_sound m d p (s ok).sound).fields ps e) q i)

  field_fits : (d p : ℕ) → (check m ≡ no_fault → Stands d p) → FitsField (read_field m d p)
  unfolding read_field
  field_fits zero p s = fits_field (stands_placed s) (λ y. no_bytes) fits_none
  field_fits (suc d) p s = body_fits d p (λ q t. field_fits d q t) s (form_of (byte m p)).rest refl

  all_fits : FitsFields (read_all m)
  unfolding read_all shape
  all_fits =
      each_fits (read_field m 32) (fields_in m 0 (length m)) λ q i.
      field_fits 32 q λ ok. walk_stands 32 0 (three (One Table) (Many AnItem) Over) 0 (length m) (omega arith) (check_sound m ok).shaped q i

  -- ---- From fields to the tree

  -- a field that is missing is read as an empty one at 0
  no_field_fits : FitsField (first fields_end)
  unfolding first
  no_field_fits = fits_field {p = 0} (λ ok. omega (arith, (shape_sound m (check_sound m ok).shaped).within.there)) (λ y. no_bytes) fits_none

  first_fits : {ks : Fields} → FitsFields ks → FitsField (first ks)
  unfolding first
  first_fits fits_none = no_field_fits
  first_fits (fits_more f fs) = f

  others_fits : {ks : Fields} → FitsFields ks → FitsFields (others ks)
  unfolding others
  others_fits fits_none = fits_none
  others_fits (fits_more f fs) = fs

  inner_fits : {k : Field} → FitsField k → FitsFields (inner k)
  unfolding inner
  inner_fits (fits_field w b fs) = fs

  -- what is asked of a constant is known of those that are read
  module _ (Of : Constant → Type 0) (of : (v : Constant) → ConstantRead m v → Of v) where
    constant_fits : {k : Field} → FitsField k → Of (constant_from k)
    unfolding constant_from
    constant_fits (fits_field {t = t} {h = h} w b fs) = of _ (record { fits = λ y. record { label = (b y).below 0; value = value_fits t h (b y) }; place = w })

    -- a name in a head
    name_fits_lem : {h : List ℕ} → (IsBytes m → IsBytes h) → (p : ℕ) → FitsName (IsBytes m) (two h p)
    name_fits_lem {h} b p = λ y. two_below h p (b y)

    -- expressions; g says that those inside fit
    module _ (f : Field → Expression) (g : (k : Field) → FitsField k → InExpression (IsBytes m) Of (f k)) where
      arm_fits : (d : Bool) {ks : Fields} {s : Arms} → FitsFields ks → InArms (IsBytes m) Of s → InArms (IsBytes m) Of (arm_from f d ks s)
      unfolding arm_from
      arm_fits true fs r = fits_default_arm (g _ (first_fits (others_fits fs))) r
      arm_fits false fs r = fits_arm (constant_fits (first_fits fs)) (g _ (first_fits (others_fits fs))) r

      arms_fit : {ks : Fields} → FitsFields ks → InArms (IsBytes m) Of (arms_from f ks)
      unfolding arms_from
      arms_fit fits_none = fits_no_arm
      arms_fit (fits_more {k = k} a fs) = arm_fits (is_default (first (inner k))) (inner_fits a) (arms_fit fs)

      expression_by_fits : (t : ExpressionTag) (p : ℕ) {k : Field} {h : List ℕ} {ks : Fields} → FitsField k → (IsBytes m → IsBytes h) → FitsFields ks → InExpression (IsBytes m) Of (expression_by f k p h ks t)
      unfolding expression_by
      expression_by_fits a_constant p a b fs = fits_constant (constant_fits a)
      expression_by_fits a_variable p a b fs = fits_variable (name_fits_lem b 0)
      expression_by_fits a_top_variable p a b fs = fits_top_variable (name_fits_lem b 0)
      expression_by_fits a_class_variable p a b fs = fits_class_variable (name_fits_lem b 0) (name_fits_lem b 2)
      expression_by_fits an_operation p a b fs = fits_operation (g _ (first_fits fs)) (g _ (first_fits (others_fits fs)))
      expression_by_fits a_negation p a b fs = fits_negation (g _ (first_fits fs))
      expression_by_fits an_attribute_read p a b fs = fits_attribute_read (name_fits_lem b 0) (name_fits_lem b 2) (g _ (first_fits fs))
      expression_by_fits a_selector p a b fs = fits_selector (g _ (first_fits fs)) (arms_fit (others_fits fs))
      expression_by_fits no_expression p a b fs = fits_unreadable

    expression_in_fits : (d : ℕ) {k : Field} → FitsField k → InExpression (IsBytes m) Of (expression_in d k)
    unfolding expression_in
    expression_in_fits zero (fits_field w b fs) = fits_unreadable
    expression_in_fits (suc d) (fits_field {p = p} {t = t} w b fs) = expression_by_fits (expression_in d) (λ k a. expression_in_fits d a) (entry_for expression_tags no_expression t) p (fits_field w b fs) b fs

    expression_fits : {k : Field} → FitsField k → InExpression (IsBytes m) Of (expression_from k)
    unfolding expression_from
    expression_fits a = expression_in_fits 32 a

    -- statements and blocks
    attribute_fits : {k : Field} → FitsField k → InAttributeField (IsBytes m) Of (attribute_from k)
    unfolding attribute_from
    attribute_fits (fits_field w b fs) = record { name = name_fits_lem b 0; expression = expression_fits (first_fits fs) }

    each_if : {A : Type 0} {P : A → Type 0} (b : Bool) {xs ys : List A} → Each P xs → Each P ys → Each P (elim b [ true ↦ xs | false ↦ ys ])
    each_if true p q = p
    each_if false p q = q

    attributes_fit : {ks : Fields} → FitsFields ks → Each (InAttributeField (IsBytes m) Of) (attributes_from ks)
    unfolding attributes_from
    attributes_fit fits_none = none_left
    attributes_fit (fits_more {k = k} a fs) = each_if (eqb (tag_of k) 0x26) (also (attribute_fits a) (attributes_fit fs)) (attributes_fit fs)

    module _ (f : Field → Block) (g : (k : Field) → FitsField k → InBlock (IsBytes m) Of (f k)) where
      branch_fits : (d : Bool) {ks : Fields} {bs : Branches} → FitsFields ks → InBranches (IsBytes m) Of bs → InBranches (IsBytes m) Of (branch_from f d ks bs)
      unfolding branch_from
      branch_fits true fs r = fits_default_branch (g _ (first_fits (others_fits fs))) r
      branch_fits false fs r = fits_branch (constant_fits (first_fits fs)) (g _ (first_fits (others_fits fs))) r

      branches_fit : {ks : Fields} → FitsFields ks → InBranches (IsBytes m) Of (branches_from f ks)
      unfolding branches_from
      branches_fit fits_none = fits_no_branch
      branches_fit (fits_more {k = k} a fs) = branch_fits (is_default (first (inner k))) (inner_fits a) (branches_fit fs)

      statement_by_fits : (t : StatementTag) (p : ℕ) {h : List ℕ} {ks : Fields} → (IsBytes m → IsBytes h) → FitsFields ks → InStatement (IsBytes m) Of (statement_by f p h ks t)
      unfolding statement_by
      statement_by_fits an_assignment p b fs = fits_assignment (name_fits_lem b 0) (expression_fits (first_fits fs))
      statement_by_fits a_conditional p b fs = fits_conditional (expression_fits (first_fits fs)) (g _ (first_fits (others_fits fs))) (g _ (first_fits (others_fits (others_fits fs))))
      statement_by_fits a_choice p b fs = fits_choice (expression_fits (first_fits fs)) (branches_fit (others_fits fs))
      statement_by_fits a_resource p b fs = fits_resource (name_fits_lem b 0) (expression_fits (first_fits fs)) (attributes_fit (others_fits fs))
      statement_by_fits a_defined p b fs = fits_defined (name_fits_lem b 0) (expression_fits (first_fits fs)) (attributes_fit (others_fits fs))
      statement_by_fits a_class p b fs = fits_class (name_fits_lem b 0) (attributes_fit fs)
      statement_by_fits an_include p b fs = fits_include (name_fits_lem b 0)
      statement_by_fits no_statement p b fs = fits_unreadable_statement

      statement_in_fits : {k : Field} → FitsField k → InStatement (IsBytes m) Of (statement_in f k)
      unfolding statement_in
      statement_in_fits (fits_field {p = p} {t = t} w b fs) = statement_by_fits (entry_for statement_tags no_statement t) p b fs

      statements_fit : {ks : Fields} → FitsFields ks → InBlock (IsBytes m) Of (statements_from (statement_in f) ks)
      unfolding statements_from
      statements_fit fits_none = fits_end
      statements_fit (fits_more a fs) = fits_next (statement_in_fits a) (statements_fit fs)

    block_in_fits : (d : ℕ) {k : Field} → FitsField k → InBlock (IsBytes m) Of (block_in d k)
    unfolding block_in
    block_in_fits zero a = fits_end
    block_in_fits (suc d) (fits_field w b fs) = statements_fit (block_in d) (λ k a. block_in_fits d a) fs

    block_fits : {k : Field} → FitsField k → InBlock (IsBytes m) Of (block_from k)
    unfolding block_from
    block_fits a = block_in_fits 32 a

    -- items
    default_fits : {ks : Fields} → FitsFields ks → Perhaps Of (default_from ks)
    unfolding default_from
    default_fits fits_none = not_there
    default_fits (fits_more a fs) = there (constant_fits a)

    parameter_fits : {k : Field} → FitsField k → InParameter (IsBytes m) Of (parameter_from k)
    unfolding parameter_from
    parameter_fits (fits_field w b fs) = record { name = name_fits_lem b 0; default = default_fits fs }

    parameters_fit : {ks : Fields} → FitsFields ks → Each (InParameter (IsBytes m) Of) (parameters_from ks)
    unfolding parameters_from
    parameters_fit fits_none = none_left
    parameters_fit (fits_more {k = k} a fs) = each_if (eqb (tag_of k) 0x33) (also (parameter_fits a) (parameters_fit fs)) none_left

    last_fits : {k : Field} {ks : Fields} → FitsField k → FitsFields ks → FitsField (last_of k ks)
    unfolding last_of
    last_fits a fits_none = a
    last_fits a (fits_more b fs) = last_fits b fs

    last_block_fits : {ks : Fields} → FitsFields ks → InBlock (IsBytes m) Of (last_block ks)
    unfolding last_block
    last_block_fits fs = block_fits (last_fits no_field_fits fs)

    parent_fits : {k : Field} → FitsField k → Perhaps (FitsParent (IsBytes m)) (parent_from k)
    unfolding parent_from
    parent_fits (fits_field {p = p} {t = t} {h = h} w b fs) = go (eqb t 0x35)
      where
        go : (x : Bool) → Perhaps (FitsParent (IsBytes m)) (elim x [ true ↦ some (record { place = p; name = two h 0 }) | false ↦ none ])
        go true = there (record { name = name_fits_lem b 0 })
        go false = not_there

    after_parent_fits : (o : Option Parent) {ks : Fields} → FitsFields ks → FitsFields (after_parent o ks)
    unfolding after_parent
    after_parent_fits none fs = fs
    after_parent_fits (some q) fs = others_fits fs

    head_fits : {k : Field} → FitsField k → IsBytes m → IsBytes (head_of k)
    unfolding head_of
    head_fits (fits_field w b fs) = b

    names_fit : {ks : Fields} → FitsFields ks → Each (FitsName (IsBytes m)) (names_from ks)
    unfolding names_from
    names_fit fits_none = none_left
    names_fit (fits_more {k = k} a fs) = each_if (eqb (tag_of k) 0x31) (also (name_fits_lem (head_fits a) 0) (names_fit fs)) none_left

    devices_fit : {ks : Fields} → FitsFields ks → FitsDevices (IsBytes m) (devices_from ks)
    unfolding devices_from
    devices_fit {ks} fs = go (is_default (first ks))
      where
        go : (x : Bool) → FitsDevices (IsBytes m) (elim x [ true ↦ by_default | false ↦ named (names_from ks) ])
        go true = fits_by_default
        go false = fits_named (names_fit fs)

    item_by_fits : (t : ItemTag) (p : ℕ) {k : Field} {h : List ℕ} {ks : Fields} → FitsField k → (IsBytes m → IsBytes h) → FitsFields ks → InItem (IsBytes m) Of (item_by k p h ks t)
    unfolding item_by
    item_by_fits a_node p a b fs = fits_node (devices_fit fs) (last_block_fits fs)
    item_by_fits a_type_definition p a b fs = fits_definition_item (fits_type_definition (record { name = name_fits_lem b 0; parameters = parameters_fit fs; body = last_block_fits fs }))
    item_by_fits a_class_definition p {ks = ks} a b fs = fits_definition_item (fits_class_definitions (record {
      name = name_fits_lem b 0;
      parent = parent_fits (first_fits fs);
      parameters = parameters_fit (after_parent_fits (parent_from (first ks)) fs);
      body = last_block_fits fs;
    }))
    item_by_fits a_statement p a b fs = fits_statement_item (statement_in_fits block_from (λ k c. block_fits c) a)

    item_fits : {k : Field} → FitsField k → InItem (IsBytes m) Of (item_from k)
    unfolding item_from
    item_fits (fits_field {p = p} {t = t} w b fs) = item_by_fits (entry_for item_tags a_statement t) p (fits_field w b fs) b fs

    items_fit : {ks : Fields} → FitsFields ks → Each (InItem (IsBytes m) Of) (items_from ks)
    unfolding items_from
    items_fit fits_none = none_left
    items_fit (fits_more a fs) = also (item_fits a) (items_fit fs)

-- the law: if a manifest is a byte string, its names and constants are in their ranges
pub manifest_fits : (m : List ℕ) → Each (FitsItem (IsBytes m)) (manifest_of m).items
unfolding manifest_of manifest_from
manifest_fits m = items_fit m (FitsConstant (IsBytes m)) (λ v c. c.fits) (others_fits m (all_fits m))

-- and the place of each constant is in the manifest, if the check finds no fault
pub manifest_read : (m : List ℕ) → Each (InItem (IsBytes m) (ConstantRead m)) (manifest_of m).items
unfolding manifest_of manifest_from
manifest_read m = items_fit m (ConstantRead m) (λ v c. c) (others_fits m (all_fits m))
