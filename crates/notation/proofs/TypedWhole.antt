-- The items of a sound manifest are whole: no field is unreadable, each selector has an arm and each node a device. That the resources' types are of
-- the right sort is a premise, `TypesRight`.
use Prim.Native.Nat.{ℕ, zero, suc}
use mathlib.Core.Path.{◌≡◌, refl, sym, subst}
use mathlib.Core.Bool.{true}
use mathlib.Core.List.{List, [], ◌∷◌}
use mathlib.Core.Option.{Option, none, some}
use Rattle.rules.specs.Format.{forms, form_in, form_of, allowed, three}
use Rattle.rules.specs.Check.{check}
use Rattle.rules.specs.Fields.{Field, field, Fields, none as fields_end, more, head_of, tag_of, inner, others}
use Rattle.rules.specs.Tree.{Expression, constant, variable, top_variable, class_variable, operation, negation, attribute_read, selector, Arms, no_arm, arm, default_arm, AttributeField, Statement, assignment, conditional, choice, built_in_resource, defined_resource, class_with_attributes, include, Block, end, next, Branches, no_branch, branch, default_branch, Parameter, Parent, type_definition, class_definition, Devices, named, by_default, Item, statement, definition}
use Rattle.rules.specs.Tree
use Rattle.rules.specs.Read.{manifest_of}
use Rattle.rules.specs.Catalog.{high_bytes}
use Rattle.rules.specs.EditRule.{IsBytes}
use Rattle.rules.specs.declared.Kind.{Kind}
use Rattle.rules.specs.declared.Kind.TheVariants.{Table, Expression as ExpressionKind, Statement as StatementKind, Item as ItemKind}
use Rattle.rules.specs.declared.Part.TheVariants.{Over, One, Many}
use Rattle.rules.proofs.Within.{false_not_true}
use Rattle.rules.proofs.Listed.{Same, same, OneOf, one, ManyOf, none_of_many, one_of_many, NamesOf, default_name, device_names, AsListed, Listed, all_listed}
use Rattle.rules.proofs.TypedBack.{constant_field, expression_field, arm_fields, attribute_fields, statement_field, block_fields, branch_fields, parameter_fields, parent_fields, device_fields, devices_fields, definition_field, item_field, item_fields, fields_of, typed_back}
use Rattle.rules.specs.Types.{Types}
use Rattle.notation.specs.Building.{resource_tag}
use Rattle.notation.proofs.Written.{All, no_field, also_field}
use Rattle.notation.proofs.EntriesBack.{EachOf}
use Rattle.notation.proofs.ExpressionsBack.{SomeArm, Whole, WholeArms}
use Rattle.notation.proofs.StatementsBack.{WholeAttribute, WholeStatement, WholeBlock, WholeBranches}
use Rattle.notation.proofs.ItemsBack.{SomeDevice, WholeItem}
use Rattle.notation.proofs.ListedParts.{each_inside, all_first, all_others, parts_unplaced, listed_unplaced}
use Rattle.rules.specs.Verdicts.{no_fault}

-- ---- The types of resources

module _ (types : Types) (S : ℕ → List ℕ) where
  abbrev mutual
    pub TypesRightStatement : Statement → Type 0
    TypesRightStatement (assignment p n a) = Unit {0}
    TypesRightStatement (conditional p a y n) = TypesRightBlock y × TypesRightBlock n
    TypesRightStatement (choice p a bs) = TypesRightBranches bs
    TypesRightStatement (built_in_resource p t a fs) = resource_tag types (S t) ≡ 0x25
    TypesRightStatement (defined_resource p t a fs) = resource_tag types (S t) ≡ 0x27
    TypesRightStatement (class_with_attributes p c fs) = Unit {0}
    TypesRightStatement (include p c) = Unit {0}
    TypesRightStatement (Statement.unreadable p) = Unit {0}

    pub TypesRightBlock : Block → Type 0
    TypesRightBlock end = Unit {0}
    TypesRightBlock (next s b) = TypesRightStatement s × TypesRightBlock b

    pub TypesRightBranches : Branches → Type 0
    TypesRightBranches no_branch = Unit {0}
    TypesRightBranches (branch c b bs) = TypesRightBlock b × TypesRightBranches bs
    TypesRightBranches (default_branch b bs) = TypesRightBlock b × TypesRightBranches bs

  abbrev pub TypesRightItem : Item → Type 0
  TypesRightItem (statement s) = TypesRightStatement s
  TypesRightItem (Item.node ds b) = TypesRightBlock b
  TypesRightItem (definition (type_definition d)) = TypesRightBlock d.body
  TypesRightItem (definition (class_definition d)) = TypesRightBlock d.body

  -- each resource anywhere in the items has a type of its sort: built in, or not
  abbrev pub TypesRight : List Item → Type 0
  TypesRight is = EachOf TypesRightItem is

-- ---- Parts

-- a field of a kind, as listed, of at most d levels
abbrev Fine : ℕ → Kind → Field → Type 0
Fine d k f = (allowed k (tag_of f) ≡ true) × Listed d f

-- one level further down
abbrev lower : ℕ → ℕ
lower zero = zero
lower (suc d) = d

-- a field as listed is as the line of its tag says
opened : (d : ℕ) (k : Field) → Listed d k → AsListed (Listed (lower d)) (form_of (tag_of k)) (head_of k) (inner k)
unfolding tag_of head_of inner
opened zero k a = absurd a
opened (suc d) (field p t h ks) a = a

-- each field in it is as listed
each_within : (d : ℕ) (k : Field) → Listed d k → All (Listed (lower d)) (inner k)
each_within d k a = each_inside (form_of (tag_of k)).rest (opened d k a).fields

-- there is a field
abbrev SomeField : Fields → Type 0
SomeField fields_end = ⊥
SomeField (more k ks) = Unit {0}

-- nothing twice is nothing
both_ended : {ks rest : Fields} → Same ks rest → Same rest fields_end → Same ks fields_end
both_ended same e = e

module _ {P : Field → Type 0} where
  -- the first field is of the kind that comes first, and the second of the next kind
  first_kind : {k : Kind} {f : Field} {fs rest : Fields} → OneOf P k (more f fs) rest → (allowed k (tag_of f) ≡ true) × P f
  first_kind (one t p) = (t, p)

  second_kind : {k j : Kind} {f g : Field} {fs rest last : Fields} → OneOf P k (more f (more g fs)) rest → OneOf P j rest last → (allowed j (tag_of g) ≡ true) × P g
  second_kind (one t p) (one u q) = (u, q)

  -- where one field must come, there is one
  some_field : {k : Kind} {ks rest : Fields} → OneOf P k ks rest → SomeField ks
  some_field (one t p) = tt

  some_behind : {k j : Kind} {f : Field} {fs rest last : Fields} → OneOf P k (more f fs) rest → OneOf P j rest last → SomeField fs
  some_behind (one t p) o = some_field o

  -- all fields are of the kind of which any number may come
  each_kind : {k : Kind} {ks rest : Fields} → ManyOf P k ks rest → Same rest fields_end → All (λ f. (allowed k (tag_of f) ≡ true) × P f) ks
  each_kind none_of_many same = no_field
  each_kind (one_of_many t p s) e = also_field (t, p) (each_kind s e)

  kinds_behind : {k j : Kind} {ks rest last : Fields} → OneOf P k ks rest → ManyOf P j rest last → Same last fields_end → All (λ f. (allowed j (tag_of f) ≡ true) × P f) (others ks)
  unfolding others
  kinds_behind (one t p) s e = each_kind s e

  -- where devices come, the first field is no block
  no_block_first : {p : ℕ} {h : List ℕ} {ks fs rest : Fields} → NamesOf P (more (field p 0x20 h ks) fs) rest → ⊥
  unfolding tag_of
  no_block_first (default_name t p) = false_not_true t
  no_block_first (device_names t p s) = false_not_true t

-- ---- Expressions

abbrev default_field : Field
default_field = field 0 0x1b [] fields_end

abbrev arm_field : (pattern value : Field) → Field
arm_field f g = field 0 0x1a [] (more f (more g fields_end))

-- the expression of an arm
arm_value : (d : ℕ) (f g : Field) → Listed d (arm_field f g) → Fine (lower d) ExpressionKind g
unfolding tag_of head_of inner form_of form_in forms
arm_value d f g x = let parts = (opened d (arm_field f g) x).fields in second_kind parts.in_first parts.in_second

mutual
  unfolding expression_field tag_of head_of inner allowed form_of form_in forms

  expression_whole : (e : Expression) (d : ℕ) → Fine d ExpressionKind (expression_field e) → Whole e
  expression_whole (constant c) d x = tt
  expression_whole (variable p n) d x = tt
  expression_whole (top_variable p n) d x = tt
  expression_whole (class_variable p c n) d x = tt
  expression_whole (operation p o a b) d x =
      let parts = (opened d (expression_field (operation p o a b)) x.1).fields in
      (expression_whole a (lower d) (first_kind parts.in_first), expression_whole b (lower d) (second_kind parts.in_first parts.in_second))
  expression_whole (negation p a) d x = expression_whole a (lower d) (first_kind (opened d (expression_field (negation p a)) x.1).fields.in_first)
  expression_whole (attribute_read p t n a) d x = expression_whole a (lower d) (first_kind (opened d (expression_field (attribute_read p t n a)) x.1).fields.in_first)
  expression_whole (selector p a s) d x =
      let parts = (opened d (expression_field (selector p a s)) x.1).fields in
      let arms = all_others (each_within d (expression_field (selector p a s)) x.1) in
      (expression_whole a (lower d) (first_kind parts.in_first), some_arm s (some_behind parts.in_first parts.in_second), arms_whole s (lower d) arms)
  expression_whole (Expression.unreadable p) d x = false_not_true x.0

  some_arm : (s : Arms) → SomeField (arm_fields s) → SomeArm s
  some_arm no_arm x = x
  some_arm (arm c a s) x = tt
  some_arm (default_arm a s) x = tt

  arms_whole : (s : Arms) (d : ℕ) → All (Listed d) (arm_fields s) → WholeArms s
  arms_whole no_arm d x = tt
  arms_whole (arm c a s) d x = (expression_whole a (lower d) (arm_value d (constant_field c) (expression_field a) (all_first x)), arms_whole s d (all_others x))
  arms_whole (default_arm a s) d x = (expression_whole a (lower d) (arm_value d default_field (expression_field a) (all_first x)), arms_whole s d (all_others x))

-- ---- Attributes

attributes_whole : (fs : List AttributeField) (d : ℕ) → All (Listed d) (attribute_fields fs) → EachOf WholeAttribute fs
unfolding attribute_fields tag_of head_of inner form_of form_in forms
attributes_whole [] d x = tt
attributes_whole (f ∷ fs) d x =
    let k : Field = field 0 0x26 (high_bytes 2 f.name) (more (expression_field f.expression) fields_end) in
    (expression_whole f.expression (lower d) (first_kind (opened d k (all_first x)).fields.in_first), attributes_whole fs d (all_others x))

-- ---- Statements and blocks

abbrev block_field : Block → Field
block_field b = field 0 0x20 [] (block_fields b)

-- the statements of a block
statements_in : (d : ℕ) (b : Block) → Listed d (block_field b) → All (Fine (lower d) StatementKind) (block_fields b)
unfolding tag_of head_of inner form_of form_in forms
statements_in d b x = let parts = (opened d (block_field b) x).fields in each_kind parts.in_first (both_ended parts.in_second parts.in_third)

-- the statements of a branch
branch_statements : (d : ℕ) (f : Field) (b : Block) → Listed d (field 0 0x24 [] (more f (more (block_field b) fields_end))) → All (Fine (lower (lower d)) StatementKind) (block_fields b)
unfolding inner
branch_statements d f b x = statements_in (lower d) b (all_first (all_others (each_within d (field 0 0x24 [] (more f (more (block_field b) fields_end))) x)))

module _ (types : Types) (S : ℕ → List ℕ) where
  mutual
    unfolding statement_field tag_of head_of inner allowed form_of form_in forms

    statement_whole : (s : Statement) (d : ℕ) → Fine d StatementKind (statement_field s) → TypesRightStatement types S s → WholeStatement types S s
    statement_whole (assignment p n a) d x r = expression_whole a (lower d) (first_kind (opened d (statement_field (assignment p n a)) x.1).fields.in_first)
    statement_whole (conditional p a y n) d x r =
        let k : Field = statement_field (conditional p a y n) in
        let blocks = all_others (each_within d k x.1) in (
          expression_whole a (lower d) (first_kind (opened d k x.1).fields.in_first),
          block_whole y (lower (lower d)) (statements_in (lower d) y (all_first blocks)) r.0,
          block_whole n (lower (lower d)) (statements_in (lower d) n (all_first (all_others blocks))) r.1,
        )
    statement_whole (choice p a bs) d x r =
        let k : Field = statement_field (choice p a bs) in
        (expression_whole a (lower d) (first_kind (opened d k x.1).fields.in_first), branches_whole bs (lower d) (all_others (each_within d k x.1)) r)
    statement_whole (built_in_resource p t a fs) d x r =
        let k : Field = statement_field (built_in_resource p t a fs) in
        (r, expression_whole a (lower d) (first_kind (opened d k x.1).fields.in_first), attributes_whole fs (lower d) (all_others (each_within d k x.1)))
    statement_whole (defined_resource p t a fs) d x r =
        let k : Field = statement_field (defined_resource p t a fs) in
        (r, expression_whole a (lower d) (first_kind (opened d k x.1).fields.in_first), attributes_whole fs (lower d) (all_others (each_within d k x.1)))
    statement_whole (class_with_attributes p c fs) d x r = attributes_whole fs (lower d) (each_within d (statement_field (class_with_attributes p c fs)) x.1)
    statement_whole (include p c) d x r = tt
    statement_whole (Statement.unreadable p) d x r = false_not_true x.0

    block_whole : (b : Block) (d : ℕ) → All (Fine d StatementKind) (block_fields b) → TypesRightBlock types S b → WholeBlock types S b
    block_whole end d x r = tt
    block_whole (next s b) d x r = (statement_whole s d (all_first x) r.0, block_whole b d (all_others x) r.1)

    branches_whole : (bs : Branches) (d : ℕ) → All (Listed d) (branch_fields bs) → TypesRightBranches types S bs → WholeBranches types S bs
    branches_whole no_branch d x r = tt
    branches_whole (branch c b bs) d x r = (block_whole b (lower (lower d)) (branch_statements d (constant_field c) b (all_first x)) r.0, branches_whole bs d (all_others x) r.1)
    branches_whole (default_branch b bs) d x r = (block_whole b (lower (lower d)) (branch_statements d default_field b (all_first x)) r.0, branches_whole bs d (all_others x) r.1)

-- ---- Items

module _ {P : Field → Type 0} where
  -- the fields behind parameters, a parent, devices
  behind_parameters : (qs : List Parameter) (ks : Fields) → All P (parameter_fields qs ks) → All P ks
  unfolding parameter_fields
  behind_parameters [] ks x = x
  behind_parameters (q ∷ qs) ks x = behind_parameters qs ks (all_others x)

  behind_parent : (q : Option Parent) (ks : Fields) → All P (parent_fields q ks) → All P ks
  unfolding parent_fields
  behind_parent none ks x = x
  behind_parent (some q) ks x = all_others x

  behind_names : (ns : List ℕ) (ks : Fields) → All P (device_fields ns ks) → All P ks
  unfolding device_fields
  behind_names [] ks x = x
  behind_names (n ∷ ns) ks x = behind_names ns ks (all_others x)

  behind_devices : (ds : Devices) (ks : Fields) → All P (devices_fields ds ks) → All P ks
  unfolding devices_fields
  behind_devices (named ns) ks x = behind_names ns ks x
  behind_devices by_default ks x = all_others x

  -- a node has a device, or is the default one
  some_device : (ds : Devices) (b : Block) {rest : Fields} → NamesOf P (devices_fields ds (more (block_field b) fields_end)) rest → SomeDevice ds
  unfolding devices_fields device_fields
  some_device (named []) b x = no_block_first x
  some_device (named (n ∷ ns)) b x = tt
  some_device by_default b x = tt

-- a statement that may stand among items may stand in a block
statement_kind : (s : Statement) → allowed ItemKind (tag_of (statement_field s)) ≡ true → allowed StatementKind (tag_of (statement_field s)) ≡ true
unfolding statement_field tag_of allowed
statement_kind (assignment p n a) e = refl
statement_kind (conditional p a y n) e = refl
statement_kind (choice p a bs) e = refl
statement_kind (built_in_resource p t a fs) e = refl
statement_kind (defined_resource p t a fs) e = refl
statement_kind (class_with_attributes p c fs) e = refl
statement_kind (include p c) e = refl
statement_kind (Statement.unreadable p) e = e

module _ (types : Types) (S : ℕ → List ℕ) where
  -- a block that is the last part of a field
  body_whole : (d : ℕ) (b : Block) → All (Listed d) (more (block_field b) fields_end) → TypesRightBlock types S b → WholeBlock types S b
  body_whole d b x r = block_whole types S b (lower d) (statements_in d b (all_first x)) r

  item_whole : (i : Item) (d : ℕ) → Fine d ItemKind (item_field i) → TypesRightItem types S i → WholeItem types S i
  unfolding item_field definition_field tag_of head_of inner form_of form_in forms
  item_whole (statement s) d x r = statement_whole types S s d (statement_kind s x.0, x.1) r
  item_whole (Item.node ds b) d x r =
      let k : Field = item_field (Item.node ds b) in
      (some_device ds b (opened d k x.1).fields.in_first, body_whole (lower d) b (behind_devices ds (more (block_field b) fields_end) (each_within d k x.1)) r)
  item_whole (definition (type_definition c)) d x r = body_whole (lower d) c.body (behind_parameters c.parameters (more (block_field c.body) fields_end) (each_within d (item_field (definition (type_definition c))) x.1)) r
  item_whole (definition (class_definition c)) d x r =
      let last : Fields = more (block_field c.body) fields_end in
      body_whole (lower d) c.body (behind_parameters c.parameters last (behind_parent c.parent (parameter_fields c.parameters last) (each_within d (item_field (definition (class_definition c))) x.1))) r

  items_whole : (is : List Item) (d : ℕ) → All (Fine d ItemKind) (item_fields is) → TypesRight types S is → EachOf (WholeItem types S) is
  unfolding item_fields
  items_whole [] d x r = tt
  items_whole (i ∷ is) d x r = (item_whole i d (all_first x) r.0, items_whole is d (all_others x) r.1)

-- ---- The manifest

-- the items of a sound manifest, whose resources' types are of the right sort, are whole
pub manifest_whole : (types : Types) (m : List ℕ) → IsBytes m → check m ≡ no_fault → (S : ℕ → List ℕ) → TypesRight types S (manifest_of m).items → EachOf (WholeItem types S) (manifest_of m).items
unfolding fields_of others
manifest_whole types m bytes w S r =
    let parts = parts_unplaced (Listed 32) (Listed 32) (λ f a. listed_unplaced 32 f a) (three (One Table) (Many ItemKind) Over) (all_listed m bytes w) in
    let fine = kinds_behind parts.in_first parts.in_second parts.in_third in
    items_whole types S (manifest_of m).items 32 (subst (λ (ks : Fields). All (Fine 32 ItemKind) (others ks)) (sym (typed_back m bytes w)) fine) r
