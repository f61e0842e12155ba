-- The typed tree of a sound manifest has lost nothing: written as fields again it is the tree of fields read, but for the places, and as bytes it is
-- the manifest.
use Prim.Native.Nat.{ℕ, zero, suc, ◌+◌, ◌<◌, ◌≤◌}
use mathlib.Core.Path.{◌≡◌, refl, sym, ap, ap₂, ◌∙◌, subst}
use mathlib.Core.Logic.{◌⊎◌, inl, inr}
use mathlib.Core.Bool.{Bool, true, false, ◌&&◌, ◌||◌}
use mathlib.Core.List.{List, [], ◌∷◌, ◌++◌}
use mathlib.Core.Option.{Option, none, some}
use native.Mathlib.Omega.{arith}
use lib.Dec.{eqb, leb}
use lib.ListN.{length, drop}
use borrow.Author.Tests.{leb-true, eqb-true, eqb-false}
use Rattle.values.specs.declared.Value.{Value}
use Rattle.values.specs.declared.Value.TheVariants.{Integer, String, Boolean}
use Rattle.rules.specs.Bytes.{byte, two}
use Rattle.rules.specs.Format.{allowed, forms, form_in, form_of, size, head_size, three, piece_right}
use Rattle.rules.specs.Check.{check}
use Rattle.rules.specs.Fields.{Field, field, Fields, none as fields_end, more, read_all, wrap, write, write_all, head_of, tag_of, inner, first, others}
use Rattle.rules.specs.Tree.{Constant, Operator, plus, minus, divide, greater, equal, and, or, Expression, constant, variable, top_variable, class_variable, operation, negation, attribute_read, selector, Arms, no_arm, arm, default_arm, AttributeField, Statement, assignment, conditional, choice, built_in_resource, defined_resource, class_with_attributes, include, Block, end, next, Branches, no_branch, branch, default_branch, Parameter, Parent, Definition, type_definition, class_definition, Devices, named, by_default, Item, statement, node, definition, Manifest}
use Rattle.rules.specs.Tree
use Rattle.rules.specs.Read.{entry_for, number, signed64, value_from, constant_from, operators, operator_from, is_default, no_expression, expression_tags, arm_from, arms_from, expression_by, expression_in, expression_from, attribute_from, attributes_from, no_statement, statement_tags, branch_from, branches_from, statement_by, statement_in, statements_from, block_in, block_from, default_from, parameter_from, parameters_from, last_of, last_block, parent_from, after_parent, names_from, devices_from, a_statement, item_tags, item_by, item_from, items_from, strings_from, manifest_from, manifest_of}
use Rattle.rules.specs.Catalog.{high_bytes, word64, boolean_byte}
use Rattle.rules.specs.EditRule.{IsBytes}
use Rattle.rules.specs.declared.Kind.{Kind}
use Rattle.rules.specs.declared.Kind.TheVariants.{Table, Text, Constant as ConstantKind, Expression as ExpressionKind, Pattern, Arm, Statement as StatementKind, Block as BlockKind, Branch, Attribute, Parameter as ParameterKind, Parent as ParentKind, Item as ItemKind, Device}
use Rattle.rules.specs.declared.Part.TheVariants.{Over, One, Many}
use Rattle.rules.proofs.Listed.{Same, same, OneOf, one, ManyOf, none_of_many, one_of_many, AtMost, no_further, further, NamesOf, default_name, device_names, PartsAre, AsListed, Listed, both_left, both_right, all_listed}
use Rattle.rules.proofs.HighBytes.{eight_back, name_back, names_back, label_name_back}
use Rattle.rules.proofs.WriteBack.{written_back}
use Rattle.rules.proofs.Lists.{when_true, when_false}
use Rattle.rules.specs.Verdicts.{no_fault}

-- ---- From the typed tree to fields. All places are 0, since the tree does not keep every one

abbrev bare : ℕ → List ℕ → Fields → Field
bare t h ks = field 0 t h ks

abbrev name_bytes : ℕ → List ℕ
name_bytes n = high_bytes 2 n

abbrev single : Field → Fields
single k = more k fields_end

unfoldable pub value_field : (label : ℕ) → Value → Field
value_field l (Integer z) = bare 0x10 (l ∷ high_bytes 8 (word64 z)) fields_end
value_field l (String n) = bare 0x11 (l ∷ name_bytes n) fields_end
value_field l (Boolean b) = bare 0x12 (l ∷ boolean_byte b ∷ []) fields_end

unfoldable pub constant_field : Constant → Field
constant_field c = value_field c.label c.value

unfoldable pub operator_byte : Operator → ℕ
operator_byte plus = 0
operator_byte minus = 1
operator_byte divide = 2
operator_byte greater = 3
operator_byte equal = 4
operator_byte and = 5
operator_byte or = 6

abbrev default_field : Field
default_field = bare 0x1b [] fields_end

unfoldable mutual
  pub expression_field : Expression → Field
  expression_field (constant c) = constant_field c
  expression_field (variable p n) = bare 0x13 (name_bytes n) fields_end
  expression_field (top_variable p n) = bare 0x14 (name_bytes n) fields_end
  expression_field (class_variable p c n) = bare 0x15 (name_bytes c ++ name_bytes n) fields_end
  expression_field (operation p o a b) = bare 0x16 (operator_byte o ∷ []) (more (expression_field a) (single (expression_field b)))
  expression_field (negation p a) = bare 0x17 [] (single (expression_field a))
  expression_field (attribute_read p t n a) = bare 0x18 (name_bytes t ++ name_bytes n) (single (expression_field a))
  expression_field (selector p a s) = bare 0x19 [] (more (expression_field a) (arm_fields s))
  expression_field (Expression.unreadable p) = bare 0 [] fields_end

  pub arm_fields : Arms → Fields
  arm_fields no_arm = fields_end
  arm_fields (arm c a s) = more (bare 0x1a [] (more (constant_field c) (single (expression_field a)))) (arm_fields s)
  arm_fields (default_arm a s) = more (bare 0x1a [] (more default_field (single (expression_field a)))) (arm_fields s)

unfoldable pub attribute_fields : List AttributeField → Fields
attribute_fields [] = fields_end
attribute_fields (a ∷ others-after) = more (bare 0x26 (name_bytes a.name) (single (expression_field a.expression))) (attribute_fields others-after)

unfoldable mutual
  pub statement_field : Statement → Field
  statement_field (assignment p n a) = bare 0x21 (name_bytes n) (single (expression_field a))
  statement_field (conditional p a b c) = bare 0x22 [] (more (expression_field a) (more (bare 0x20 [] (block_fields b)) (single (bare 0x20 [] (block_fields c)))))
  statement_field (choice p a bs) = bare 0x23 [] (more (expression_field a) (branch_fields bs))
  statement_field (built_in_resource p t a fs) = bare 0x25 (name_bytes t) (more (expression_field a) (attribute_fields fs))
  statement_field (defined_resource p t a fs) = bare 0x27 (name_bytes t) (more (expression_field a) (attribute_fields fs))
  statement_field (class_with_attributes p c fs) = bare 0x28 (name_bytes c) (attribute_fields fs)
  statement_field (include p c) = bare 0x29 (name_bytes c) fields_end
  statement_field (Statement.unreadable p) = bare 0 [] fields_end

  pub block_fields : Block → Fields
  block_fields end = fields_end
  block_fields (next s b) = more (statement_field s) (block_fields b)

  pub branch_fields : Branches → Fields
  branch_fields no_branch = fields_end
  branch_fields (branch c b bs) = more (bare 0x24 [] (more (constant_field c) (single (bare 0x20 [] (block_fields b))))) (branch_fields bs)
  branch_fields (default_branch b bs) = more (bare 0x24 [] (more default_field (single (bare 0x20 [] (block_fields b))))) (branch_fields bs)

abbrev block_field : Block → Field
block_field b = bare 0x20 [] (block_fields b)

unfoldable pub default_fields : Option Constant → Fields
default_fields none = fields_end
default_fields (some c) = single (constant_field c)

-- parameters, and the fields after them
unfoldable pub parameter_fields : List Parameter → Fields → Fields
parameter_fields [] ks = ks
parameter_fields (q ∷ qs) ks = more (bare 0x33 (name_bytes q.name) (default_fields q.default)) (parameter_fields qs ks)

unfoldable pub parent_fields : Option Parent → Fields → Fields
parent_fields none ks = ks
parent_fields (some q) ks = more (bare 0x35 (name_bytes q.name) fields_end) ks

unfoldable pub device_fields : List ℕ → Fields → Fields
device_fields [] ks = ks
device_fields (n ∷ ns) ks = more (bare 0x31 (name_bytes n) fields_end) (device_fields ns ks)

unfoldable pub devices_fields : Devices → Fields → Fields
devices_fields (named ns) ks = device_fields ns ks
devices_fields by_default ks = more default_field ks

unfoldable pub definition_field : Definition → Field
definition_field (type_definition d) = bare 0x32 (name_bytes d.name) (parameter_fields d.parameters (single (block_field d.body)))
definition_field (class_definition d) = bare 0x34 (name_bytes d.name) (parent_fields d.parent (parameter_fields d.parameters (single (block_field d.body))))

unfoldable pub item_field : Item → Field
item_field (statement s) = statement_field s
item_field (node ds b) = bare 0x30 [] (devices_fields ds (single (block_field b)))
item_field (definition d) = definition_field d

unfoldable pub item_fields : List Item → Fields
item_fields [] = fields_end
item_fields (i ∷ is) = more (item_field i) (item_fields is)

unfoldable pub string_fields : List (List ℕ) → Fields
string_fields [] = fields_end
string_fields (s ∷ ss) = more (bare 0x02 s fields_end) (string_fields ss)

unfoldable pub fields_of : Manifest → Fields
fields_of m = more (bare 0x01 [] (string_fields m.strings)) (item_fields m.items)

-- ---- Fields without their places

unfoldable mutual
  pub unplaced : Field → Field
  unplaced (field p t h ks) = field 0 t h (unplaced_all ks)

  pub unplaced_all : Fields → Fields
  unplaced_all fields_end = fields_end
  unplaced_all (more k ks) = more (unplaced k) (unplaced_all ks)

-- places are not written
mutual
  unfolding unplaced write

  write_unplaced : (k : Field) → write (unplaced k) ≡ write k
  write_unplaced (field p t h ks) = ap (λ (b : List ℕ). wrap t (h ++ b)) (write_unplaced_all ks)

  write_unplaced_all : (ks : Fields) → write_all (unplaced_all ks) ≡ write_all ks
  write_unplaced_all fields_end = refl
  write_unplaced_all (more k ks) = ap₂ ◌++◌ (write_unplaced k) (write_unplaced_all ks)

-- ---- Tags

-- a tag is one of these
data In : List ℕ → ℕ → Type 0 where
  here : {t : ℕ} {ts : List ℕ} → In (t ∷ ts) t
  there : {t u : ℕ} {ts : List ℕ} → In ts t → In (u ∷ ts) t

-- n numbers from a on
abbrev from : ℕ → ℕ → List ℕ
from a zero = []
from a (suc n) = a ∷ from (suc a) n

in_range_lem : (n a t : ℕ) → a ≤ t → t < a + n → In (from a n) t
in_range_lem zero a t l h = absurd (omega arith)
in_range_lem (suc n) a t l h = go (λ x y. in_range_lem n (suc a) t x y) (eqb t a) refl
  where
    go : (suc a ≤ t → t < suc a + n → In (from (suc a) n) t) → (b : Bool) → eqb t a ≡ b → In (a ∷ from (suc a) n) t
    go later true e = subst (λ (u : ℕ). In (a ∷ from (suc a) n) u) (sym (eqb-true t a e)) here
    go later false e = let other = eqb-false t a e in there (later (omega arith) (omega arith))

is_tag : (t u : ℕ) → eqb t u ≡ true → In (u ∷ []) t
is_tag t u e = subst (λ (x : ℕ). In (u ∷ []) x) (sym (eqb-true t u e)) here

either : (a b : Bool) → (a || b) ≡ true → (a ≡ true) ⊎ (b ≡ true)
either true b e = inl refl
either false b e = inr e

within_range : (n a b t : ℕ) → b < a + n → (leb a t && leb t b) ≡ true → In (from a n) t
within_range n a b t h e =
    let low = leb-true a t (both_left (leb a t) (leb t b) e) in
    let high = leb-true t b (both_right (leb a t) (leb t b) e) in
    in_range_lem n a t low (omega arith)

constant_tag_lem : (t : ℕ) → allowed ConstantKind t ≡ true → In (from 0x10 3) t
unfolding allowed
constant_tag_lem t e = within_range 3 0x10 0x12 t (omega arith) e

expression_tag : (t : ℕ) → allowed ExpressionKind t ≡ true → In (from 0x10 10) t
unfolding allowed
expression_tag t e = within_range 10 0x10 0x19 t (omega arith) e

in_left : {ts : List ℕ} {t : ℕ} (us : List ℕ) → In ts t → In (ts ++ us) t
in_left us here = here
in_left us (there i) = there (in_left us i)

in_right : (ts : List ℕ) {us : List ℕ} {t : ℕ} → In us t → In (ts ++ us) t
in_right [] i = i
in_right (u ∷ ts) i = there (in_right ts i)

abbrev statement_tag_list : List ℕ
statement_tag_list = 0x21 ∷ 0x22 ∷ 0x23 ∷ 0x25 ∷ 0x27 ∷ 0x28 ∷ 0x29 ∷ []

statement_tag_lem : (t : ℕ) → allowed StatementKind t ≡ true → In statement_tag_list t
unfolding allowed
statement_tag_lem t e = go (either (leb 0x21 t && leb t 0x23) (eqb t 0x25 || (leb 0x27 t && leb t 0x29)) e)
  where
    later : (eqb t 0x25 ≡ true) ⊎ ((leb 0x27 t && leb t 0x29) ≡ true) → In ((0x25 ∷ []) ++ from 0x27 3) t
    later (inl x) = in_left (from 0x27 3) (is_tag t 0x25 x)
    later (inr x) = in_right (0x25 ∷ []) (within_range 3 0x27 0x29 t (omega arith) x)

    go : ((leb 0x21 t && leb t 0x23) ≡ true) ⊎ ((eqb t 0x25 || (leb 0x27 t && leb t 0x29)) ≡ true) → In statement_tag_list t
    go (inl x) = in_left (0x25 ∷ from 0x27 3) (within_range 3 0x21 0x23 t (omega arith) x)
    go (inr x) = in_right (from 0x21 3) (later (either (eqb t 0x25) (leb 0x27 t && leb t 0x29) x))

-- ---- What parts take, written

-- nothing
none_written : {ks rest : Fields} (F : Fields → Fields) → F fields_end ≡ fields_end → Same ks rest → Same rest fields_end → F ks ≡ unplaced_all ks
unfolding unplaced
none_written F h same same = h

ended : {ks : Fields} → Same ks fields_end → fields_end ≡ unplaced_all ks
ended s = none_written (λ r. fields_end) refl s same

ended_twice : {ks rest : Fields} → Same ks rest → Same rest fields_end → fields_end ≡ unplaced_all ks
ended_twice s t = none_written (λ r. fields_end) refl s t

-- one field, written as x, and those after it, written by F
one_as : {P : Field → Type 0} {k : Kind} {ks rest : Fields} (x : Field) (F : Fields → Fields) → (P (first ks) → allowed k (tag_of (first ks)) ≡ true → x ≡ unplaced (first ks)) → OneOf P k ks rest → F rest ≡ unplaced_all rest → more x (F (others ks)) ≡ unplaced_all ks
unfolding first others unplaced
one_as x F e (one t p) h = ap₂ more (e p t) h

-- the same where E writes each such field
one_written : {P : Field → Type 0} {k : Kind} {ks rest : Fields} (E : Field → Field) (F : Fields → Fields) → ((f : Field) → P f → allowed k (tag_of f) ≡ true → E f ≡ unplaced f) → OneOf P k ks rest → F rest ≡ unplaced_all rest → more (E (first ks)) (F (others ks)) ≡ unplaced_all ks
one_written {ks = ks} E F e o h = one_as (E (first ks)) F (e (first ks)) o h

-- any number of fields, and then those after them
many_written : {P : Field → Type 0} {k : Kind} {ks rest : Fields} (F : Fields → Fields) → ((f : Field) (fs : Fields) → P f → allowed k (tag_of f) ≡ true → F fs ≡ unplaced_all fs → F (more f fs) ≡ more (unplaced f) (unplaced_all fs)) → ManyOf P k ks rest → F rest ≡ unplaced_all rest → F ks ≡ unplaced_all ks
unfolding unplaced
many_written F e none_of_many h = h
many_written F e (one_of_many {f = f} {fs = fs} t p i) h = e f fs p t (many_written F e i h)

one_more : {P : Field → Type 0} {k : Kind} {ks js rest : Fields} → OneOf P k ks js → ManyOf P k js rest → ManyOf P k ks rest
one_more (one t p) i = one_of_many t p i

-- a field by its head and its fields
bare_same : (t : ℕ) {h g : List ℕ} {ks js : Fields} → h ≡ g → ks ≡ js → bare t h ks ≡ bare t g js
bare_same t a b = ap₂ (λ (h : List ℕ) (ks : Fields). bare t h ks) a b

empty_head : (h : List ℕ) → length h ≡ 0 → [] ≡ h
empty_head [] e = refl
empty_head (x ∷ h) e = absurd (omega arith)

-- ---- Constants

label_boolean : (h : List ℕ) → length h ≡ 2 → leb (byte h 1) 1 ≡ true → byte h 0 ∷ boolean_byte (eqb (byte h 1) 1) ∷ [] ≡ h
unfolding boolean_byte
label_boolean [] n r = absurd (omega arith)
label_boolean (x ∷ []) n r = absurd (omega arith)
label_boolean (x ∷ y ∷ []) n r = go (eqb y 1) refl
  where
    go : (b : Bool) → eqb y 1 ≡ b → x ∷ boolean_byte b ∷ [] ≡ x ∷ y ∷ []
    go true e = ap (λ (z : ℕ). x ∷ z ∷ []) (sym (eqb-true y 1 e))
    go false e =
        let small = leb-true y 1 r in
        let other = eqb-false y 1 e in
        let z : 0 ≡ y = omega arith in
        ap (λ (u : ℕ). x ∷ u ∷ []) z
label_boolean (x ∷ y ∷ z ∷ h) n r = absurd (omega arith)

label_integer : (h : List ℕ) → length h ≡ 9 → IsBytes h → byte h 0 ∷ high_bytes 8 (word64 (signed64 (number (drop 1 h) 0))) ≡ h
label_integer [] n b = absurd (omega arith)
label_integer (x ∷ h) n b = ap (λ (bs : List ℕ). x ∷ bs) (eight_back h (omega arith) (record { below = λ i. b.below (suc i) }))

constant_by : (d t : ℕ) → In (from 0x10 3) t → (p : ℕ) (h : List ℕ) (ks : Fields) → AsListed (Listed d) (form_of t) h ks → constant_field (constant_from (field p t h ks)) ≡ field 0 t h (unplaced_all ks)
unfolding form_of form_in forms head_size size piece_right constant_field value_field constant_from value_from
constant_by d t here p h ks a = bare_same 0x10 (label_integer h a.head.count a.head.bytes) (ended a.fields)
constant_by d t (there here) p h ks a = bare_same 0x11 (label_name_back h a.head.count a.head.bytes) (ended a.fields)
constant_by d t (there (there here)) p h ks a = bare_same 0x12 (label_boolean h a.head.count a.head.second) (ended a.fields)
constant_by d t (there (there (there x13))) p h ks a = elim x13 [ ]

constant_back : (d : ℕ) (k : Field) → Listed d k → allowed ConstantKind (tag_of k) ≡ true → constant_field (constant_from k) ≡ unplaced k
unfolding unplaced tag_of
constant_back zero k a e = absurd a
constant_back (suc d) (field p t h ks) a e = constant_by d t (constant_tag_lem t e) p h ks a

-- ---- Patterns: a default or a constant

-- a field with a known tag is as the line of that tag says
listed_as : (u d : ℕ) (t : ℕ) {h : List ℕ} {ks : Fields} → eqb t u ≡ true → AsListed (Listed d) (form_of t) h ks → AsListed (Listed d) (form_of u) h ks
listed_as u d t {h} {ks} e a = subst (λ (x : ℕ). AsListed (Listed d) (form_of x) h ks) (eqb-true t u e) a

-- and is written with that tag
tagged : (u t : ℕ) {x : Field} {h : List ℕ} {ks : Fields} → eqb t u ≡ true → x ≡ field 0 u h ks → x ≡ field 0 t h ks
tagged u t e s = rw (eqb-true t u e) s

abbrev pattern_field : Bool → Field → Field
pattern_field true f = default_field
pattern_field false f = constant_field (constant_from f)

default_back : (d : ℕ) (f : Field) → Listed d f → is_default f ≡ true → default_field ≡ unplaced f
unfolding unplaced tag_of is_default form_of form_in forms head_size size
default_back zero f a e = absurd a
default_back (suc d) (field p t h ks) a e =
    let s = listed_as 0x1b d t e a in
    tagged 0x1b t e (bare_same 0x1b (empty_head h s.head.count) (ended s.fields))

pattern_back : (d : ℕ) (f : Field) (b : Bool) → is_default f ≡ b → Listed d f → allowed Pattern (tag_of f) ≡ true → pattern_field b f ≡ unplaced f
unfolding allowed is_default
pattern_back d f true e a t = default_back d f a e
pattern_back d f false e a t = constant_back d f a (rw e at t)

-- a pattern and one field more, written by E
case_written : {k : Kind} (d : ℕ) (E : Field → Field) → ((f : Field) → Listed d f → allowed k (tag_of f) ≡ true → E f ≡ unplaced f) → (ks : Fields) → PartsAre (Listed d) (three (One Pattern) (One k) Over) ks → (b : Bool) → is_default (first ks) ≡ b → more (pattern_field b (first ks)) (single (E (first (others ks)))) ≡ unplaced_all ks
case_written d E e ks s b h = one_as (pattern_field b (first ks)) (λ r. single (E (first r))) (pattern_back d (first ks) b h) s.in_first (one_written E (λ r. fields_end) e s.in_second (ended s.in_third))

-- ---- Expressions

operator_head : (h : List ℕ) → length h ≡ 1 → leb (byte h 0) 6 ≡ true → operator_byte (operator_from (byte h 0)) ∷ [] ≡ h
unfolding operator_byte operator_from operators entry_for
operator_head [] n r = absurd (omega arith)
operator_head (x ∷ []) n r = let small = leb-true x 6 r in ap (λ (y : ℕ). y ∷ []) (by_number x (in_range_lem 7 0 x (omega arith) (omega arith)))
  where
    by_number : (x : ℕ) → In (from 0 7) x → operator_byte (operator_from x) ≡ x
    by_number x here = refl
    by_number x (there here) = refl
    by_number x (there (there here)) = refl
    by_number x (there (there (there here))) = refl
    by_number x (there (there (there (there here)))) = refl
    by_number x (there (there (there (there (there here))))) = refl
    by_number x (there (there (there (there (there (there here)))))) = refl
    by_number x (there (there (there (there (there (there (there x33))))))) = elim x33 [ ]
operator_head (x ∷ y ∷ h) n r = absurd (omega arith)

-- an expression of at most d levels, read with n levels and written, is its field
abbrev ExpressionBack : ℕ → Type 0
ExpressionBack n = (d : ℕ) → d ≤ n → (k : Field) → Listed d k → allowed ExpressionKind (tag_of k) ≡ true → expression_field (expression_in n k) ≡ unplaced k

module _ (n : ℕ) (back : ExpressionBack n) where
  abbrev as_expression : Field → Field
  as_expression k = expression_field (expression_in n k)

  arms_written : Fields → Fields
  arms_written ks = arm_fields (arms_from (expression_in n) ks)

  no_arms : arms_written fields_end ≡ unplaced_all fields_end
  unfolding arms_written arms_from expression_field unplaced
  no_arms = refl

  arm_by : (b : Bool) (ks : Fields) (rest : Arms) → arm_fields (arm_from (expression_in n) b ks rest) ≡ more (bare 0x1a [] (more (pattern_field b (first ks)) (single (as_expression (first (others ks)))))) (arm_fields rest)
  unfolding arm_from expression_field
  arm_by true ks rest = refl
  arm_by false ks rest = refl

  arm_back : (d : ℕ) → d ≤ n → (k : Field) (fs : Fields) → Listed d k → allowed Arm (tag_of k) ≡ true → arms_written fs ≡ unplaced_all fs → arms_written (more k fs) ≡ more (unplaced k) (unplaced_all fs)
  unfolding arms_written arms_from inner allowed tag_of unplaced form_of form_in forms head_size size
  arm_back zero l k fs a t h = absurd a
  arm_back (suc d) l (field p t g js) fs a e h =
      let s = listed_as 0x1a d t e a in
      let fields = case_written d as_expression (back d (omega arith)) js s.fields (is_default (first js)) refl in
      arm_by (is_default (first js)) js (arms_from (expression_in n) fs) ∙ ap₂ more (tagged 0x1a t e (bare_same 0x1a (empty_head g s.head.count) fields)) h

  -- each tag of an expression
  expression_by_lem : (d : ℕ) → d ≤ n → (t : ℕ) → In (from 0x10 10) t → (p : ℕ) (h : List ℕ) (ks : Fields) → AsListed (Listed d) (form_of t) h ks → expression_field (expression_by (expression_in n) (field p t h ks) p h ks (entry_for expression_tags no_expression t)) ≡ field 0 t h (unplaced_all ks)
  unfolding form_of form_in forms head_size size piece_right expression_field expression_by entry_for expression_tags arms_written
  expression_by_lem d l t here p h ks a = constant_by d 0x10 here p h ks a
  expression_by_lem d l t (there here) p h ks a = constant_by d 0x11 (there here) p h ks a
  expression_by_lem d l t (there (there here)) p h ks a = constant_by d 0x12 (there (there here)) p h ks a
  expression_by_lem d l t (there (there (there here))) p h ks a = bare_same 0x13 (name_back h a.head.count a.head.bytes) (ended a.fields)
  expression_by_lem d l t (there (there (there (there here)))) p h ks a = bare_same 0x14 (name_back h a.head.count a.head.bytes) (ended a.fields)
  expression_by_lem d l t (there (there (there (there (there here))))) p h ks a = bare_same 0x15 (names_back h a.head.count a.head.bytes) (ended a.fields)
  expression_by_lem d l t (there (there (there (there (there (there here)))))) p h ks a =
      bare_same 0x16 (operator_head h a.head.count a.head.first) (one_written as_expression (λ r. single (as_expression (first r))) (back d l) a.fields.in_first (one_written as_expression (λ r. fields_end) (back d l) a.fields.in_second (ended a.fields.in_third)))
  expression_by_lem d l t (there (there (there (there (there (there (there here))))))) p h ks a =
      bare_same 0x17 (empty_head h a.head.count) (one_written as_expression (λ r. fields_end) (back d l) a.fields.in_first (ended_twice a.fields.in_second a.fields.in_third))
  expression_by_lem d l t (there (there (there (there (there (there (there (there here)))))))) p h ks a =
      bare_same 0x18 (names_back h a.head.count a.head.bytes) (one_written as_expression (λ r. fields_end) (back d l) a.fields.in_first (ended_twice a.fields.in_second a.fields.in_third))
  expression_by_lem d l t (there (there (there (there (there (there (there (there (there here))))))))) p h ks a =
      bare_same 0x19 (empty_head h a.head.count) (one_written as_expression arms_written (back d l) a.fields.in_first (many_written arms_written (arm_back d l) (one_more a.fields.in_second a.fields.in_third) no_arms))
  expression_by_lem d l t (there (there (there (there (there (there (there (there (there (there x41)))))))))) p h ks a = elim x41 [ ]

expression_back : (n d : ℕ) → d ≤ n → (k : Field) → Listed d k → allowed ExpressionKind (tag_of k) ≡ true → expression_field (expression_in n k) ≡ unplaced k
unfolding expression_in unplaced tag_of
expression_back zero zero l k a e = absurd a
expression_back zero (suc d) l k a e = absurd (omega arith)
expression_back (suc n) zero l k a e = absurd a
expression_back (suc n) (suc d) l (field p t h ks) a e = expression_by_lem n (λ d l k a e. expression_back n d l k a e) d (omega arith) t (expression_tag t e) p h ks a

expression_from_back : (d : ℕ) → d ≤ 32 → (k : Field) → Listed d k → allowed ExpressionKind (tag_of k) ≡ true → expression_field (expression_from k) ≡ unplaced k
unfolding expression_from
expression_from_back d l k a e = expression_back 32 d l k a e

-- ---- Attributes

attributes_written : Fields → Fields
attributes_written ks = attribute_fields (attributes_from ks)

no_attributes : attributes_written fields_end ≡ fields_end
unfolding attributes_written attributes_from attribute_fields
no_attributes = refl

attribute_back : (d : ℕ) → d ≤ 32 → (k : Field) (fs : Fields) → Listed d k → allowed Attribute (tag_of k) ≡ true → attributes_written fs ≡ unplaced_all fs → attributes_written (more k fs) ≡ more (unplaced k) (unplaced_all fs)
unfolding attributes_written attributes_from attribute_fields attribute_from allowed tag_of unplaced form_of form_in forms head_size size
attribute_back zero l k fs a t h = absurd a
attribute_back (suc d) l (field p t g js) fs a e h =
    let s = listed_as 0x26 d t e a in
    let fields = one_written (λ f. expression_field (expression_from f)) (λ r. fields_end) (expression_from_back d (omega arith)) s.fields.in_first (ended_twice s.fields.in_second s.fields.in_third) in
    let taken = when_true (eqb t 0x26) (attribute_from (field p t g js) ∷ attributes_from fs) (attributes_from fs) e in
    ap attribute_fields taken ∙ ap₂ more (tagged 0x26 t e (bare_same 0x26 (name_back g s.head.count s.head.bytes) fields)) h

-- ---- Statements and blocks

-- a block of at most d levels, read by g and written, is its field
abbrev BlockBack : ℕ → (Field → Block) → Type 0
BlockBack n g = (d : ℕ) → d ≤ n → (k : Field) → Listed d k → allowed BlockKind (tag_of k) ≡ true → block_field (g k) ≡ unplaced k

module _ (n : ℕ) (n≤32 : n ≤ 32) (g : Field → Block) (back : BlockBack n g) where
  abbrev as_block : Field → Field
  as_block k = block_field (g k)

  abbrev from_expression : Field → Field
  from_expression k = expression_field (expression_from k)

  branches_written : Fields → Fields
  branches_written ks = branch_fields (branches_from g ks)

  no_branches : branches_written fields_end ≡ fields_end
  unfolding branches_written branches_from statement_field
  no_branches = refl

  branch_by : (b : Bool) (ks : Fields) (rest : Branches) → branch_fields (branch_from g b ks rest) ≡ more (bare 0x24 [] (more (pattern_field b (first ks)) (single (as_block (first (others ks)))))) (branch_fields rest)
  unfolding branch_from statement_field
  branch_by true ks rest = refl
  branch_by false ks rest = refl

  branch_back : (d : ℕ) → d ≤ n → (k : Field) (fs : Fields) → Listed d k → allowed Branch (tag_of k) ≡ true → branches_written fs ≡ unplaced_all fs → branches_written (more k fs) ≡ more (unplaced k) (unplaced_all fs)
  unfolding branches_written branches_from inner allowed tag_of unplaced form_of form_in forms head_size size
  branch_back zero l k fs a t h = absurd a
  branch_back (suc d) l (field p t h ks) fs a e r =
      let s = listed_as 0x24 d t e a in
      let fields = case_written d as_block (back d (omega arith)) ks s.fields (is_default (first ks)) refl in
      branch_by (is_default (first ks)) ks (branches_from g fs) ∙ ap₂ more (tagged 0x24 t e (bare_same 0x24 (empty_head h s.head.count) fields)) r

  -- each tag of a statement
  statement_by_lem : (d : ℕ) → d ≤ n → (t : ℕ) → In statement_tag_list t → (p : ℕ) (h : List ℕ) (ks : Fields) → AsListed (Listed d) (form_of t) h ks → statement_field (statement_by g p h ks (entry_for statement_tags no_statement t)) ≡ field 0 t h (unplaced_all ks)
  unfolding form_of form_in forms head_size size statement_field statement_by entry_for statement_tags branches_written attributes_written
  statement_by_lem d l t here p h ks a =
      bare_same 0x21 (name_back h a.head.count a.head.bytes) (one_written from_expression (λ r. fields_end) (expression_from_back d (omega arith)) a.fields.in_first (ended_twice a.fields.in_second a.fields.in_third))
  statement_by_lem d l t (there here) p h ks a =
      let last = one_written as_block (λ r. fields_end) (back d l) a.fields.in_third (ended same) in
      let later = one_written as_block (λ r. single (as_block (first r))) (back d l) a.fields.in_second last in
      bare_same 0x22 (empty_head h a.head.count) (one_written from_expression (λ r. more (as_block (first r)) (single (as_block (first (others r))))) (expression_from_back d (omega arith)) a.fields.in_first later)
  statement_by_lem d l t (there (there here)) p h ks a =
      bare_same 0x23 (empty_head h a.head.count) (one_written from_expression branches_written (expression_from_back d (omega arith)) a.fields.in_first (many_written branches_written (branch_back d l) a.fields.in_second (none_written branches_written no_branches a.fields.in_third same)))
  statement_by_lem d l t (there (there (there here))) p h ks a =
      bare_same 0x25 (name_back h a.head.count a.head.bytes) (one_written from_expression attributes_written (expression_from_back d (omega arith)) a.fields.in_first (many_written attributes_written (attribute_back d (omega arith)) a.fields.in_second (none_written attributes_written no_attributes a.fields.in_third same)))
  statement_by_lem d l t (there (there (there (there here)))) p h ks a =
      bare_same 0x27 (name_back h a.head.count a.head.bytes) (one_written from_expression attributes_written (expression_from_back d (omega arith)) a.fields.in_first (many_written attributes_written (attribute_back d (omega arith)) a.fields.in_second (none_written attributes_written no_attributes a.fields.in_third same)))
  statement_by_lem d l t (there (there (there (there (there here))))) p h ks a =
      bare_same 0x28 (name_back h a.head.count a.head.bytes) (many_written attributes_written (attribute_back d (omega arith)) a.fields.in_first (none_written attributes_written no_attributes a.fields.in_second a.fields.in_third))
  statement_by_lem d l t (there (there (there (there (there (there here)))))) p h ks a = bare_same 0x29 (name_back h a.head.count a.head.bytes) (ended a.fields)
  statement_by_lem d l t (there (there (there (there (there (there (there x29))))))) p h ks a = elim x29 [ ]

  statement_back : (d : ℕ) → d ≤ suc n → (k : Field) → Listed d k → allowed StatementKind (tag_of k) ≡ true → statement_field (statement_in g k) ≡ unplaced k
  unfolding statement_in unplaced tag_of
  statement_back zero l k a e = absurd a
  statement_back (suc d) l (field p t h ks) a e = statement_by_lem d (omega arith) t (statement_tag_lem t e) p h ks a

  statements_written : Fields → Fields
  statements_written ks = block_fields (statements_from (statement_in g) ks)

  next_back : (d : ℕ) → d ≤ suc n → (k : Field) (fs : Fields) → Listed d k → allowed StatementKind (tag_of k) ≡ true → statements_written fs ≡ unplaced_all fs → statements_written (more k fs) ≡ more (unplaced k) (unplaced_all fs)
  unfolding statements_written statements_from statement_field
  next_back d l k fs a e r = ap₂ more (statement_back d l k a e) r

  block_by : (d : ℕ) → d ≤ n → (t : ℕ) → eqb t 0x20 ≡ true → (h : List ℕ) (ks : Fields) → AsListed (Listed d) (form_of t) h ks → bare 0x20 [] (statements_written ks) ≡ field 0 t h (unplaced_all ks)
  unfolding form_of form_in forms head_size size statements_written statements_from statement_field
  block_by d l t e h ks a =
      let s = listed_as 0x20 d t e a in
      tagged 0x20 t e (bare_same 0x20 (empty_head h s.head.count) (many_written statements_written (next_back d (omega arith)) s.fields.in_first (none_written statements_written refl s.fields.in_second s.fields.in_third)))

block_back : (n : ℕ) → n ≤ 32 → (d : ℕ) → d ≤ n → (k : Field) → Listed d k → allowed BlockKind (tag_of k) ≡ true → block_field (block_in n k) ≡ unplaced k
unfolding block_in unplaced tag_of allowed statements_written
block_back zero b zero l k a e = absurd a
block_back zero b (suc d) l k a e = absurd (omega arith)
block_back (suc n) b zero l k a e = absurd a
block_back (suc n) b (suc d) l (field p t h ks) a e = block_by n (omega arith) (block_in n) (λ d l k a e. block_back n (omega arith) d l k a e) d (omega arith) t e h ks a

block_from_back : BlockBack 32 block_from
unfolding block_from
block_from_back d l k a e = block_back 32 (omega arith) d l k a e

-- ---- Items

-- what is left after some fields
data Ends : Fields → Fields → Type 0 where
  whole : {ks : Fields} → Ends ks ks
  after : {k : Field} {ks rest : Fields} → Ends ks rest → Ends (more k ks) rest

many_ends : {P : Field → Type 0} {k : Kind} {ks js rest : Fields} → ManyOf P k ks js → Ends js rest → Ends ks rest
many_ends none_of_many i = i
many_ends (one_of_many t p s) i = after (many_ends s i)

-- the last field
last_is : (j b : Field) {ks rest : Fields} → Ends ks rest → rest ≡ single b → last_of j ks ≡ b
unfolding last_of
last_is j b whole e = rw e refl
last_is j b (after {k = k} i) e = last_is k b i e

-- the block that is the last part, as a field
block_last : (d : ℕ) → d ≤ 32 → {ks rest : Fields} → Ends ks rest → OneOf (Listed d) BlockKind rest fields_end → single (block_field (last_block ks)) ≡ unplaced_all rest
unfolding last_block unplaced
block_last d l i (one {f = f} t a) = ap single (ap (λ (k : Field). block_field (block_from k)) (last_is (first fields_end) f i refl) ∙ block_from_back d l f a t)

-- a part of at most no fields takes none
none_left : {P : Field → Type 0} {k : Kind} {n : ℕ} {ks rest : Fields} → n ≡ 0 → AtMost P k n ks rest → Same ks rest
none_left e no_further = same
none_left e (further ne t a s) = absurd (ne e)

-- a default is at most one constant
default_written : (d : ℕ) {ks js rest : Fields} → AtMost (Listed d) ConstantKind 1 ks js → Same js rest → Same rest fields_end → default_fields (default_from ks) ≡ unplaced_all ks
unfolding default_fields default_from unplaced
default_written d no_further same same = refl
default_written d (further {f = f} ne t a s) x y = ap₂ more (constant_back d f a t) (closed (none_left refl s) x y)
  where
    closed : {ks js rest : Fields} → Same ks js → Same js rest → Same rest fields_end → fields_end ≡ unplaced_all ks
    closed same x y = ended_twice x y

-- parameters, and then the block B
parameters_written : Field → Fields → Fields
parameters_written B ks = parameter_fields (parameters_from ks) (single B)

parameter_back : (B : Field) (d : ℕ) (k : Field) (fs : Fields) → Listed d k → allowed ParameterKind (tag_of k) ≡ true → parameters_written B fs ≡ unplaced_all fs → parameters_written B (more k fs) ≡ more (unplaced k) (unplaced_all fs)
unfolding parameters_written parameters_from parameter_fields parameter_from allowed tag_of unplaced form_of form_in forms head_size size
parameter_back B zero k fs a t h = absurd a
parameter_back B (suc d) (field p t g js) fs a e h =
    let s = listed_as 0x33 d t e a in
    let fields = default_written d s.fields.in_first s.fields.in_second s.fields.in_third in
    let taken = when_true (eqb t 0x33) (parameter_from (field p t g js) ∷ parameters_from fs) [] e in
    ap (λ (qs : List Parameter). parameter_fields qs (single B)) taken ∙ ap₂ more (tagged 0x33 t e (bare_same 0x33 (name_back g s.head.count s.head.bytes) fields)) h

-- a tag that is one is not another
other_tag : (t u v : ℕ) → eqb t u ≡ true → eqb u v ≡ false → eqb t v ≡ false
other_tag t u v e n = rw (eqb-true t u e) n

-- a block ends the parameters
no_parameters : (B : Field) {P : Field → Type 0} {rest : Fields} → OneOf P BlockKind rest fields_end → single B ≡ unplaced_all rest → parameters_written B rest ≡ unplaced_all rest
unfolding parameters_written parameters_from parameter_fields allowed
no_parameters B (one {f = f} t a) h = ap (λ (qs : List Parameter). parameter_fields qs (single B)) (when_false (eqb (tag_of f) 0x33) (parameter_from f ∷ []) [] (other_tag (tag_of f) 0x20 0x33 t refl)) ∙ h

-- parameters and the block
with_block : (d : ℕ) → d ≤ 32 → {all ks js : Fields} → ManyOf (Listed d) ParameterKind ks js → OneOf (Listed d) BlockKind js fields_end → Ends all js → parameters_written (block_field (last_block all)) ks ≡ unplaced_all ks
with_block d l {all} s o j = many_written (parameters_written (block_field (last_block all))) (parameter_back (block_field (last_block all)) d) s (no_parameters (block_field (last_block all)) o (block_last d l j o))

-- the parameters of a class do not begin with a parent
no_parent_lem : {P : Field → Type 0} {ks js : Fields} → ManyOf P ParameterKind ks js → OneOf P BlockKind js fields_end → eqb (tag_of (first ks)) 0x35 ≡ false
unfolding allowed first
no_parent_lem none_of_many (one {f = f} t a) = other_tag (tag_of f) 0x20 0x35 t refl
no_parent_lem (one_of_many {f = f} t a s) o = other_tag (tag_of f) 0x33 0x35 t refl

-- a class's parent, parameters and block
class_written : Field → Option Parent → Fields → Fields
class_written B q ks = parent_fields q (parameters_written B (after_parent q ks))

parent_of : (k : Field) → eqb (tag_of k) 0x35 ≡ false → parent_from k ≡ none
unfolding parent_from tag_of
parent_of (field p t h ks) e = when_false (eqb t 0x35) (some (record { place = p; name = two h 0 })) none e

parent_back : (B : Field) (d : ℕ) (k : Field) (fs : Fields) → Listed d k → allowed ParentKind (tag_of k) ≡ true → parameters_written B fs ≡ unplaced_all fs → class_written B (parent_from k) (more k fs) ≡ more (unplaced k) (unplaced_all fs)
unfolding class_written parent_fields after_parent parent_from others allowed tag_of unplaced form_of form_in forms head_size size
parent_back B zero k fs a t h = absurd a
parent_back B (suc d) (field p t g js) fs a e h =
    let s = listed_as 0x35 d t e a in
    let there : parent_from (field p t g js) ≡ some (record { place = p; name = two g 0 }) = when_true (eqb t 0x35) (some (record { place = p; name = two g 0 })) none e in
    ap (λ (q : Option Parent). class_written B q (more (field p t g js) fs)) there ∙ ap₂ more (tagged 0x35 t e (bare_same 0x35 (name_back g s.head.count s.head.bytes) (ended s.fields))) h

class_back : (d : ℕ) → d ≤ 32 → {ks js rest : Fields} → AtMost (Listed d) ParentKind 1 ks js → ManyOf (Listed d) ParameterKind js rest → OneOf (Listed d) BlockKind rest fields_end → class_written (block_field (last_block ks)) (parent_from (first ks)) ks ≡ unplaced_all ks
unfolding class_written parent_fields after_parent unplaced first
class_back d l {ks} no_further s o = ap (λ (q : Option Parent). class_written (block_field (last_block ks)) q ks) (parent_of (first ks) (no_parent_lem s o)) ∙ with_block d l s o (many_ends s whole)
class_back d l (further {f = f} {fs = fs} ne t a r) s o = closed (none_left refl r) s o
  where
    closed : {gs js rest : Fields} → Same gs js → ManyOf (Listed d) ParameterKind js rest → OneOf (Listed d) BlockKind rest fields_end → class_written (block_field (last_block (more f gs))) (parent_from f) (more f gs) ≡ more (unplaced f) (unplaced_all gs)
    closed {gs} same s o = parent_back (block_field (last_block (more f gs))) d f gs a t (with_block d l s o (after (many_ends s whole)))

-- a node's names, and then the block B
devices_written : Field → Fields → Fields
devices_written B ks = device_fields (names_from ks) (single B)

device_back : (B : Field) (d : ℕ) (k : Field) (fs : Fields) → Listed d k → allowed Device (tag_of k) ≡ true → devices_written B fs ≡ unplaced_all fs → devices_written B (more k fs) ≡ more (unplaced k) (unplaced_all fs)
unfolding devices_written names_from device_fields allowed tag_of head_of unplaced form_of form_in forms head_size size
device_back B zero k fs a t h = absurd a
device_back B (suc d) (field p t g js) fs a e h =
    let s = listed_as 0x31 d t e a in
    let taken = when_true (eqb t 0x31) (two g 0 ∷ names_from fs) [] e in
    ap (λ (ns : List ℕ). device_fields ns (single B)) taken ∙ ap₂ more (tagged 0x31 t e (bare_same 0x31 (name_back g s.head.count s.head.bytes) (ended s.fields))) h

no_devices : (B : Field) {P : Field → Type 0} {rest : Fields} → OneOf P BlockKind rest fields_end → single B ≡ unplaced_all rest → devices_written B rest ≡ unplaced_all rest
unfolding devices_written names_from device_fields allowed
no_devices B (one {f = f} t a) h = ap (λ (ns : List ℕ). device_fields ns (single B)) (when_false (eqb (tag_of f) 0x31) (two (head_of f) 0 ∷ []) [] (other_tag (tag_of f) 0x20 0x31 t refl)) ∙ h

node_back : (d : ℕ) → d ≤ 32 → {ks js : Fields} → NamesOf (Listed d) ks js → OneOf (Listed d) BlockKind js fields_end → devices_fields (devices_from ks) (single (block_field (last_block ks))) ≡ unplaced_all ks
unfolding devices_fields devices_from devices_written is_default first unplaced allowed
node_back d l {ks} {js} (default_name {f = f} t a) o =
    let B : Field = block_field (last_block ks) in
    ap (λ (x : Devices). devices_fields x (single B)) (when_true (eqb (tag_of f) 0x1b) by_default (named (names_from ks)) t) ∙ ap₂ more (default_back d f a t) (block_last d l (after whole) o)
node_back d l {ks} (device_names {f = f} {fs = fs} t a s) o =
    let B : Field = block_field (last_block ks) in
    let others-written = many_written (devices_written B) (device_back B d) s (no_devices B o (block_last d l (after (many_ends s whole)) o)) in
    ap (λ (x : Devices). devices_fields x (single B)) (when_false (eqb (tag_of f) 0x1b) by_default (named (names_from ks)) (other_tag (tag_of f) 0x31 0x1b t refl)) ∙ device_back B d f fs a t others-written

last_one : {P : Field → Type 0} {k : Kind} {ks rest : Fields} → OneOf P k ks rest → Same rest fields_end → OneOf P k ks fields_end
last_one o same = o

-- each tag of an item
item_tag : (t : ℕ) → allowed ItemKind t ≡ true → In (0x30 ∷ 0x32 ∷ 0x34 ∷ statement_tag_list) t
unfolding allowed
item_tag t e = first_of (either (eqb t 0x30) (eqb t 0x32 || (eqb t 0x34 || allowed StatementKind t)) e)
  where
    third_of : (eqb t 0x34 ≡ true) ⊎ (allowed StatementKind t ≡ true) → In (0x34 ∷ statement_tag_list) t
    third_of (inl x) = in_left statement_tag_list (is_tag t 0x34 x)
    third_of (inr x) = there (statement_tag_lem t x)

    second_of : (eqb t 0x32 ≡ true) ⊎ ((eqb t 0x34 || allowed StatementKind t) ≡ true) → In (0x32 ∷ 0x34 ∷ statement_tag_list) t
    second_of (inl x) = in_left (0x34 ∷ statement_tag_list) (is_tag t 0x32 x)
    second_of (inr x) = there (third_of (either (eqb t 0x34) (allowed StatementKind t) x))

    first_of : (eqb t 0x30 ≡ true) ⊎ ((eqb t 0x32 || (eqb t 0x34 || allowed StatementKind t)) ≡ true) → In (0x30 ∷ 0x32 ∷ 0x34 ∷ statement_tag_list) t
    first_of (inl x) = in_left (0x32 ∷ 0x34 ∷ statement_tag_list) (is_tag t 0x30 x)
    first_of (inr x) = there (second_of (either (eqb t 0x32) (eqb t 0x34 || allowed StatementKind t) x))

statement_item : (t : ℕ) → In statement_tag_list t → entry_for item_tags a_statement t ≡ a_statement
unfolding entry_for item_tags
statement_item t here = refl
statement_item t (there here) = refl
statement_item t (there (there here)) = refl
statement_item t (there (there (there here))) = refl
statement_item t (there (there (there (there here)))) = refl
statement_item t (there (there (there (there (there here))))) = refl
statement_item t (there (there (there (there (there (there here)))))) = refl
statement_item t (there (there (there (there (there (there (there x28))))))) = elim x28 [ ]

item_by_lem : (d : ℕ) → d ≤ 32 → (t : ℕ) → In (0x30 ∷ 0x32 ∷ 0x34 ∷ statement_tag_list) t → (p : ℕ) (h : List ℕ) (ks : Fields) → AsListed (Listed d) (form_of t) h ks → item_field (item_by (field p t h ks) p h ks (entry_for item_tags a_statement t)) ≡ field 0 t h (unplaced_all ks)
unfolding form_of form_in forms head_size size item_field definition_field item_by entry_for item_tags parameters_written class_written statement_in
item_by_lem d l t here p h ks a = bare_same 0x30 (empty_head h a.head.count) (node_back d l a.fields.in_first (last_one a.fields.in_second a.fields.in_third))
item_by_lem d l t (there here) p h ks a =
    bare_same 0x32 (name_back h a.head.count a.head.bytes) (with_block d l a.fields.in_first (last_one a.fields.in_second a.fields.in_third) (many_ends a.fields.in_first whole))
item_by_lem d l t (there (there here)) p h ks a = bare_same 0x34 (name_back h a.head.count a.head.bytes) (class_back d l a.fields.in_first a.fields.in_second a.fields.in_third)
item_by_lem d l t (there (there (there i))) p h ks a = ap (λ x. item_field (item_by (field p t h ks) p h ks x)) (statement_item t i) ∙ statement_by_lem 32 (omega arith) block_from block_from_back d l t i p h ks a

item_back : (d : ℕ) → d ≤ 32 → (k : Field) → Listed d k → allowed ItemKind (tag_of k) ≡ true → item_field (item_from k) ≡ unplaced k
unfolding item_from unplaced tag_of
item_back zero l k a e = absurd a
item_back (suc d) l (field p t h ks) a e = item_by_lem d (omega arith) t (item_tag t e) p h ks a

items_written : Fields → Fields
items_written ks = item_fields (items_from ks)

items_back : (d : ℕ) → d ≤ 32 → (k : Field) (fs : Fields) → Listed d k → allowed ItemKind (tag_of k) ≡ true → items_written fs ≡ unplaced_all fs → items_written (more k fs) ≡ more (unplaced k) (unplaced_all fs)
unfolding items_written items_from item_fields
items_back d l k fs a e h = ap₂ more (item_back d l k a e) h

no_items : items_written fields_end ≡ fields_end
unfolding items_written items_from item_fields
no_items = refl

-- ---- Strings

string_back : (d : ℕ) (k : Field) (fs : Fields) → Listed d k → allowed Text (tag_of k) ≡ true → string_fields (strings_from fs) ≡ unplaced_all fs → string_fields (strings_from (more k fs)) ≡ more (unplaced k) (unplaced_all fs)
unfolding string_fields strings_from head_of tag_of unplaced allowed form_of form_in forms
string_back zero k fs a t h = absurd a
string_back (suc d) (field p t g js) fs a e h =
    let s = listed_as 0x02 d t e a in
    let taken = when_true (eqb t 0x02) (g ∷ strings_from fs) (strings_from fs) e in
    ap string_fields taken ∙ ap₂ more (tagged 0x02 t e (bare_same 0x02 refl (ended s.fields))) h

strings_written : (d : ℕ) {n : ℕ} {ks js rest : Fields} → AtMost (Listed d) Text n ks js → Same js rest → Same rest fields_end → string_fields (strings_from ks) ≡ unplaced_all ks
unfolding unplaced
strings_written d no_further x y = none_written (λ r. string_fields (strings_from r)) no_strings x y
  where
    no_strings : string_fields (strings_from fields_end) ≡ fields_end
    no_strings = unfold string_fields strings_from in refl
strings_written d (further {f = f} {fs = fs} ne t a s) x y = string_back d f fs a t (strings_written d s x y)

-- ---- The manifest

table_back : (d : ℕ) (k : Field) → Listed d k → allowed Table (tag_of k) ≡ true → bare 0x01 [] (string_fields (strings_from (inner k))) ≡ unplaced k
unfolding inner tag_of unplaced allowed form_of form_in forms head_size size
table_back zero k a e = absurd a
table_back (suc d) (field p t h ks) a e =
    let s = listed_as 0x01 d t e a in
    tagged 0x01 t e (bare_same 0x01 (empty_head h s.head.count) (strings_written d s.fields.in_first s.fields.in_second s.fields.in_third))

manifest_back : (ks : Fields) → PartsAre (Listed 32) (three (One Table) (Many ItemKind) Over) ks → fields_of (manifest_from ks) ≡ unplaced_all ks
unfolding fields_of manifest_from items_written
manifest_back ks s = one_written (λ f. bare 0x01 [] (string_fields (strings_from (inner f)))) items_written (table_back 32) s.in_first (many_written items_written (items_back 32 (omega arith)) s.in_second (none_written items_written no_items s.in_third same))

-- the typed tree of a sound manifest gives back the tree of fields, but for the places
pub typed_back : (m : List ℕ) → IsBytes m → check m ≡ no_fault → fields_of (manifest_of m) ≡ unplaced_all (read_all m)
unfolding manifest_of
typed_back m bytes w = manifest_back (read_all m) (all_listed m bytes w)

-- and so the manifest
pub typed_written_back : (m : List ℕ) → IsBytes m → check m ≡ no_fault → write_all (fields_of (manifest_of m)) ≡ m
typed_written_back m bytes w = ap write_all (typed_back m bytes w) ∙ write_unplaced_all (read_all m) ∙ written_back m bytes w
