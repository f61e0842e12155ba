-- Expressions: each by the rules of document 01, with the set of labels that decide it.
use Rattle.std.specs.Prelude.{ℕ, Bool, true, false, ◌&&◌, ◌||◌, not, List, [], ◌∷◌, eqb, ℤ}
use Rattle.std.specs.Bool.{beq}
use Rattle.std.proofs.Math.Option.{Option, none, some}
use Rattle.labels.specs.declared.Labels.{Labels}
use Rattle.labels.specs.Sets.{no_labels, one_label, ◌∪◌}
use Rattle.values.specs.declared.Value.{Value}
use Rattle.values.specs.declared.Value.TheVariants.{Boolean}
use Rattle.values.specs.declared.Labelled.{Labelled}
use Rattle.values.specs.declared.Reason.TheVariants.{Malformed, Unknown, NoValue, NoMatch, NotInCatalog}
use Rattle.rules.specs.Outcome.{Outcome, refused, done, ◌>>=◌, refuse_if, or_refuse, Result, at, plain, joining}
use Rattle.rules.specs.Arithmetic.{integer_in, string_in, boolean_in, sum, difference, quotient, is_greater, same_value}
use Rattle.rules.specs.Tree.{Constant, Operator, plus, minus, divide, greater, equal, and, or, Expression, constant, variable, top_variable, class_variable, operation, negation, attribute_read, selector, Arms, no_arm, arm, default_arm, place_of, TypeDefinition, ClassDefinition, Definition, type_definition, class_definition}
use Rattle.rules.specs.Patterns.{Patterns, no_pattern, constant_pattern, default_pattern, chosen, tried, tried_labels}
use Rattle.rules.specs.State.{Scope, top_scope, class_scope, Cells, Attribute, Entry, State, Context, Known, scopes_tried, is_some}
use Rattle.rules.specs.Tree

-- ---- Searching a list

-- whether one of a list passes a test, and the first that does
unfoldable pub any : {A : Type 0} → (A → Bool) → List A → Bool
any f [] = false
any f (x ∷ xs) = f x || any f xs

unfoldable pub first_with : {A : Type 0} → (A → Bool) → List A → Option A
first_with f [] = none
first_with f (x ∷ xs) = elim (f x) [ true ↦ some x | false ↦ first_with f xs ]

unfoldable pub is_entry : (type title : ℕ) → Entry → Bool
is_entry t n e = eqb e.type t && eqb e.title n

unfoldable pub is_attribute : (name : ℕ) → Attribute → Bool
is_attribute n a = eqb a.name n

-- ---- Definitions: "classes and types share one set of names"; "looking one up now finds a later one"

unfoldable pub find_type : ℕ → List Definition → Option TypeDefinition
find_type n [] = none
find_type n (type_definition type ∷ others) = elim (eqb type.name n) [ true ↦ some type | false ↦ find_type n others ]
find_type n (class_definition class ∷ others) = find_type n others

unfoldable pub find_class : ℕ → List Definition → Option ClassDefinition
find_class n [] = none
find_class n (type_definition type ∷ others) = find_class n others
find_class n (class_definition class ∷ others) = elim (eqb class.name n) [ true ↦ some class | false ↦ find_class n others ]

-- a type that is built in or defined
unfoldable pub is_type : Known → ℕ → Bool
is_type known n = known.built_in n || is_some (find_type n known.definitions)

unfoldable pub is_class : Known → ℕ → Bool
is_class known n = is_some (find_class n known.definitions)

-- ---- Reads

-- a scope's value, or else what the scopes above give
unfoldable pub or_else : Option Labelled → Outcome Labelled → Outcome Labelled
or_else none above = above
or_else (some x) above = done x

-- "A plain read tries its scope, then the parents upward"; "A read's set is the stored set and the marks of every scope tried."
-- "The variable has no value in any scope tried" (13)
unfoldable pub read_in : (place : ℕ) → Cells → (name : ℕ) → List Scope → Outcome Labelled
read_in p cells n [] = refused NoValue p
read_in p cells n (scope ∷ above) = joining (cells scope n).mark (or_else (cells scope n).value (read_in p cells n above))

-- the attribute of this name of the resource that the catalog has under this type and title (19)
unfoldable pub read_attribute : (place type title name : ℕ) → List Entry → Outcome Labelled
read_attribute p type title name entries = do
  entry ← or_refuse (first_with (is_entry type title) entries) NotInCatalog p
  attribute ← or_refuse (first_with (is_attribute name) entry.attributes) NotInCatalog p
  done attribute.content

-- ---- Operators: p is the operator's place, l and r those of its operands, x the left operand's value, `evaluate_right` what the right one
-- gives where it is evaluated

-- "Operators + − / > take integers"; "The kind of an operand .. is checked as soon as it is evaluated."
unfoldable pub integers : (ℤ → ℤ → Result Value) → (p l r : ℕ) → Value → Outcome Labelled → Outcome Labelled
integers compute p l r x evaluate_right = do
  i ← at l (integer_in x)
  right ← evaluate_right
  joining right.labels (do
    j ← at r (integer_in right.value)
    result ← at p (compute i j)
    plain result)

-- ""and" and "or" skip the right side when the left decides"; `decides` is the left value that does
unfoldable pub booleans : (decides : Bool) → (l r : ℕ) → Value → Outcome Labelled → Outcome Labelled
booleans decides l r x evaluate_right = do
  i ← at l (boolean_in x)
  elim (beq i decides) [
    | true ↦ plain (Boolean i)
    | false ↦ do
      right ← evaluate_right
      joining right.labels (do
        j ← at r (boolean_in right.value)
        plain (Boolean j))
  ]

-- "= takes any two values, unequal if of unlike kinds"
unfoldable pub equality : Value → Outcome Labelled → Outcome Labelled
equality x evaluate_right = do
  right ← evaluate_right
  joining right.labels (plain (Boolean (same_value x right.value)))

unfoldable pub operate : Operator → (p l r : ℕ) → Value → Outcome Labelled → Outcome Labelled
operate plus p l r x evaluate_right = integers sum p l r x evaluate_right
operate minus p l r x evaluate_right = integers difference p l r x evaluate_right
operate divide p l r x evaluate_right = integers quotient p l r x evaluate_right
operate greater p l r x evaluate_right = integers is_greater p l r x evaluate_right
operate equal p l r x evaluate_right = equality x evaluate_right
operate and p l r x evaluate_right = booleans false l r x evaluate_right
operate or p l r x evaluate_right = booleans true l r x evaluate_right

-- ---- Constants

-- "A constant's set is its label"
unfoldable pub of_constant : Constant → Labelled
of_constant v = record { value = v.value; labels = one_label v.label }

-- A compile comes to a constant where it evaluates it, tries it as a pattern or assigns it to a parameter as its default. One that is struck out
-- is no field as listed (3).
unfoldable pub come_to : Known → Constant → Outcome (Unit {0})
come_to known v = refuse_if (known.struck_out v) Malformed v.place

unfoldable pub come_to_all : Known → List Constant → Outcome (Unit {0})
come_to_all known [] = done tt
come_to_all known (v ∷ vs) = do
  _ ← come_to known v
  come_to_all known vs

-- ---- Expressions

-- the patterns tried and what the chosen one gives; "No pattern of a selector matches" (18)
unfoldable pub select : Known → Patterns (Outcome Labelled) → (place : ℕ) → Value → Outcome Labelled
select known patterns p x = do
  _ ← come_to_all known (tried patterns x)
  joining (tried_labels patterns x) (chosen patterns x (refused NoMatch p))

-- with what is known, in the context `here` and a state
module _ (known : Known) (here : Context) (st : State) where
  unfoldable mutual
    pub evaluate : Expression → Outcome Labelled
    evaluate (constant v) = do
      _ ← come_to known v
      done (of_constant v)
    evaluate (variable p n) = read_in p st.cells n (scopes_tried here st)
    -- "14 tries top only, 15 the class only"; a class that is not defined is 9
    evaluate (top_variable p n) = read_in p st.cells n (top_scope ∷ [])
    evaluate (class_variable p class n) = do
      _ ← refuse_if (not (is_class known class)) Unknown p
      read_in p st.cells n (class_scope class ∷ [])
    -- "an operator's is the union over operands evaluated": the left one's is joined here, the right one's where it is evaluated
    evaluate (operation p operator a b) = do
      left ← evaluate a
      joining left.labels (operate operator p (place_of a) (place_of b) left.value (evaluate b))
    evaluate (negation p a) = do
      operand ← evaluate a
      joining operand.labels (do
        b ← at (place_of a) (boolean_in operand.value)
        plain (Boolean (not b)))
    -- "an attribute read's is title expression and attribute"; a type neither built in nor defined is 9
    evaluate (attribute_read p type name a) = do
      titled ← evaluate a
      joining titled.labels (do
        title ← at (place_of a) (string_in titled.value)
        _ ← refuse_if (not (is_type known type)) Unknown p
        read_attribute p type title name st.entries)
    -- "a selector's is scrutinee, patterns tried and chosen expression"
    evaluate (selector p a arms) = do
      scrutinee ← evaluate a
      joining scrutinee.labels (select known (arm_patterns arms) p scrutinee.value)
    evaluate (Expression.unreadable p) = refused Malformed p

    -- the patterns of a selector, each with what its expression gives
    pub arm_patterns : Arms → Patterns (Outcome Labelled)
    arm_patterns no_arm = no_pattern
    arm_patterns (arm pattern a arms) = constant_pattern pattern (evaluate a) (arm_patterns arms)
    arm_patterns (default_arm a arms) = default_pattern (evaluate a) (arm_patterns arms)

-- ---- Marks read: a part of an attribute's set (Why.antt)

-- "the marks of every scope tried": up to the first that has a value
unfoldable pub marks_in : Cells → (name : ℕ) → List Scope → Labels
marks_in cells n [] = no_labels
marks_in cells n (scope ∷ above) = (cells scope n).mark ∪ elim (cells scope n).value [ none ↦ marks_in cells n above | some x ↦ no_labels ]

-- whether an operand is this boolean
unfoldable pub is_boolean : Bool → Outcome Labelled → Bool
is_boolean b (refused r p) = false
is_boolean b (done x) = same_value (Boolean b) x.value

-- ""and" and "or" skip the right side when the left decides": whether an operator does, with this left operand
unfoldable pub skips_right : Operator → Outcome Labelled → Bool
skips_right plus left = false
skips_right minus left = false
skips_right divide left = false
skips_right greater left = false
skips_right equal left = false
skips_right and left = is_boolean false left
skips_right or left = is_boolean true left

module _ (known : Known) (here : Context) (st : State) where
  unfoldable mutual
    -- the marks "of every scope tried by every variable read made while" an expression is evaluated, "also of reads whose value is then dropped"
    pub marks_read : Expression → Labels
    marks_read (constant v) = no_labels
    marks_read (variable p n) = marks_in st.cells n (scopes_tried here st)
    marks_read (top_variable p n) = marks_in st.cells n (top_scope ∷ [])
    marks_read (class_variable p class n) = marks_in st.cells n (class_scope class ∷ [])
    marks_read (operation p operator a b) = marks_read a ∪ elim (skips_right operator (evaluate known here st a)) [ true ↦ no_labels | false ↦ marks_read b ]
    marks_read (negation p a) = marks_read a
    marks_read (attribute_read p type name a) = marks_read a
    marks_read (selector p a arms) = marks_read a ∪ elim (evaluate known here st a) [ refused r q ↦ no_labels | done x ↦ chosen (arm_marks arms) x.value no_labels ]
    marks_read (Expression.unreadable p) = no_labels

    -- the patterns of a selector, each with the marks that its expression reads
    pub arm_marks : Arms → Patterns Labels
    arm_marks no_arm = no_pattern
    arm_marks (arm pattern a arms) = constant_pattern pattern (marks_read a) (arm_marks arms)
    arm_marks (default_arm a arms) = default_pattern (marks_read a) (arm_marks arms)
