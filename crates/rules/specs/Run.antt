-- How a manifest runs: statements, blocks, declarations, items.
use Rattle.std.specs.Prelude.{ℕ, zero, suc, ◌-◌, Bool, true, false, ◌||◌, not, List, [], ◌∷◌, ◌++◌, eqb, ltb, length}
use Rattle.std.proofs.Math.Option.{Option, none, some}
use Rattle.labels.specs.declared.Labels.{Labels}
use Rattle.labels.specs.Sets.{no_labels, ◌∪◌}
use Rattle.values.specs.declared.Labelled.{Labelled}
use Rattle.values.specs.declared.Reason.TheVariants.{Malformed, LevelLimit, DefinedAgain, Unknown, DeclaredAgain, UnknownParameter, MissingParameter, ResourceAgain, AttributeAgain, OutputFull}
use Rattle.rules.specs.Outcome.{Outcome, refused, done, ◌>>=◌, refuse_if, or_refuse, at, under}
use Rattle.rules.specs.Arithmetic.{string_in, boolean_in}
use Rattle.rules.specs.Tree.{Constant, place_of, AttributeField, Statement, assignment, conditional, choice, built_in_resource, defined_resource, class_with_attributes, include, Block, end, next, Branches, no_branch, branch, default_branch, Parameter, Parent, ClassDefinition, Definition, type_definition, class_definition, Item, statement, node, definition}
use Rattle.rules.specs.Tree
use Rattle.rules.specs.Patterns.{Patterns, no_pattern, constant_pattern, default_pattern, chosen, tried, tried_labels}
use Rattle.rules.specs.State.{top_scope, node_scope, class_scope, body_scope, Base, top_base, node_base, base_scope, DeclaredClass, new_cells, Attribute, SetParts, Entry, State, Context, Known, is_declared, take_step, cells_for, assign, tested, mark_declared, free, with_entry}
use Rattle.rules.specs.Evaluate.{any, first_with, is_entry, find_type, find_class, of_constant, come_to_all, evaluate, marks_read}
use Rattle.rules.specs.Catalog.{entry_bytes}

-- ---- What the branches of a condition hold, taken or not

-- the names "assigned anywhere in any of its branches, taken or not, nested conditions included"
unfoldable mutual
  pub assigns : Statement → ℕ → Bool
  assigns (assignment p name e) n = eqb n name
  assigns (conditional p e if_true if_false) n = assigns_in if_true n || assigns_in if_false n
  assigns (choice p e branches) n = assigns_any branches n
  assigns (built_in_resource p type e attributes) n = false
  assigns (defined_resource p type e attributes) n = false
  assigns (class_with_attributes p class attributes) n = false
  assigns (include p class) n = false
  assigns (Statement.unreadable p) n = false

  pub assigns_in : Block → ℕ → Bool
  assigns_in end n = false
  assigns_in (next s block) n = assigns s n || assigns_in block n

  pub assigns_any : Branches → ℕ → Bool
  assigns_any no_branch n = false
  assigns_any (branch pattern block branches) n = assigns_in block n || assigns_any branches n
  assigns_any (default_branch block branches) n = assigns_in block n || assigns_any branches n

-- whether "any branch holds a 27, 28 or 29 at any depth"
unfoldable mutual
  pub declares : Statement → Bool
  declares (assignment p name e) = false
  declares (conditional p e if_true if_false) = declares_in if_true || declares_in if_false
  declares (choice p e branches) = declares_any branches
  declares (built_in_resource p type e attributes) = false
  declares (defined_resource p type e attributes) = true
  declares (class_with_attributes p class attributes) = true
  declares (include p class) = true
  declares (Statement.unreadable p) = false

  pub declares_in : Block → Bool
  declares_in end = false
  declares_in (next s block) = declares s || declares_in block

  pub declares_any : Branches → Bool
  declares_any no_branch = false
  declares_any (branch pattern block branches) = declares_in block || declares_any branches
  declares_any (default_branch block branches) = declares_in block || declares_any branches

-- ---- Path and trail

abbrev pub path_and_trail : Context → State → Labels
path_and_trail here st = here.path ∪ st.trail

-- One formula for what is stored and for what is tested. "An assignment stores its value's set with path and trail; so does a resource for its
-- title and an attribute for its value"; "A condition's set is its expression (for case also the patterns tried), path and trail."
unfoldable pub with_path_and_trail : Context → State → Labels → Labels
with_path_and_trail here st set = path_and_trail here st ∪ set

unfoldable pub stored : Context → State → Labelled → Labelled
stored here st x = under (path_and_trail here st) x

-- an assignment in the scope of the context
unfoldable pub store : Context → (place name : ℕ) → Labelled → State → Outcome State
store here p name x st = assign p here.scope name (stored here st x) st

-- "After the test it joins the path of the branch taken."
unfoldable pub in_branch : Labels → Context → Context
in_branch set here = record { scope = here.scope; base = here.base; path = set ∪ here.path }

-- ---- Attributes and parameters

-- an evaluated 26, or a parameter with its value and the place of its 33
pub record Given : Type 0 where
  pub place : ℕ
  pub name : ℕ
  pub content : Labelled

unfoldable pub is_given : ℕ → Given → Bool
is_given n given = eqb given.name n

unfoldable pub evaluate_all : Known → Context → State → List AttributeField → Outcome (List Given)
evaluate_all known here st [] = done []
evaluate_all known here st (attribute ∷ attributes) = do
  x ← evaluate known here st attribute.expression
  givens ← evaluate_all known here st attributes
  done (record { place = attribute.place; name = attribute.name; content = x } ∷ givens)

-- "An attribute is named twice in one body" (21), at the later one
unfoldable pub named_once : (earlier : List Given) → List Given → Outcome (Unit {0})
named_once earlier [] = done tt
named_once earlier (given ∷ givens) = do
  _ ← refuse_if (any (is_given given.name) earlier) AttributeAgain given.place
  named_once (given ∷ earlier) givens

unfoldable pub is_parameter : ℕ → Parameter → Bool
is_parameter n parameter = eqb parameter.name n

-- "A parameter is unknown" (11), at the 26
unfoldable pub parameters_known : List Parameter → List Given → Outcome (Unit {0})
parameters_known parameters [] = done tt
parameters_known parameters (given ∷ givens) = do
  _ ← refuse_if (not (any (is_parameter given.name) parameters)) UnknownParameter given.place
  parameters_known parameters givens

unfoldable pub default_of : Option Constant → Option Labelled
default_of none = none
default_of (some constant) = some (of_constant constant)

-- the value given, or else the default
unfoldable pub given_or : Option Given → Option Labelled → Option Labelled
given_or none default = default
given_or (some given) default = some given.content

-- the parameters "in the order of the 33s", each with its value: "A parameter has neither value nor default" (12), at the 33
unfoldable pub parameter_values : List Parameter → List Given → Outcome (List Given)
parameter_values [] givens = done []
parameter_values (parameter ∷ parameters) givens = do
  x ← or_refuse (given_or (first_with (is_given parameter.name) givens) (default_of parameter.default)) MissingParameter parameter.place
  values ← parameter_values parameters givens
  done (record { place = parameter.place; name = parameter.name; content = x } ∷ values)

-- the defaults that are assigned, in the order of the 33s: those of the parameters that nothing is given to
unfoldable pub taken_default : Option Given → Option Constant → List Constant
taken_default none none = []
taken_default none (some constant) = constant ∷ []
taken_default (some given) default = []

unfoldable pub taken_defaults : List Parameter → List Given → List Constant
taken_defaults [] givens = []
taken_defaults (parameter ∷ parameters) givens = taken_default (first_with (is_given parameter.name) givens) parameter.default ++ taken_defaults parameters givens

-- the parameters assigned, "each as a 21 would do it"
unfoldable pub store_all : Context → List Given → State → Outcome State
store_all here [] st = done st
store_all here (value ∷ values) st = do
  st' ← store here value.place value.name value.content st
  store_all here values st'

-- "The title goes to the variable "title", or nowhere if the table lacks that string"
unfoldable pub store_title : (name : Option ℕ) → Context → (place : ℕ) → Labelled → State → Outcome State
store_title none here p title st = done st
store_title (some name) here p title st = store here p name title st

-- ---- Resources of built-in types

-- "an attribute's set includes its resource's", which is `own`
unfoldable pub attributes_under : (own : Labels) → Context → State → List Given → List Attribute
attributes_under own here st [] = []
attributes_under own here st (given ∷ givens) =
    record { name = given.name; content = under own (stored here st given.content) }
    ∷ attributes_under own here st givens

-- the marks that the expression of the attribute of this name reads
unfoldable pub marks_for : Known → Context → State → List AttributeField → (name : ℕ) → Labels
marks_for known here st [] n = no_labels
marks_for known here st (attribute ∷ attributes) n = elim (eqb attribute.name n) [ true ↦ marks_read known here st attribute.expression | false ↦ marks_for known here st attributes n ]

-- the set of what is given
unfoldable pub given_labels : Option Given → Labels
given_labels none = no_labels
given_labels (some given) = given.content.labels

-- the parts of an attribute's set, by its name; the title expression has this set
unfoldable pub parts_from : Labels → Context → State → (marks : ℕ → Labels) → List Given → (name : ℕ) → SetParts
parts_from set here st marks givens n = record { title = set; path = here.path; trail = st.trail; marks = marks n; value = given_labels (first_with (is_given n) givens) }

-- the entry of a resource whose title expression has this set, and the expressions of whose attributes read these marks
unfoldable pub entry_from : (type title : ℕ) → Labels → (marks : ℕ → Labels) → Context → State → List Given → Entry
entry_from type title set marks here st givens = record {
  type = type;
  title = title;
  labels = with_path_and_trail here st set;
  attributes = attributes_under (with_path_and_trail here st set) here st givens;
  parts = parts_from set here st marks givens;
}

-- "The finished entry passes the output's end or 65,535 bytes in all" (23)
unfoldable pub add_entry : (place : ℕ) → Entry → State → Outcome State
add_entry p entry st = do
  _ ← refuse_if (ltb st.room (length (entry_bytes entry))) OutputFull p
  done (with_entry entry (st.room - length (entry_bytes entry)) st)

-- a 25 whose parts are evaluated: 9, 20, 21, 23
unfoldable pub add_resource : Known → (place type title : ℕ) → Labels → (marks : ℕ → Labels) → List Given → Context → State → Outcome State
add_resource known p type title set marks givens here st = do
  _ ← refuse_if (not (known.built_in type)) Unknown p
  _ ← refuse_if (any (is_entry type title) st.entries) ResourceAgain p
  _ ← named_once [] givens
  add_entry p (entry_from type title set marks here st givens) st

-- ---- Conditions

-- after the test: the marks, which may need cells (22), and the trail
unfoldable pub after_test : (place : ℕ) → Context → (names : ℕ → Bool) → (declares : Bool) → Labels → State → Outcome State
after_test p here names declares set st = do
  _ ← cells_for st.used (new_cells names (st.cells here.scope)) p
  done (tested here.scope names declares set st)

-- "A case without a match does nothing."
unfoldable pub do_nothing : Context → State → Outcome State
do_nothing here st = done st

-- ---- Statements

-- what a statement asks to be declared, its parts evaluated; a class without attributes by a 29 or as a parent
pub data Declaration : Type 0 where
  of_type : (place type : ℕ) → (title : Labelled) → List Given → Declaration  -- 27
  of_class : (place class : ℕ) → List Given → Declaration  -- 28
  included : (place class : ℕ) → Declaration  -- 29, or a parent

abbrev pub Declare : Type 0
Declare = Declaration → Context → State → Outcome State

unfoldable pub statement_place : Statement → ℕ
statement_place (assignment p name e) = p
statement_place (conditional p e if_true if_false) = p
statement_place (choice p e branches) = p
statement_place (built_in_resource p type e attributes) = p
statement_place (defined_resource p type e attributes) = p
statement_place (class_with_attributes p class attributes) = p
statement_place (include p class) = p
statement_place (Statement.unreadable p) = p

-- with what is known, and with what a declaration does: one acts at the level of the statement that makes it
module _ (known : Known) (declare : Declare) where
  unfoldable mutual
    -- a statement after its step: "evaluates its parts in written order, then makes its other checks by rising number"
    pub run : Statement → Context → State → Outcome State
    run (assignment p name e) here st = do
      x ← evaluate known here st e
      store here p name x st
    run (conditional p e if_true if_false) here st = do
      x ← evaluate known here st e
      holds ← at (place_of e) (boolean_in x.value)
      let set : Labels = with_path_and_trail here st x.labels
      st' ← after_test p here (λ n. assigns_in if_true n || assigns_in if_false n) (declares_in if_true || declares_in if_false) set st
      elim holds [ true ↦ run_block if_true (in_branch set here) st' | false ↦ run_block if_false (in_branch set here) st' ]
    run (choice p e branches) here st = do
      x ← evaluate known here st e
      _ ← come_to_all known (tried (branch_patterns branches) x.value)
      let set : Labels = with_path_and_trail here st (x.labels ∪ tried_labels (branch_patterns branches) x.value)
      st' ← after_test p here (assigns_any branches) (declares_any branches) set st
      chosen (branch_patterns branches) x.value do_nothing (in_branch set here) st'
    run (built_in_resource p type e attributes) here st = do
      x ← evaluate known here st e
      title ← at (place_of e) (string_in x.value)
      givens ← evaluate_all known here st attributes
      add_resource known p type title x.labels (marks_for known here st attributes) givens here st
    run (defined_resource p type e attributes) here st = do
      x ← evaluate known here st e
      _ ← at (place_of e) (string_in x.value)
      givens ← evaluate_all known here st attributes
      declare (of_type p type x givens) here st
    run (class_with_attributes p class attributes) here st = do
      givens ← evaluate_all known here st attributes
      declare (of_class p class givens) here st
    -- "Include of a declared class does nothing past its step."
    run (include p class) here st = elim (is_declared class st) [ true ↦ done st | false ↦ declare (included p class) here st ]
    run (Statement.unreadable p) here st = refused Malformed p

    -- "each statement begun counts one, again each time; blocks count nothing"
    pub run_block : Block → Context → State → Outcome State
    run_block end here st = done st
    run_block (next s block) here st = do
      st₁ ← take_step (statement_place s) st
      st₂ ← run s here st₁
      run_block block here st₂

    -- the branches of a case, each with what its block does
    pub branch_patterns : Branches → Patterns (Context → State → Outcome State)
    branch_patterns no_branch = no_pattern
    branch_patterns (branch pattern block branches) = constant_pattern pattern (λ here st. run_block block here st) (branch_patterns branches)
    branch_patterns (default_branch block branches) = default_pattern (λ here st. run_block block here st) (branch_patterns branches)

-- ---- Declarations

-- "The base is top or node: .. of a class its parent's base"
unfoldable pub base_under : Base → Option DeclaredClass → Base
base_under base none = base
base_under base (some parent) = parent.base

-- "A class's parent is its named parent, or else the base scope of the place that declared it."
unfoldable pub placed_under : Option Parent → Context → State → DeclaredClass
placed_under none here st = record { parent = base_scope here.base; base = here.base }
placed_under (some parent) here st = record { parent = class_scope parent.name; base = base_under here.base (st.classes parent.name) }

-- where a class's body runs, and where a type's body runs: its base is "of a type body its declarer's base"
unfoldable pub in_class : (class : ℕ) → DeclaredClass → Context → Context
in_class class declared here = record { scope = class_scope class; base = declared.base; path = here.path }

unfoldable pub in_body : (levels_left : ℕ) → Context → Context
in_body n here = record { scope = body_scope n; base = here.base; path = here.path }

module _ (known : Known) (declare : Declare) where
  -- "declares an undeclared parent first": "each declaration of a parent counts one"; its 6, 7 and 9 are at the 35
  unfoldable pub parent_first : Option Parent → Context → State → Outcome State
  parent_first none here st = done st
  parent_first (some parent) here st = elim (is_declared parent.name st) [
    | true ↦ done st
    | false ↦ take_step parent.place st >>= λ st'. declare (included parent.place parent.name) here st'
  ]

  -- "Then it is marked declared, its parameters are assigned and its body runs."
  unfoldable pub enter_class : ClassDefinition → (defaults : List Constant) → (parameters : List Given) → Context → State → Outcome State
  enter_class class defaults values here st = do
    _ ← come_to_all known defaults
    let declared : DeclaredClass = placed_under class.parent here st
    let inside : Context = in_class class.name declared here
    st' ← store_all inside values (mark_declared class.name declared st)
    run_block known declare class.body inside st'

unfoldable pub declaration_place : Declaration → ℕ
declaration_place (of_type p type title givens) = p
declaration_place (of_class p class givens) = p
declaration_place (included p class) = p

-- Levels are counted down: a declaration with n + 1 levels left is at level 16 − n, and "a body runs one level below its declaration", with n
-- left. With none left the declaration "would go below level 16" (7). Where it is looked up, "a name of the other sort is" unknown (9).
unfoldable pub declaration : Known → (levels_left : ℕ) → Declare
declaration known zero asked here st = refused LevelLimit (declaration_place asked)
declaration known (suc n) (of_type p name title givens) here st = do
  type ← or_refuse (find_type name known.definitions) Unknown p
  _ ← parameters_known type.parameters givens
  values ← parameter_values type.parameters givens
  _ ← named_once [] givens
  st₁ ← store_title known.title (in_body n here) p title st
  _ ← come_to_all known (taken_defaults type.parameters givens)
  st₂ ← store_all (in_body n here) values st₁
  st₃ ← run_block known (declaration known n) type.body (in_body n here) st₂
  done (free (body_scope n) st₃)
declaration known (suc n) (of_class p name givens) here st = do
  class ← or_refuse (find_class name known.definitions) Unknown p
  _ ← refuse_if (is_declared name st) DeclaredAgain p
  _ ← parameters_known class.parameters givens
  values ← parameter_values class.parameters givens
  _ ← named_once [] givens
  st₁ ← parent_first known (declaration known n) class.parent here st
  -- "then looks again": "28 is refused"
  _ ← refuse_if (is_declared name st₁) DeclaredAgain p
  enter_class known (declaration known n) class (taken_defaults class.parameters givens) values here st₁
declaration known (suc n) (included p name) here st = do
  class ← or_refuse (find_class name known.definitions) Unknown p
  values ← parameter_values class.parameters []
  st₁ ← parent_first known (declaration known n) class.parent here st
  -- "then looks again": "an include or a parent's declaration does nothing more"
  elim (is_declared name st₁) [ true ↦ done st₁ | false ↦ enter_class known (declaration known n) class (taken_defaults class.parameters []) values here st₁ ]

-- ---- Items

-- "the top is level 0, the deepest allowed for a declaration .. is 16": 17 levels
unfoldable pub run_at_top : Known → Block → Context → State → Outcome State
run_at_top known block here st = run_block known (declaration known 17) block here st

unfoldable pub top_context : Context
top_context = record { scope = top_scope; base = top_base; path = no_labels }

unfoldable pub node_context : Context
node_context = record { scope = node_scope; base = node_base; path = no_labels }

unfoldable pub defined_name : Definition → ℕ
defined_name (type_definition type) = type.name
defined_name (class_definition class) = class.name

unfoldable pub defined_place : Definition → ℕ
defined_place (type_definition type) = type.place
defined_place (class_definition class) = class.place

unfoldable pub is_definition : ℕ → Definition → Bool
is_definition n d = eqb (defined_name d) n

-- "whose name an earlier item defines or that is a built-in type's"
unfoldable pub is_taken : (built_in : ℕ → Bool) → (earlier : List Definition) → (name : ℕ) → Bool
is_taken built_in earlier n = built_in n || any (is_definition n) earlier

-- "All definitions are gathered first", the latest first; "A defined name is defined again, or is a built-in type" (8), "at the first item, by place"
unfoldable pub gather_definitions : (built_in : ℕ → Bool) → (earlier : List Definition) → List Item → Outcome (List Definition)
gather_definitions built_in earlier [] = done earlier
gather_definitions built_in earlier (statement s ∷ items) = gather_definitions built_in earlier items
gather_definitions built_in earlier (node devices block ∷ items) = gather_definitions built_in earlier items
gather_definitions built_in earlier (definition d ∷ items) = do
  _ ← refuse_if (is_taken built_in earlier (defined_name d)) DefinedAgain (defined_place d)
  gather_definitions built_in (d ∷ earlier) items

-- "Items run in order." Of the nodes only the one that runs is among them; a definition does nothing where it stands.
unfoldable pub run_items : Known → List Item → State → Outcome State
run_items known [] st = done st
run_items known (statement s ∷ items) st = do
  st' ← run_at_top known (next s end) top_context st
  run_items known items st'
run_items known (node devices block ∷ items) st = do
  st' ← run_at_top known block node_context st
  run_items known items st'
run_items known (definition d ∷ items) st = run_items known items st
