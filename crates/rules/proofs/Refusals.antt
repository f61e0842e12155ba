-- Which refusals there are: a compile's own are those of document 01, 1 to 23, and 28. Each function of the definition is followed, and nothing is asked of the
-- state. Assumes nothing.
use Prim.Native.Nat.{ℕ, zero, suc, ◌+◌, ◌<◌}
use mathlib.Core.Path.{◌≡◌, refl}
use mathlib.Core.Bool.{Bool, true, false, ◌&&◌, beq}
use mathlib.Core.List.{List, [], ◌∷◌}
use mathlib.Core.Option.{Option, none, some}
use lib.Dec.{leb, lit<}
use lib.IntN.{ℤ}
use lib.ListN.{length}
use Rattle.labels.specs.declared.Labels.{Labels}
use Rattle.values.specs.declared.Value.{Value}
use Rattle.values.specs.declared.Value.TheVariants.{Integer, String, Boolean}
use Rattle.values.specs.declared.Labelled.{Labelled}
use Rattle.values.specs.declared.Reason.{Reason}
use Rattle.values.specs.declared.Reason.TheVariants.{StepLimit, Overflow, DivisionByZero, TypeList}
use Rattle.values.specs.Numbers.{number_of}
use Rattle.rules.specs.Outcome.{Outcome, refused, done, ◌>>=◌, refuse_if, or_refuse, Result, fails, gives, at, joining}
use Rattle.rules.specs.Arithmetic.{integer_in, string_in, boolean_in, fits64, in_range, is_zero, floor_divide, sum, difference, quotient, is_greater}
use Rattle.rules.specs.Tree.{Constant, Operator, plus, minus, divide, greater, equal, and, or, Expression, constant, variable, top_variable, class_variable, operation, negation, attribute_read, selector, Arms, no_arm, arm, default_arm, place_of, AttributeField, Statement, assignment, conditional, choice, built_in_resource, defined_resource, class_with_attributes, include, Block, end, next, Branches, no_branch, branch, default_branch, Parameter, Parent, ClassDefinition, Definition, Item, statement, node, definition}
use Rattle.rules.specs.Tree
use Rattle.rules.specs.Bytes.{pick, byte, two, end_of, fields_in}
use Rattle.rules.specs.Format.{form_of, head_size, may_end, bytes_right, names_right}
use Rattle.rules.specs.declared.Form.{Form}
use Rattle.rules.specs.declared.Next.{Next}
use Rattle.rules.specs.declared.Next.TheVariants.{Go, Wrong}
use Rattle.rules.specs.declared.Parts.{Parts}
use Rattle.rules.specs.declared.Rest.{Rest}
use Rattle.rules.specs.declared.Rest.TheVariants.{Only, Text, Fields}
use Rattle.rules.specs.Check.{header, and_then, allowing, walk, rest, body, inside, shape, ascends, text, rising_from, rising, names_known, check}
use Rattle.rules.specs.Patterns.{Patterns}
use Rattle.rules.specs.State.{Scope, top_scope, class_scope, Cells, Entry, State, Context, Known, scopes_tried, is_declared, take_step, cells_for, assign}
use Rattle.rules.specs.Evaluate.{or_else, read_in, read_attribute, integers, booleans, equality, operate, come_to, come_to_all, select, evaluate, arm_patterns}
use Rattle.rules.specs.Run.{store, Given, evaluate_all, named_once, parameters_known, parameter_values, store_all, store_title, add_entry, add_resource, after_test, do_nothing, Declaration, of_type, of_class, included, Declare, run, run_block, branch_patterns, parent_first, enter_class, declaration, run_at_top, top_context, node_context, gather_definitions, run_items}
use Rattle.rules.specs.Types.{Types, the_eight, lent, type_places, field_right, types_right, check_list, check_types}
use Rattle.rules.specs.Compile.{run_manifest, checked, final_state}
use Rattle.rules.proofs.Outcome.{with_steps}
use Rattle.rules.proofs.Patterns.{Every, every_none, every_constant, every_default, chosen_holds}
use Rattle.rules.specs.Verdicts.{Verdict, fault_at, no_fault}

-- of its refusal, if there is one
pub data IfRefused {A : Type 0} (R : Reason → ℕ → Type 0) : Outcome A → Type 0 where
  accepts : {a : A} → IfRefused R (done a)
  refuses : {r : Reason} {p : ℕ} → R r p → IfRefused R (refused r p)

module _ {R : Reason → ℕ → Type 0} where
  pub refusal_bind : {A B : Type 0} {m : Outcome A} {f : A → Outcome B} → IfRefused R m → ((a : A) → IfRefused R (f a)) → IfRefused R (m >>= f)
  unfolding ◌>>=◌
  refusal_bind accepts k = k _
  refusal_bind (refuses h) k = refuses h

  pub refusal_if : (b : Bool) (r : Reason) (p : ℕ) → R r p → IfRefused R (refuse_if b r p)
  unfolding refuse_if
  refusal_if true r p h = refuses h
  refusal_if false r p h = accepts

  pub refusal_missing : {A : Type 0} (o : Option A) (r : Reason) (p : ℕ) → R r p → IfRefused R (or_refuse o r p)
  unfolding or_refuse
  refusal_missing none r p h = refuses h
  refusal_missing (some a) r p h = accepts

  -- a bind of whose first part all is known
  pub refusal_known : {A B : Type 0} (m : Outcome A) {f : A → Outcome B} → ((r : Reason) (p : ℕ) → m ≡ refused r p → R r p) → ((a : A) → m ≡ done a → IfRefused R (f a)) → IfRefused R (m >>= f)
  unfolding ◌>>=◌
  refusal_known (refused r p) h k = refuses (h r p refl)
  refusal_known (done a) h k = k a refl

  -- a refused outcome
  pub refusal_get : {A : Type 0} {m : Outcome A} {r : Reason} {p : ℕ} → IfRefused R m → m ≡ refused r p → R r p
  refusal_get h e = inside (rw e at h)
    where
      inside : {A : Type 0} {r : Reason} {p : ℕ} → IfRefused {A = A} R (refused r p) → R r p
      inside (refuses g) = g

  refusal_either : {A : Type 0} (b : Bool) {m n : Outcome A} → IfRefused R m → IfRefused R n → IfRefused {A = A} R (elim b [ true ↦ m | false ↦ n ])
  refusal_either true h g = h
  refusal_either false h g = g

-- a reason of document 01
abbrev pub Own : Reason → ℕ → Type 0
Own r p = number_of r < 24

-- ---- Values

data OwnResult {A : Type 0} : Result A → Type 0 where
  gave : {a : A} → OwnResult (gives a)
  failed : {r : Reason} → number_of r < 24 → OwnResult (fails r)

own_at : {A : Type 0} (p : ℕ) {m : Result A} → OwnResult m → IfRefused Own (at p m)
unfolding at
own_at p gave = accepts
own_at p (failed h) = refuses h

own_integer : (v : Value) → OwnResult (integer_in v)
unfolding integer_in number_of
own_integer (Integer z) = gave
own_integer (String n) = failed (lit< tt)
own_integer (Boolean b) = failed (lit< tt)

own_string : (v : Value) → OwnResult (string_in v)
unfolding string_in number_of
own_string (Integer z) = failed (lit< tt)
own_string (String n) = gave
own_string (Boolean b) = failed (lit< tt)

own_boolean : (v : Value) → OwnResult (boolean_in v)
unfolding boolean_in number_of
own_boolean (Integer z) = failed (lit< tt)
own_boolean (String n) = failed (lit< tt)
own_boolean (Boolean b) = gave

own_range : (z : ℤ) → OwnResult (in_range z)
unfolding in_range number_of
own_range z = go (fits64 z)
  where
    go : (b : Bool) → OwnResult {A = Value} (elim b [ true ↦ gives (Integer z) | false ↦ fails Overflow ])
    go true = gave
    go false = failed (lit< tt)

own_quotient : (i j : ℤ) → OwnResult (quotient i j)
unfolding quotient number_of
own_quotient i j = go (is_zero j)
  where
    go : (b : Bool) → OwnResult {A = Value} (elim b [ true ↦ fails DivisionByZero | false ↦ in_range (floor_divide i j) ])
    go true = failed (lit< tt)
    go false = own_range (floor_divide i j)

-- ---- Expressions

own_joining : (k : Labels) {m : Outcome Labelled} → IfRefused Own m → IfRefused Own (joining k m)
unfolding joining
own_joining k h = refusal_bind h λ x. accepts

-- an operand, then the rest under its set
own_operand : {m : Outcome Labelled} {f : Labelled → Outcome Labelled} → IfRefused Own m → ((x : Labelled) → IfRefused Own (f x)) → IfRefused Own (m >>= λ x. joining x.labels (f x))
own_operand h k = refusal_bind h λ x. own_joining x.labels (k x)

own_integers : (f : ℤ → ℤ → Result Value) → ((i j : ℤ) → OwnResult (f i j)) → (p l r : ℕ) (x : Value) {right : Outcome Labelled} → IfRefused Own right → IfRefused Own (integers f p l r x right)
unfolding integers
own_integers f g p l r x h = refusal_bind (own_at l (own_integer x)) λ i. own_operand h λ v. refusal_bind (own_at r (own_integer v.value)) λ j. refusal_bind (own_at p (g i j)) λ u. accepts

own_booleans : (d : Bool) (l r : ℕ) (x : Value) {right : Outcome Labelled} → IfRefused Own right → IfRefused Own (booleans d l r x right)
unfolding booleans
own_booleans d l r x h = refusal_bind (own_at l (own_boolean x)) λ i. refusal_either (beq i d) accepts (own_operand h λ v. refusal_bind (own_at r (own_boolean v.value)) λ j. accepts)

own_operate : (o : Operator) (p l r : ℕ) (x : Value) {right : Outcome Labelled} → IfRefused Own right → IfRefused Own (operate o p l r x right)
unfolding operate equality sum difference is_greater
own_operate plus p l r x h = own_integers sum (λ i j. own_range _) p l r x h
own_operate minus p l r x h = own_integers difference (λ i j. own_range _) p l r x h
own_operate divide p l r x h = own_integers quotient own_quotient p l r x h
own_operate greater p l r x h = own_integers is_greater (λ i j. gave) p l r x h
own_operate equal p l r x h = own_operand h λ v. accepts
own_operate and p l r x h = own_booleans false l r x h
own_operate or p l r x h = own_booleans true l r x h

own_else : (o : Option Labelled) {m : Outcome Labelled} → IfRefused Own m → IfRefused Own (or_else o m)
unfolding or_else
own_else none h = h
own_else (some x) h = accepts

own_read : (p : ℕ) (cells : Cells) (n : ℕ) (ss : List Scope) → IfRefused Own (read_in p cells n ss)
unfolding read_in number_of
own_read p cells n [] = refuses (lit< tt)
own_read p cells n (s ∷ ss) = own_joining (cells s n).mark (own_else (cells s n).value (own_read p cells n ss))

own_attribute : (p type title name : ℕ) (es : List Entry) → IfRefused Own (read_attribute p type title name es)
unfolding read_attribute number_of
own_attribute p type title name es = refusal_bind (refusal_missing _ _ _ (lit< tt)) λ e. refusal_bind (refusal_missing _ _ _ (lit< tt)) λ a. accepts

own_come_to : (known : Known) (vs : List Constant) → IfRefused Own (come_to_all known vs)
unfolding come_to_all come_to number_of
own_come_to known [] = accepts
own_come_to known (v ∷ vs) = refusal_bind (refusal_if (known.struck_out v) _ _ (lit< tt)) λ _. own_come_to known vs

own_select : (known : Known) {ps : Patterns (Outcome Labelled)} → Every (IfRefused Own) ps → (p : ℕ) (x : Value) → IfRefused Own (select known ps p x)
unfolding select number_of
own_select known h p x = refusal_bind (own_come_to known _) λ _. own_joining _ (chosen_holds (IfRefused Own) h x (refuses (lit< tt)))

module _ (known : Known) (here : Context) (st : State) where
  mutual
    unfolding evaluate come_to number_of

    own_evaluate : (e : Expression) → IfRefused Own (evaluate known here st e)
    own_evaluate (constant v) = refusal_bind (refusal_if (known.struck_out v) _ _ (lit< tt)) λ _. accepts
    own_evaluate (variable p n) = own_read p st.cells n (scopes_tried here st)
    own_evaluate (top_variable p n) = own_read p st.cells n (top_scope ∷ [])
    own_evaluate (class_variable p class n) = refusal_bind (refusal_if _ _ _ (lit< tt)) λ _. own_read p st.cells n (class_scope class ∷ [])
    own_evaluate (operation p o a b) = own_operand (own_evaluate a) λ x. own_operate o p (place_of a) (place_of b) x.value (own_evaluate b)
    own_evaluate (negation p a) = own_operand (own_evaluate a) λ x. refusal_bind (own_at (place_of a) (own_boolean x.value)) λ b. accepts
    own_evaluate (attribute_read p type name a) = own_operand (own_evaluate a) λ x. refusal_bind (own_at (place_of a) (own_string x.value)) λ title. refusal_bind (refusal_if _ _ _ (lit< tt)) λ _. own_attribute p type title name st.entries
    own_evaluate (selector p a arms) = own_operand (own_evaluate a) λ x. own_select known (own_arms arms) p x.value
    own_evaluate (Expression.unreadable p) = refuses (lit< tt)

    own_arms : (arms : Arms) → Every (IfRefused Own) (arm_patterns known here st arms)
    own_arms no_arm = every_none
    own_arms (arm v a arms) = every_constant (own_evaluate a) (own_arms arms)
    own_arms (default_arm a arms) = every_default (own_evaluate a) (own_arms arms)

  own_given : (ats : List AttributeField) → IfRefused Own (evaluate_all known here st ats)
  unfolding evaluate_all
  own_given [] = accepts
  own_given (a ∷ ats) = refusal_bind (own_evaluate a.expression) λ x. refusal_bind (own_given ats) λ gs. accepts

-- ---- Parameters, resources and the state

own_named_once : (earlier gs : List Given) → IfRefused Own (named_once earlier gs)
unfolding named_once number_of
own_named_once earlier [] = accepts
own_named_once earlier (g ∷ gs) = refusal_bind (refusal_if _ _ _ (lit< tt)) λ _. own_named_once (g ∷ earlier) gs

own_parameters_known : (qs : List Parameter) (gs : List Given) → IfRefused Own (parameters_known qs gs)
unfolding parameters_known number_of
own_parameters_known qs [] = accepts
own_parameters_known qs (g ∷ gs) = refusal_bind (refusal_if _ _ _ (lit< tt)) λ _. own_parameters_known qs gs

own_parameters : (qs : List Parameter) (gs : List Given) → IfRefused Own (parameter_values qs gs)
unfolding parameter_values number_of
own_parameters [] gs = accepts
own_parameters (q ∷ qs) gs = refusal_bind (refusal_missing _ _ _ (lit< tt)) λ x. refusal_bind (own_parameters qs gs) λ vs. accepts

own_store : (here : Context) (p n : ℕ) (x : Labelled) (st : State) → IfRefused Own (store here p n x st)
unfolding store assign cells_for number_of
own_store here p n x st = refusal_bind (refusal_if _ _ _ (lit< tt)) λ _. refusal_bind (refusal_if _ _ _ (lit< tt)) λ _. accepts

own_store_all : (here : Context) (gs : List Given) (st : State) → IfRefused Own (store_all here gs st)
unfolding store_all
own_store_all here [] st = accepts
own_store_all here (g ∷ gs) st = refusal_bind (own_store here g.place g.name g.content st) λ st'. own_store_all here gs st'

own_title : (o : Option ℕ) (here : Context) (p : ℕ) (x : Labelled) (st : State) → IfRefused Own (store_title o here p x st)
unfolding store_title
own_title none here p x st = accepts
own_title (some n) here p x st = own_store here p n x st

own_resource : (known : Known) (p type title : ℕ) (set : Labels) (marks : ℕ → Labels) (gs : List Given) (here : Context) (st : State) → IfRefused Own (add_resource known p type title set marks gs here st)
unfolding add_resource add_entry number_of
own_resource known p type title set marks gs here st = refusal_bind (refusal_if _ _ _ (lit< tt)) λ _. refusal_bind (refusal_if _ _ _ (lit< tt)) λ _. refusal_bind (own_named_once [] gs) λ _. refusal_bind (refusal_if _ _ _ (lit< tt)) λ _. accepts

own_test : (p : ℕ) (here : Context) (names : ℕ → Bool) (declares : Bool) (set : Labels) (st : State) → IfRefused Own (after_test p here names declares set st)
unfolding after_test cells_for number_of
own_test p here names declares set st = refusal_bind (refusal_if _ _ _ (lit< tt)) λ _. accepts

own_step : (p : ℕ) (st : State) → IfRefused Own (take_step p st)
unfolding take_step number_of
own_step p st = go st.steps_left
  where
    go : (n : ℕ) → IfRefused {A = State} Own (elim n [ zero ↦ refused StepLimit p | suc m ↦ done (with_steps m st) ])
    go zero = refuses (lit< tt)
    go (suc m) = accepts

-- ---- Statements, declarations and items

abbrev OwnBelow : Declare → Type 0
OwnBelow declare = (asked : Declaration) (here : Context) (st : State) → IfRefused Own (declare asked here st)

abbrev OwnBranch : (Context → State → Outcome State) → Type 0
OwnBranch f = (here : Context) (st : State) → IfRefused Own (f here st)

own_nothing : OwnBranch do_nothing
unfolding do_nothing
own_nothing here st = accepts

module _ (known : Known) (declare : Declare) (below : OwnBelow declare) where
  mutual
    unfolding run number_of

    own_run : (s : Statement) (here : Context) (st : State) → IfRefused Own (run known declare s here st)
    own_run (assignment p n e) here st = refusal_bind (own_evaluate known here st e) λ x. own_store here p n x st
    own_run (conditional p e a b) here st = refusal_bind (own_evaluate known here st e) λ x. refusal_bind (own_at _ (own_boolean x.value)) λ t. refusal_bind (own_test p here _ _ _ st) λ st'. refusal_either t (own_block a _ st') (own_block b _ st')
    own_run (choice p e bs) here st = refusal_bind (own_evaluate known here st e) λ x. refusal_bind (own_come_to known _) λ _. refusal_bind (own_test p here _ _ _ st) λ st'. chosen_holds OwnBranch (own_branches bs) x.value own_nothing _ st'
    own_run (built_in_resource p type e ats) here st = refusal_bind (own_evaluate known here st e) λ x. refusal_bind (own_at _ (own_string x.value)) λ title. refusal_bind (own_given known here st ats) λ gs. own_resource known p type title _ _ gs here st
    own_run (defined_resource p type e ats) here st = refusal_bind (own_evaluate known here st e) λ x. refusal_bind (own_at _ (own_string x.value)) λ title. refusal_bind (own_given known here st ats) λ gs. below _ here st
    own_run (class_with_attributes p class ats) here st = refusal_bind (own_given known here st ats) λ gs. below _ here st
    own_run (include p class) here st = refusal_either (is_declared class st) accepts (below _ here st)
    own_run (Statement.unreadable p) here st = refuses (lit< tt)

    own_block : (b : Block) (here : Context) (st : State) → IfRefused Own (run_block known declare b here st)
    own_block end here st = accepts
    own_block (next s b) here st = refusal_bind (own_step _ st) λ st₁. refusal_bind (own_run s here st₁) λ st₂. own_block b here st₂

    own_branches : (bs : Branches) → Every OwnBranch (branch_patterns known declare bs)
    own_branches no_branch = every_none
    own_branches (branch v b bs) = every_constant (λ here st. own_block b here st) (own_branches bs)
    own_branches (default_branch b bs) = every_default (λ here st. own_block b here st) (own_branches bs)

  own_parent : (o : Option Parent) (here : Context) (st : State) → IfRefused Own (parent_first known declare o here st)
  unfolding parent_first
  own_parent none here st = accepts
  own_parent (some q) here st = refusal_either (is_declared q.name st) accepts (refusal_bind (own_step _ st) λ st'. below _ here st')

  own_enter : (class : ClassDefinition) (defaults : List Constant) (values : List Given) (here : Context) (st : State) → IfRefused Own (enter_class known declare class defaults values here st)
  unfolding enter_class
  own_enter class defaults values here st = refusal_bind (own_come_to known defaults) λ _. refusal_bind (own_store_all _ values _) λ st'. own_block class.body _ st'

own_declaration : (known : Known) (n : ℕ) → OwnBelow (declaration known n)
unfolding declaration number_of
own_declaration known zero asked here st = refuses (lit< tt)
own_declaration known (suc n) (of_type p name title gs) here st =
    refusal_bind (refusal_missing _ _ _ (lit< tt)) λ type. refusal_bind (own_parameters_known type.parameters gs) λ _. refusal_bind (own_parameters type.parameters gs) λ values. refusal_bind (own_named_once [] gs) λ _.
    refusal_bind (own_title known.title _ p title st) λ st₁. refusal_bind (own_come_to known _) λ _. refusal_bind (own_store_all _ values st₁) λ st₂.
    refusal_bind (own_block known (declaration known n) (own_declaration known n) type.body _ st₂) λ st₃. accepts
own_declaration known (suc n) (of_class p name gs) here st =
    refusal_bind (refusal_missing _ _ _ (lit< tt)) λ class. refusal_bind (refusal_if _ _ _ (lit< tt)) λ _. refusal_bind (own_parameters_known class.parameters gs) λ _. refusal_bind (own_parameters class.parameters gs) λ values. refusal_bind (own_named_once [] gs) λ _.
    refusal_bind (own_parent known (declaration known n) (own_declaration known n) class.parent here st) λ st₁. refusal_bind (refusal_if _ _ _ (lit< tt)) λ _.
    own_enter known (declaration known n) (own_declaration known n) class _ values here st₁
own_declaration known (suc n) (included p name) here st =
    refusal_bind (refusal_missing _ _ _ (lit< tt)) λ class. refusal_bind (own_parameters class.parameters []) λ values.
    refusal_bind (own_parent known (declaration known n) (own_declaration known n) class.parent here st) λ st₁.
    refusal_either (is_declared name st₁) accepts (own_enter known (declaration known n) (own_declaration known n) class _ values here st₁)

own_top : (known : Known) (b : Block) (here : Context) (st : State) → IfRefused Own (run_at_top known b here st)
unfolding run_at_top
own_top known b here st = own_block known (declaration known 17) (own_declaration known 17) b here st

own_items : (known : Known) (items : List Item) (st : State) → IfRefused Own (run_items known items st)
unfolding run_items
own_items known [] st = accepts
own_items known (statement s ∷ items) st = refusal_bind (own_top known (next s end) top_context st) λ st'. own_items known items st'
own_items known (node devices block ∷ items) st = refusal_bind (own_top known block node_context st) λ st'. own_items known items st'
own_items known (definition d ∷ items) st = own_items known items st

own_gathering : (built_in : ℕ → Bool) (earlier : List Definition) (items : List Item) → IfRefused Own (gather_definitions built_in earlier items)
unfolding gather_definitions number_of
own_gathering built_in earlier [] = accepts
own_gathering built_in earlier (statement s ∷ items) = own_gathering built_in earlier items
own_gathering built_in earlier (node devices block ∷ items) = own_gathering built_in earlier items
own_gathering built_in earlier (definition d ∷ items) = refusal_bind (refusal_if _ _ _ (lit< tt)) λ _. own_gathering built_in (d ∷ earlier) items

-- ---- The check before running

data OwnVerdict : Verdict → Type 0 where
  own_sound : OwnVerdict no_fault
  own_fault : {r : Reason} {p : ℕ} → Own r p → OwnVerdict (fault_at r p)

own_pick : (b : Bool) {u v : Verdict} → OwnVerdict u → OwnVerdict v → OwnVerdict (pick b u v)
own_pick true h g = h
own_pick false h g = g

own_then : {u v : Verdict} → OwnVerdict u → OwnVerdict v → OwnVerdict (and_then u v)
own_then own_sound g = g
own_then (own_fault h) g = own_fault h

own_allowing : (n : Next) {f : Parts → Verdict} {v : Verdict} → ((ps : Parts) → OwnVerdict (f ps)) → OwnVerdict v → OwnVerdict (allowing n f v)
own_allowing (Go ps) h g = h ps
own_allowing Wrong h g = g

module _ (m : List ℕ) where
  own_walk : (f : ℕ → Verdict) → ((q : ℕ) → OwnVerdict (f q)) → (p : ℕ) (ps : Parts) (e : ℕ) (qs : List ℕ) → OwnVerdict (walk m f p ps e qs)
  unfolding walk number_of
  own_walk f h p ps e [] = own_pick (may_end ps) own_sound (own_fault (lit< tt))
  own_walk f h p ps e (q ∷ qs) = own_allowing (header m ps q e) (λ ps'. own_then (h q) (own_walk f h p ps' e qs)) (own_fault (lit< tt))

  own_rest : (f : ℕ → Verdict) → ((q : ℕ) → OwnVerdict (f q)) → (p q : ℕ) (r : Rest) → OwnVerdict (rest m f p q r)
  unfolding rest
  own_rest f h p q Only = own_sound
  own_rest f h p q Text = own_sound
  own_rest f h p q (Fields ps) = own_walk f h p ps (end_of m p) (fields_in m q (end_of m p))

  own_inside : (d p : ℕ) → OwnVerdict (inside m d p)
  unfolding inside body number_of
  own_inside zero p = own_fault (lit< tt)
  own_inside (suc d) p =
      let l : Form = form_of (byte m p) in
      own_pick (leb (head_size l) (two m (p + 1)) && bytes_right m p l) (own_rest (inside m d) (λ q. own_inside d q) p (p + 3 + head_size l) l.rest) (own_fault (lit< tt))

  own_rising : (a : ℕ) (ps : List ℕ) → OwnVerdict (rising_from m a ps)
  unfolding rising_from number_of
  own_rising a [] = own_sound
  own_rising a (b ∷ ps) = own_pick (ascends (text m a) (text m b)) (own_rising b ps) (own_fault (lit< tt))

  own_strings : (ps : List ℕ) → OwnVerdict (rising m ps)
  unfolding rising
  own_strings [] = own_sound
  own_strings (a ∷ ps) = own_rising a ps

  own_names : (n : ℕ) (ps : List ℕ) → OwnVerdict (names_known m n ps)
  unfolding names_known number_of
  own_names n [] = own_sound
  own_names n (p ∷ ps) = own_pick (names_right m n p (form_of (byte m p))) (own_names n ps) (own_fault (lit< tt))

  own_check : OwnVerdict (check m)
  unfolding check shape
  own_check = own_then (own_walk (inside m 32) (own_inside 32) 0 _ (length m) _) (own_then (own_strings _) (own_names _ _))

own_checked : {v : Verdict} → OwnVerdict v → IfRefused Own (checked v)
unfolding checked
own_checked own_sound = accepts
own_checked (own_fault h) = refuses h

-- ---- The list of types

data OfList : Verdict → Type 0 where
  list_sound : OfList no_fault
  list_fault : {p : ℕ} → OfList (fault_at TypeList p)

of_pick : (b : Bool) (p : ℕ) {v : Verdict} → OfList v → OfList (pick b v (fault_at TypeList p))
of_pick true p h = h
of_pick false p h = list_fault

of_fields : (list : List ℕ) (more : ℕ) (before ps : List ℕ) → OfList (types_right list more before ps)
unfolding types_right
of_fields list more before [] = list_sound
of_fields list zero before (q ∷ qs) = list_fault
of_fields list (suc more) before (q ∷ qs) = of_pick (field_right list before q) q (of_fields list more (text list q) qs)

of_list : (types : Types) → OfList (check_types types)
unfolding check_types check_list
of_list the_eight = list_sound
of_list (lent []) = list_fault
of_list (lent (b ∷ bs)) = of_fields (b ∷ bs) 64 [] (type_places (b ∷ bs))

-- a refusal of a compile: one of document 01's, or 28 where the list lent is at fault there
pub data OfCompile (types : Types) (r : Reason) (p : ℕ) : Type 0 where
  of_paper : number_of r < 24 → OfCompile types r p
  of_types : r ≡ TypeList → check_types types ≡ fault_at TypeList p → OfCompile types r p

of_paper_lem : {A : Type 0} (types : Types) {o : Outcome A} → IfRefused Own o → IfRefused (OfCompile types) o
of_paper_lem types accepts = accepts
of_paper_lem types (refuses h) = refuses (of_paper h)

of_types_lem : (types : Types) {v : Verdict} → check_types types ≡ v → OfList v → IfRefused (OfCompile types) (checked v)
unfolding checked
of_types_lem types e list_sound = accepts
of_types_lem types e list_fault = refuses (of_types refl e)

-- THE LAW: every refusal of a compile is one of document 01's, or 28
pub own_refusals : (types : Types) (m device : List ℕ) (limit output memory : ℕ) → IfRefused (OfCompile types) (final_state types m device limit output memory)
unfolding final_state run_manifest number_of
own_refusals types m device limit output memory = refusal_bind (refusal_if _ _ _ (of_paper (lit< tt))) λ _. refusal_bind (of_types_lem types refl (of_list types)) λ _. of_paper_lem types
    (refusal_bind (refusal_if _ _ _ (lit< tt)) λ _. refusal_bind (own_checked (own_check m)) λ _. refusal_bind (own_gathering _ _ _) λ _. own_items _ _ _)
