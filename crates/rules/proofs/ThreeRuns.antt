-- Three runs of the same items that know different things: in the third a constant is struck out only where it is in one of the others, and what both of these
-- find among their definitions it finds too. A run refuses at the first constant that is struck out and at the first name that is not found, and all else in it is the
-- same. So where neither of the first two is refused, all three end alike.
use Prim.Native.Nat.{ℕ, zero, suc}
use mathlib.Core.Path.{◌≡◌, refl, ap, ap₂}
use mathlib.Core.Bool.{Bool, true, false, ◌||◌, not, false≢true}
use mathlib.Core.List.{List, [], ◌∷◌}
use mathlib.Core.Option.{Option, none, some}
use lib.Dec.{eqb}
use lib.IntN.{ℤ}
use Rattle.labels.specs.declared.Labels.{Labels}
use Rattle.labels.specs.Sets.{no_labels, ◌∪◌}
use Rattle.values.specs.declared.Value.{Value}
use Rattle.values.specs.declared.Value.TheVariants.{Integer, String, Boolean}
use Rattle.values.specs.declared.Labelled.{Labelled}
use Rattle.values.specs.declared.Reason.{Reason}
use Rattle.values.specs.declared.Reason.TheVariants.{Unknown, NoMatch}
use Rattle.rules.specs.Arithmetic.{same_value, boolean_in, sum, difference, quotient, is_greater}
use Rattle.rules.specs.Outcome.{Outcome, refused, done, ◌>>=◌, refuse_if, or_refuse, Result, at, joining}
use Rattle.rules.specs.Tree.{Constant, Operator, plus, minus, divide, greater, equal, and, or, Expression, constant, variable, top_variable, class_variable, operation, negation, attribute_read, selector, Arms, no_arm, arm, default_arm, AttributeField, Statement, assignment, conditional, choice, built_in_resource, defined_resource, class_with_attributes, include, Block, end, next, Branches, no_branch, branch, default_branch, Parent, ClassDefinition, Definition, Item, statement, node, definition, Manifest}
use Rattle.rules.specs.Tree
use Rattle.rules.specs.Patterns.{Patterns, first_equal, first_default, chosen, tried, labels_of, tried_labels}
use Rattle.rules.specs.State.{State, Context, Known, is_declared, is_some}
use Rattle.rules.specs.Evaluate.{find_type, find_class, is_type, is_class, integers, booleans, equality, operate, come_to, come_to_all, select, evaluate, arm_patterns, is_boolean, skips_right, marks_read, arm_marks}
use Rattle.rules.specs.Run.{Given, evaluate_all, marks_for, add_resource, after_test, with_path_and_trail, in_branch, do_nothing, assigns_any, declares_any, Declaration, of_type, of_class, included, Declare, run, run_block, branch_patterns, parent_first, enter_class, declaration, run_at_top, top_context, node_context, gather_definitions, run_items}
use Rattle.rules.specs.Types.{Types}
use Rattle.rules.specs.Compile.{string_number, title_text, is_built_in, known_with, items_for, start, run_manifest}

-- ---- Three that agree

pub record Agree {A : Type 0} (a b c : A) : Type 0 where
  pub first : a ≡ c
  pub second : b ≡ c

module _ {A : Type 0} where
  pub agreeing : {a : A} → Agree a a a
  agreeing = record { first = refl; second = refl }

  agree_in : {a b c : A} (P : A → A → A → Type 0) → Agree a b c → P c c c → P a b c
  agree_in P h p = rw (h.first, h.second) p

agree_by : {A B : Type 0} (f : A → B) {a b c : A} → Agree a b c → Agree (f a) (f b) (f c)
agree_by f h = record { first = ap f h.first; second = ap f h.second }

agree_union : {a b c a' b' c' : Labels} → Agree a b c → Agree a' b' c' → Agree (a ∪ a') (b ∪ b') (c ∪ c')
agree_union h g = record { first = ap₂ ◌∪◌ h.first g.first; second = ap₂ ◌∪◌ h.second g.second }

agree_each : {A : Type 0} {f g h : ℕ → A} → ((n : ℕ) → Agree (f n) (g n) (h n)) → Agree f g h
agree_each k = record { first = λ i n. (k n).first i; second = λ i n. (k n).second i }

agree_if : {A : Type 0} (t : Bool) {a b c a' b' c' : A} → Agree a b c → Agree a' b' c' → Agree {A = A} (elim t [ true ↦ a | false ↦ a' ]) (elim t [ true ↦ b | false ↦ b' ]) (elim t [ true ↦ c | false ↦ c' ])
agree_if true h g = h
agree_if false h g = g

-- ---- Three outcomes

-- one of the first two is refused, or all three are done with one result; then P holds besides
pub data Three {A : Type 0} (P : Type 0) : Outcome A → Outcome A → Outcome A → Type 0 where
  first_refused : {r : Reason} {p : ℕ} {n o : Outcome A} → Three P (refused r p) n o
  second_refused : {r : Reason} {p : ℕ} {m o : Outcome A} → Three P m (refused r p) o
  three_done : {a : A} → P → Three P (done a) (done a) (done a)

abbrev pub Alike : {A : Type 0} → Outcome A → Outcome A → Outcome A → Type 0
Alike m n o = Three (Unit {0}) m n o

pub three_map : {A : Type 0} {P Q : Type 0} {m n o : Outcome A} → Three P m n o → (P → Q) → Three Q m n o
three_map first_refused k = first_refused
three_map second_refused k = second_refused
three_map (three_done p) k = three_done (k p)

-- one outcome, three times
pub three_one : {A : Type 0} {P : Type 0} → P → (m : Outcome A) → Three P m m m
three_one p (refused r q) = first_refused
three_one p (done a) = three_done p

pub alike : {A : Type 0} (m : Outcome A) → Alike m m m
alike m = three_one tt m

module _ {A B : Type 0} where
  -- what is to hold besides may speak of the first parts: it is shown where they are done
  pub three_bind_of : {P : Type 0} (Q : Outcome A → Outcome A → Outcome A → Type 0) {m n o : Outcome A} {f g h : A → Outcome B} → Three P m n o → ((a : A) → P → Three (Q (done a) (done a) (done a)) (f a) (g a) (h a)) → Three (Q m n o) (m >>= f) (n >>= g) (o >>= h)
  unfolding ◌>>=◌
  three_bind_of Q first_refused k = first_refused
  three_bind_of Q second_refused k = second_refused
  three_bind_of Q (three_done p) k = k _ p

  pub three_bind : {P Q : Type 0} {m n o : Outcome A} {f g h : A → Outcome B} → Three P m n o → ((a : A) → P → Three Q (f a) (g a) (h a)) → Three Q (m >>= f) (n >>= g) (o >>= h)
  three_bind {Q} t k = three_bind_of (λ _ _ _. Q) t k

  -- a first part that is the same in all three
  pub three_any : {Q : Type 0} (m : Outcome A) {f g h : A → Outcome B} → ((a : A) → Three Q (f a) (g a) (h a)) → Three Q (m >>= f) (m >>= g) (m >>= h)
  three_any m k = three_bind (alike m) λ a _. k a

pub three_if : {A : Type 0} {P : Type 0} (b : Bool) {m n o m' n' o' : Outcome A} → Three P m n o → Three P m' n' o' → Three {A = A} P (elim b [ true ↦ m | false ↦ m' ]) (elim b [ true ↦ n | false ↦ n' ]) (elim b [ true ↦ o | false ↦ o' ])
three_if true h g = h
three_if false h g = g

-- the same test for the outcomes and for what agrees besides
one_of : {A B : Type 0} (t : Bool) {a b c a' b' c' : B} {m n o m' n' o' : Outcome A} → Three (Agree a b c) m n o → Three (Agree a' b' c') m' n' o'
    → Three {A = A} (Agree {A = B} (elim t [ true ↦ a | false ↦ a' ]) (elim t [ true ↦ b | false ↦ b' ]) (elim t [ true ↦ c | false ↦ c' ])) (elim t [ true ↦ m | false ↦ m' ]) (elim t [ true ↦ n | false ↦ n' ]) (elim t [ true ↦ o | false ↦ o' ])
one_of true h g = h
one_of false h g = g

three_join : {P : Type 0} (k : Labels) {m n o : Outcome Labelled} → Three P m n o → Three P (joining k m) (joining k n) (joining k o)
unfolding joining
three_join k t = three_bind t λ x p. three_done p

-- three checks: the third test holds only where one of the others does
check_three : (s t u : Bool) (r : Reason) (p : ℕ) → (u ≡ true → (s || t) ≡ true) → Alike (refuse_if s r p) (refuse_if t r p) (refuse_if u r p)
unfolding refuse_if
check_three true t u r p h = first_refused
check_three false true u r p h = second_refused
check_three false false true r p h = absurd (false≢true (h refl))
check_three false false false r p h = three_done tt

-- ---- Operators

abbrev unless : Bool → Labels → Labels
unless skips marks = elim skips [ true ↦ no_labels | false ↦ marks ]

-- what the three give as right operand, with the marks that it reads
module _ {a b c : Labels} {m n o : Outcome Labelled} (right : Three (Agree a b c) m n o) where
  integers_three : (f : ℤ → ℤ → Result Value) (p l r : ℕ) (x : Value) → Three (Agree a b c) (integers f p l r x m) (integers f p l r x n) (integers f p l r x o)
  unfolding integers
  integers_three f p l r x = three_any _ λ i. three_bind right λ y h. three_one h _

  equality_three : (x : Value) → Three (Agree a b c) (equality x m) (equality x n) (equality x o)
  unfolding equality
  equality_three x = three_bind right λ y h. three_one h _

  -- where the left operand decides, it does so in all three
  booleans_three : (decides : Bool) (l r : ℕ) (x : Value) → let skips : Bool = same_value (Boolean decides) x in Three (Agree (unless skips a) (unless skips b) (unless skips c)) (booleans decides l r x m) (booleans decides l r x n) (booleans decides l r x o)
  unfolding booleans boolean_in at same_value ◌>>=◌
  booleans_three decides l r (Integer z) = first_refused
  booleans_three decides l r (String s) = first_refused
  booleans_three true l r (Boolean true) = three_done agreeing
  booleans_three true l r (Boolean false) = three_bind right λ y h. three_one h _
  booleans_three false l r (Boolean true) = three_bind right λ y h. three_one h _
  booleans_three false l r (Boolean false) = three_done agreeing

  operate_three : (operator : Operator) (p l r : ℕ) (x : Labelled) → let skips : Bool = skips_right operator (done x) in Three (Agree (unless skips a) (unless skips b) (unless skips c)) (operate operator p l r x.value m) (operate operator p l r x.value n) (operate operator p l r x.value o)
  unfolding operate skips_right is_boolean
  operate_three plus p l r x = integers_three sum p l r x.value
  operate_three minus p l r x = integers_three difference p l r x.value
  operate_three divide p l r x = integers_three quotient p l r x.value
  operate_three greater p l r x = integers_three is_greater p l r x.value
  operate_three equal p l r x = equality_three x.value
  operate_three and p l r x = booleans_three false l r x.value
  operate_three or p l r x = booleans_three true l r x.value

-- ---- What the three know

-- what may differ between them
pub record Variant : Type 0 where
  pub definitions : List Definition
  pub struck_out : Constant → Bool

-- what both of the first two find, all three find
pub data Find {A : Type 0} : Option A → Option A → Option A → Type 0 where
  first_lacks : {o o' : Option A} → Find none o o'
  second_lacks : {o o' : Option A} → Find o none o'
  all_find : {a : A} → Find (some a) (some a) (some a)

pub find_same : {A : Type 0} (o : Option A) → Find o o o
find_same none = first_lacks
find_same (some a) = all_find

pub record Between (S T U : Variant) : Type 0 where
  pub struck : (v : Constant) → U.struck_out v ≡ true → (S.struck_out v || T.struck_out v) ≡ true
  pub types : (n : ℕ) → Find (find_type n S.definitions) (find_type n T.definitions) (find_type n U.definitions)
  pub classes : (n : ℕ) → Find (find_class n S.definitions) (find_class n T.definitions) (find_class n U.definitions)

module _ {A : Type 0} {o o' o'' : Option A} (found : Find o o' o'') (r : Reason) (p : ℕ) where
  or_refuse_three : Alike (or_refuse o r p) (or_refuse o' r p) (or_refuse o'' r p)
  unfolding or_refuse
  or_refuse_three = go found
    where
      go : {x y z : Option A} → Find x y z → Alike (or_refuse x r p) (or_refuse y r p) (or_refuse z r p)
      go first_lacks = first_refused
      go second_lacks = second_refused
      go all_find = three_done tt

  -- a name that is known without them, or that they find
  known_three : (known : Bool) → Alike (refuse_if (not (known || is_some o)) r p) (refuse_if (not (known || is_some o')) r p) (refuse_if (not (known || is_some o'')) r p)
  unfolding refuse_if is_some
  known_three true = three_done tt
  known_three false = go found
    where
      go : {x y z : Option A} → Find x y z → Alike (refuse_if (not (is_some x)) r p) (refuse_if (not (is_some y)) r p) (refuse_if (not (is_some z)) r p)
      go first_lacks = first_refused
      go second_lacks = second_refused
      go all_find = three_done tt

-- the patterns tried, one before the others
abbrev tried_first : Constant → Value → List Constant → List Constant
tried_first v x vs = v ∷ elim (same_value x v.value) [ true ↦ [] | false ↦ vs ]

module _ (built_in : ℕ → Bool) (title : Option ℕ) (S T U : Variant) (between : Between S T U) where
  abbrev pub knowing : Variant → Known
  knowing W = record { built_in = built_in; title = title; definitions = W.definitions; struck_out = W.struck_out }

  -- a run as a function of what differs, for the three
  abbrev Runs : {A : Type 0} → (P : Type 0) → (Variant → Outcome A) → Type 0
  Runs P f = Three P (f S) (f T) (f U)

  abbrev pub AlikeRuns : {A : Type 0} → (Variant → Outcome A) → Type 0
  AlikeRuns f = Alike (f S) (f T) (f U)

  abbrev Agreeing : {A : Type 0} → (Variant → A) → Type 0
  Agreeing f = Agree (f S) (f T) (f U)

  module _ where
    comes : (v : Constant) → AlikeRuns λ W. come_to (knowing W) v
    unfolding come_to
    comes v = check_three (S.struck_out v) (T.struck_out v) (U.struck_out v) _ _ (between.struck v)

    comes_all : (vs : List Constant) → AlikeRuns λ W. come_to_all (knowing W) vs
    unfolding come_to_all
    comes_all [] = three_done tt
    comes_all (v ∷ vs) = three_bind (comes v) λ _ _. comes_all vs

    -- patterns that were tried, then what goes on with their set
    tried_then : {B : Type 0} {Q : Type 0} (vs : Variant → List Constant) (f : Variant → Labels → Outcome B) → Agreeing vs → ((l : Labels) → Runs Q λ W. f W l)
        → Runs Q λ W. come_to_all (knowing W) (vs W) >>= λ _. f W (labels_of (vs W))
    tried_then {B} {Q} vs f e t =
        agree_in (λ s t u. Three {A = B} Q (come_to_all (knowing S) s >>= λ _. f S (labels_of s)) (come_to_all (knowing T) t >>= λ _. f T (labels_of t)) (come_to_all (knowing U) u >>= λ _. f U (labels_of u))) e
        (three_bind (comes_all (vs U)) λ _ _. t (labels_of (vs U)))

  -- ---- Expressions

  module _ (c : Context) (st : State) where
    abbrev arms : Variant → Arms → Patterns (Outcome Labelled)
    arms W s = arm_patterns (knowing W) c st s

    abbrev marks : Variant → Expression → Labels
    marks W e = marks_read (knowing W) c st e

    abbrev marks_of_arms : Variant → Arms → Patterns Labels
    marks_of_arms W s = arm_marks (knowing W) c st s

    abbrev chosen_marks : Variant → Arms → Outcome Labelled → Labels
    chosen_marks W s scrutinee = elim scrutinee [ refused r q ↦ no_labels | done x ↦ chosen (marks_of_arms W s) x.value no_labels ]

    -- the patterns tried are the same, whatever is struck out
    arms_tried : (s : Arms) (x : Value) → Agreeing λ W. tried (arms W s) x
    unfolding arm_patterns tried
    arms_tried no_arm x = agreeing
    arms_tried (arm v a s) x = agree_by (tried_first v x) (arms_tried s x)
    arms_tried (default_arm a s) x = arms_tried s x

    select_three : {P : Type 0} (s : Arms) (p : ℕ) (x : Value) → Runs P (λ W. chosen (arms W s) x (refused NoMatch p)) → Runs P λ W. select (knowing W) (arms W s) p x
    unfolding select tried_labels
    select_three s p x t = tried_then (λ W. tried (arms W s) x) (λ W l. joining l (chosen (arms W s) x (refused NoMatch p))) (arms_tried s x) λ l. three_join l t

    mutual
      unfolding evaluate arm_patterns marks_read arm_marks first_equal first_default chosen is_class is_type

      -- where the three are done, they read the same marks
      evaluate_three : (e : Expression) → Runs (Agreeing λ W. marks W e) λ W. evaluate (knowing W) c st e
      evaluate_three (constant v) = three_bind (comes v) λ _ _. three_done agreeing
      evaluate_three (variable p n) = three_one agreeing _
      evaluate_three (top_variable p n) = three_one agreeing _
      evaluate_three (class_variable p q n) = three_bind (known_three (between.classes q) Unknown p false) λ _ _. three_one agreeing _
      evaluate_three (operation p operator a b) =
          three_bind_of (λ l m n. Agree (marks S a ∪ unless (skips_right operator l) (marks S b)) (marks T a ∪ unless (skips_right operator m) (marks T b)) (marks U a ∪ unless (skips_right operator n) (marks U b)))
          (evaluate_three a) λ x h. three_join _ (three_map (operate_three (evaluate_three b) operator p _ _ x) (agree_union h))
      evaluate_three (negation p a) = three_bind (evaluate_three a) λ x h. three_one h _
      evaluate_three (attribute_read p t n a) = three_bind (evaluate_three a) λ x h. three_join _ (three_any _ λ title. three_bind (known_three (between.types t) Unknown p (built_in t)) λ _ _. three_one h _)
      evaluate_three (selector p a s) =
          three_bind_of (λ l m n. Agree (marks S a ∪ chosen_marks S s l) (marks T a ∪ chosen_marks T s m) (marks U a ∪ chosen_marks U s n))
          (evaluate_three a) λ x h. three_join _ (three_map (select_three s p x.value (equal_arm s x.value (default_arm_lem s p))) (agree_union h))
      evaluate_three (Expression.unreadable p) = first_refused

      default_arm_lem : (s : Arms) (p : ℕ) → Runs (Agreeing λ W. first_default (marks_of_arms W s) no_labels) λ W. first_default (arms W s) (refused NoMatch p)
      default_arm_lem no_arm p = first_refused
      default_arm_lem (arm v a s) p = default_arm_lem s p
      default_arm_lem (default_arm a s) p = evaluate_three a

      equal_arm : (s : Arms) (x : Value) {a b c : Labels} {m n o : Outcome Labelled} → Three (Agree a b c) m n o
          → Three (Agree (first_equal (marks_of_arms S s) x a) (first_equal (marks_of_arms T s) x b) (first_equal (marks_of_arms U s) x c)) (first_equal (arms S s) x m) (first_equal (arms T s) x n) (first_equal (arms U s) x o)
      equal_arm no_arm x t = t
      equal_arm (arm v a s) x t = one_of (same_value x v.value) (evaluate_three a) (equal_arm s x t)
      equal_arm (default_arm a s) x t = equal_arm s x t

    evaluate_all_three : (fs : List AttributeField) → Runs ((n : ℕ) → Agreeing λ W. marks_for (knowing W) c st fs n) λ W. evaluate_all (knowing W) c st fs
    unfolding evaluate_all marks_for
    evaluate_all_three [] = three_done λ n. agreeing
    evaluate_all_three (f ∷ fs) = three_bind (evaluate_three f.expression) λ x h. three_bind (evaluate_all_three fs) λ gs g. three_done λ n. agree_if (eqb f.name n) h (g n)

  -- ---- Statements

  add_three : (p type title : ℕ) (set : Labels) (reads : Variant → ℕ → Labels) (gs : List Given) (c : Context) (st : State) → Agreeing reads → AlikeRuns λ W. add_resource (knowing W) p type title set (reads W) gs c st
  unfolding add_resource
  add_three p type title set reads gs c st h =
      agree_in (λ s t u. Alike {A = State} (add_resource (knowing S) p type title set s gs c st) (add_resource (knowing T) p type title set t gs c st) (add_resource (knowing U) p type title set u gs c st)) h (alike _)

  -- what is asked of a declaration one level below
  pub record Below (declare : Variant → Declare) : Type 0 where
    pub runs : (d : Declaration) (c : Context) (st : State) → AlikeRuns λ W. declare W d c st

  module _ (declare : Variant → Declare) (below : Below declare) where
    abbrev branches_of : Variant → Branches → Patterns (Context → State → Outcome State)
    branches_of W bs = branch_patterns (knowing W) (declare W) bs

    branches_tried : (bs : Branches) (x : Value) → Agreeing λ W. tried (branches_of W bs) x
    unfolding branch_patterns tried
    branches_tried no_branch x = agreeing
    branches_tried (branch v b bs) x = agree_by (tried_first v x) (branches_tried bs x)
    branches_tried (default_branch b bs) x = branches_tried bs x

    branch_if : (t : Bool) (f g : Variant → Context → State → Outcome State) (c : Context) (st : State) → AlikeRuns (λ W. f W c st) → AlikeRuns (λ W. g W c st) → AlikeRuns λ W. (elim t as (λ _. Context → State → Outcome State) [ true ↦ f W | false ↦ g W ]) c st
    branch_if true f g c st h h' = h
    branch_if false f g c st h h' = h'

    mutual
      unfolding run run_block branch_patterns first_equal first_default chosen do_nothing tried_labels

      run_three : (s : Statement) (c : Context) (st : State) → AlikeRuns λ W. run (knowing W) (declare W) s c st
      run_three (assignment p n e) c st = three_bind (evaluate_three c st e) λ x _. alike _
      run_three (conditional p e a b) c st = three_bind (evaluate_three c st e) λ x _. three_any _ λ t. three_any _ λ st'. three_if t (block_three a _ st') (block_three b _ st')
      run_three (choice p e bs) c st = three_bind (evaluate_three c st e) λ x _.
          tried_then (λ W. tried (branches_of W bs) x.value)
          (λ W l. let set : Labels = with_path_and_trail c st (x.labels ∪ l) in after_test p c (assigns_any bs) (declares_any bs) set st >>= λ st'. chosen (branches_of W bs) x.value do_nothing (in_branch set c) st')
          (branches_tried bs x.value)
          λ l. three_any _ λ st'. equal_branch bs x.value (λ W. first_default (branches_of W bs) do_nothing) _ st' (default_branch_lem bs _ st')
      run_three (built_in_resource p t e fs) c st = three_bind (evaluate_three c st e) λ x _. three_any _ λ m. three_bind (evaluate_all_three c st fs) λ gs h. add_three p t m x.labels (λ W. marks_for (knowing W) c st fs) gs c st (agree_each h)
      run_three (defined_resource p t e fs) c st = three_bind (evaluate_three c st e) λ x _. three_any _ λ m. three_bind (evaluate_all_three c st fs) λ gs _. below.runs (of_type p t x gs) c st
      run_three (class_with_attributes p q fs) c st = three_bind (evaluate_all_three c st fs) λ gs _. below.runs (of_class p q gs) c st
      run_three (include p q) c st = three_if (is_declared q st) (three_done tt) (below.runs (included p q) c st)
      run_three (Statement.unreadable p) c st = first_refused

      block_three : (b : Block) (c : Context) (st : State) → AlikeRuns λ W. run_block (knowing W) (declare W) b c st
      block_three end c st = three_done tt
      block_three (next s b) c st = three_any _ λ st₁. three_bind (run_three s c st₁) λ st₂ _. block_three b c st₂

      default_branch_lem : (bs : Branches) (c : Context) (st : State) → AlikeRuns λ W. first_default (branches_of W bs) do_nothing c st
      default_branch_lem no_branch c st = three_done tt
      default_branch_lem (branch v b bs) c st = default_branch_lem bs c st
      default_branch_lem (default_branch b bs) c st = block_three b c st

      equal_branch : (bs : Branches) (x : Value) (otherwise : Variant → Context → State → Outcome State) (c : Context) (st : State) → AlikeRuns (λ W. otherwise W c st) → AlikeRuns λ W. first_equal (branches_of W bs) x (otherwise W) c st
      equal_branch no_branch x otherwise c st t = t
      equal_branch (branch v b bs) x otherwise c st t = branch_if (same_value x v.value) (λ W here st'. run_block (knowing W) (declare W) b here st') (λ W. first_equal (branches_of W bs) x (otherwise W)) c st (block_three b c st) (equal_branch bs x otherwise c st t)
      equal_branch (default_branch b bs) x otherwise c st t = equal_branch bs x otherwise c st t

    -- ---- Declarations

    parent_three : (o : Option Parent) (c : Context) (st : State) → AlikeRuns λ W. parent_first (knowing W) (declare W) o c st
    unfolding parent_first
    parent_three none c st = three_done tt
    parent_three (some q) c st = three_if (is_declared q.name st) (three_done tt) (three_any _ λ st'. below.runs (included q.place q.name) c st')

    enter_three : (d : ClassDefinition) (vs : List Constant) (gs : List Given) (c : Context) (st : State) → AlikeRuns λ W. enter_class (knowing W) (declare W) d vs gs c st
    unfolding enter_class
    enter_three d vs gs c st = three_bind (comes_all vs) λ _ _. three_any _ λ st'. block_three d.body _ st'

  -- a level, given the one below it
  level_three : (n : ℕ) → Below (λ W. declaration (knowing W) n) → (d : Declaration) (c : Context) (st : State) → AlikeRuns λ W. declaration (knowing W) (suc n) d c st
  unfolding declaration
  level_three n below (of_type p t x gs) c st =
      three_bind (or_refuse_three (between.types t) Unknown p) λ d _. three_any _ λ _. three_any _ λ vs. three_any _ λ _. three_any _ λ st₁. three_bind (comes_all _) λ _ _. three_any _ λ st₂.
      three_bind (block_three (λ W. declaration (knowing W) n) below d.body _ st₂) λ st₃ _. three_done tt
  level_three n below (of_class p q gs) c st =
      three_bind (or_refuse_three (between.classes q) Unknown p) λ d _. three_any _ λ _. three_any _ λ _. three_any _ λ vs. three_any _ λ _. three_bind (parent_three (λ W. declaration (knowing W) n) below d.parent c st) λ st₁ _.
      three_any _ λ _. enter_three (λ W. declaration (knowing W) n) below d _ vs c st₁
  level_three n below (included p q) c st =
      three_bind (or_refuse_three (between.classes q) Unknown p) λ d _. three_any _ λ vs. three_bind (parent_three (λ W. declaration (knowing W) n) below d.parent c st) λ st₁ _.
      three_if (is_declared q st₁) (three_done tt) (enter_three (λ W. declaration (knowing W) n) below d _ vs c st₁)

  declaration_three : (n : ℕ) → Below (λ W. declaration (knowing W) n)
  unfolding declaration
  declaration_three zero = record { runs = λ d c st. first_refused }
  declaration_three (suc n) = record { runs = λ d c st. level_three n (declaration_three n) d c st }

  -- ---- Items

  pub top_three : (b : Block) (c : Context) (st : State) → AlikeRuns λ W. run_at_top (knowing W) b c st
  unfolding run_at_top
  top_three b c st = block_three (λ W. declaration (knowing W) 17) (declaration_three 17) b c st

  pub items_three : (is : List Item) (st : State) → AlikeRuns λ W. run_items (knowing W) is st
  unfolding run_items
  items_three [] st = three_done tt
  items_three (statement s ∷ is) st = three_bind (top_three (next s end) top_context st) λ st' _. items_three is st'
  items_three (node devices b ∷ is) st = three_bind (top_three b node_context st) λ st' _. items_three is st'
  items_three (definition d ∷ is) st = items_three is st

-- three compiles of one manifest: one of the first two is refused, or all end in one state
pub three_runs : (S T U : Constant → Bool) → ((v : Constant) → U v ≡ true → (S v || T v) ≡ true) → (types : Types) (manifest : Manifest) (device : List ℕ) (limit output : ℕ) → Alike (run_manifest S types manifest device limit output) (run_manifest T types manifest device limit output) (run_manifest U types manifest device limit output)
unfolding run_manifest known_with
three_runs S T U within types manifest device limit output = three_any (gather_definitions (is_built_in types manifest.strings) [] manifest.items) λ ds.
    items_three (is_built_in types manifest.strings) (string_number title_text manifest.strings 0) (record { definitions = ds; struck_out = S }) (record { definitions = ds; struck_out = T }) (record { definitions = ds; struck_out = U })
    (record { struck = within; types = λ n. find_same (find_type n ds); classes = λ n. find_same (find_class n ds) })
    (items_for manifest.strings device manifest.items) (start limit output)
