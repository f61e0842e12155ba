-- What evaluation gives: the value of an expression is in its range if those of its constants, of the
-- cells and of the catalog are. The ranges stand under the premise `Given` (see Fits.antt). Assumes nothing.
use mathlib.Core.Path.{◌≡◌, refl}
use mathlib.Core.Bool.{Bool, true, false, beq}
use mathlib.Core.List.{List, [], ◌∷◌}
use mathlib.Core.Option.{Option}
use Prim.Native.Nat.{ℕ, ◌<◌}
use lib.IntN.{ℤ, ◌+ℤ◌, ◌-ℤ◌}
use Rattle.labels.specs.declared.Labels.{Labels}
use Rattle.labels.specs.Sets.{Words64}
use Rattle.labels.proofs.Laws.{words_none, words_one, words_union}
use Rattle.values.specs.declared.Value.{Value}
use Rattle.values.specs.declared.Value.TheVariants.{Integer, String, Boolean}
use Rattle.values.specs.declared.Labelled.{Labelled}
use Rattle.values.specs.declared.Reason.TheVariants.{Overflow, DivisionByZero}
use Rattle.rules.specs.Outcome.{Outcome, Result, fails, gives, at, plain, joining, ◌>>=◌}
use Rattle.rules.specs.Arithmetic.{integer_in, string_in, boolean_in, fits64, in_range, is_zero, floor_divide, sum, difference, quotient, is_greater}
use Rattle.rules.specs.Tree.{Constant, Operator, plus, minus, divide, greater, equal, and, or, Expression, Arms, place_of}
use Rattle.rules.specs.State.{Scope, top_scope, class_scope, Cell, Cells, Entry, State, Context, Known, scopes_tried}
use Rattle.rules.specs.Evaluate.{is_entry, is_attribute, or_else, read_in, read_attribute, integers, booleans, equality, operate, of_constant, select, evaluate, arm_patterns}
use Rattle.rules.proofs.Lists.{Perhaps, not_there, there, Each, found, each_under}
use Rattle.rules.proofs.Outcome.{All, all_refused, all_done, all_bind, all_any, all_if, all_found, Gives, gives_none, gives_one, all_at}
use Rattle.rules.proofs.ReadBack.{FitsValue, fits_integer, fits_string, fits_boolean, FitsLabelled, FitsEntry}
use Rattle.rules.specs.Patterns.{Patterns}
use Rattle.rules.proofs.Patterns.{Every, every_none, every_constant, every_default, chosen_holds, tried_labels_fit}
use Rattle.rules.proofs.Fits.{FitsConstant, FitsExpression, fits_constant, fits_variable, fits_top_variable, fits_class_variable, fits_operation, fits_negation, fits_attribute_read, fits_selector, fits_unreadable, FitsArms, fits_no_arm, fits_arm, fits_default_arm}

-- ---- Operations on values

range_fits : (z : ℤ) → Gives FitsValue (in_range z)
unfolding in_range
range_fits z = go (fits64 z) refl
  where
    go : (b : Bool) → fits64 z ≡ b → Gives FitsValue (elim b [ true ↦ gives (Integer z) | false ↦ fails Overflow ])
    go true e = gives_one (fits_integer e)
    go false e = gives_none

quotient_fits : (i j : ℤ) → Gives FitsValue (quotient i j)
unfolding quotient
quotient_fits i j = go (is_zero j)
  where
    go : (b : Bool) → Gives FitsValue (elim b [ true ↦ fails DivisionByZero | false ↦ in_range (floor_divide i j) ])
    go true = gives_none
    go false = range_fits (floor_divide i j)

module _ (Given : Type 0) where
  -- a value with its labels, in its range
  abbrev pub Ranged : Labelled → Type 0
  Ranged x = Given → FitsLabelled x

  -- the string in a value
  pub string_fits : (v : Value) → (Given → FitsValue v) → Gives (λ (n : ℕ). Given → n < 65536) (string_in v)
  unfolding string_in
  string_fits (Integer z) h = gives_none
  string_fits (String n) h = gives_one (λ y. below (h y))
    where
      below : FitsValue (String n) → n < 65536
      below (fits_string l) = l
  string_fits (Boolean b) h = gives_none

  -- ---- Expressions

  plain_fits : {v : Value} → FitsValue v → All Ranged (plain v)
  plain_fits h = all_done (λ y. record { value = h; labels = words_none })

  joining_fits : (k : Labels) {m : Outcome Labelled} → (Given → Words64 k) → All Ranged m → All Ranged (joining k m)
  unfolding joining
  joining_fits k w h = all_bind h λ x f. all_done (λ y. record { value = (f y).value; labels = words_union k x.labels (w y) (f y).labels })

  -- an operand, then the rest under its set
  operand_fits : {m : Outcome Labelled} {f : Labelled → Outcome Labelled} → All Ranged m → ((x : Labelled) → All Ranged (f x)) → All Ranged (m >>= λ x. joining x.labels (f x))
  operand_fits h k = all_bind h λ x f. joining_fits x.labels (λ y. (f y).labels) (k x)

  -- constants
  pub constant_fits : {v : Constant} → FitsConstant Given v → Ranged (of_constant v)
  unfolding of_constant
  constant_fits {v} h = λ y. record { value = (h y).value; labels = words_one v.label }

  -- operators: the result is in its range, whatever the operands
  integers_fit : (f : ℤ → ℤ → Result Value) → ((i j : ℤ) → Gives FitsValue (f i j)) → (p l r : ℕ) (x : Value) {right : Outcome Labelled} → All Ranged right → All Ranged (integers f p l r x right)
  unfolding integers
  integers_fit f g p l r x h =
      all_any (at l (integer_in x)) λ i. operand_fits h λ v. all_any (at r (integer_in v.value)) λ j. all_bind (all_at p (g i j)) λ u k. plain_fits k

  booleans_fit : (d : Bool) (l r : ℕ) (x : Value) {right : Outcome Labelled} → All Ranged right → All Ranged (booleans d l r x right)
  unfolding booleans
  booleans_fit d l r x h =
      all_any (at l (boolean_in x)) λ i. all_if (beq i d) (plain_fits fits_boolean) (operand_fits h λ v. all_any (at r (boolean_in v.value)) λ j. plain_fits fits_boolean)

  operate_fits : (o : Operator) (p l r : ℕ) (x : Value) {right : Outcome Labelled} → All Ranged right → All Ranged (operate o p l r x right)
  unfolding operate equality sum difference is_greater
  operate_fits plus p l r x h = integers_fit sum (λ i j. range_fits (i +ℤ j)) p l r x h
  operate_fits minus p l r x h = integers_fit difference (λ i j. range_fits (i -ℤ j)) p l r x h
  operate_fits divide p l r x h = integers_fit quotient quotient_fits p l r x h
  operate_fits greater p l r x h = integers_fit is_greater (λ i j. gives_one fits_boolean) p l r x h
  operate_fits equal p l r x h = operand_fits h λ v. plain_fits fits_boolean
  operate_fits and p l r x h = booleans_fit false l r x h
  operate_fits or p l r x h = booleans_fit true l r x h

  -- reads
  or_else_fits : {o : Option Labelled} {m : Outcome Labelled} → Perhaps Ranged o → All Ranged m → All Ranged (or_else o m)
  unfolding or_else
  or_else_fits not_there h = h
  or_else_fits (there p) h = all_done p

  -- a cell's value and mark, and those of every cell
  pub record CellFits (c : Cell) : Type 0 where
    pub value : Perhaps Ranged c.value
    pub mark : Given → Words64 c.mark

  abbrev pub CellsFit : Cells → Type 0
  CellsFit cells = (s : Scope) (n : ℕ) → CellFits (cells s n)

  read_fits : (p : ℕ) (cells : Cells) (n : ℕ) (ss : List Scope) → CellsFit cells → All Ranged (read_in p cells n ss)
  unfolding read_in
  read_fits p cells n [] f = all_refused
  read_fits p cells n (s ∷ ss) f = joining_fits (cells s n).mark (f s n).mark (or_else_fits (f s n).value (read_fits p cells n ss f))

  attribute_read_fits : (p t m n : ℕ) (es : List Entry) → Each (λ (e : Entry). Given → FitsEntry e) es → All Ranged (read_attribute p t m n es)
  unfolding read_attribute
  attribute_read_fits p t m n es f =
      all_bind (all_found _ _ (found (is_entry t m) f)) λ e g.
      all_bind (all_found _ _ (found (is_attribute n) (each_under e.attributes (λ y. (g y).attributes)))) λ a h. all_done (λ y. (h y).content)

  -- the patterns tried and what is chosen
  select_fits : (k : Known) {ps : Patterns (Outcome Labelled)} → Every (All Ranged) ps → (p : ℕ) (x : Value) → All Ranged (select k ps p x)
  unfolding select
  select_fits k {ps} h p x = all_any _ λ _. joining_fits _ (λ y. tried_labels_fit ps x) (chosen_holds (All Ranged) h x all_refused)

  module _ (k : Known) (c : Context) (st : State) (cells : CellsFit st.cells) (entries : Each (λ (e : Entry). Given → FitsEntry e) st.entries) where
    mutual
      unfolding evaluate

      pub evaluate_fits : {e : Expression} → FitsExpression Given e → All Ranged (evaluate k c st e)
      evaluate_fits (fits_constant v) = all_any _ λ _. all_done (constant_fits v)
      evaluate_fits (fits_variable {p = p} {n = n} f) = read_fits p st.cells n (scopes_tried c st) cells
      evaluate_fits (fits_top_variable {p = p} {n = n} f) = read_fits p st.cells n (top_scope ∷ []) cells
      evaluate_fits (fits_class_variable {p = p} {q = q} {n = n} f g) = all_any _ λ _. read_fits p st.cells n (class_scope q ∷ []) cells
      evaluate_fits (fits_operation {p = p} {o = o} {a = a} {b = b} f g) = operand_fits (evaluate_fits f) λ x. operate_fits o p (place_of a) (place_of b) x.value (evaluate_fits g)
      evaluate_fits (fits_negation f) = operand_fits (evaluate_fits f) λ x. all_any _ λ b. plain_fits fits_boolean
      evaluate_fits (fits_attribute_read {p = p} {t = t} {n = n} f g h) = operand_fits (evaluate_fits h) λ x. all_any _ λ m. all_any _ λ _. attribute_read_fits p t m n st.entries entries
      evaluate_fits (fits_selector {p = p} f g) = operand_fits (evaluate_fits f) λ x. select_fits k (arms_fit g) p x.value
      evaluate_fits fits_unreadable = all_refused

      arms_fit : {s : Arms} → FitsArms Given s → Every (All Ranged) (arm_patterns k c st s)
      arms_fit fits_no_arm = every_none
      arms_fit (fits_arm w f g) = every_constant (evaluate_fits f) (arms_fit g)
      arms_fit (fits_default_arm f g) = every_default (evaluate_fits f) (arms_fit g)
