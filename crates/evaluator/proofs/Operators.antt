-- The operators: what the definition's `operate` says, in the two steps of the code. Assumes nothing.
use Prim.Native.Nat.{ℕ, zero, suc, ◌≤◌, ◌<◌}
use mathlib.Core.Path.{◌≡◌, refl, sym, ap, ◌∙◌}
use mathlib.Core.Bool.{Bool, true, false, not, beq}
use mathlib.Core.List.{List, [], ◌∷◌}
use native.Mathlib.Omega.{arith}
use borrow.Author.Tests.{ne_eqb, eqb-true, eqb-false}
use lib.Dec.{eqb}
use lib.IntN.{ℤ, ◌+ℤ◌, ◌-ℤ◌}
use lib.Signed.{lt_z}
use denote.Enum.Declared.{tag_of}
use Rattle.values.specs.declared.Value.{Value}
use Rattle.values.specs.declared.Value.TheVariants.{Integer, String, Boolean}
use Rattle.values.specs.declared.Labelled.{Labelled}
use Rattle.values.specs.declared.Reason.TheVariants.{WrongKind as NotThatKind, Overflow, DivisionByZero}
use Rattle.values.specs.Integers.{fits64, is_zero, floor_divide}
use Rattle.values.specs.Computed.{computed}
use Rattle.values.specs.contracts.Value.{the_type}
use Rattle.rules.specs.Outcome.{Outcome, refused, ◌>>=◌, fails, gives, at, plain}
use Rattle.evaluator.proofs.Outcomes.{◌▷◌}
use Rattle.rules.specs.Arithmetic.{integer_in, string_in, boolean_in, in_range, sum, difference, quotient, is_greater, same_value}
use Rattle.rules.specs.Tree.{Operator, plus, minus, divide, greater, equal, and, or}
use Rattle.rules.specs.Read.{entry_for, operators, operator_from}
use Rattle.rules.specs.Evaluate.{integers, booleans, equality, operate}
use Rattle.evaluator.specs.declared.Begun.{Begun}
use Rattle.evaluator.specs.declared.Begun.TheVariants.{WrongKind, Decided, Open}
use Rattle.evaluator.specs.Operators.{begin_integer, begin_boolean, begin, after_left, arithmetic, both_integers, right_boolean, combine, result_of, computed_at, negation}
use Rattle.std.specs.Prelude.{Result, Ok, Err}
use Rattle.values.specs.declared.ArithmeticError.{ArithmeticError}
use Rattle.values.specs.declared.ArithmeticError.TheVariants.{DivisionByZero, Overflow}

-- ---- Values of another kind

-- one that is of no such value has another tag
pub unlike_integer : (x : Value) → ((z : ℤ) → x ≡ Integer z → ⊥) → tag_of the_type x ≡ 0 → ⊥
unlike_integer (Integer z) h e = h z refl
unlike_integer (String n) h e = let z : ◌≡◌ {A = ℕ} 1 0 = e in omega arith
unlike_integer (Boolean b) h e = let z : ◌≡◌ {A = ℕ} 2 0 = e in omega arith

pub unlike_string : (x : Value) → ((n : ℕ) → x ≡ String n → ⊥) → tag_of the_type x ≡ 1 → ⊥
unlike_string (Integer z) h e = let z : ◌≡◌ {A = ℕ} 0 1 = e in omega arith
unlike_string (String n) h e = h n refl
unlike_string (Boolean b) h e = let z : ◌≡◌ {A = ℕ} 2 1 = e in omega arith

pub unlike_boolean : (x : Value) → ((b : Bool) → x ≡ Boolean b → ⊥) → tag_of the_type x ≡ 2 → ⊥
unlike_boolean (Integer z) h e = let z : ◌≡◌ {A = ℕ} 0 2 = e in omega arith
unlike_boolean (String n) h e = let z : ◌≡◌ {A = ℕ} 1 2 = e in omega arith
unlike_boolean (Boolean b) h e = h b refl

pub not_integer : (x : Value) → (tag_of the_type x ≡ 0 → ⊥) → integer_in x ≡ fails NotThatKind
unfolding integer_in
not_integer (Integer z) h = absurd (h refl)
not_integer (String n) h = refl
not_integer (Boolean b) h = refl

pub not_string : (x : Value) → (tag_of the_type x ≡ 1 → ⊥) → string_in x ≡ fails NotThatKind
unfolding string_in
not_string (Integer z) h = refl
not_string (String n) h = absurd (h refl)
not_string (Boolean b) h = refl

pub not_boolean : (x : Value) → (tag_of the_type x ≡ 2 → ⊥) → boolean_in x ≡ fails NotThatKind
unfolding boolean_in
not_boolean (Integer z) h = refl
not_boolean (String n) h = refl
not_boolean (Boolean b) h = absurd (h refl)

-- ---- Operator bytes

entry_past : {A : Type 0} (k : ℕ) (v : A) (xs : List (ℕ × A)) (d : A) (n : ℕ) → (n ≡ k → ⊥) → entry_for ((k, v) ∷ xs) d n ≡ entry_for xs d n
unfolding entry_for
entry_past k v xs d n h = ap (λ (b : Bool). elim b [ true ↦ v | false ↦ entry_for xs d n ]) (ne_eqb n k h)

pub operator_or : (n : ℕ) → 6 ≤ n → operator_from n ≡ or
unfolding operator_from operators entry_for
operator_or n h =
    entry_past 0 plus ((1, minus) ∷ (2, divide) ∷ (3, greater) ∷ (4, equal) ∷ (5, and) ∷ (6, or) ∷ []) or n (λ e. omega arith)
    ∙ entry_past 1 minus ((2, divide) ∷ (3, greater) ∷ (4, equal) ∷ (5, and) ∷ (6, or) ∷ []) or n (λ e. omega arith)
    ∙ entry_past 2 divide ((3, greater) ∷ (4, equal) ∷ (5, and) ∷ (6, or) ∷ []) or n (λ e. omega arith)
    ∙ entry_past 3 greater ((4, equal) ∷ (5, and) ∷ (6, or) ∷ []) or n (λ e. omega arith)
    ∙ entry_past 4 equal ((5, and) ∷ (6, or) ∷ []) or n (λ e. omega arith)
    ∙ entry_past 5 and ((6, or) ∷ []) or n (λ e. omega arith)
    ∙ go (eqb n 6)
  where
    go : (b : Bool) → (elim b [ true ↦ or | false ↦ or ]) ≡ or
    go true = refl
    go false = refl

-- 0 to 3 take integers
begin_low : (n : ℕ) (x : Value) → n < 4 → begin (operator_from n) x ≡ begin_integer x
unfolding operator_from operators entry_for begin
begin_low zero x h = refl
begin_low (suc zero) x h = refl
begin_low (suc (suc zero)) x h = refl
begin_low (suc (suc (suc zero))) x h = refl
begin_low (suc (suc (suc (suc n)))) x h = absurd (omega arith)

combine_low : (n p r : ℕ) (x y : Value) → n < 4 → combine (operator_from n) p r x y ≡ both_integers (operator_from n) p r x y
unfolding operator_from operators entry_for combine
combine_low zero p r x y h = refl
combine_low (suc zero) p r x y h = refl
combine_low (suc (suc zero)) p r x y h = refl
combine_low (suc (suc (suc zero))) p r x y h = refl
combine_low (suc (suc (suc (suc n)))) p r x y h = absurd (omega arith)

-- ---- The ways of `begin`

pub begins_integer : (n : ℕ) (x : Value) {b : Begun} → n < 4 → b ≡ begin_integer x → b ≡ begin (operator_from n) x
begins_integer n x h e = e ∙ sym (begin_low n x h)

pub begins_equal : (n : ℕ) (x : Value) → n ≡ 4 → Open ≡ begin (operator_from n) x
unfolding operator_from operators entry_for begin
begins_equal n x e = rw e

pub operator_and : (n : ℕ) → n ≡ 5 → operator_from n ≡ and
unfolding operator_from operators entry_for
operator_and n e = rw e

pub begins_boolean : (n : ℕ) (x : Value) {b : Begun} → 4 ≤ n → (n ≡ 4 → ⊥) → b ≡ begin_boolean (not (eqb n 5)) x → b ≡ begin (operator_from n) x
unfolding begin
begins_boolean n x {b} h i e = e ∙ go (eqb n 5) refl
  where
    go : (t : Bool) → eqb n 5 ≡ t → begin_boolean (not t) x ≡ begin (operator_from n) x
    go true e = sym (ap (λ (o : Operator). begin o x) (operator_and n (eqb-true n 5 e)))
    go false e =
        let f = eqb-false n 5 e in
        sym (ap (λ (o : Operator). begin o x) (operator_or n (omega arith)))

-- ---- The ways of the arithmetic

ranged : (z : ℤ) → result_of (computed false z) ≡ in_range z
unfolding result_of computed in_range
ranged z = go (fits64 z)
  where
    go : (b : Bool) → result_of (elim b [ true ↦ Ok z | false ↦ Err Overflow ]) ≡ (elim b [ true ↦ gives (Integer z) | false ↦ fails Overflow ])
    go true = refl
    go false = refl

-- i and j are passed on as i' and j'
module _ (n : ℕ) (i j : ℤ) {i' j' : ℤ} (li : i' ≡ i) (lj : j' ≡ j) where
  pub computes_sum : {c : Result ℤ ArithmeticError} → n ≡ 0 → c ≡ computed false (i' +ℤ j') → result_of c ≡ arithmetic (operator_from n) i j
  unfolding operator_from operators entry_for arithmetic sum
  computes_sum e h = rw (h, li, lj, e) (ranged (i +ℤ j))

  pub computes_difference : {c : Result ℤ ArithmeticError} → n ≡ 1 → c ≡ computed false (i' -ℤ j') → result_of c ≡ arithmetic (operator_from n) i j
  unfolding operator_from operators entry_for arithmetic difference
  computes_difference e h = rw (h, li, lj, e) (ranged (i -ℤ j))

  pub computes_quotient : {c : Result ℤ ArithmeticError} → n < 3 → (n ≡ 0 → ⊥) → (n ≡ 1 → ⊥) → c ≡ computed (is_zero j') (floor_divide i' j') → result_of c ≡ arithmetic (operator_from n) i j
  unfolding operator_from operators entry_for arithmetic quotient result_of computed
  computes_quotient l a b h =
      let two : n ≡ 2 = omega arith in
      rw (h, li, lj, two) (go (is_zero j))
    where
      go : (z : Bool) → result_of (computed z (floor_divide i j)) ≡ (elim z [ true ↦ fails DivisionByZero | false ↦ in_range (floor_divide i j) ])
      go true = refl
      go false = ranged (floor_divide i j)

pub computed_whole : (p : ℕ) {c : Result ℤ ArithmeticError} {z z' : ℤ} {e : Outcome Labelled} → c ≡ Ok z → z' ≡ z → e ≡ plain (Integer z') → e ≡ computed_at p c
unfolding computed_at result_of at ◌>>=◌
computed_whole p h i e = e ∙ rw (h, i)

pub computed_large : (p : ℕ) {c : Result ℤ ArithmeticError} {e : Outcome Labelled} → c ≡ Err Overflow → e ≡ refused Overflow p → e ≡ computed_at p c
unfolding computed_at result_of at ◌>>=◌
computed_large p h e = rw h e

pub computed_by_zero : (p : ℕ) {c : Result ℤ ArithmeticError} {e : Outcome Labelled} → c ≡ Err DivisionByZero → e ≡ refused DivisionByZero p → e ≡ computed_at p c
unfolding computed_at result_of at ◌>>=◌
computed_by_zero p h e = rw h e

-- ---- The ways of `both_integers`

pub left_unlike : (o : Operator) (p r : ℕ) (x y : Value) {e : Outcome Labelled} → (tag_of the_type x ≡ 0 → ⊥) → e ≡ refused NotThatKind r → e ≡ both_integers o p r x y
unfolding both_integers at ◌>>=◌
left_unlike o p r x y h e = rw (not_integer x h) e

pub right_unlike : (o : Operator) (p r : ℕ) (x y : Value) {i : ℤ} {e : Outcome Labelled} → x ≡ Integer i → (tag_of the_type y ≡ 0 → ⊥) → e ≡ refused NotThatKind r → e ≡ both_integers o p r x y
unfolding both_integers integer_in at ◌>>=◌
right_unlike o p r x y l h e = rw (l, not_integer y h) e

pub both_greater : (n p r : ℕ) (x y : Value) {i j i' j' : ℤ} {b : Bool} {e : Outcome Labelled} → x ≡ Integer i → y ≡ Integer j → i' ≡ i → j' ≡ j → n ≡ 3 → b ≡ lt_z j' i' → e ≡ plain (Boolean b) → e ≡ both_integers (operator_from n) p r x y
unfolding both_integers integer_in at ◌>>=◌ operator_from operators entry_for arithmetic is_greater
both_greater n p r x y l h li lj t g e = e ∙ rw (l, h, t, g, li, lj)

pub both_computed : (o : Operator) (p r : ℕ) (x y : Value) {i j i' j' : ℤ} (c : Result ℤ ArithmeticError) {e : Outcome Labelled} → x ≡ Integer i → y ≡ Integer j → i' ≡ i → j' ≡ j → result_of c ≡ arithmetic o i' j' → e ≡ computed_at p c → e ≡ both_integers o p r x y
unfolding both_integers integer_in at ◌>>=◌ computed_at
both_computed o p r x y {i} {j} c l h li lj g e = e ∙ rw (l, h, ← li, ← lj, g)

-- ---- The ways of `right_boolean`, `combine` and `negated`

pub boolean_unlike : (r : ℕ) (y : Value) {e : Outcome Labelled} → (tag_of the_type y ≡ 2 → ⊥) → e ≡ refused NotThatKind r → e ≡ right_boolean r y
unfolding right_boolean at ◌>>=◌
boolean_unlike r y h e = rw (not_boolean y h) e

pub boolean_right : (r : ℕ) (y : Value) {e : Outcome Labelled} → tag_of the_type y ≡ 2 → e ≡ plain y → e ≡ right_boolean r y
unfolding right_boolean boolean_in at ◌>>=◌
boolean_right r (Integer z) h e = absurd (omega arith)
boolean_right r (String n) h e = absurd (omega arith)
boolean_right r (Boolean b) h e = e

pub combines_integers : (n p r : ℕ) (x y : Value) {e : Outcome Labelled} → n < 4 → e ≡ both_integers (operator_from n) p r x y → e ≡ combine (operator_from n) p r x y
combines_integers n p r x y h e = e ∙ sym (combine_low n p r x y h)

pub combines_equal : (n p r : ℕ) (x y : Value) {b : Bool} {e : Outcome Labelled} → n ≡ 4 → b ≡ same_value x y → e ≡ plain (Boolean b) → e ≡ combine (operator_from n) p r x y
unfolding operator_from operators entry_for combine
combines_equal n p r x y t h e = e ∙ rw (t, h)

pub combines_booleans : (n p r : ℕ) (x y : Value) {e : Outcome Labelled} → 4 ≤ n → (n ≡ 4 → ⊥) → e ≡ right_boolean r y → e ≡ combine (operator_from n) p r x y
unfolding combine
combines_booleans n p r x y h i e = e ∙ go (eqb n 5) refl
  where
    go : (t : Bool) → eqb n 5 ≡ t → right_boolean r y ≡ combine (operator_from n) p r x y
    go true e = sym (ap (λ (o : Operator). combine o p r x y) (operator_and n (eqb-true n 5 e)))
    go false e =
        let f = eqb-false n 5 e in
        sym (ap (λ (o : Operator). combine o p r x y) (operator_or n (omega arith)))

pub negates_unlike : (l : ℕ) (x : Value) {e : Outcome Labelled} → (tag_of the_type x ≡ 2 → ⊥) → e ≡ refused NotThatKind l → e ≡ negation l x
unfolding negation at ◌>>=◌
negates_unlike l x h e = rw (not_boolean x h) e

pub negates : (l : ℕ) (x : Value) {b : Bool} {e : Outcome Labelled} → x ≡ Boolean b → e ≡ plain (Boolean (not b)) → e ≡ negation l x
unfolding negation boolean_in at ◌>>=◌
negates l x h e = rw h e

-- ---- The two steps are the definition's operators

pub operate_steps : (o : Operator) (p l r : ℕ) (x : Value) (right : Outcome Labelled) → after_left (begin o x) l x (right ▷ λ y. combine o p r x y) ≡ operate o p l r x right
unfolding begin begin_integer begin_boolean after_left combine both_integers right_boolean arithmetic operate integers booleans equality integer_in boolean_in at ◌>>=◌ ◌▷◌
operate_steps plus p l r (Integer i) right = refl
operate_steps plus p l r (String n) right = refl
operate_steps plus p l r (Boolean b) right = refl
operate_steps minus p l r (Integer i) right = refl
operate_steps minus p l r (String n) right = refl
operate_steps minus p l r (Boolean b) right = refl
operate_steps divide p l r (Integer i) right = refl
operate_steps divide p l r (String n) right = refl
operate_steps divide p l r (Boolean b) right = refl
operate_steps greater p l r (Integer i) right = refl
operate_steps greater p l r (String n) right = refl
operate_steps greater p l r (Boolean b) right = refl
operate_steps equal p l r x right = refl
operate_steps and p l r (Integer i) right = refl
operate_steps and p l r (String n) right = refl
operate_steps and p l r (Boolean true) right = refl
operate_steps and p l r (Boolean false) right = refl
operate_steps or p l r (Integer i) right = refl
operate_steps or p l r (String n) right = refl
operate_steps or p l r (Boolean true) right = refl
operate_steps or p l r (Boolean false) right = refl

-- ---- The ways of `begin_boolean`

pub boolean_not_integer : (decides : Bool) (x : Value) {z : ℤ} → x ≡ Integer z → WrongKind ≡ begin_boolean decides x
unfolding begin_boolean
boolean_not_integer d x e = rw e

pub boolean_not_string : (decides : Bool) (x : Value) {n : ℕ} → x ≡ String n → WrongKind ≡ begin_boolean decides x
unfolding begin_boolean
boolean_not_string d x e = rw e

pub boolean_decides : (decides : Bool) (x : Value) {b : Bool} → x ≡ Boolean b → beq b decides ≡ true → Decided ≡ begin_boolean decides x
unfolding begin_boolean
boolean_decides d x e h = rw (e, h)

pub boolean_open : (decides : Bool) (x : Value) {b : Bool} → x ≡ Boolean b → beq b decides ≡ false → Open ≡ begin_boolean decides x
unfolding begin_boolean
boolean_open d x e h = rw (e, h)

-- ---- The ways of `begin_integer`

pub integer_not : (x : Value) → (tag_of the_type x ≡ 0 → ⊥) → WrongKind ≡ begin_integer x
unfolding begin_integer
integer_not (Integer z) h = absurd (h refl)
integer_not (String n) h = refl
integer_not (Boolean b) h = refl

pub integer_open : (x : Value) → tag_of the_type x ≡ 0 → Open ≡ begin_integer x
unfolding begin_integer
integer_open (Integer z) h = refl
integer_open (String n) h = absurd (omega arith)
integer_open (Boolean b) h = absurd (omega arith)
