-- A text has one reading: where a symbol is left out, the next token is none that it takes. Each symbol guards some kinds of token: what follows it never begins with one.
use Prim.Native.Nat.{ℕ, suc, ◌+◌, ◌≤◌}
use mathlib.Core.Path.{◌≡◌, refl, sym, ap, ◌∙◌, subst}
use mathlib.Core.List.{List, [], ◌∷◌, ◌++◌}
use mathlib.Core.Option.{Option, none, some}
use mathlib.Core.Logic.{◌⊎◌, inl, inr}
use mathlib.Core.Bool.{Bool, true, false, not, ◌&&◌, ◌||◌}
use native.Mathlib.Omega.{arith}
use lib.Dec.{leb, eqb}
use borrow.Author.Tests.{le-leb, lt-leb, leb-true, eqb-true}
use Rattle.rules.specs.Bytes.{pick}
use Rattle.notation.specs.Tokens.{Lexeme, kind, token_of, is_among, a_word, a_number, a_text, a_variable, left_square, left_brace, right_brace, left_round, right_round, colon, equals, inherits_word, comma, question, end_of_text, true_word, false_word, default_word, else_word}
use Rattle.rules.proofs.Within.{false_not_true}
use Rattle.rules.specs.Types.{Types}
use Rattle.notation.specs.Building.{Build, Action, byte, start}
use Rattle.notation.specs.Lexing.{find}
use Rattle.notation.specs.Grammar.{Symbol, sign, a_name, expression, operators, read_or_word, close_bracket, one, maybe, further, Entry, arm, attribute, parameter, branches, items, class_rest, parameters, default_value, a_constant, inherits, parent, devices, device, more_devices, in_block, item_rows, class_rows, device_rows, node_rows, constant_rows, pattern_rows, statements, block, otherwise, ends, Row, row, levels, binds, operator_byte, operand_rows, entry_rows, operator_row, operator_in, row_of, left_out, Reads, done, takes, leaves, run, built, manifest, reading}
use Rattle.notation.proofs.Machine.{sound, take, leave}

-- ---- Tests

none_not_some : {A : Type 0} {B : Type 0} {a : A} → none ≡ some a → B
none_not_some e = absurd (let z : ◌≡◌ {A = ℕ} 0 1 = cc in omega arith)

both : (a b : Bool) → (a && b) ≡ true → (a ≡ true) × (b ≡ true)
both true b e = (refl, e)
both false b e = false_not_true e

either : (a b : Bool) → (a || b) ≡ true → (a ≡ true) ⊎ (b ≡ true)
either true b e = inl refl
either false b e = inr e

abbrev is_some : {A : Type 0} → Option A → Bool
is_some none = false
is_some (some a) = true

abbrev each_of : (ℕ → Bool) → List ℕ → Bool
each_of t [] = true
each_of t (x ∷ xs) = t x && each_of t xs

each_of_lem : (t : ℕ → Bool) (xs : List ℕ) (q : ℕ) → each_of t xs ≡ true → is_among q xs ≡ true → t q ≡ true
each_of_lem t [] q e h = false_not_true h
each_of_lem t (x ∷ xs) q e h = go (each_of_lem t xs q (both (t x) (each_of t xs) e).1) (either (eqb q x) (is_among q xs) h)
  where
    go : (is_among q xs ≡ true → t q ≡ true) → (eqb q x ≡ true) ⊎ (is_among q xs ≡ true) → t q ≡ true
    go later (inl i) = rw (eqb-true q x i) (both (t x) (each_of t xs) e).0
    go later (inr i) = later i

-- every operator of level l or tighter
abbrev each_from : ℕ → (ℕ → Bool) → List (ℕ × ℕ) → Bool
each_from l t [] = true
each_from l t (x ∷ xs) = (not (leb l x.1) || t x.0) && each_from l t xs

abbrev from : ℕ → Option ℕ → Bool
from l none = false
from l (some n) = leb l n

each_from_lem : (l : ℕ) (t : ℕ → Bool) (xs : List (ℕ × ℕ)) (q : ℕ) → each_from l t xs ≡ true → from l (find q xs) ≡ true → t q ≡ true
each_from_lem l t [] q e h = false_not_true h
each_from_lem l t (x ∷ xs) q e h = go (each_from_lem l t xs q (both (not (leb l x.1) || t x.0) (each_from l t xs) e).1) (eqb q x.0) refl h
  where
    now : (b : Bool) → leb l x.1 ≡ b → (not b || t x.0) ≡ true → leb l x.1 ≡ true → t x.0 ≡ true
    now true i j k = j
    now false i j k = absurd (let z : ◌≡◌ {A = ℕ} 0 1 = cc in omega arith)

    go : (from l (find q xs) ≡ true → t q ≡ true) → (b : Bool) → eqb q x.0 ≡ b → from l (pick b (some x.1) (find q xs)) ≡ true → t q ≡ true
    go later true i j = rw (eqb-true q x.0 i) (now (leb l x.1) refl (both (not (leb l x.1) || t x.0) (each_from l t xs) e).0 j)
    go later false i j = later j

-- ---- Guards: kinds, and the operators from a level on (9: none)

abbrev keys : List (ℕ × Row) → List ℕ
keys [] = []
keys (x ∷ xs) = x.0 ∷ keys xs

abbrev entry_kinds : Entry → List ℕ
entry_kinds arm = a_number ∷ a_text ∷ true_word ∷ false_word ∷ a_word ∷ default_word ∷ []
entry_kinds attribute = a_word ∷ []
entry_kinds parameter = a_variable ∷ []

abbrev guard_kinds : Symbol → List ℕ
guard_kinds (sign s) = []
guard_kinds a_name = []
guard_kinds (expression l) = left_square ∷ []
guard_kinds (operators l m) = left_square ∷ []
guard_kinds read_or_word = left_square ∷ []
guard_kinds close_bracket = []
guard_kinds (one e) = left_square ∷ comma ∷ entry_kinds e
guard_kinds (maybe e) = left_square ∷ comma ∷ entry_kinds e
guard_kinds (further e) = left_square ∷ comma ∷ entry_kinds e
guard_kinds statements = left_square ∷ else_word ∷ keys in_block
guard_kinds branches = entry_kinds arm
guard_kinds items = left_square ∷ else_word ∷ keys item_rows
guard_kinds class_rest = []
guard_kinds parameters = left_round ∷ []
guard_kinds default_value = equals ∷ []
guard_kinds a_constant = []
guard_kinds inherits = inherits_word ∷ []
guard_kinds parent = []
guard_kinds devices = comma ∷ []
guard_kinds device = comma ∷ []
guard_kinds more_devices = comma ∷ []
guard_kinds block = []
guard_kinds otherwise = else_word ∷ []
guard_kinds ends = []

abbrev guard_level : Symbol → ℕ
guard_level (sign s) = 9
guard_level a_name = 9
guard_level (expression l) = l
guard_level (operators l m) = l
guard_level read_or_word = 9
guard_level close_bracket = 9
guard_level (one e) = 1
guard_level (maybe e) = 1
guard_level (further e) = 1
guard_level statements = 1
guard_level items = 1
guard_level branches = 9
guard_level class_rest = 9
guard_level parameters = 9
guard_level default_value = 9
guard_level a_constant = 9
guard_level inherits = 9
guard_level parent = 9
guard_level devices = 9
guard_level device = 9
guard_level more_devices = 9
guard_level block = 9
guard_level otherwise = 9
guard_level ends = 9

guards : Symbol → ℕ → Bool
guards s q = is_among q (guard_kinds s) || from (guard_level s) (binds q)

-- whether symbols may begin with a token of kind q; whether all may be left out
reach : List Symbol → ℕ → Bool
reach [] q = false
reach (s ∷ k) q = is_some (row_of s q) || (is_some (left_out s) && reach k q)

passable : List Symbol → Bool
passable [] = true
passable (s ∷ k) = is_some (left_out s) && passable k

abbrev Clear : List Symbol → Type 0
Clear [] = Unit {0}
Clear (s ∷ k) = ((q : ℕ) → guards s q ≡ true → reach k q ≡ false) × Clear k

-- what a row puts in the place of s keeps that
abbrev Passed : Symbol → List Symbol → Type 0
Passed s [] = Unit {0}
Passed s (y ∷ ys) = ((q : ℕ) → guards y q ≡ true → (reach ys q ≡ false) × (passable ys ≡ true → guards s q ≡ true)) × Passed s ys

reach_append : (ys k : List Symbol) (q : ℕ) → reach ys q ≡ false → (passable ys ≡ true → reach k q ≡ false) → reach (ys ++ k) q ≡ false
unfolding reach passable
reach_append [] k q e h = h refl
reach_append (y ∷ ys) k q e h = go (is_some (row_of y q)) (is_some (left_out y)) e h (reach_append ys k q)
  where
    go : (a b : Bool) → (a || (b && reach ys q)) ≡ false → ((b && passable ys) ≡ true → reach k q ≡ false) → (reach ys q ≡ false → (passable ys ≡ true → reach k q ≡ false) → reach (ys ++ k) q ≡ false) → (a || (b && reach (ys ++ k) q)) ≡ false
    go true b e h later = e
    go false true e h later = later e h
    go false false e h later = refl

clear_after : (s : Symbol) (ss k : List Symbol) → Passed s ss → Clear (s ∷ k) → Clear (ss ++ k)
clear_after s [] k p c = c.1
clear_after s (y ∷ ys) k p c = ((λ q g. reach_append ys k q (p.0 q g).0 (λ o. c.0 q ((p.0 q g).1 o))), clear_after s ys k p.1 c)

-- ---- Rows of fixed symbols: by computing

suits : Symbol → List Symbol → ℕ → Bool
suits s ys q = not (reach ys q) && (not (passable ys) || guards s q)

checked : Symbol → List Symbol → Bool
checked s [] = true
checked s (y ∷ ys) = (each_of (suits s ys) (guard_kinds y) && each_from (guard_level y) (suits s ys) levels) && checked s ys

by_suits : (r p g : Bool) → (not r && (not p || g)) ≡ true → (r ≡ false) × (p ≡ true → g ≡ true)
by_suits true p g e = false_not_true e
by_suits false true g e = (refl, λ h. e)
by_suits false false g e = (refl, λ h. false_not_true h)

suited : (s y : Symbol) (ys : List Symbol) → (each_of (suits s ys) (guard_kinds y) && each_from (guard_level y) (suits s ys) levels) ≡ true → (q : ℕ) → guards y q ≡ true → (reach ys q ≡ false) × (passable ys ≡ true → guards s q ≡ true)
unfolding guards suits binds
suited s y ys e q g =
    let parts = both (each_of (suits s ys) (guard_kinds y)) (each_from (guard_level y) (suits s ys) levels) e in
    by_suits (reach ys q) (passable ys) (guards s q) (go parts (either (is_among q (guard_kinds y)) (from (guard_level y) (binds q)) g))
  where
    go : (each_of (suits s ys) (guard_kinds y) ≡ true) × (each_from (guard_level y) (suits s ys) levels ≡ true) → (is_among q (guard_kinds y) ≡ true) ⊎ (from (guard_level y) (binds q) ≡ true) → suits s ys q ≡ true
    go parts (inl i) = each_of_lem (suits s ys) (guard_kinds y) q parts.0 i
    go parts (inr i) = each_from_lem (guard_level y) (suits s ys) levels q parts.1 i

checked_passed : (s : Symbol) (ss : List Symbol) → checked s ss ≡ true → Passed s ss
unfolding checked
checked_passed s [] e = tt
checked_passed s (y ∷ ys) e =
    let parts = both (each_of (suits s ys) (guard_kinds y) && each_from (guard_level y) (suits s ys) levels) (checked s ys) e in
    (suited s y ys parts.0, checked_passed s ys parts.1)

abbrev symbols_of : Row → List Symbol
symbols_of (row ds ss) = ss

all_checked : Symbol → List (ℕ × Row) → Bool
all_checked s [] = true
all_checked s (x ∷ xs) = checked s (symbols_of x.1) && all_checked s xs

found_checked : (s : Symbol) (xs : List (ℕ × Row)) (q : ℕ) (ds : List Action) (ss : List Symbol) → all_checked s xs ≡ true → find q xs ≡ some (row ds ss) → Passed s ss
unfolding all_checked
found_checked s [] q ds ss e h = none_not_some h
found_checked s (x ∷ xs) q ds ss e h = go (eqb q x.0) (found_checked s xs q ds ss (both (checked s (symbols_of x.1)) (all_checked s xs) e).1) h
  where
    go : (b : Bool) → (find q xs ≡ some (row ds ss) → Passed s ss) → pick b (some x.1) (find q xs) ≡ some (row ds ss) → Passed s ss
    go true later i = let same : x.1 ≡ row ds ss = cc in checked_passed s ss (ap (λ (r : Row). checked s (symbols_of r)) (sym same) ∙ (both (checked s (symbols_of x.1)) (all_checked s xs) e).0)
    go false later i = later i

-- a row by itself
only_checked : (s : Symbol) (b : Bool) (ds₁ ds : List Action) (ss₁ ss : List Symbol) → checked s ss₁ ≡ true → pick b (some (row ds₁ ss₁)) none ≡ some (row ds ss) → Passed s ss
only_checked s true ds₁ ds ss₁ ss e h = let same : ss₁ ≡ ss = cc in checked_passed s ss (ap (checked s) (sym same) ∙ e)
only_checked s false ds₁ ds ss₁ ss e h = none_not_some h

entry_checked : (e : Entry) → (all_checked (one e) (entry_rows e) ≡ true) × (all_checked (maybe e) (entry_rows e) ≡ true) × (checked (further e) (maybe e ∷ []) ≡ true)
unfolding all_checked checked suits reach passable guards row_of left_out binds
entry_checked arm = (refl, refl, refl)
entry_checked attribute = (refl, refl, refl)
entry_checked parameter = (refl, refl, refl)

-- ---- Rows with a level that is not fixed

-- no operator has level 8 or 9
no_tighter : (l q : ℕ) → each_from l (λ (k : ℕ). false) levels ≡ true → from l (binds q) ≡ true → ⊥
unfolding binds
no_tighter l q e h = let z = each_from_lem l (λ (k : ℕ). false) levels q e h in let y : ◌≡◌ {A = ℕ} 0 1 = cc in omega arith

in_one : (q x : ℕ) → is_among q (x ∷ []) ≡ true → q ≡ x
in_one q x i = go (either (eqb q x) false i)
  where
    go : (eqb q x ≡ true) ⊎ (false ≡ true) → q ≡ x
    go (inl a) = eqb-true q x a
    go (inr a) = false_not_true a

-- a symbol that guards [ alone
guards_bracket : (s : Symbol) (q : ℕ) → guard_kinds s ≡ left_square ∷ [] → each_from (guard_level s) (λ (k : ℕ). false) levels ≡ true → guards s q ≡ true → q ≡ left_square
unfolding guards
guards_bracket s q e h g = go (either (is_among q (guard_kinds s)) (from (guard_level s) (binds q)) g)
  where
    go : (is_among q (guard_kinds s) ≡ true) ⊎ (from (guard_level s) (binds q) ≡ true) → q ≡ left_square
    go (inl i) = in_one q left_square (ap (is_among q) (sym e) ∙ i)
    go (inr i) = absurd (no_tighter (guard_level s) q h i)

-- a symbol that guards nothing
guards_nothing : (s : Symbol) (q : ℕ) → guard_kinds s ≡ [] → each_from (guard_level s) (λ (k : ℕ). false) levels ≡ true → guards s q ≡ true → ⊥
unfolding guards
guards_nothing s q e h g = go (either (is_among q (guard_kinds s)) (from (guard_level s) (binds q)) g)
  where
    go : (is_among q (guard_kinds s) ≡ true) ⊎ (from (guard_level s) (binds q) ≡ true) → ⊥
    go (inl i) = let z : false ≡ true = ap (is_among q) (sym e) ∙ i in let y : ◌≡◌ {A = ℕ} 0 1 = cc in omega arith
    go (inr i) = no_tighter (guard_level s) q h i

operators_last : (s : Symbol) (l m : ℕ) → guard_kinds s ≡ left_square ∷ [] → guard_level s ≡ l → Passed s (operators l m ∷ [])
unfolding reach guards
operators_last s l m e h = ((λ q g. (refl, λ o. rw (e, h) g)), tt)

abbrev EachRow : Symbol → List (ℕ × Row) → Type 0
EachRow s [] = Unit {0}
EachRow s (x ∷ xs) = Passed s (symbols_of x.1) × EachRow s xs

found_row : (s : Symbol) (xs : List (ℕ × Row)) (q : ℕ) (ds : List Action) (ss : List Symbol) → EachRow s xs → find q xs ≡ some (row ds ss) → Passed s ss
found_row s [] q ds ss e h = none_not_some h
found_row s (x ∷ xs) q ds ss e h = go (eqb q x.0) (found_row s xs q ds ss e.1) h
  where
    go : (b : Bool) → (find q xs ≡ some (row ds ss) → Passed s ss) → pick b (some x.1) (find q xs) ≡ some (row ds ss) → Passed s ss
    go true later i = let same : x.1 ≡ row ds ss = cc in subst (λ (r : Row). Passed s (symbols_of r)) same e.0
    go false later i = later i

module _ (l : ℕ) where
  then_operators : Passed (expression l) (operators l 7 ∷ [])
  then_operators = operators_last (expression l) l 7 refl refl

  then_read : Passed (expression l) (read_or_word ∷ operators l 7 ∷ [])
  unfolding reach guards row_of left_out binds
  then_read = ((λ q g. let e = guards_bracket read_or_word q refl refl g in (rw e, λ o. rw e)), then_operators)

  then_operand : Passed (expression l) (expression 8 ∷ ends ∷ operators l 7 ∷ [])
  unfolding reach guards row_of left_out binds
  then_operand = ((λ q g. let e = guards_bracket (expression 8) q refl refl g in (rw e, λ o. rw e)), ((λ q g. absurd (guards_nothing ends q refl refl g)), then_operators))

  then_brackets : Passed (expression l) (expression 1 ∷ close_bracket ∷ operators l 7 ∷ [])
  unfolding reach guards row_of left_out binds suits passable
  then_brackets = (suited (expression l) (expression 1) (close_bracket ∷ operators l 7 ∷ []) refl, ((λ q g. absurd (guards_nothing close_bracket q refl refl g)), then_operators))

  operand_passed : EachRow (expression l) (operand_rows l)
  operand_passed = (then_operators, (then_operators, (then_operators, (then_operators, (then_read, (then_operators, (then_operators, (then_operand, (then_brackets, tt)))))))))

  -- behind an operator of level n, the operators that its right side takes are tighter
  abbrev Tighter : ℕ → ℕ → ℕ → Type 0
  Tighter m n q = (reach (ends ∷ operators l n ∷ []) q ≡ false) × (passable (ends ∷ operators l n ∷ []) ≡ true → guards (operators l m) q ≡ true)

  tighter_bracket : (m n q : ℕ) → q ≡ left_square → Tighter m n q
  unfolding reach guards row_of left_out binds
  tighter_bracket m n q e = (rw e, λ o. rw e)

  tighter_operator : (m n q : ℕ) → l ≤ n → (o : Option ℕ) → binds q ≡ o → from (suc n) o ≡ true → Tighter m n q
  unfolding reach guards row_of left_out
  tighter_operator m n q h none e i = false_not_true i
  tighter_operator m n q h (some j) e i =
      let above-n = leb-true (suc n) j i in
      let passes : operator_in l n q (binds q) ≡ none = rw (e, lt-leb j n (omega arith)) (by_either (leb l j)) in
      (rw passes, λ p. rw (e, le-leb l j (omega arith)) (by_or (is_among q (left_square ∷ []))))
    where
      by_either : (b : Bool) → pick (b && false) (some (operator_row l q j)) none ≡ none
      by_either true = refl
      by_either false = refl

      by_or : (b : Bool) → (b || true) ≡ true
      by_or true = refl
      by_or false = refl

  tighter : (m n : ℕ) → l ≤ n → (q : ℕ) → guards (expression (suc n)) q ≡ true → Tighter m n q
  unfolding guards
  tighter m n h q g = go (either (is_among q (left_square ∷ [])) (from (suc n) (binds q)) g)
    where
      go : (is_among q (left_square ∷ []) ≡ true) ⊎ (from (suc n) (binds q) ≡ true) → Tighter m n q
      go (inl i) = tighter_bracket m n q (in_one q left_square i)
      go (inr i) = tighter_operator m n q h (binds q) refl i

  operator_passed : (m n q : ℕ) → l ≤ n → Passed (operators l m) (symbols_of (operator_row l q n))
  unfolding reach guards row_of left_out binds suits passable
  operator_passed m n q h = go (eqb q question)
    where
      last : Passed (operators l m) (ends ∷ operators l n ∷ [])
      last = ((λ k g. absurd (guards_nothing ends k refl refl g)), operators_last (operators l m) l n refl refl)

      go : (b : Bool) → Passed (operators l m) (symbols_of (pick b (row (Action.around 0x19 [] ∷ []) (sign left_brace ∷ one arm ∷ sign right_brace ∷ ends ∷ operators l n ∷ [])) (row (Action.around 0x16 (byte (operator_byte q) ∷ []) ∷ []) (expression (suc n) ∷ ends ∷ operators l n ∷ []))))
      go true = ((λ k g. absurd (guards_nothing (sign left_brace) k refl refl g)), (suited (operators l m) (one arm) (sign right_brace ∷ ends ∷ operators l n ∷ []) refl, ((λ k g. absurd (guards_nothing (sign right_brace) k refl refl g)), last)))
      go false = (tighter m n h, last)

-- ---- Every row

operators_passed : (l m q : ℕ) (o : Option ℕ) (ds : List Action) (ss : List Symbol) → operator_in l m q o ≡ some (row ds ss) → Passed (operators l m) ss
operators_passed l m q none ds ss h = none_not_some h
operators_passed l m q (some n) ds ss h = go (leb l n) (leb n m) refl h
  where
    go : (a b : Bool) → leb l n ≡ a → pick (a && b) (some (operator_row l q n)) none ≡ some (row ds ss) → Passed (operators l m) ss
    go true true e i = let same : operator_row l q n ≡ row ds ss = cc in subst (λ (r : Row). Passed (operators l m) (symbols_of r)) same (operator_passed l m n q (leb-true l n e))
    go true false e i = none_not_some i
    go false b e i = none_not_some i

row_passed : (s : Symbol) (q : ℕ) (ds : List Action) (ss : List Symbol) → row_of s q ≡ some (row ds ss) → Passed s ss
unfolding row_of all_checked checked suits reach passable guards left_out binds
row_passed (sign k) q ds ss h = only_checked (sign k) (eqb q k) _ _ [] _ refl h
row_passed a_name q ds ss h = only_checked a_name (eqb q a_word) _ _ [] _ refl h
row_passed (expression l) q ds ss h = found_row (expression l) (operand_rows l) q ds ss (operand_passed l) h
row_passed (operators l m) q ds ss h = operators_passed l m q (binds q) ds ss h
row_passed read_or_word q ds ss h = only_checked read_or_word (eqb q left_square) _ _ _ _ refl h
row_passed close_bracket q ds ss h = only_checked close_bracket (eqb q right_round) _ _ [] _ refl h
row_passed (one e) q ds ss h = found_checked (one e) (entry_rows e) q ds ss (entry_checked e).0 h
row_passed (maybe e) q ds ss h = found_checked (maybe e) (entry_rows e) q ds ss (entry_checked e).1 h
row_passed (further e) q ds ss h = only_checked (further e) (eqb q comma) _ _ _ _ (entry_checked e).2 h
row_passed statements q ds ss h = found_checked statements in_block q ds ss refl h
row_passed branches q ds ss h = found_checked branches (pattern_rows 0x24 (sign colon ∷ block ∷ ends ∷ branches ∷ [])) q ds ss refl h
row_passed items q ds ss h = found_checked items item_rows q ds ss refl h
row_passed class_rest q ds ss h = found_checked class_rest class_rows q ds ss refl h
row_passed parameters q ds ss h = only_checked parameters (eqb q left_round) _ _ _ _ refl h
row_passed default_value q ds ss h = only_checked default_value (eqb q equals) _ _ _ _ refl h
row_passed a_constant q ds ss h = found_checked a_constant (constant_rows [] []) q ds ss refl h
row_passed inherits q ds ss h = only_checked inherits (eqb q inherits_word) _ _ _ _ refl h
row_passed parent q ds ss h = only_checked parent (eqb q a_word) _ _ [] _ refl h
row_passed devices q ds ss h = found_checked devices node_rows q ds ss refl h
row_passed device q ds ss h = found_checked device device_rows q ds ss refl h
row_passed more_devices q ds ss h = only_checked more_devices (eqb q comma) _ _ _ _ refl h
row_passed block q ds ss h = only_checked block (eqb q left_brace) _ _ _ _ refl h
row_passed otherwise q ds ss h = only_checked otherwise (eqb q else_word) _ _ _ _ refl h
row_passed ends q ds ss h = none_not_some h

-- a symbol that may be left out guards what it takes
found_key : (xs : List (ℕ × Row)) (q : ℕ) → is_some (find q xs) ≡ true → is_among q (keys xs) ≡ true
found_key [] q h = h
found_key (x ∷ xs) q h = go (eqb q x.0) (found_key xs q) h
  where
    go : (b : Bool) → (is_some (find q xs) ≡ true → is_among q (keys xs) ≡ true) → is_some (pick b (some x.1) (find q xs)) ≡ true → (b || is_among q (keys xs)) ≡ true
    go true later i = refl
    go false later i = later i

only_key : (s : Symbol) (q k : ℕ) (r : Row) → guards s k ≡ true → is_some (pick (eqb q k) (some r) none) ≡ true → guards s q ≡ true
only_key s q k r e h = go (eqb q k) refl h
  where
    go : (b : Bool) → eqb q k ≡ b → is_some (pick b (some r) none) ≡ true → guards s q ≡ true
    go true i j = rw (eqb-true q k i) e
    go false i j = false_not_true j

operator_guarded : (l m q : ℕ) (o : Option ℕ) → is_some (operator_in l m q o) ≡ true → from l o ≡ true
operator_guarded l m q none h = h
operator_guarded l m q (some n) h = go (leb l n) (leb n m) h
  where
    go : (a b : Bool) → is_some (pick (a && b) (some (operator_row l q n)) none) ≡ true → a ≡ true
    go true b i = refl
    go false b i = i

entry_guarded : (e : Entry) → (each_of (guards (maybe e)) (keys (entry_rows e)) ≡ true) × (guards (further e) comma ≡ true)
unfolding guards binds
entry_guarded arm = (refl, refl)
entry_guarded attribute = (refl, refl)
entry_guarded parameter = (refl, refl)

or_true : (b : Bool) → (b || true) ≡ true
or_true true = refl
or_true false = refl

operators_guarded : (l m q : ℕ) → is_some (operator_in l m q (binds q)) ≡ true → guards (operators l m) q ≡ true
unfolding guards
operators_guarded l m q h = rw (operator_guarded l m q (binds q) h) (or_true (is_among q (left_square ∷ [])))

guarded : (s : Symbol) (q : ℕ) → is_some (left_out s) ≡ true → is_some (row_of s q) ≡ true → guards s q ≡ true
unfolding row_of left_out
guarded (sign k) q o h = false_not_true o
guarded a_name q o h = false_not_true o
guarded (expression l) q o h = false_not_true o
guarded (operators l m) q o h = operators_guarded l m q h
guarded read_or_word q o h = only_key read_or_word q left_square _ (unfold guards binds in refl) h
guarded close_bracket q o h = false_not_true o
guarded (one e) q o h = false_not_true o
guarded (maybe e) q o h = each_of_lem (guards (maybe e)) (keys (entry_rows e)) q (entry_guarded e).0 (found_key (entry_rows e) q h)
guarded (further e) q o h = only_key (further e) q comma _ (entry_guarded e).1 h
guarded statements q o h = each_of_lem (guards statements) (keys in_block) q (unfold guards binds in refl) (found_key in_block q h)
guarded branches q o h = each_of_lem (guards branches) (keys (pattern_rows 0x24 [])) q (unfold guards binds in refl) (found_key (pattern_rows 0x24 (sign colon ∷ block ∷ ends ∷ branches ∷ [])) q h)
guarded items q o h = each_of_lem (guards items) (keys item_rows) q (unfold guards binds in refl) (found_key item_rows q h)
guarded parameters q o h = only_key parameters q left_round _ (unfold guards binds in refl) h
guarded default_value q o h = only_key default_value q equals _ (unfold guards binds in refl) h
guarded inherits q o h = only_key inherits q inherits_word _ (unfold guards binds in refl) h
guarded more_devices q o h = only_key more_devices q comma _ (unfold guards binds in refl) h
guarded class_rest q o h = false_not_true o
guarded a_constant q o h = false_not_true o
guarded parent q o h = false_not_true o
guarded devices q o h = false_not_true o
guarded device q o h = false_not_true o
guarded block q o h = false_not_true o
guarded otherwise q o h = only_key otherwise q else_word _ (unfold guards binds in refl) h
guarded ends q o h = false_not_true h

-- ---- The theorem

reads_reach : (types : Types) {k : List Symbol} {x : Lexeme} {xs : List Lexeme} {f g : Build} → Reads types k (x ∷ xs) f g → reach k (kind (token_of x)) ≡ true
unfolding reach
reads_reach types (takes h i r) = rw h
reads_reach types {x = x} (leaves {s = s} {k = k} h i r) = rw (h, reads_reach types r) (or_true (is_some (row_of s (kind (token_of x)))))

one_reading : (types : Types) {k : List Symbol} {xs : List Lexeme} {f g : Build} → Clear k → Reads types k xs f g → run types xs k f ≡ built g
unfolding run
one_reading types c done = refl
one_reading types c (takes {s = s} {k = k} {ss = ss} {ds = ds} {x = x} {xs = xs} h i r) = (take types {xs = xs} h i).alike ∙ one_reading types (clear_after s ss k (row_passed s (kind (token_of x)) ds ss h) c) r
one_reading types c (leaves {s = s} {k = k} {x = x} {xs = xs} h i r) = (leave types {xs = xs} (free (row_of s (kind (token_of x))) refl) h i).alike ∙ one_reading types c.1 r
  where
    free : (o : Option Row) → row_of s (kind (token_of x)) ≡ o → row_of s (kind (token_of x)) ≡ none
    free none e = e
    free (some w) e =
        let no = c.0 (kind (token_of x)) (guarded s (kind (token_of x)) (rw h) (rw e)) in
        let yes = reads_reach types r in
        absurd (let z : ◌≡◌ {A = ℕ} 0 1 = cc in omega arith)

manifest_clear : Clear manifest
unfolding reach guards row_of left_out binds suits passable
manifest_clear = ((λ q g. (suited items items (sign end_of_text ∷ []) refl q g).0), ((λ q g. refl), tt))

-- THE LAW: a text that the grammar gives a tree is read as that tree
pub reading_complete : (types : Types) {xs : List Lexeme} {g : Build} → Reads types manifest xs start g → reading types xs ≡ built g
unfolding reading
reading_complete types r = one_reading types manifest_clear r

-- and what is read is a tree that the grammar gives it
pub reading_sound : (types : Types) (xs : List Lexeme) (g : Build) → reading types xs ≡ built g → Reads types manifest xs start g
unfolding reading
reading_sound types xs g e = sound types xs manifest start g e

-- THE LAW: a text has one reading
pub one_tree_lem : (types : Types) {xs : List Lexeme} {g h : Build} → Reads types manifest xs start g → Reads types manifest xs start h → g ≡ h
one_tree_lem types r s = let p = reading_complete types r in let q = reading_complete types s in cc
