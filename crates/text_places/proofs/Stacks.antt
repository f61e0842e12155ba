-- What stands below what on the grammar's stack, and what rows do by the sort of their symbol: by computing over all rows. Assumes nothing.
use mathlib.Core.Path.{◌≡◌, refl, sym, ◌∙◌, subst}
use mathlib.Core.Bool.{Bool, true, false, not, ◌&&◌, ◌||◌}
use mathlib.Core.List.{List, [], ◌∷◌, ◌++◌}
use mathlib.Core.Option.{Option, none, some}
use Prim.Native.Nat.{ℕ, suc}
use lib.Dec.{leb, eqb}
use borrow.Author.Tests.{eqb-true, ne_eqb, eq-eqb}
use Rattle.wire.specs.Bytes.{pick}
use Rattle.rules.proofs.Lists.{both_left, both_right}
use Rattle.rules.proofs.Within.{false_not_true}
use Rattle.notation.specs.Tokens.{a_word, question, left_brace, right_brace}
use Rattle.notation.specs.Building.{byte, Action, begin, begin_resource, around, instead, close, constant, read, named, parent_first, void, enter, leave}
use Rattle.notation.specs.Grammar.{Entry, arm, attribute, parameter, Symbol, sign, a_name, expression, operators, read_or_word, close_bracket, one, maybe, further, statements, block, otherwise, branches, items, class_rest, parameters, default_value, a_constant, inherits, parent, devices, device, more_devices, ends, Row, row, operator_byte, operator_row, operator_in, levels, binds, row_of, left_out}
use Rattle.notation.proofs.NeedsKept.{none_not_some, same_result}
use Rattle.notation.proofs.TableRows.{rows_of}
use Rattle.parser.proofs.RowFacts.{all_keyed, found_keyed}
use Rattle.text_places.specs.Log.{is_operator, sort}
use Rattle.text_places.proofs.MarkedTree.{appends}

-- ---- Actions, by the one that they are: 1 comes before the parts, 2 comes in the place of a constant, 3 is an operator, 4 reads a constant

abbrev pub code_of : Action → ℕ
code_of (begin t) = 0
code_of begin_resource = 0
code_of (around t h) = 3
code_of (instead t) = 2
code_of close = 0
code_of constant = 4
code_of read = 0
code_of named = 1
code_of parent_first = 1
code_of (void t) = 0
code_of enter = 0
code_of leave = 0

abbrev pub sole_code : List Action → ℕ
sole_code [] = 0
sole_code (a ∷ []) = code_of a
sole_code (a ∷ b ∷ ds) = 0

abbrev pub is_nil : {A : Type 0} → List A → Bool
is_nil [] = true
is_nil (x ∷ xs) = false

-- ---- Stacks

-- an operator is taken by none of these symbols: they may be left out up to one that must take the token and is no operator. Where they all may, it is as said
abbrev pub blocked : Bool → List Symbol → Bool
blocked b [] = b
blocked b (y ∷ k) = pick (eqb (sort y) 0) true (pick (eqb (sort y) 3 || eqb (sort y) 4) (blocked b k) false)

-- what may stand right below a symbol: what is of sort 2 stands only on top, what is of sort 1 only there or behind a sign
abbrev pub next : (sort : ℕ) → List Symbol → Bool
next n [] = true
next n (z ∷ k) = not (eqb (sort z) 2) && (not (eqb (sort z) 1) || eqb n 0)

-- no operator is taken behind what is of sort 3
abbrev pub Stacked : List Symbol → Type 0
Stacked [] = Unit {0}
Stacked (y ∷ k) = (next (sort y) k ≡ true) × (eqb (sort y) 3 ≡ true → blocked true k ≡ true) × Stacked k

-- the same of a row's symbols, on others
abbrev stacks : Bool → List Symbol → Bool
stacks b [] = true
stacks b (y ∷ ss) = (next (sort y) ss && (not (eqb (sort y) 3) || blocked b ss)) && stacks b ss

-- what is of sort 2 comes only behind a constant that is a word
abbrev word_top : (kind : ℕ) → List Action → List Symbol → Bool
word_top k ds [] = true
word_top k ds (y ∷ ss) = not (eqb (sort y) 2) || (eqb (sole_code ds) 4 && eqb k a_word)

-- ---- Every row

abbrev actions_good : (sort : ℕ) → (operator : Bool) → List Action → Bool
actions_good n o ds =
    pick (eqb n 1) (eqb (sole_code ds) 1) (pick (eqb n 2) (eqb (sole_code ds) 2) (pick (eqb (sole_code ds) 3) o (appends false ds && (is_nil ds || not o))))

abbrev row_good : (sort : ℕ) → (operator : Bool) → (kind : ℕ) → Row → Bool
row_good n o k (row ds ss) = (actions_good n o ds && (not o || eqb n 5)) && (word_top k ds ss && ((is_nil ss || not (eqb n 0)) && stacks (eqb n 3) ss))

abbrev RowTest : (sort : ℕ) → (kind : ℕ) → Row → Bool
RowTest n k r = row_good n (is_operator k) k r

sign_good : (b : Bool) (s : ℕ) → (row_good (pick b 5 0) b s (row [] []) && true) ≡ true
sign_good true s = refl
sign_good false s = refl

-- a kind that binds is an operator
binding : (q n : ℕ) → binds q ≡ some n → is_operator q ≡ true
unfolding is_operator binds
binding q n e = found_keyed (λ k l. is_operator k) levels q n refl e

-- operators of any level
operator_good : (l q n : ℕ) → row_good 5 true q (operator_row l q n) ≡ true
unfolding is_operator
operator_good l q n = go (eqb q question)
  where
    go : (b : Bool) → row_good 5 true q (pick b (row (around 0x19 [] ∷ []) (sign left_brace ∷ one arm ∷ sign right_brace ∷ ends ∷ operators l n ∷ [])) (row (around 0x16 (byte (operator_byte q) ∷ []) ∷ []) (expression (suc n) ∷ ends ∷ operators l n ∷ []))) ≡ true
    go true = refl
    go false = refl

operators_good : (l m q : ℕ) (o : Option ℕ) (r : Row) → binds q ≡ o → operator_in l m q o ≡ some r → row_good 5 (is_operator q) q r ≡ true
operators_good l m q none r e h = none_not_some h
operators_good l m q (some n) r e h = rw (binding q n e) (go (leb l n && leb n m) h)
  where
    go : (b : Bool) → ◌≡◌ {A = Option Row} (pick b (some (operator_row l q n)) none) (some r) → row_good 5 true q r ≡ true
    go true i = subst (λ (r : Row). row_good 5 true q r ≡ true) (same_result (operator_row l q n) r i) (operator_good l q n)
    go false i = none_not_some i

entry_good : (e : Entry) → all_keyed (RowTest 5) (rows_of (one e)) ≡ true
unfolding is_operator
entry_good arm = refl
entry_good attribute = refl
entry_good parameter = refl

pub row_good_lem : (s : Symbol) (q : ℕ) (r : Row) → row_of s q ≡ some r → row_good (sort s) (is_operator q) q r ≡ true
unfolding row_of is_operator
row_good_lem (sign s) q r h = found_keyed (RowTest (sort (sign s))) (rows_of (sign s)) q r (sign_good (is_operator s) s) h
row_good_lem a_name q r h = found_keyed (RowTest (sort a_name)) (rows_of a_name) q r refl h
row_good_lem (expression l) q r h = found_keyed (RowTest (sort (expression l))) (rows_of (expression l)) q r refl h
row_good_lem (operators l m) q r h = operators_good l m q (binds q) r refl h
row_good_lem read_or_word q r h = found_keyed (RowTest (sort read_or_word)) (rows_of read_or_word) q r refl h
row_good_lem close_bracket q r h = found_keyed (RowTest (sort close_bracket)) (rows_of close_bracket) q r refl h
row_good_lem (one e) q r h = found_keyed (RowTest 5) (rows_of (one e)) q r (entry_good e) h
row_good_lem (maybe e) q r h = found_keyed (RowTest 5) (rows_of (maybe e)) q r (entry_good e) h
row_good_lem (further e) q r h = found_keyed (RowTest (sort (further e))) (rows_of (further e)) q r refl h
row_good_lem statements q r h = found_keyed (RowTest (sort statements)) (rows_of statements) q r refl h
row_good_lem block q r h = found_keyed (RowTest (sort block)) (rows_of block) q r refl h
row_good_lem otherwise q r h = found_keyed (RowTest (sort otherwise)) (rows_of otherwise) q r refl h
row_good_lem branches q r h = found_keyed (RowTest (sort branches)) (rows_of branches) q r refl h
row_good_lem items q r h = found_keyed (RowTest (sort items)) (rows_of items) q r refl h
row_good_lem class_rest q r h = found_keyed (RowTest (sort class_rest)) (rows_of class_rest) q r refl h
row_good_lem parameters q r h = found_keyed (RowTest (sort parameters)) (rows_of parameters) q r refl h
row_good_lem default_value q r h = found_keyed (RowTest (sort default_value)) (rows_of default_value) q r refl h
row_good_lem a_constant q r h = found_keyed (RowTest (sort a_constant)) (rows_of a_constant) q r refl h
row_good_lem inherits q r h = found_keyed (RowTest (sort inherits)) (rows_of inherits) q r refl h
row_good_lem parent q r h = found_keyed (RowTest (sort parent)) (rows_of parent) q r refl h
row_good_lem devices q r h = found_keyed (RowTest (sort devices)) (rows_of devices) q r refl h
row_good_lem device q r h = found_keyed (RowTest (sort device)) (rows_of device) q r refl h
row_good_lem more_devices q r h = found_keyed (RowTest (sort more_devices)) (rows_of more_devices) q r refl h
row_good_lem ends q r h = none_not_some h

-- ---- Symbols that are left out: nothing is done, or a field ends, or an empty one comes

pub data Left : (sort : ℕ) → List Action → Type 0 where
  left_alone : {n : ℕ} → eqb n 0 ≡ false → eqb n 1 ≡ false → Left n []
  left_closed : Left 4 (close ∷ [])
  left_empty : {t : ℕ} → Left 3 (void t ∷ [])

abbrev LeftSo : ℕ → Option (List Action) → Type 0
LeftSo n none = Unit {0}
LeftSo n (some ds) = Left n ds

each_left : (s : Symbol) → LeftSo (sort s) (left_out s)
unfolding left_out
each_left (sign k) = tt
each_left a_name = tt
each_left (expression l) = tt
each_left (operators l m) = left_alone refl refl
each_left read_or_word = left_alone refl refl
each_left close_bracket = tt
each_left (one e) = tt
each_left (maybe e) = left_alone refl refl
each_left (further e) = left_alone refl refl
each_left statements = left_alone refl refl
each_left block = tt
each_left otherwise = left_empty
each_left branches = left_alone refl refl
each_left items = left_alone refl refl
each_left class_rest = tt
each_left parameters = left_alone refl refl
each_left default_value = left_alone refl refl
each_left a_constant = tt
each_left inherits = left_alone refl refl
each_left parent = tt
each_left devices = tt
each_left device = tt
each_left more_devices = left_alone refl refl
each_left ends = left_closed

pub out_left : (s : Symbol) (ds : List Action) → left_out s ≡ some ds → Left (sort s) ds
out_left s ds e = subst (LeftSo (sort s)) e (each_left s)

-- ---- A row keeps the stack so

-- neither of sort 1 nor of sort 2 on top
abbrev pub plain_top : List Symbol → Bool
plain_top [] = true
plain_top (z ∷ k) = not (eqb (sort z) 2) && not (eqb (sort z) 1)

abbrev pub word_on_top : List Symbol → Bool
word_on_top [] = false
word_on_top (y ∷ k) = eqb (sort y) 2

pub plain_below : (n : ℕ) (k : List Symbol) → eqb n 0 ≡ false → next n k ≡ true → plain_top k ≡ true
plain_below n [] e h = refl
plain_below n (z ∷ k) e h = go (eqb (sort z) 2) (eqb (sort z) 1) (eqb n 0) e h
  where
    go : (a b c : Bool) → c ≡ false → (not a && (not b || c)) ≡ true → (not a && not b) ≡ true
    go true b c e h = false_not_true h
    go false true c e h = false_not_true (sym e ∙ h)
    go false false c e h = refl

next_plain : (n : ℕ) (k : List Symbol) → plain_top k ≡ true → next n k ≡ true
next_plain n [] h = refl
next_plain n (z ∷ k) h = go (eqb (sort z) 2) (eqb (sort z) 1) (eqb n 0) h
  where
    go : (a b c : Bool) → (not a && not b) ≡ true → (not a && (not b || c)) ≡ true
    go true b c h = false_not_true h
    go false true c h = false_not_true h
    go false false c h = refl

next_onto : (n : ℕ) (ss k : List Symbol) → plain_top k ≡ true → next n ss ≡ true → next n (ss ++ k) ≡ true
next_onto n [] k p h = next_plain n k p
next_onto n (z ∷ ss) k p h = h

blocked_onto : (b : Bool) (ss k : List Symbol) → (b ≡ true → blocked true k ≡ true) → blocked b ss ≡ true → blocked true (ss ++ k) ≡ true
blocked_onto b [] k g h = g h
blocked_onto b (y ∷ ss) k g h = go (eqb (sort y) 0) (eqb (sort y) 3 || eqb (sort y) 4) (blocked_onto b ss k g) h
  where
    go : (c d : Bool) → (blocked b ss ≡ true → blocked true (ss ++ k) ≡ true) → pick c true (pick d (blocked b ss) false) ≡ true → pick c true (pick d (blocked true (ss ++ k)) false) ≡ true
    go true d later h = refl
    go false true later h = later h
    go false false later h = h

implied : (a b : Bool) → (not a || b) ≡ true → a ≡ true → b ≡ true
implied true b h e = h
implied false b h e = false_not_true e

stacks_onto : (b : Bool) (ss k : List Symbol) → (b ≡ true → blocked true k ≡ true) → plain_top k ≡ true → Stacked k → stacks b ss ≡ true → Stacked (ss ++ k)
stacks_onto b [] k g p q h = q
stacks_onto b (y ∷ ss) k g p q h =
    let here = both_left (next (sort y) ss && (not (eqb (sort y) 3) || blocked b ss)) (stacks b ss) h in (
      next_onto (sort y) ss k p (both_left (next (sort y) ss) (not (eqb (sort y) 3) || blocked b ss) here),
      λ e. blocked_onto b ss k g (implied (eqb (sort y) 3) (blocked b ss) (both_right (next (sort y) ss) (not (eqb (sort y) 3) || blocked b ss) here) e),
      stacks_onto b ss k g p q (both_right (next (sort y) ss && (not (eqb (sort y) 3) || blocked b ss)) (stacks b ss) h),
    )

-- ---- What a row that takes a token tells

pub record GoodRow (n : ℕ) (operator : Bool) (kind : ℕ) (ds : List Action) (ss : List Symbol) : Type 0 where
  pub before : eqb n 1 ≡ true → sole_code ds ≡ 1
  pub instead_of_lem : eqb n 1 ≡ false → eqb n 2 ≡ true → sole_code ds ≡ 2
  pub lifts : eqb n 1 ≡ false → eqb n 2 ≡ false → sole_code ds ≡ 3 → operator ≡ true
  pub last : eqb n 1 ≡ false → eqb n 2 ≡ false → (sole_code ds ≡ 3 → ⊥) → (appends false ds ≡ true) × (operator ≡ true → ds ≡ [])
  pub operator_sort : operator ≡ true → n ≡ 5
  pub behind_word : word_on_top ss ≡ true → (sole_code ds ≡ 4) × (kind ≡ a_word)
  pub keeps : (k : List Symbol) → next n k ≡ true → (eqb n 3 ≡ true → blocked true k ≡ true) → Stacked k → Stacked (ss ++ k)

pick_true : (a b c : Bool) → a ≡ true → pick a b c ≡ true → b ≡ true
pick_true true b c e h = h
pick_true false b c e h = false_not_true e

pick_false : (a b c : Bool) → a ≡ false → pick a b c ≡ true → c ≡ true
pick_false true b c e h = false_not_true (sym e)
pick_false false b c e h = h

nil_only : (ds : List Action) (o : Bool) → (is_nil ds || not o) ≡ true → o ≡ true → ds ≡ []
nil_only [] o h e = refl
nil_only (a ∷ ds) true h e = false_not_true h
nil_only (a ∷ ds) false h e = false_not_true e

pub good_row : (n : ℕ) (o : Bool) (q : ℕ) (ds : List Action) (ss : List Symbol) → row_good n o q (row ds ss) ≡ true → GoodRow n o q ds ss
good_row n o q ds ss h =
    let actions = both_left (actions_good n o ds && (not o || eqb n 5)) (word_top q ds ss && ((is_nil ss || not (eqb n 0)) && stacks (eqb n 3) ss)) h in
    let symbols = both_right (actions_good n o ds && (not o || eqb n 5)) (word_top q ds ss && ((is_nil ss || not (eqb n 0)) && stacks (eqb n 3) ss)) h in
    let by-sort = both_left (actions_good n o ds) (not o || eqb n 5) actions in
    let lifting = pick (eqb (sole_code ds) 3) o (appends false ds && (is_nil ds || not o)) in
    let others : eqb n 1 ≡ false → pick (eqb n 2) (eqb (sole_code ds) 2) lifting ≡ true = λ a. pick_false (eqb n 1) (eqb (sole_code ds) 1) (pick (eqb n 2) (eqb (sole_code ds) 2) lifting) a by-sort in
    let neither : eqb n 1 ≡ false → eqb n 2 ≡ false → lifting ≡ true = λ a b. pick_false (eqb n 2) (eqb (sole_code ds) 2) lifting b (others a) in
    let appending : eqb n 1 ≡ false → eqb n 2 ≡ false → (sole_code ds ≡ 3 → ⊥) → (appends false ds && (is_nil ds || not o)) ≡ true = λ a b c.
    pick_false (eqb (sole_code ds) 3) o (appends false ds && (is_nil ds || not o)) (ne_eqb (sole_code ds) 3 c) (neither a b) in
    let onto = both_right (word_top q ds ss) ((is_nil ss || not (eqb n 0)) && stacks (eqb n 3) ss) symbols in
    record {
      before = λ a. eqb-true (sole_code ds) 1 (pick_true (eqb n 1) (eqb (sole_code ds) 1) (pick (eqb n 2) (eqb (sole_code ds) 2) lifting) a by-sort);
      instead_of_lem = λ a b. eqb-true (sole_code ds) 2 (pick_true (eqb n 2) (eqb (sole_code ds) 2) lifting b (others a));
      lifts = λ a b c. pick_true (eqb (sole_code ds) 3) o (appends false ds && (is_nil ds || not o)) (eq-eqb (sole_code ds) 3 c) (neither a b);
      last = λ a b c. (both_left (appends false ds) (is_nil ds || not o) (appending a b c), nil_only ds o (both_right (appends false ds) (is_nil ds || not o) (appending a b c)));
      operator_sort = λ e. eqb-true n 5 (implied o (eqb n 5) (both_right (actions_good n o ds) (not o || eqb n 5) actions) e);
      behind_word = λ e. word_first ss (both_left (word_top q ds ss) ((is_nil ss || not (eqb n 0)) && stacks (eqb n 3) ss) symbols) e;
      keeps = λ k under barred stacked. keep ss (both_left (is_nil ss || not (eqb n 0)) (stacks (eqb n 3) ss) onto) (both_right (is_nil ss || not (eqb n 0)) (stacks (eqb n 3) ss) onto) k under barred stacked;
    }
  where
    word_first : (ss : List Symbol) → word_top q ds ss ≡ true → word_on_top ss ≡ true → (sole_code ds ≡ 4) × (q ≡ a_word)
    word_first [] w e = false_not_true e
    word_first (y ∷ ys) w e =
        let both = implied (eqb (sort y) 2) (eqb (sole_code ds) 4 && eqb q a_word) w e in
        (eqb-true (sole_code ds) 4 (both_left (eqb (sole_code ds) 4) (eqb q a_word) both), eqb-true q a_word (both_right (eqb (sole_code ds) 4) (eqb q a_word) both))

    keep : (ss : List Symbol) → (is_nil ss || not (eqb n 0)) ≡ true → stacks (eqb n 3) ss ≡ true → (k : List Symbol) → next n k ≡ true → (eqb n 3 ≡ true → blocked true k ≡ true) → Stacked k → Stacked (ss ++ k)
    keep [] a b k under barred stacked = stacked
    keep (y ∷ ys) a b k under barred stacked = stacks_onto (eqb n 3) (y ∷ ys) k barred (plain_below n k (not_true (eqb n 0) a) under) stacked b
      where
        not_true : (c : Bool) → not c ≡ true → c ≡ false
        not_true true e = sym e
        not_true false e = refl
