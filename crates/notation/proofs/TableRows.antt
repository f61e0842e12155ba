-- The grammar's table as a list of rows for each symbol, and tests that hold of all entries of a list.
use Prim.Native.Nat.{ℕ}
use mathlib.Core.Path.{◌≡◌, subst}
use mathlib.Core.Bool.{Bool, true, false, ◌&&◌}
use mathlib.Core.List.{List, [], ◌∷◌}
use mathlib.Core.Option.{Option, some}
use lib.Dec.{eqb}
use Rattle.rules.specs.Bytes.{pick}
use Rattle.rules.proofs.Lists.{both_left, both_right}
use Rattle.notation.specs.Tokens.{a_word, comma, colon, equals, left_brace, right_brace, left_round, right_round, left_square, right_square, else_word, inherits_word}
use Rattle.notation.specs.Lexing.{find}
use Rattle.notation.specs.Building.{begin, instead, named, parent_first, leave}
use Rattle.notation.specs.Grammar.{parameter, Symbol, sign, a_name, expression, operators, read_or_word, close_bracket, one, maybe, further, statements, block, otherwise, branches, items, class_rest, parameters, default_value, a_constant, inherits, parent, devices, device, more_devices, ends, Row, row, operand_rows, constant_rows, pattern_rows, entry_rows, in_block, item_rows, class_rows, device_rows, node_rows}
use Rattle.notation.proofs.NeedsKept.{none_not_some, same_result}

-- a test holds of all that a list has
abbrev pub all_pass : {A : Type 0} → (A → Bool) → List (ℕ × A) → Bool
all_pass test [] = true
all_pass test (x ∷ xs) = test x.1 && all_pass test xs

-- so it holds of what is found
pub found_passes : {A : Type 0} (test : A → Bool) (xs : List (ℕ × A)) (k : ℕ) (v : A) → all_pass test xs ≡ true → find k xs ≡ some v → test v ≡ true
found_passes test [] k v a e = none_not_some e
found_passes {A} test (x ∷ xs) k v a e = go (eqb k x.0) (λ e. found_passes test xs k v (both_right (test x.1) (all_pass test xs) a) e) e
  where
    go : (b : Bool) → (find k xs ≡ some v → test v ≡ true) → ◌≡◌ {A = Option A} (pick b (some x.1) (find k xs)) (some v) → test v ≡ true
    go true others e = subst (λ (v : A). test v ≡ true) (same_result x.1 v e) (both_left (test x.1) (all_pass test xs) a)
    go false others e = others e

-- the rows of a symbol; operators have theirs by their level
abbrev pub rows_of : Symbol → List (ℕ × Row)
rows_of (sign s) = (s, row [] []) ∷ []
rows_of a_name = (a_word, row (named ∷ []) []) ∷ []
rows_of (expression l) = operand_rows l
rows_of (operators l m) = []
rows_of read_or_word = (left_square, row (instead 0x18 ∷ []) (expression 1 ∷ sign right_square ∷ sign left_square ∷ a_name ∷ sign right_square ∷ ends ∷ [])) ∷ []
rows_of close_bracket = (right_round, row (leave ∷ []) []) ∷ []
rows_of (one e) = entry_rows e
rows_of (maybe e) = entry_rows e
rows_of (further e) = (comma, row [] (maybe e ∷ [])) ∷ []
rows_of statements = in_block
rows_of branches = pattern_rows 0x24 (sign colon ∷ block ∷ ends ∷ branches ∷ [])
rows_of items = item_rows
rows_of class_rest = class_rows
rows_of parameters = (left_round, row [] (maybe parameter ∷ sign right_round ∷ [])) ∷ []
rows_of default_value = (equals, row [] (a_constant ∷ [])) ∷ []
rows_of a_constant = constant_rows [] []
rows_of inherits = (inherits_word, row [] (parent ∷ [])) ∷ []
rows_of parent = (a_word, row (parent_first ∷ []) []) ∷ []
rows_of devices = node_rows
rows_of device = device_rows
rows_of more_devices = (comma, row [] (device ∷ [])) ∷ []
rows_of block = (left_brace, row (begin 0x20 ∷ []) (statements ∷ sign right_brace ∷ ends ∷ [])) ∷ []
rows_of otherwise = (else_word, row [] (block ∷ [])) ∷ []
rows_of ends = []
