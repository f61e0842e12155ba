-- The codes of the grammar's symbols and actions, as the code has them.
use Rattle.std.specs.Prelude.{ℕ, zero, suc, ◌-◌, ◌/◌, ◌%◌, ◌&&◌, List, [], ◌∷◌, leb, ltb, eqb, Option as CodeOption, Some, None}
use Rattle.std.proofs.Math.Option.{Option, none, some}
use Rattle.rules.specs.Bytes.{pick}
use Rattle.notation.specs.Tokens.{a_word, a_number, a_text, left_brace, right_brace, true_word, false_word, default_word}
use Rattle.notation.specs.Lexing.{find}
use Rattle.notation.specs.Building.{byte, Action, begin, begin_resource, around, instead, close, constant, read, named, parent_first, void, enter, leave}
use Rattle.notation.specs.Grammar.{arm, attribute, parameter, Symbol, sign, a_name, expression, operators, read_or_word, close_bracket, one, maybe, further, statements, block, otherwise, branches, items, class_rest, parameters, default_value, a_constant, inherits, parent, devices, device, more_devices, ends, Row, row}
use Rattle.parse_table.specs.declared.rows.Row.{Row as CodedRow}

-- ---- Symbols

-- those without a level
abbrev pub plain_symbols : List (ℕ × Symbol)
plain_symbols =
    (0x25, a_name)
    ∷ (0x26, read_or_word)
    ∷ (0x27, close_bracket)
    ∷ (0x28, block)
    ∷ (0x29, otherwise)
    ∷ (0x2a, statements)
    ∷ (0x2b, branches)
    ∷ (0x2c, items)
    ∷ (0x2d, class_rest)
    ∷ (0x2e, parameters)
    ∷ (0x2f, default_value)
    ∷ (0x30, a_constant)
    ∷ (0x39, inherits)
    ∷ (0x3a, parent)
    ∷ (0x3b, devices)
    ∷ (0x3c, device)
    ∷ (0x3d, more_devices)
    ∷ (0x3e, ends)
    ∷ (0x3f, one arm)
    ∷ (0x40, one attribute)
    ∷ (0x41, one parameter)
    ∷ (0x42, maybe arm)
    ∷ (0x43, maybe attribute)
    ∷ (0x44, maybe parameter)
    ∷ (0x45, further arm)
    ∷ (0x46, further attribute)
    ∷ (0x47, further parameter)
    ∷ []

abbrev pub or_else : {A : Type 0} → Option A → A → A
or_else none a = a
or_else (some x) a = x

-- signs and keywords by their kind, then the others; expressions and operators with their levels
unfoldable pub symbol_of : ℕ → Symbol
symbol_of n =
    pick (ltb n 0x25)
    (sign n)
    (pick (leb 0x48 n)
    (operators (n / 8 - 8) (n % 8))
    (pick (leb 0x31 n && leb n 0x38)
    (expression (n - 0x30))
    (or_else (find n plain_symbols) ends)))

-- a row's symbols: the last one lowest; they come before the symbols k
unfoldable pub symbols_onto : (bytes x : ℕ) → (k : List Symbol) → List Symbol
symbols_onto zero x k = k
symbols_onto (suc n) x k = pick (eqb x 0) k (symbols_onto n (x / 256) (symbol_of (x % 256) ∷ k))

unfoldable pub symbols_in : ℕ → List Symbol
symbols_in x = symbols_onto 8 x []

-- ---- Actions

-- those without a number in their code
abbrev pub plain_actions : List (ℕ × Action)
plain_actions =
    (1, close)
    ∷ (2, constant)
    ∷ (3, read)
    ∷ (4, named)
    ∷ (5, parent_first)
    ∷ (6, enter)
    ∷ (7, leave)
    ∷ (8, begin_resource)
    ∷ (9, instead 0x18)
    ∷ (10, around 0x19 [])
    ∷ []

-- then the tags of fields that begin, the tags of empty fields, and operator bytes
unfoldable pub action_of : ℕ → Action
action_of n =
    pick (leb 0x80 n)
    (around 0x16 (byte (n - 0x80) ∷ []))
    (pick (leb 0x40 n) (void (n - 0x40)) (pick (leb 0x10 n) (begin n) (or_else (find n plain_actions) close)))

-- a row's actions: the first one lowest
unfoldable pub actions_from : (bytes x : ℕ) → List Action
actions_from zero x = []
actions_from (suc n) x = pick (eqb x 0) [] (action_of (x % 256) ∷ actions_from n (x / 256))

unfoldable pub actions_in : ℕ → List Action
actions_in x = actions_from 4 x

-- ---- What the code answers

-- a row of the table, if the token is taken
abbrev pub row_in : CodeOption CodedRow → Option Row
row_in None = none
row_in (Some r) = some (row (actions_in r.actions) (symbols_in r.symbols))

-- what is done where the symbol is left out, if it may be
abbrev pub left_out_in : CodeOption ℕ → Option (List Action)
left_out_in None = none
left_out_in (Some actions) = some (actions_in actions)

-- rows of constants alike, and of patterns
abbrev pub constants_in : (actions symbols : ℕ) → List (ℕ × Row)
constants_in a x =
    (a_number, row (actions_in a) (symbols_in x))
    ∷ (a_text, row (actions_in a) (symbols_in x))
    ∷ (true_word, row (actions_in a) (symbols_in x))
    ∷ (false_word, row (actions_in a) (symbols_in x))
    ∷ (a_word, row (actions_in a) (symbols_in x))
    ∷ []

abbrev pub patterns_in : (default constant symbols : ℕ) → List (ℕ × Row)
patterns_in d a x = (default_word, row (actions_in d) (symbols_in x)) ∷ constants_in a x

-- an operator of level n, where those from l to m may follow
abbrev pub operation_in : (l m n action : ℕ) → Option Row
operation_in l m n a = pick (leb l n && leb n m) (some (row (actions_in a) (expression (suc n) ∷ ends ∷ operators l n ∷ []))) none

-- the same for a selector
abbrev pub selector_in : (l m : ℕ) → Option Row
selector_in l m = pick (leb l 3 && leb 3 m) (some (row (around 0x19 [] ∷ []) (sign left_brace ∷ one arm ∷ sign right_brace ∷ ends ∷ operators l 3 ∷ []))) none
