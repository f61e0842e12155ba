-- No action of the grammar begins or adds a field with the tag of a constant, apart from the one that adds the token's constant.
use Prim.Native.Nat.{ℕ, suc}
use mathlib.Core.Path.{◌≡◌, refl, subst}
use mathlib.Core.Bool.{Bool, true, false, not, ◌&&◌}
use mathlib.Core.List.{List, [], ◌∷◌}
use mathlib.Core.Option.{Option, none, some}
use lib.Dec.{leb, eqb}
use Rattle.rules.specs.Bytes.{pick}
use Rattle.rules.specs.Format.{is_constant}
use Rattle.notation.specs.Tokens.{left_brace, right_brace, question}
use Rattle.notation.specs.Building.{Action, begin, begin_resource, around, instead, close, constant, read, named, parent_first, void, enter, leave, byte}
use Rattle.notation.specs.Grammar.{Entry, arm, attribute, parameter, Symbol, sign, a_name, expression, operators, read_or_word, close_bracket, one, maybe, further, statements, block, otherwise, branches, items, class_rest, parameters, default_value, a_constant, inherits, parent, devices, device, more_devices, ends, Row, row, entry_rows, operator_byte, operator_row, operator_in, binds, row_of, left_out}
use Rattle.notation.proofs.NeedsKept.{none_not_some, same_result}
use Rattle.notation.proofs.TableRows.{all_pass, found_passes, rows_of}

-- an action brings no tag of a constant
abbrev pub plain_action : Action → Bool
plain_action (begin t) = not (is_constant t)
plain_action begin_resource = true
plain_action (around t h) = not (is_constant t)
plain_action (instead t) = not (is_constant t)
plain_action close = true
plain_action constant = true
plain_action read = true
plain_action named = true
plain_action parent_first = true
plain_action (void t) = not (is_constant t)
plain_action enter = true
plain_action leave = true

-- none of them does
abbrev pub plain_actions : List Action → Bool
plain_actions [] = true
plain_actions (a ∷ ds) = plain_action a && plain_actions ds

-- no action of a row does
abbrev plain_row : Row → Bool
plain_row (row ds ss) = plain_actions ds

-- so it is in the rows of entries
entry_plain : (y : Entry) → all_pass plain_row (entry_rows y) ≡ true
entry_plain arm = refl
entry_plain attribute = refl
entry_plain parameter = refl

-- so it is in all rows
pub row_plain : (s : Symbol) (c : ℕ) (ds : List Action) (ss : List Symbol) → row_of s c ≡ some (row ds ss) → plain_actions ds ≡ true
unfolding row_of
row_plain (sign k) c ds ss e = found_passes plain_row (rows_of (sign k)) c (row ds ss) refl e
row_plain a_name c ds ss e = found_passes plain_row (rows_of a_name) c (row ds ss) refl e
row_plain (expression l) c ds ss e = found_passes plain_row (rows_of (expression l)) c (row ds ss) refl e
row_plain (operators l m) c ds ss e = go (binds c) e
  where
    by_level : (n : ℕ) (b : Bool) → ◌≡◌ {A = Option Row} (pick b (some (operator_row l c n)) none) (some (row ds ss)) → plain_actions ds ≡ true
    by_level n true e = subst (λ (r : Row). plain_row r ≡ true) (same_result (operator_row l c n) (row ds ss) e) (by_question (eqb c question))
      where
        by_question : (b : Bool) → plain_row (pick b
            (row (around 0x19 [] ∷ []) (sign left_brace ∷ one arm ∷ sign right_brace ∷ ends ∷ operators l n ∷ []))
            (row (around 0x16 (byte (operator_byte c) ∷ []) ∷ []) (expression (suc n) ∷ ends ∷ operators l n ∷ []))) ≡ true
        by_question true = refl
        by_question false = refl
    by_level n false e = none_not_some e

    go : (o : Option ℕ) → operator_in l m c o ≡ some (row ds ss) → plain_actions ds ≡ true
    go none e = none_not_some e
    go (some n) e = by_level n (leb l n && leb n m) e
row_plain read_or_word c ds ss e = found_passes plain_row (rows_of read_or_word) c (row ds ss) refl e
row_plain close_bracket c ds ss e = found_passes plain_row (rows_of close_bracket) c (row ds ss) refl e
row_plain (one y) c ds ss e = found_passes plain_row (rows_of (one y)) c (row ds ss) (entry_plain y) e
row_plain (maybe y) c ds ss e = found_passes plain_row (rows_of (maybe y)) c (row ds ss) (entry_plain y) e
row_plain (further y) c ds ss e = found_passes plain_row (rows_of (further y)) c (row ds ss) refl e
row_plain statements c ds ss e = found_passes plain_row (rows_of statements) c (row ds ss) refl e
row_plain block c ds ss e = found_passes plain_row (rows_of block) c (row ds ss) refl e
row_plain otherwise c ds ss e = found_passes plain_row (rows_of otherwise) c (row ds ss) refl e
row_plain branches c ds ss e = found_passes plain_row (rows_of branches) c (row ds ss) refl e
row_plain items c ds ss e = found_passes plain_row (rows_of items) c (row ds ss) refl e
row_plain class_rest c ds ss e = found_passes plain_row (rows_of class_rest) c (row ds ss) refl e
row_plain parameters c ds ss e = found_passes plain_row (rows_of parameters) c (row ds ss) refl e
row_plain default_value c ds ss e = found_passes plain_row (rows_of default_value) c (row ds ss) refl e
row_plain a_constant c ds ss e = found_passes plain_row (rows_of a_constant) c (row ds ss) refl e
row_plain inherits c ds ss e = found_passes plain_row (rows_of inherits) c (row ds ss) refl e
row_plain parent c ds ss e = found_passes plain_row (rows_of parent) c (row ds ss) refl e
row_plain devices c ds ss e = found_passes plain_row (rows_of devices) c (row ds ss) refl e
row_plain device c ds ss e = found_passes plain_row (rows_of device) c (row ds ss) refl e
row_plain more_devices c ds ss e = found_passes plain_row (rows_of more_devices) c (row ds ss) refl e
row_plain ends c ds ss e = none_not_some e

-- actions, if there are any
abbrev plain_if_any : Option (List Action) → Bool
plain_if_any none = true
plain_if_any (some ds) = plain_actions ds

-- no symbol brings such a tag where it is left out
left_plain : (s : Symbol) → plain_if_any (left_out s) ≡ true
unfolding left_out
left_plain (sign k) = refl
left_plain a_name = refl
left_plain (expression l) = refl
left_plain (operators l m) = refl
left_plain read_or_word = refl
left_plain close_bracket = refl
left_plain (one y) = refl
left_plain (maybe y) = refl
left_plain (further y) = refl
left_plain statements = refl
left_plain branches = refl
left_plain items = refl
left_plain class_rest = refl
left_plain parameters = refl
left_plain default_value = refl
left_plain a_constant = refl
left_plain inherits = refl
left_plain parent = refl
left_plain devices = refl
left_plain device = refl
left_plain more_devices = refl
left_plain block = refl
left_plain otherwise = refl
left_plain ends = refl

-- so none of its actions does
pub left_out_plain : (s : Symbol) (ds : List Action) → left_out s ≡ some ds → plain_actions ds ≡ true
left_out_plain s ds e = subst (λ (o : Option (List Action)). plain_if_any o ≡ true) e (left_plain s)
