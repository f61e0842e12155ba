-- What every row of the grammar's table keeps to, by computing: an action looks only at tokens that it is for, and the symbol behind a bare word comes only
-- there. Assumes nothing.
use mathlib.Core.Path.{◌≡◌, refl, ◌∙◌, ap, subst}
use mathlib.Core.Bool.{Bool, true, false, not, ◌&&◌, ◌||◌}
use mathlib.Core.List.{List, [], ◌∷◌}
use mathlib.Core.Option.{Option, none, some}
use lib.Dec.{leb, eqb}
use borrow.Author.Tests.{eqb-true}
use Prim.Native.Nat.{ℕ, suc}
use Rattle.rules.specs.Bytes.{pick}
use Rattle.rules.proofs.Lists.{both_left, both_right}
use Rattle.rules.specs.Types.{Types}
use Rattle.lexer.specs.declared.Token.{Token}
use Rattle.notation.specs.Tokens.{Lexeme, is_among, a_word, a_number, a_text, a_variable, a_qualified, true_word, false_word, left_square, question, left_brace, right_brace}
use Rattle.notation.specs.Lexing.{find}
use Rattle.notation.specs.Building.{byte, Action, begin, begin_resource, around, instead, close, constant, read, named, parent_first, void, enter, leave}
use Rattle.notation.specs.Grammar.{Entry, arm, attribute, parameter, Symbol, sign, a_name, expression, operators, read_or_word, close_bracket, one, maybe, further, statements, block, otherwise, branches, items, class_rest, parameters, default_value, a_constant, inherits, parent, devices, device, more_devices, ends, Row, row, operator_byte, operator_row, operator_in, binds, row_of}
use Rattle.notation.proofs.NeedsKept.{none_not_some, same_result}
use Rattle.notation.proofs.TableRows.{rows_of}
use Rattle.parser.specs.declared.actions.Names.{Names}
use Rattle.parser.specs.Doing.{Suits, SuitsAll, is_instead, no_instead, only_constant}
use Rattle.parser.specs.Stepping.{Carried, is_read_or_word, none_behind_word}

-- the kinds of tokens that an action is for
abbrev pub fits : ℕ → Action → Bool
fits k (begin t) = true
fits k begin_resource = is_among k (a_word ∷ [])
fits k (around t h) = true
fits k (instead t) = is_among k (left_square ∷ [])
fits k close = true
fits k constant = is_among k (a_word ∷ a_number ∷ a_text ∷ true_word ∷ false_word ∷ [])
fits k read = is_among k (a_variable ∷ a_qualified ∷ [])
fits k named = is_among k (a_word ∷ a_text ∷ a_variable ∷ [])
fits k parent_first = is_among k (a_word ∷ a_text ∷ a_variable ∷ [])
fits k (void t) = true
fits k enter = true
fits k leave = true

abbrev pub all_fit : ℕ → List Action → Bool
all_fit k [] = true
all_fit k (a ∷ ds) = fits k a && all_fit k ds

-- a name comes in the place of a constant only by the symbol behind a word, and first
abbrev pub instead_first : Symbol → List Action → Bool
instead_first s [] = true
instead_first s (a ∷ ds) = (not (is_instead a) || is_read_or_word s) && no_instead ds

-- this symbol comes first, and only where a word was read
abbrev pub word_first : ℕ → List Action → List Symbol → Bool
word_first k ds [] = true
word_first k ds (y ∷ ys) = (not (is_read_or_word y) || (only_constant ds && eqb k a_word)) && none_behind_word ys

abbrev pub row_fits : Symbol → ℕ → Row → Bool
row_fits s k (row ds ss) = all_fit k ds && (instead_first s ds && word_first k ds ss)

-- no row asks for the end of the text or for a malformed piece
abbrev pub is_plain : Symbol → Bool
is_plain (sign k) = leb 7 k
is_plain a_name = true
is_plain (expression l) = true
is_plain (operators l m) = true
is_plain read_or_word = true
is_plain close_bracket = true
is_plain (one e) = true
is_plain (maybe e) = true
is_plain (further e) = true
is_plain statements = true
is_plain block = true
is_plain otherwise = true
is_plain branches = true
is_plain items = true
is_plain class_rest = true
is_plain parameters = true
is_plain default_value = true
is_plain a_constant = true
is_plain inherits = true
is_plain parent = true
is_plain devices = true
is_plain device = true
is_plain more_devices = true
is_plain ends = true

abbrev pub all_plain : List Symbol → Bool
all_plain [] = true
all_plain (s ∷ ss) = is_plain s && all_plain ss

abbrev row_sound : Symbol → ℕ → Row → Bool
row_sound s k (row ds ss) = row_fits s k (row ds ss) && all_plain ss

-- ---- Every row

abbrev pub all_keyed : {A : Type 0} → (ℕ → A → Bool) → List (ℕ × A) → Bool
all_keyed test [] = true
all_keyed test (x ∷ xs) = test x.0 x.1 && all_keyed test xs

-- a test that holds of all keys and values holds of what is found
pub found_keyed : {A : Type 0} (test : ℕ → A → Bool) (xs : List (ℕ × A)) (k : ℕ) (v : A) → all_keyed test xs ≡ true → find k xs ≡ some v → test k v ≡ true
found_keyed test [] k v a e = none_not_some e
found_keyed {A} test (x ∷ xs) k v a e = go (eqb k x.0) refl (λ e. found_keyed test xs k v (both_right (test x.0 x.1) (all_keyed test xs) a) e) e
  where
    go : (b : Bool) → eqb k x.0 ≡ b → (find k xs ≡ some v → test k v ≡ true) → ◌≡◌ {A = Option A} (pick b (some x.1) (find k xs)) (some v) → test k v ≡ true
    go true i others e = subst (λ (v : A). test k v ≡ true) (same_result x.1 v e) (ap (λ (n : ℕ). test n x.1) (eqb-true k x.0 i) ∙ both_left (test x.0 x.1) (all_keyed test xs) a)
    go false i others e = others e

-- operators of any level
operator_sound : (l m q n : ℕ) → row_sound (operators l m) q (operator_row l q n) ≡ true
operator_sound l m q n = go (eqb q question)
  where
    go : (b : Bool) → row_sound (operators l m) q (pick b (row (around 0x19 [] ∷ []) (sign left_brace ∷ one arm ∷ sign right_brace ∷ ends ∷ operators l n ∷ [])) (row (around 0x16 (byte (operator_byte q) ∷ []) ∷ []) (expression (suc n) ∷ ends ∷ operators l n ∷ []))) ≡ true
    go true = refl
    go false = refl

operators_sound : (l m q : ℕ) (o : Option ℕ) (r : Row) → operator_in l m q o ≡ some r → row_sound (operators l m) q r ≡ true
operators_sound l m q none r h = none_not_some h
operators_sound l m q (some n) r h = go (leb l n && leb n m) h
  where
    go : (b : Bool) → ◌≡◌ {A = Option Row} (pick b (some (operator_row l q n)) none) (some r) → row_sound (operators l m) q r ≡ true
    go true i = subst (λ (r : Row). row_sound (operators l m) q r ≡ true) (same_result (operator_row l q n) r i) (operator_sound l m q n)
    go false i = none_not_some i

entry_sound : (e : Entry) → (all_keyed (row_sound (one e)) (rows_of (one e)) ≡ true) × (all_keyed (row_sound (maybe e)) (rows_of (maybe e)) ≡ true)
entry_sound arm = (refl, refl)
entry_sound attribute = (refl, refl)
entry_sound parameter = (refl, refl)

row_sound_lem : (s : Symbol) (q : ℕ) (r : Row) → row_of s q ≡ some r → row_sound s q r ≡ true
unfolding row_of
row_sound_lem (sign k) q r h = found_keyed (row_sound (sign k)) (rows_of (sign k)) q r refl h
row_sound_lem a_name q r h = found_keyed (row_sound a_name) (rows_of a_name) q r refl h
row_sound_lem (expression l) q r h = found_keyed (row_sound (expression l)) (rows_of (expression l)) q r refl h
row_sound_lem (operators l m) q r h = operators_sound l m q (binds q) r h
row_sound_lem read_or_word q r h = found_keyed (row_sound read_or_word) (rows_of read_or_word) q r refl h
row_sound_lem close_bracket q r h = found_keyed (row_sound close_bracket) (rows_of close_bracket) q r refl h
row_sound_lem (one e) q r h = found_keyed (row_sound (one e)) (rows_of (one e)) q r (entry_sound e).0 h
row_sound_lem (maybe e) q r h = found_keyed (row_sound (maybe e)) (rows_of (maybe e)) q r (entry_sound e).1 h
row_sound_lem (further e) q r h = found_keyed (row_sound (further e)) (rows_of (further e)) q r refl h
row_sound_lem statements q r h = found_keyed (row_sound statements) (rows_of statements) q r refl h
row_sound_lem block q r h = found_keyed (row_sound block) (rows_of block) q r refl h
row_sound_lem otherwise q r h = found_keyed (row_sound otherwise) (rows_of otherwise) q r refl h
row_sound_lem branches q r h = found_keyed (row_sound branches) (rows_of branches) q r refl h
row_sound_lem items q r h = found_keyed (row_sound items) (rows_of items) q r refl h
row_sound_lem class_rest q r h = found_keyed (row_sound class_rest) (rows_of class_rest) q r refl h
row_sound_lem parameters q r h = found_keyed (row_sound parameters) (rows_of parameters) q r refl h
row_sound_lem default_value q r h = found_keyed (row_sound default_value) (rows_of default_value) q r refl h
row_sound_lem a_constant q r h = found_keyed (row_sound a_constant) (rows_of a_constant) q r refl h
row_sound_lem inherits q r h = found_keyed (row_sound inherits) (rows_of inherits) q r refl h
row_sound_lem parent q r h = found_keyed (row_sound parent) (rows_of parent) q r refl h
row_sound_lem devices q r h = found_keyed (row_sound devices) (rows_of devices) q r refl h
row_sound_lem device q r h = found_keyed (row_sound device) (rows_of device) q r refl h
row_sound_lem more_devices q r h = found_keyed (row_sound more_devices) (rows_of more_devices) q r refl h
row_sound_lem ends q r h = none_not_some h

pub row_fits_lem : (s : Symbol) (q : ℕ) (r : Row) → row_of s q ≡ some r → row_fits s q r ≡ true
row_fits_lem s q (row ds ss) h = both_left (row_fits s q (row ds ss)) (all_plain ss) (row_sound_lem s q (row ds ss) h)

pub row_plain : (s : Symbol) (q : ℕ) (ds : List Action) (ss : List Symbol) → row_of s q ≡ some (row ds ss) → all_plain ss ≡ true
row_plain s q ds ss h = both_right (row_fits s q (row ds ss)) (all_plain ss) (row_sound_lem s q (row ds ss) h)

-- ---- What a token in hand is for its row's actions

module _ (types : Types) (t : Token) (ns : Names) (table : List (List ℕ)) (x : Lexeme) (h : Carried types t ns table x) where
  suits_one : (a : Action) → fits t.kind a ≡ true → Suits types t a ns table x
  unfolding Suits
  suits_one (begin u) e = tt
  suits_one begin_resource e = h.resource e
  suits_one (around u g) e = tt
  suits_one (instead u) e = tt
  suits_one close e = tt
  suits_one constant e = h.constants e
  suits_one read e = h.variables e
  suits_one named e = h.named e
  suits_one parent_first e = h.named e
  suits_one (void u) e = tt
  suits_one enter e = tt
  suits_one leave e = tt

  pub suits_all : (ds : List Action) → all_fit t.kind ds ≡ true → SuitsAll types t ns ds table x
  unfolding SuitsAll
  suits_all [] e = tt
  suits_all (a ∷ ds) e = (suits_one a (both_left (fits t.kind a) (all_fit t.kind ds) e), suits_all ds (both_right (fits t.kind a) (all_fit t.kind ds) e))
