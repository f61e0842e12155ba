-- The grammar of docs/NOTATION.md as one table: what each symbol takes by the kind of the next token, what is then done, and which symbols come in
-- its place. Below it what a text means by it, with free choice of what may be left out, and the function that reads a text.
use Rattle.std.specs.Prelude.{ℕ, suc, ◌≡◌, List, [], ◌∷◌, ◌++◌, ◌&&◌, leb, eqb}
use Rattle.std.proofs.Math.Option.{Option, none, some}
use Rattle.rules.specs.Bytes.{pick}
use Rattle.rules.specs.Types.{Types}
use Rattle.notation.specs.Tokens.{Lexeme, kind, token_of, place_of, a_word, a_number, a_text, a_variable, a_qualified, end_of_text, left_brace, right_brace, left_round, right_round, left_square, right_square, colon, comma, arrow, question, exclamation, plus_sign, minus_sign, slash, above, two_equals, equals, and_word, or_word, true_word, false_word, default_word, if_word, else_word, case_word, class_word, include_word, node_word, define_word, inherits_word}
use Rattle.notation.specs.Lexing.{find}
use Rattle.notation.specs.Building.{byte, Build, Action, begin, begin_resource, around, instead, close, constant, read, named, parent_first, void, enter, leave, acts, start}

-- ---- Symbols: what may come next

-- entries of lists with commas
pub data Entry : Type 0 where
  arm attribute parameter : Entry

pub data Symbol : Type 0 where
  sign : (kind : ℕ) → Symbol  -- this sign or keyword
  a_name : Symbol
  expression : (level : ℕ) → Symbol  -- an expression whose operators bind at this level or tighter
  operators : (loosest tightest : ℕ) → Symbol  -- operators of these levels, behind an operand, or none
  read_or_word : Symbol  -- behind a bare word: it is the type of an attribute read, or nothing follows
  close_bracket : Symbol
  one : Entry → Symbol  -- an entry
  maybe : Entry → Symbol  -- an entry, or none
  further : Entry → Symbol  -- behind an entry: a comma and perhaps another entry, or nothing
  statements : Symbol  -- any number of statements
  block : Symbol
  otherwise : Symbol  -- else and a block, or an empty block
  branches : Symbol  -- any number of patterns with a block
  items : Symbol  -- any number of items
  class_rest : Symbol  -- behind class outside of blocks: a class with attributes, or a definition
  parameters : Symbol  -- in brackets, or none
  default_value : Symbol  -- = and a constant, or none
  a_constant : Symbol
  inherits : Symbol  -- inherits and a name, or nothing
  parent : Symbol
  devices : Symbol  -- names with commas, in brackets or not, or default
  device : Symbol
  more_devices : Symbol
  ends : Symbol  -- the field being read ends here

-- when a token is taken: what is done, and which symbols follow
pub data Row : Type 0 where
  row : List Action → List Symbol → Row

-- ---- Operators: "From tightest: !, /, + -, == =, >, ? { }, and, or; all from the left"

abbrev pub levels : List (ℕ × ℕ)
levels = (or_word, 1) ∷ (and_word, 2) ∷ (question, 3) ∷ (above, 4) ∷ (two_equals, 5) ∷ (equals, 5) ∷ (plus_sign, 6) ∷ (minus_sign, 6) ∷ (slash, 7) ∷ []

-- the level of an operator
unfoldable pub binds : (kind : ℕ) → Option ℕ
binds k = find k levels

-- "operator byte 0 to 6 for + − / > = and or"
abbrev pub operator_bytes : List (ℕ × ℕ)
operator_bytes = (plus_sign, 0) ∷ (minus_sign, 1) ∷ (slash, 2) ∷ (above, 3) ∷ (two_equals, 4) ∷ (equals, 4) ∷ (and_word, 5) ∷ (or_word, 6) ∷ []

abbrev pub or_zero : Option ℕ → ℕ
or_zero none = 0
or_zero (some n) = n

unfoldable pub operator_byte : (kind : ℕ) → ℕ
operator_byte k = or_zero (find k operator_bytes)

-- an operator of level n, where those from l on may follow; its right side binds tighter than it does
abbrev pub operator_row : (l kind n : ℕ) → Row
operator_row l k n =
    pick (eqb k question)
    (row (around 0x19 [] ∷ []) (sign left_brace ∷ one arm ∷ sign right_brace ∷ ends ∷ operators l n ∷ []))
    (row (around 0x16 (byte (operator_byte k) ∷ []) ∷ []) (expression (suc n) ∷ ends ∷ operators l n ∷ []))

abbrev pub operator_in : (l m kind : ℕ) → Option ℕ → Option Row
operator_in l m k none = none
operator_in l m k (some n) = pick (leb l n && leb n m) (some (operator_row l k n)) none

-- ---- Rows

-- an operand, where operators from level l on may follow
abbrev pub operand_rows : ℕ → List (ℕ × Row)
operand_rows l =
    (a_number, row (constant ∷ []) (operators l 7 ∷ []))
    ∷ (a_text, row (constant ∷ []) (operators l 7 ∷ []))
    ∷ (true_word, row (constant ∷ []) (operators l 7 ∷ []))
    ∷ (false_word, row (constant ∷ []) (operators l 7 ∷ []))
    ∷ (a_word, row (constant ∷ []) (read_or_word ∷ operators l 7 ∷ []))
    ∷ (a_variable, row (read ∷ []) (operators l 7 ∷ []))
    ∷ (a_qualified, row (read ∷ []) (operators l 7 ∷ []))
    ∷ (exclamation, row (begin 0x17 ∷ []) (expression 8 ∷ ends ∷ operators l 7 ∷ []))
    ∷ (left_round, row (enter ∷ []) (expression 1 ∷ close_bracket ∷ operators l 7 ∷ []))
    ∷ []

-- a constant, with what is done before it and what follows it
abbrev pub constant_rows : List Action → List Symbol → List (ℕ × Row)
constant_rows ds ss =
    (a_number, row (ds ++ (constant ∷ [])) ss)
    ∷ (a_text, row (ds ++ (constant ∷ [])) ss)
    ∷ (true_word, row (ds ++ (constant ∷ [])) ss)
    ∷ (false_word, row (ds ++ (constant ∷ [])) ss)
    ∷ (a_word, row (ds ++ (constant ∷ [])) ss)
    ∷ []

-- a field that begins with a pattern: a constant or default
abbrev pub pattern_rows : (tag : ℕ) → List Symbol → List (ℕ × Row)
pattern_rows t ss = (default_word, row (begin t ∷ void 0x1b ∷ []) ss) ∷ constant_rows (begin t ∷ []) ss

abbrev pub entry_rows : Entry → List (ℕ × Row)
entry_rows arm = pattern_rows 0x1a (sign arrow ∷ expression 1 ∷ ends ∷ further arm ∷ [])
entry_rows attribute = (a_word, row (begin 0x26 ∷ named ∷ []) (sign arrow ∷ expression 1 ∷ ends ∷ further attribute ∷ [])) ∷ []
entry_rows parameter = (a_variable, row (begin 0x33 ∷ named ∷ []) (default_value ∷ ends ∷ further parameter ∷ [])) ∷ []

-- statements, and the symbol k behind each
abbrev pub statement_rows : Symbol → List (ℕ × Row)
statement_rows k =
    (a_variable, row (begin 0x21 ∷ named ∷ []) (sign equals ∷ expression 1 ∷ ends ∷ k ∷ []))
    ∷ (if_word, row (begin 0x22 ∷ []) (expression 1 ∷ block ∷ otherwise ∷ ends ∷ k ∷ []))
    ∷ (case_word, row (begin 0x23 ∷ []) (expression 1 ∷ sign left_brace ∷ branches ∷ sign right_brace ∷ ends ∷ k ∷ []))
    ∷ (a_word, row (begin_resource ∷ named ∷ []) (sign left_brace ∷ expression 1 ∷ sign colon ∷ maybe attribute ∷ sign right_brace ∷ ends ∷ k ∷ []))
    ∷ (include_word, row (begin 0x29 ∷ []) (a_name ∷ ends ∷ k ∷ []))
    ∷ []

abbrev pub in_block : List (ℕ × Row)
in_block = (class_word, row (begin 0x28 ∷ []) (sign left_brace ∷ a_name ∷ sign colon ∷ maybe attribute ∷ sign right_brace ∷ ends ∷ statements ∷ [])) ∷ statement_rows statements

abbrev pub item_rows : List (ℕ × Row)
item_rows =
    (class_word, row [] (class_rest ∷ items ∷ []))
    ∷ (node_word, row (begin 0x30 ∷ []) (devices ∷ block ∷ ends ∷ items ∷ []))
    ∷ (define_word, row (begin 0x32 ∷ []) (a_name ∷ parameters ∷ block ∷ ends ∷ items ∷ []))
    ∷ statement_rows items

abbrev pub class_rows : List (ℕ × Row)
class_rows =
    (left_brace, row (begin 0x28 ∷ []) (a_name ∷ sign colon ∷ maybe attribute ∷ sign right_brace ∷ ends ∷ []))
    ∷ (a_word, row (begin 0x34 ∷ named ∷ []) (parameters ∷ inherits ∷ block ∷ ends ∷ []))
    ∷ []

abbrev pub device_rows : List (ℕ × Row)
device_rows = (a_text, row (begin 0x31 ∷ named ∷ close ∷ []) (more_devices ∷ [])) ∷ (a_word, row (begin 0x31 ∷ named ∷ close ∷ []) (more_devices ∷ [])) ∷ []

abbrev pub node_rows : List (ℕ × Row)
node_rows = (default_word, row (void 0x1b ∷ []) []) ∷ (left_round, row [] (device ∷ sign right_round ∷ [])) ∷ device_rows

-- what a symbol makes of a token of kind k
abbrev pub only : (wanted kind : ℕ) → List Action → List Symbol → Option Row
only w k ds ss = pick (eqb k w) (some (row ds ss)) none

unfoldable pub row_of : Symbol → (kind : ℕ) → Option Row
row_of (sign s) k = only s k [] []
row_of a_name k = only a_word k (named ∷ []) []
row_of (expression l) k = find k (operand_rows l)
row_of (operators l m) k = operator_in l m k (binds k)
row_of read_or_word k = only left_square k (instead 0x18 ∷ []) (expression 1 ∷ sign right_square ∷ sign left_square ∷ a_name ∷ sign right_square ∷ ends ∷ [])
row_of close_bracket k = only right_round k (leave ∷ []) []
row_of (one e) k = find k (entry_rows e)
row_of (maybe e) k = find k (entry_rows e)
row_of (further e) k = only comma k [] (maybe e ∷ [])
row_of statements k = find k in_block
row_of branches k = find k (pattern_rows 0x24 (sign colon ∷ block ∷ ends ∷ branches ∷ []))
row_of items k = find k item_rows
row_of class_rest k = find k class_rows
row_of parameters k = only left_round k [] (maybe parameter ∷ sign right_round ∷ [])
row_of default_value k = only equals k [] (a_constant ∷ [])
row_of a_constant k = find k (constant_rows [] [])
row_of inherits k = only inherits_word k [] (parent ∷ [])
row_of parent k = only a_word k (parent_first ∷ []) []
row_of devices k = find k node_rows
row_of device k = find k device_rows
row_of more_devices k = only comma k [] (device ∷ [])
row_of block k = only left_brace k (begin 0x20 ∷ []) (statements ∷ sign right_brace ∷ ends ∷ [])
row_of otherwise k = only else_word k [] (block ∷ [])
row_of ends k = none

-- what is done where a symbol is left out, if it may be
unfoldable pub left_out : Symbol → Option (List Action)
left_out (sign s) = none
left_out a_name = none
left_out (expression l) = none
left_out (operators l m) = some []
left_out read_or_word = some []
left_out close_bracket = none
left_out (one e) = none
left_out (maybe e) = some []
left_out (further e) = some []
left_out statements = some []
left_out branches = some []
left_out items = some []
left_out class_rest = none
left_out parameters = some []
left_out default_value = some []
left_out a_constant = none
left_out inherits = some []
left_out parent = none
left_out devices = none
left_out device = none
left_out more_devices = some []
left_out block = none
left_out otherwise = some (void 0x20 ∷ [])  -- "without else the second block is an empty 20"
left_out ends = some (close ∷ [])

-- ---- What a text means: its tokens, the symbols they follow, what is built before them and behind them

pub data Reads (types : Types) : List Symbol → List Lexeme → Build → Build → Type 0 where
  done : {f : Build} → Reads types [] [] f f
  takes : {s : Symbol} {k ss : List Symbol} {ds : List Action} {x : Lexeme} {xs : List Lexeme} {f f' g : Build} →
      row_of s (kind (token_of x)) ≡ some (row ds ss) → acts types ds x f ≡ some f' → Reads types (ss ++ k) xs f' g → Reads types (s ∷ k) (x ∷ xs) f g
  leaves : {s : Symbol} {k : List Symbol} {ds : List Action} {x : Lexeme} {xs : List Lexeme} {f f' g : Build} →
      left_out s ≡ some ds → acts types ds x f ≡ some f' → Reads types k (x ∷ xs) f' g → Reads types (s ∷ k) (x ∷ xs) f g

-- a manifest's text: items, and then the end
abbrev pub manifest : List Symbol
manifest = items ∷ sign end_of_text ∷ []

-- ---- Reading: a symbol is left out where it takes no token of this kind

pub data Stepped : Type 0 where
  stuck : Stepped
  to : List Symbol → Build → Stepped

abbrev pub toward : List Symbol → Option Build → Stepped
toward k none = stuck
toward k (some f) = to k f

-- one token
unfoldable pub step : Types → List Symbol → Lexeme → Build → Stepped
step types [] x f = stuck
step types (s ∷ k) x f =
    elim (row_of s (kind (token_of x))) as (λ o. Stepped) [
      | some r ↦ elim r as (λ o. Stepped) [ row ds ss ↦ toward (ss ++ k) (acts types ds x f) ]
      | none ↦ elim (left_out s) as (λ o. Stepped) [
        | none ↦ stuck
        | some ds ↦ elim (acts types ds x f) as (λ o. Stepped) [ none ↦ stuck | some g ↦ step types k x g ]
      ]
    ]

-- a text is read whole, or stops at the place of a token
pub data Ended : Type 0 where
  built : Build → Ended
  fault : (place : ℕ) → Ended

unfoldable pub run : Types → List Lexeme → List Symbol → Build → Ended
run types [] [] f = built f
run types [] (s ∷ k) f = fault 0
run types (x ∷ xs) k f = elim (step types k x f) as (λ o. Ended) [ stuck ↦ fault (place_of x) | to k' g ↦ run types xs k' g ]

unfoldable pub reading : Types → List Lexeme → Ended
reading types xs = run types xs manifest start
