-- When the stack of symbols, the tree in the making and a token in hand are a state of the grammar's machine, and what a step makes of it.
use Rattle.std.specs.Prelude.{ℕ, ◌+◌, ◌-◌, ◌*◌, ◌≤◌, ◌<◌, ◌≡◌, Bool, true, false, not, ◌&&◌, List, [], ◌∷◌, length, Option, Some, None}
use Rattle.lexer.specs.declared.Token.{Token}
use Rattle.notation.specs.Tokens.{Lexeme, kind, token_of, is_among, a_word, a_number, a_text, a_variable, a_qualified, left_square, true_word, false_word}
use Rattle.notation.specs.Building.{Build, spelled, resource_tag}
use Rattle.notation.specs.Grammar.{Symbol, sign, a_name, expression, operators, read_or_word, close_bracket, one, maybe, further, statements, block, otherwise, branches, items, class_rest, parameters, default_value, a_constant, inherits, parent, devices, device, more_devices, ends, row_of, Stepped, stuck, to, step}
use Rattle.rules.specs.Bytes.{byte}
use Rattle.rules.specs.Types.{Types}
use Rattle.parse_table.specs.Codes.{row_in}
use Rattle.parse_table.specs.Stack.{stack_of}
use Rattle.parse_table.specs.declared.rows.Row.{Row}
use Rattle.parse_table.proofs.Bound.{Kept}
use Rattle.parser.specs.declared.steps.Machine.{Machine}
use Rattle.tree_builder.specs.declared.Building.{Building}
use Rattle.tree_builder.specs.Shows.{AName, Shows}
use Rattle.parse_table.specs.Codes.{symbol_of}
use Rattle.parser.specs.declared.actions.Names.{Names}
use Rattle.parser.specs.Doing.{ConstantAt, VariableAt}

-- the token x is r, and ns are the numbers of its strings
pub record Carried (types : Types) (r : Token) (ns : Names) (table : List (List ℕ)) (x : Lexeme) : Type 0 where
  pub same_kind : kind (token_of x) ≡ r.kind
  pub constants : is_among r.kind (a_word ∷ a_number ∷ a_text ∷ true_word ∷ false_word ∷ []) ≡ true → ConstantAt r ns.name table x
  pub variables : is_among r.kind (a_variable ∷ a_qualified ∷ []) ≡ true → VariableAt r ns table x
  pub named : is_among r.kind (a_word ∷ a_text ∷ a_variable ∷ []) ≡ true → AName ns.name table x
  pub resource : is_among r.kind (a_word ∷ []) ≡ true → ns.resource ≡ resource_tag types (spelled (token_of x))

-- ---- The symbol behind a bare word

abbrev pub is_read_or_word : Symbol → Bool
is_read_or_word (sign k) = false
is_read_or_word a_name = false
is_read_or_word (expression l) = false
is_read_or_word (operators l m) = false
is_read_or_word read_or_word = true
is_read_or_word close_bracket = false
is_read_or_word (one e) = false
is_read_or_word (maybe e) = false
is_read_or_word (further e) = false
is_read_or_word statements = false
is_read_or_word block = false
is_read_or_word otherwise = false
is_read_or_word branches = false
is_read_or_word items = false
is_read_or_word class_rest = false
is_read_or_word parameters = false
is_read_or_word default_value = false
is_read_or_word a_constant = false
is_read_or_word inherits = false
is_read_or_word parent = false
is_read_or_word devices = false
is_read_or_word device = false
is_read_or_word more_devices = false
is_read_or_word ends = false

abbrev pub none_behind_word : List Symbol → Bool
none_behind_word [] = true
none_behind_word (s ∷ k) = not (is_read_or_word s) && none_behind_word k

-- it is only on top, and only where a word was just read
unfoldable pub WordOnTop : List Symbol → Building → Type 0
WordOnTop [] s = Unit {0}
WordOnTop (y ∷ k) s = (is_read_or_word y ≡ true → s.word ≡ true) × (none_behind_word k ≡ true)

-- the same for a token of kind k: the word counts only where an attribute read begins
unfoldable pub WordFor : (kind : ℕ) → List Symbol → Building → Type 0
WordFor k [] s = Unit {0}
WordFor k (y ∷ ys) s = (is_read_or_word y ≡ true → k ≡ left_square → s.word ≡ true) × (none_behind_word ys ≡ true)

-- ---- A step

-- the stack, the tree and the token in hand are a state of the machine: these symbols, this tree, this token
pub record Standing (types : Types) (stack frames out : List ℕ) (s : Building) (top : ℕ) (r : Token) (ns : Names) (table : List (List ℕ)) (f : Build) (x : Lexeme) : Type 0 where
  pub shows : Shows table s frames out f
  pub carried : Carried types r ns table x
  pub kept : Kept (stack_of stack top) f
  pub words : WordFor r.kind (stack_of stack top) s
  pub low : s.fill + 12 * top ≤ 1000000

-- it goes on from these symbols and this tree
pub record Onward (table : List (List ℕ)) (m : Machine) (stack frames out : List ℕ) (wanted : Stepped) : Type 0 where
  pub tree : Build
  pub is : wanted ≡ to (stack_of stack m.top) tree
  pub shows : Shows table m.building frames out tree
  pub words : WordOnTop (stack_of stack m.top) m.building

unfoldable pub TakenSo : (table : List (List ℕ)) → Option Machine → (stack frames out : List ℕ) → (wanted : Stepped) → Type 0
TakenSo table None st m out o = o ≡ stuck
TakenSo table (Some n) st m out o = Onward table n st m out o

-- what a step asks for
pub record SteppableAt (types : Types) (stack frames out : List ℕ) (s : Building) (top : ℕ) (r : Token) (ns : Names) : Type 0 where
  pub table : List (List ℕ)
  pub tree : Build
  pub token : Lexeme
  pub standing : Standing types stack frames out s top r ns table tree token
  pub slots : 256 ≤ length frames
  pub room : 468 ≤ length stack
  pub place : r.start ≤ 1048576

pub record Steppable (stack frames out : List ℕ) (s : Building) (top : ℕ) (r : Token) (ns : Names) : Type 0 where
  pub types : Types
  pub steppable : SteppableAt types stack frames out s top r ns

-- what it does
unfoldable pub StepsAt : Types → Token → Names → Building → (top : ℕ) → (stack frames out : List ℕ) → Option Machine → (stack' frames' out' : List ℕ) → Type 0
StepsAt types r ns s top st m out a st' m' out' = (table : List (List ℕ)) (f : Build) (x : Lexeme) → Standing types st m out s top r ns table f x → TakenSo table a st' m' out' (step types (stack_of st top) x f)

-- the same, whatever types are built in
abbrev pub Steps : Token → Names → Building → (top : ℕ) → (stack frames out : List ℕ) → Option Machine → (stack' frames' out' : List ℕ) → Type 0
Steps r ns s top st m out a st' m' out' = (types : Types) → StepsAt types r ns s top st m out a st' m' out'

-- the row of the symbol on top takes the token
pub record TakenRow (stack : List ℕ) (top : ℕ) (r : Token) (w : Row) : Type 0 where
  pub some_top : 0 < top
  pub row_of_lem : row_in (Some w) ≡ row_of (symbol_of (byte stack (top - 1))) r.kind
