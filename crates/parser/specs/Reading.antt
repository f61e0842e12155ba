-- What reading a token, and all tokens of a text, does: steps of the grammar's machine, and strings that are entered in the table.
use Rattle.std.specs.Prelude.{ℕ, ◌+◌, ◌*◌, ◌≤◌, ◌<◌, ◌≡◌, true, false, List, [], ◌∷◌, eqb, length, take, Result, Ok, Err}
use Rattle.values.specs.declared.Reason.TheVariants.{OutsideNotation}
use Rattle.rules.specs.Bytes.{pick}
use Rattle.rules.specs.EditRule.{IsBytes}
use Rattle.rules.specs.Fields.{none as fields_end, write_all}
use Rattle.rules.specs.Outcome.{refused, done}
use Rattle.rules.specs.Types.{Types}
use Rattle.notation.specs.Tokens.{Lexeme, kind, token_of, place_of, operand_behind, left_square, end_of_text, malformed}
use Rattle.notation.specs.Lexing.{tokens}
use Rattle.notation.specs.Building.{Nodes, Build, start}
use Rattle.notation.specs.Grammar.{Symbol, stuck, to, step, reading}
use Rattle.notation.specs.Convert.{strings_of, entered_all, table_behind, crowded_at, numbered_onto, read_text, late_among}
use Rattle.notation.proofs.WrittenNames.{Rising}
use Rattle.lexer.specs.declared.Token.{Token}
use Rattle.lexer.specs.Found.{tokens_from}
use Rattle.interner.specs.Table.{strings}
use Rattle.parse_table.specs.Stack.{stack_of, Pushed}
use Rattle.parse_table.proofs.Bound.{Kept}
use Rattle.tree_builder.specs.declared.Building.{Building}
use Rattle.tree_builder.specs.Open.{late_number}
use Rattle.tree_builder.specs.Shows.{Shows}
use Rattle.parser.specs.declared.steps.Machine.{Machine}
use Rattle.parser.specs.declared.text.Pass.{Pass}
use Rattle.parser.specs.declared.text.Read.{Read}
use Rattle.parser.specs.declared.text.Read.TheVariants.{On, Done}
use Rattle.parser.specs.declared.text.Whole.{Whole}
use Rattle.parser.specs.Entering.{Enterable}
use Rattle.parser.specs.Stepping.{WordOnTop}

-- ---- One token

-- the state without the word just read
abbrev pub without_word : Building → Building
without_word s =
    record { brackets = s.brackets; depth = s.depth; fill = s.fill; start = s.start; body = s.body; tallest = s.tallest; last = s.last; height = s.height; late = s.late; word = false; name = s.name; before = s.before }

-- it counts only where an attribute read begins
unfoldable pub word_for : (kind : ℕ) → Building → Building
word_for k s = pick (eqb k left_square) s (without_word s)

-- the tokens that are left, and the symbols and strings so far
abbrev pub tokens_left : List ℕ → Pass → List Lexeme
tokens_left t p = tokens_from t p.at p.line p.operand

abbrev pub symbols_of : (stack : List ℕ) → Pass → List Symbol
symbols_of st p = stack_of st p.machine.top

abbrev pub strings_so_far : (t table : List ℕ) → Pass → List (List ℕ)
strings_so_far t tb p = strings t tb p.count

-- the pass stands at a state of the grammar's machine with this tree; where something is written, the table has every string that is left
pub record Stage (t out frames stack table : List ℕ) (p : Pass) (tree : Build) : Type 0 where
  pub shows : Shows (strings_so_far t table p) p.machine.building frames out tree
  pub kept : Kept (symbols_of stack p) tree
  pub words : WordOnTop (symbols_of stack p) p.machine.building
  pub low : p.machine.building.fill + 12 * p.machine.top ≤ 1000000
  pub known : 0 < length out → table_behind (tokens_left t p) (strings_so_far t table p) ≡ strings_so_far t table p

-- what reading a token asks for
pub record Passable (t out frames stack table : List ℕ) (p : Pass) : Type 0 where
  pub tree : Build
  pub stage : Stage t out frames stack table p tree
  pub short : length t ≤ 65535
  pub slots : 256 ≤ length frames
  pub room : 468 ≤ length stack
  pub enterable : Enterable t table p.count
  pub within : p.at ≤ length t
  pub line_bound : p.line ≤ p.at

-- the first token left is taken: a step of the machine, and its strings are in the table
pub record TokenTaken (types : Types) (t stack₀ table₀ : List ℕ) (p : Pass) (tree₀ : Build) (next : Pass) (out frames stack table : List ℕ) (rest : List Lexeme) : Type 0 where
  pub token : Lexeme
  pub first : tokens_left t p ≡ token ∷ rest
  pub tree : Build
  pub stepped : step types (symbols_of stack₀ p) token tree₀ ≡ to (symbols_of stack next) tree
  pub shows : Shows (strings_so_far t table next) next.machine.building frames out tree
  pub words : WordOnTop (symbols_of stack next) next.machine.building
  pub entered : strings_so_far t table next ≡ entered_all (strings_of (token_of token)) (strings_so_far t table₀ p)
  pub enterable : Enterable t table next.count
  pub at_end_lem : kind (token_of token) ≡ end_of_text → rest ≡ []
  pub within : next.at ≤ length t
  pub line_bound : next.line ≤ next.at

-- why a token may not stand there, or brings one string too many
pub data Barred (types : Types) (symbols : List Symbol) (x : Lexeme) (tree : Build) (table : List (List ℕ)) : Type 0 where
  is_malformed : kind (token_of x) ≡ malformed → Barred types symbols x tree table
  is_stuck : step types symbols x tree ≡ stuck → Barred types symbols x tree table
  is_crowded : 1024 < length (entered_all (strings_of (token_of x)) table) → Barred types symbols x tree table

-- the first token left is refused; it stands at this place, and nothing but white space and comments comes before it
pub record TokenRefused (types : Types) (t stack₀ table₀ : List ℕ) (p : Pass) (tree₀ : Build) (place : ℕ) : Type 0 where
  pub token : Lexeme
  pub rest : List Lexeme
  pub first : tokens_left t p ≡ token ∷ rest
  pub line : ℕ
  pub same_tokens : tokens_left t p ≡ tokens_from t place line p.operand
  pub place_of_lem : place_of token ≡ place
  pub barred : Barred types (symbols_of stack₀ p) token tree₀ (strings_so_far t table₀ p)
  pub small : place < 65536

unfoldable pub ReadSo : (types : Types) (t stack₀ table₀ : List ℕ) (p : Pass) (tree₀ : Build) → Result Read ℕ → (out frames stack table : List ℕ) → Type 0
ReadSo types t st₀ tb₀ p f (Ok (On next)) out m st tb = TokenTaken types t st₀ tb₀ p f next out m st tb (tokens_left t next) × (p.at < next.at)
ReadSo types t st₀ tb₀ p f (Ok (Done last)) out m st tb = TokenTaken types t st₀ tb₀ p f last out m st tb []
ReadSo types t st₀ tb₀ p f (Err q) out m st tb = TokenRefused types t st₀ tb₀ p f q

-- where a pass stands behind a token that was taken
abbrev pub pass_behind : Token → Machine → (count : ℕ) → Pass
pass_behind token machine count = record { at = token.end; line = token.line_behind; operand = operand_behind token.kind; machine = machine; count = count }

-- what reading a token does, with whatever tree the pass stands at
abbrev pub ReadsToken : (types : Types) (t out₀ frames₀ stack₀ table₀ : List ℕ) (p : Pass) → Result Read ℕ → (out frames stack table : List ℕ) → Type 0
ReadsToken types t out₀ m₀ st₀ tb₀ p r out m st tb = (tree : Build) → Stage t out₀ m₀ st₀ tb₀ p tree → ReadSo types t st₀ tb₀ p tree r out m st tb

-- ---- All tokens

-- where a pass begins: at the first byte of the text, with the symbols of a manifest to come and a tree with nothing in it
pub record Begun (stack₀ stack : List ℕ) (count : ℕ) (p : Pass) : Type 0 where
  pub top : ℕ
  pub building : Building
  pub is : p ≡ record { at = 0; line = 0; operand = true; machine = record { top = top; building = building }; count = count }
  pub pushed : Pushed stack₀ stack 1 0x2c05 top
  pub fresh : (table : List (List ℕ)) (frames out : List ℕ) → Shows table building frames out start

-- what reading a text asks for: room for what is open, a table of strings that rise, and where something is written, a table that has all strings of the text
pub record Readable (t out frames stack table : List ℕ) (count : ℕ) : Type 0 where
  pub short : length t ≤ 65535
  pub slots : 256 ≤ length frames
  pub room : 468 ≤ length stack
  pub enterable : Enterable t table count
  pub known : 0 < length out → table_behind (tokens t) (strings t table count) ≡ strings t table count

-- the whole text is read
pub record ReadWhole (types : Types) (t : List ℕ) (before : List (List ℕ)) (out table : List ℕ) (count late fill : ℕ) : Type 0 where
  pub items : Nodes
  pub read : read_text (reading types (tokens t)) (crowded_at (tokens t) before) ≡ done items
  pub table_is : strings t table count ≡ table_behind (tokens t) before
  pub rising : Rising (strings t table count)
  pub few : count ≤ 1024
  pub late_is : late ≡ late_number (late_among items)
  pub fill_is : fill ≡ length (write_all (numbered_onto (strings t table count) items fields_end))
  pub low : fill ≤ 1000000
  pub written : fill ≤ length out → IsBytes (write_all (numbered_onto (strings t table count) items fields_end)) → take fill out ≡ write_all (numbered_onto (strings t table count) items fields_end)

-- it is refused at a place
pub record ReadFault (types : Types) (t : List ℕ) (before : List (List ℕ)) (place : ℕ) : Type 0 where
  pub read : read_text (reading types (tokens t)) (crowded_at (tokens t) before) ≡ refused OutsideNotation place
  pub low : place < 65536

unfoldable pub TextRead : (types : Types) (t : List ℕ) → (before : List (List ℕ)) → Result Whole ℕ → (out table : List ℕ) → Type 0
TextRead types t before (Ok w) out table = ReadWhole types t before out table w.count w.late w.fill
TextRead types t before (Err place) out table = ReadFault types t before place
