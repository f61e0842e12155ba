-- What the code must know of a token, so that what it does at the token is what the grammar's action does.
use Rattle.std.specs.Prelude.{ℕ, ◌+◌, ◌/◌, ◌%◌, ◌≤◌, Bool, true, false, not, ◌&&◌, length, ◌≡◌, List, [], ◌∷◌, Option as CodeOption, Some, None}
use Rattle.std.proofs.Math.Option.{Option, none, some}
use Rattle.lexer.specs.declared.Token.{Token}
use Rattle.notation.specs.Tokens.{Lexeme, token_of, a_word, a_number, a_variable, true_word, false_word}
use Rattle.notation.specs.Building.{Build, acts, Action, begin, begin_resource, around, instead, close, constant, read, named, parent_first, void, enter, leave, spelled, resource_tag}
use Rattle.tree_builder.specs.Shows.{DoesAt, AnInteger, ABoolean, AString, AVariable, AClassVariable, AName, Shows, IsWord, Ready}
use Rattle.parse_table.specs.Codes.{actions_in}
use Rattle.tree_builder.specs.declared.Building.{Building}
use Rattle.parser.specs.declared.actions.Names.{Names}
use Rattle.rules.specs.Types.{Types}

module _ (r : Token) where
  -- x is the constant r, and a string has the number n
  pub record ConstantAt (n : ℕ) (table : List (List ℕ)) (x : Lexeme) : Type 0 where
    pub integer : r.kind ≡ a_number → AnInteger r.line r.start r.value table x
    pub true_word_lem : r.kind ≡ true_word → ABoolean r.line r.start 1 table x
    pub false_word_lem : r.kind ≡ false_word → ABoolean r.line r.start 0 table x
    pub string : (r.kind ≡ a_number → ⊥) → (r.kind ≡ true_word → ⊥) → (r.kind ≡ false_word → ⊥) → AString r.line r.start n table x

  -- x is the variable r, whose names have these numbers
  pub record VariableAt (ns : Names) (table : List (List ℕ)) (x : Lexeme) : Type 0 where
    pub plain : r.kind ≡ a_variable → AVariable 0x13 ns.name table x
    pub top : (r.kind ≡ a_variable → ⊥) → r.class_end ≡ 0 → AVariable 0x14 ns.name table x
    pub qualified : (r.kind ≡ a_variable → ⊥) → (r.class_end ≡ 0 → ⊥) → AClassVariable ns.class ns.name table x

-- x is r, as far as an action looks at it
unfoldable pub Suits : Types → Token → Action → Names → List (List ℕ) → Lexeme → Type 0
Suits types r (begin t) ns table x = Unit {0}
Suits types r begin_resource ns table x = ns.resource ≡ resource_tag types (spelled (token_of x))
Suits types r (around t h) ns table x = Unit {0}
Suits types r (instead t) ns table x = Unit {0}
Suits types r close ns table x = Unit {0}
Suits types r constant ns table x = ConstantAt r ns.name table x
Suits types r read ns table x = VariableAt r ns table x
Suits types r named ns table x = AName ns.name table x
Suits types r parent_first ns table x = AName ns.name table x
Suits types r (void t) ns table x = Unit {0}
Suits types r enter ns table x = Unit {0}
Suits types r leave ns table x = Unit {0}

-- whether an action reads a constant; behind one that does, at a word, the state tells that a word was just read
abbrev pub is_constant : Action → Bool
is_constant (begin t) = false
is_constant begin_resource = false
is_constant (around t h) = false
is_constant (instead t) = false
is_constant close = false
is_constant constant = true
is_constant read = false
is_constant named = false
is_constant parent_first = false
is_constant (void t) = false
is_constant enter = false
is_constant leave = false

unfoldable pub WordRead : Action → Token → CodeOption Building → Type 0
WordRead a r step = is_constant a ≡ true → r.kind ≡ a_word → IsWord step

-- whether there is one action, which reads a constant
abbrev pub only_constant : List Action → Bool
only_constant [] = false
only_constant (a ∷ []) = is_constant a
only_constant (a ∷ b ∷ ds) = false

-- whether there is none
abbrev pub no_action : List Action → Bool
no_action [] = true
no_action (a ∷ ds) = false

-- behind one that reads a constant, at a word, the state tells so; behind none the state is as before
pub record WordsRead (ds : List Action) (r : Token) (s : Building) (step : CodeOption Building) : Type 0 where
  pub word : only_constant ds ≡ true → r.kind ≡ a_word → IsWord step
  pub idle : no_action ds ≡ true → step ≡ Some s

-- what an action asks for: room for the slots, a state in range, and where a name comes in the place of a string constant, that one was just read
pub record Able (frames : List ℕ) (s : Building) (action : ℕ) (r : Token) : Type 0 where
  pub slots : 256 ≤ length frames
  pub ready : Ready s
  pub place : r.start ≤ 1048576
  pub word : action ≡ 9 → s.word ≡ true

-- x is r, as far as some actions look at it
unfoldable pub SuitsAll : (types : Types) → Token → Names → List Action → List (List ℕ) → Lexeme → Type 0
SuitsAll types r ns [] table x = Unit {0}
SuitsAll types r ns (a ∷ ds) table x = Suits types r a ns table x × SuitsAll types r ns ds table x

-- how far some actions fill the output at most
abbrev pub filled : ℕ → List Action → ℕ
filled n [] = n
filled n (a ∷ ds) = filled (n + 12) ds

-- the answer is no exactly where nothing comes of the actions
pub record AllMade (table : List (List ℕ)) (most : ℕ) (s : Building) (frames out : List ℕ) (wanted : Option Build) : Type 0 where
  pub made : Build
  pub is : wanted ≡ some made
  pub shows : Shows table s frames out made
  pub grown : s.fill ≤ most

unfoldable pub AllAnswered : (table : List (List ℕ)) → (most : ℕ) → CodeOption Building → (frames out : List ℕ) → (wanted : Option Build) → Type 0
AllAnswered table n None m out o = o ≡ none
AllAnswered table n (Some s) m out o = AllMade table n s m out o

-- whether an action puts a name in the place of a string constant, and that none of some does
abbrev pub is_instead : Action → Bool
is_instead (begin t) = false
is_instead begin_resource = false
is_instead (around t h) = false
is_instead (instead t) = true
is_instead close = false
is_instead constant = false
is_instead read = false
is_instead named = false
is_instead parent_first = false
is_instead (void t) = false
is_instead enter = false
is_instead leave = false

abbrev pub no_instead : List Action → Bool
no_instead [] = true
no_instead (a ∷ ds) = not (is_instead a) && no_instead ds

-- some actions at any token that is r: what the answer says
unfoldable pub DoesAllAt : Types → Token → Names → List Action → Building → (frames out : List ℕ) → CodeOption Building → (frames' out' : List ℕ) → Type 0
DoesAllAt types r ns ds s m out a m' out' = (table : List (List ℕ)) (f : Build) (x : Lexeme) → SuitsAll types r ns ds table x → Shows table s m out f → AllAnswered table (filled s.fill ds) a m' out' (acts types ds x f)

-- the same, whatever types are built in
abbrev pub DoesAll : Token → Names → List Action → Building → (frames out : List ℕ) → CodeOption Building → (frames' out' : List ℕ) → Type 0
DoesAll r ns ds s m out a m' out' = (types : Types) → DoesAllAt types r ns ds s m out a m' out'

-- one action at any token that is r
abbrev pub DoesFor : Token → Names → Action → Building → (frames out : List ℕ) → CodeOption Building → (frames' out' : List ℕ) → Type 0
DoesFor r ns a s m out st m' out' = (types : Types) → DoesAt types (Suits types r a ns) a s m out st m' out'

-- what some actions ask for: the state stands for a tree, and the token for x; a name comes in the place of a constant only where one was just read
pub record StandsAt (types : Types) (frames out : List ℕ) (s : Building) (actions : ℕ) (r : Token) (ns : Names) : Type 0 where
  pub table : List (List ℕ)
  pub tree : Build
  pub token : Lexeme
  pub shows : Shows table s frames out tree
  pub suits : SuitsAll types r ns (actions_in actions) table token
  pub slots : 256 ≤ length frames
  pub low : filled s.fill (actions_in actions) ≤ 1048576
  pub place : r.start ≤ 1048576
  pub word : actions % 256 ≡ 9 → s.word ≡ true
  pub once : no_instead (actions_in (actions / 256)) ≡ true

pub record Stands (frames out : List ℕ) (s : Building) (actions : ℕ) (r : Token) (ns : Names) : Type 0 where
  pub types : Types
  pub stands : StandsAt types frames out s actions r ns
