-- What is done by an action's code. Assumes nothing.
use mathlib.Core.Path.{◌≡◌, refl, sym, ◌∙◌, ap, subst}
use mathlib.Core.Bool.{Bool, true, false}
use mathlib.Core.Option.{Option, none, some}
use mathlib.Core.List.{List, [], ◌∷◌}
use native.Mathlib.Omega.{arith}
use lib.Dec.{eqb}
use borrow.Author.Tests.{le-leb, lt-leb}
use Prim.Native.Nat.{ℕ, ◌-◌, ◌≤◌, ◌<◌}
use Rattle.rules.specs.Bytes.{pick}
use Rattle.format.proofs.Table.{unlike}
use Rattle.notation.specs.Lexing.{find}
use Rattle.parse_table.proofs.Packed.{absent}
use Rattle.lexer.specs.declared.Token.{Token}
use Rattle.notation.specs.Building.{byte, Action, begin, begin_resource, around, instead, close, constant, read, named, parent_first, void, enter, leave}
use Rattle.parse_table.specs.Codes.{or_else, action_of}
use Rattle.tree_builder.specs.declared.Building.{Building}
use Rattle.tree_builder.specs.Shows.{Does, IsWord}
use Rattle.parser.specs.declared.actions.Names.{Names}
use Rattle.rules.proofs.Within.{false_not_true}
use Rattle.parser.specs.Doing.{DoesFor, ConstantAt, Suits, is_constant, WordRead}
use Rattle.std.specs.Prelude.{Option as CodeOption}

-- what is done by a code that stands for an action
abbrev pub DoneBy : (t : Token) (ns : Names) (s : Building) (m out : List ℕ) (r : CodeOption Building) (m' out' : List ℕ) → Action → Type 0
DoneBy t ns s m out r m' out' a = DoesFor t ns a s m out r m' out' × WordRead a t r

module _ (t : Token) (ns : Names) (s : Building) (m out : List ℕ) (r : CodeOption Building) (m' out' : List ℕ) (n : ℕ) (a : Action) (e : action_of n ≡ a) where
  pub by_code : DoneBy t ns s m out r m' out' a → DoneBy t ns s m out r m' out' (action_of n)
  by_code done = subst (DoneBy t ns s m out r m' out') (sym e) done

  -- an action that reads no constant
  pub by_other : is_constant a ≡ false → DoesFor t ns a s m out r m' out' → DoneBy t ns s m out r m' out' (action_of n)
  unfolding WordRead
  by_other other does = by_code (does, λ one k. false_not_true (sym other ∙ one))

-- the same by a code that is known
pub by_known : (t : Token) (ns : Names) (s : Building) (m out : List ℕ) (r : CodeOption Building) (m' out' : List ℕ) (n k : ℕ) (a : Action) → n ≡ k → action_of k ≡ a → is_constant a ≡ false → DoesFor t ns a s m out r m' out' → DoneBy t ns s m out r m' out' (action_of n)
by_known t ns s m out r m' out' n k a i e other does = by_other t ns s m out r m' out' n a (ap action_of i ∙ e) other does

-- the action that reads one
pub by_constant : (t : Token) (ns : Names) (s : Building) (m out : List ℕ) (r : CodeOption Building) (m' out' : List ℕ) (n : ℕ) → n ≡ 2 → Does (ConstantAt t ns.name) constant s m out r m' out' → (t.kind ≡ 0 → IsWord r) → DoneBy t ns s m out r m' out' (action_of n)
unfolding Suits WordRead
by_constant t ns s m out r m' out' n e does word = let two : action_of 2 ≡ constant = unfold action_of in refl in by_code t ns s m out r m' out' n constant (ap action_of e ∙ two) (does, λ one k. word k)

-- the codes of operations, of empty fields, of fields that begin
pub code_around : (n : ℕ) → 0x80 ≤ n → action_of n ≡ around 0x16 (byte (n - 0x80) ∷ [])
unfolding action_of
code_around n h = rw (le-leb 0x80 n h)

pub code_void : (n : ℕ) → n < 0x80 → 0x40 ≤ n → action_of n ≡ void (n - 0x40)
unfolding action_of
code_void n l h = rw (lt-leb 0x80 n l, le-leb 0x40 n h)

pub code_begin : (n : ℕ) → n < 0x40 → 0x10 ≤ n → action_of n ≡ begin n
unfolding action_of
code_begin n l h = rw (lt-leb 0x80 n (omega arith), lt-leb 0x40 n l, le-leb 0x10 n h)

-- the codes below 10 but that of `close`
abbrev other_plain : List (ℕ × Action)
other_plain = (2, constant) ∷ (3, read) ∷ (4, named) ∷ (5, parent_first) ∷ (6, enter) ∷ (7, leave) ∷ (8, begin_resource) ∷ (9, instead 0x18) ∷ (10, around 0x19 []) ∷ []

-- all others close a field
pub code_close : (n : ℕ) → n < 0x10 → unlike n (10 ∷ 9 ∷ 8 ∷ 7 ∷ 6 ∷ 5 ∷ 4 ∷ 3 ∷ 2 ∷ []) → action_of n ≡ close
unfolding action_of
code_close n l u = rw (lt-leb 0x80 n (omega arith), lt-leb 0x40 n (omega arith), lt-leb 0x10 n l) (go (eqb n 1) (absent (10 ∷ 9 ∷ 8 ∷ 7 ∷ 6 ∷ 5 ∷ 4 ∷ 3 ∷ 2 ∷ []) other_plain n refl u))
  where
    go : (b : Bool) → find n other_plain ≡ none → or_else (pick b (some close) (find n other_plain)) close ≡ close
    go true e = refl
    go false e = ap (λ (o : Option Action). or_else o close) e
