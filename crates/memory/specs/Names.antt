-- What the functions on names change, and what they tell of a class.
use Rattle.std.specs.Prelude.{ℕ, ◌+◌, ◌-◌, ◌≤◌, ◌<◌, ◌≡◌, List, [], eqb, ltb, Bool, true, false, Option as CodeOption, Some, None}
use Rattle.wire.specs.Bytes.{pick, two}
use Rattle.std.proofs.Math.Option.{Option, none, some}
use Rattle.rules.specs.State.{Scope, Base, top_base, node_base, DeclaredClass, Entry}
use Rattle.rules.specs.Compile.{room_in, start}
use Rattle.cells.specs.Layout.{words_at, summary_at, head_at, index_at, put_at, rest_of}
use Rattle.cells.specs.Scopes.{scope_of}
use Rattle.cells.specs.Memory.{base_for, Names, names_of, state_of, Fine}
use Rattle.memory.specs.Words.{word_of}

unfoldable pub with_definition : (name place : ℕ) → Names → Names
with_definition k v ns = record { definitions = put_at k v ns.definitions; built_ins = ns.built_ins }

unfoldable pub with_built_in : (name : ℕ) → Bool → Names → Names
with_built_in k v ns = record { definitions = ns.definitions; built_ins = put_at k v ns.built_ins }

-- the state of a class that is declared: 1 with base top, 2 with base node
unfoldable pub class_state : (base_is_node : Bool) → ℕ
class_state true = 2
class_state false = 1

-- no definition, no built-in type
unfoldable pub no_names : Names
no_names = record { definitions = λ k. 0; built_ins = λ k. false }

abbrev pub placed : (parent : ℕ) → (base_is_node : Bool) → DeclaredClass
placed q b = record { parent = scope_of q; base = base_for b }

-- the scope that an answer names by its number
unfoldable pub scope_above : CodeOption ℕ → Option Scope
scope_above (Some q) = some (scope_of q)
scope_above None = none

unfoldable pub is_node : Base → Bool
is_node top_base = false
is_node node_base = true

-- whether a class is declared with base node
unfoldable pub at_node : Option DeclaredClass → Bool
at_node none = false
at_node (some d) = is_node d.base

-- ---- The string "title"

-- a number past the table is none
unfoldable pub title_in : ℕ → Option ℕ
title_in t = pick (eqb t 0) none (pick (ltb 1024 t) none (some (t - 1)))

-- its number, kept as the first of the words
unfoldable pub title_of : List ℕ → Option ℕ
title_of w = title_in (two (rest_of w) 0)

unfoldable pub title_found : CodeOption ℕ → Option ℕ
title_found (Some n) = some n
title_found None = none

-- from w to w' the string "title" gets its number, and all else stays
pub record TitleSet (w w' : List ℕ) (name : ℕ) : Type 0 where
  pub title : title_of w' ≡ some name
  pub state : (es : List Entry) (n r : ℕ) → state_of w' es n r ≡ state_of w es n r
  pub names : names_of w' ≡ names_of w
  pub fine : Fine w → Fine w'
  pub after : (p : ℕ) → words_at + 2 ≤ p → two w' p ≡ two w p

-- ---- Before the first item

-- the index over the catalog has neither heads nor records
abbrev pub NoIndex : List ℕ → Type 0
NoIndex w = (p : ℕ) → head_at 0 ≤ p → p + 2 ≤ index_at 0 → two w p ≡ 0

-- w stands for the definition's first state: no cell, no class, no name, an empty trail; there is no summary, and the index is empty
pub record Begun (w : List ℕ) : Type 0 where
  pub state : (limit output : ℕ) → state_of w [] limit (room_in output) ≡ start limit output
  pub names : names_of w ≡ no_names
  pub title : title_of w ≡ none
  pub words : (i : ℕ) → i < 15 → word_of w i ≡ 0
  pub fine : Fine w
  pub summaries : (i : ℕ) → i < 16 → two w (summary_at i) ≡ 0
  pub index : NoIndex w
