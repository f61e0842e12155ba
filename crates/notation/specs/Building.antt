-- The tree that a text builds, with byte strings in the place of string numbers, and what the grammar's actions do to it.
use Rattle.std.specs.Prelude.{ℕ, zero, suc, ◌+◌, max, List, [], ◌∷◌, ◌++◌, map, leb, ltb, eqb, length}
use Rattle.std.proofs.Math.Option.{Option, none, some}
use Rattle.rules.specs.Bytes.{pick}
use Rattle.rules.specs.Catalog.{high_bytes, word64}
use Rattle.rules.specs.Evaluate.{any}
use Rattle.rules.specs.Types.{Types, built_in_types}
use Rattle.rules.specs.Compile.{same_bytes}
use Rattle.notation.specs.Tokens.{Token, word, number, text, variable, top_variable, class_variable, mark, true_word, Lexeme, lexeme, place_of, token_of}

-- what the body of a field begins with: bytes, and names by their strings
pub data Piece : Type 0 where
  byte : ℕ → Piece
  name : List ℕ → Piece

-- a field, with the place in the text of the token that brought it; and fields in their order, the last at hand
mutual
  pub data Node : Type 0 where
    node : (place tag : ℕ) → List Piece → Nodes → Node

  pub data Nodes : Type 0 where
    empty : Nodes
    ◌▸◌ : Nodes → Node → Nodes

infixl 40 ◌▸◌
-- how many levels of fields a field has
unfoldable mutual
  pub height : Node → ℕ
  height (node p t h ks) = suc (tallest ks)

  pub tallest : Nodes → ℕ
  tallest empty = 0
  tallest (ks ▸ k) = max (tallest ks) (height k)

-- a field that is being read
pub data Frame : Type 0 where
  frame : (place tag : ℕ) → List Piece → Nodes → Frame

-- the round brackets that are open, the field being read, and those around it
pub data Build : Type 0 where
  build : (brackets : ℕ) → Frame → List Frame → Build

-- before the first token: what is read goes to a field that stands for the manifest
abbrev pub start : Build
start = build 0 (frame 0 0 [] empty) []

pub data Action : Type 0 where
  begin : (tag : ℕ) → Action  -- a field begins
  begin_resource : Action  -- a resource begins: built in, or defined
  around : (tag : ℕ) → List Piece → Action  -- a field begins before the one just read, which is its first part
  instead : (tag : ℕ) → Action  -- the string constant just read is none: a field begins that has its name
  close : Action  -- the field ends
  constant : Action  -- the token is a constant
  read : Action  -- the token is a variable
  named : Action  -- the token is a name of the field
  parent_first : Action  -- the token names a parent: its field comes before the others
  void : (tag : ℕ) → Action  -- an empty field
  enter leave : Action  -- a round bracket is opened, is closed

-- ---- Fields of one token

abbrev pub leaf : (place tag : ℕ) → List Piece → Node
leaf p t h = node p t h empty

-- the string in a token
unfoldable pub spelled : Token → List ℕ
spelled (word w) = w
spelled (number z) = []
spelled (text s) = s
spelled (variable n) = n
spelled (top_variable n) = n
spelled (class_variable c n) = n
spelled (mark k) = []

-- "10 integer (label, 8 bytes, signed); 11 string (label, name); 12 boolean (label, 00 or 01)"; "A constant's label is its line"
unfoldable pub constant_node : Lexeme → Node
constant_node (lexeme p l (word w)) = leaf p 0x11 (byte l ∷ name w ∷ [])
constant_node (lexeme p l (number z)) = leaf p 0x10 (byte l ∷ map byte (high_bytes 8 (word64 z)))
constant_node (lexeme p l (text s)) = leaf p 0x11 (byte l ∷ name s ∷ [])
constant_node (lexeme p l (variable n)) = leaf p 0 []
constant_node (lexeme p l (top_variable n)) = leaf p 0 []
constant_node (lexeme p l (class_variable c n)) = leaf p 0 []
constant_node (lexeme p l (mark k)) = leaf p 0x12 (byte l ∷ byte (pick (eqb k true_word) 1 0) ∷ [])

-- "13 variable (name); 14 top variable (name); 15 class variable (class name, name)"
unfoldable pub variable_node : Lexeme → Node
variable_node (lexeme p l (word w)) = leaf p 0 []
variable_node (lexeme p l (number z)) = leaf p 0 []
variable_node (lexeme p l (text s)) = leaf p 0 []
variable_node (lexeme p l (variable n)) = leaf p 0x13 (name n ∷ [])
variable_node (lexeme p l (top_variable n)) = leaf p 0x14 (name n ∷ [])
variable_node (lexeme p l (class_variable c n)) = leaf p 0x15 (name c ∷ name n ∷ [])
variable_node (lexeme p l (mark k)) = leaf p 0 []

-- "25 if the type list holds the name, else 27"
unfoldable pub resource_tag : Types → (type : List ℕ) → ℕ
resource_tag types w = pick (any (same_bytes w) (built_in_types types)) 0x25 0x27

-- ---- Actions: each at a token, none where it would pass a limit

-- "the deepest allowed is 32": a field of h levels in n others
abbrev pub fitting : (n h : ℕ) → Build → Option Build
fitting n h f = pick (leb (n + h) 32) (some f) none

-- a field of one level as the last part of the field being read; and as its first one
unfoldable pub added : Node → Build → Option Build
added k (build b (frame p t h ks) fs) = fitting (length fs) 1 (build b (frame p t h (ks ▸ k)) fs)

unfoldable pub in_front : Node → Nodes → Nodes
in_front k empty = empty ▸ k
in_front k (ks ▸ j) = in_front k ks ▸ j

unfoldable pub added_first : Node → Build → Option Build
added_first k (build b (frame p t h ks) fs) = fitting (length fs) 1 (build b (frame p t h (in_front k ks)) fs)

unfoldable pub begun : (place tag : ℕ) → Build → Option Build
begun p t (build b f fs) = fitting (length fs) 1 (build b (frame p t [] empty) (f ∷ fs))

-- around the last part of the field u
abbrev pub around_last : (place tag : ℕ) → List Piece → (brackets place : ℕ) → (tag : ℕ) → List Piece → Nodes → List Frame → Option Build
around_last p t h b q u g empty fs = none
around_last p t h b q u g (ks ▸ k) fs = fitting (suc (length fs)) (height k) (build b (frame p t h (empty ▸ k)) (frame q u g ks ∷ fs))

-- a string constant is its label and its name
abbrev pub behind_label : List Piece → List Piece
behind_label [] = []
behind_label (b ∷ h) = h

abbrev pub instead_of : (tag brackets place : ℕ) → (tag : ℕ) → List Piece → Nodes → List Frame → Option Build
instead_of t b q u g empty fs = none
instead_of t b q u g (ks ▸ node p v h js) fs = some (build b (frame p t (behind_label h) empty) (frame q u g ks ∷ fs))

abbrev pub closing : (brackets : ℕ) → Frame → List Frame → Option Build
closing b f [] = none
closing b (frame p t h ks) (frame q u g js ∷ fs) = some (build b (frame q u g (js ▸ node p t h ks)) fs)

unfoldable pub act : Types → Action → Lexeme → Build → Option Build
act types (begin t) x f = begun (place_of x) t f
act types begin_resource x f = begun (place_of x) (resource_tag types (spelled (token_of x))) f
act types (around t h) x (build b (frame q u g ks) fs) = around_last (place_of x) t h b q u g ks fs
act types (instead t) x (build b (frame q u g ks) fs) = instead_of t b q u g ks fs
act types close x (build b f fs) = closing b f fs
act types constant x f = added (constant_node x) f
act types read x f = added (variable_node x) f
act types named x (build b (frame q u g ks) fs) = some (build b (frame q u (g ++ (name (spelled (token_of x)) ∷ [])) ks) fs)
act types parent_first x f = added_first (leaf (place_of x) 0x35 (name (spelled (token_of x)) ∷ [])) f
act types (void t) x f = added (leaf (place_of x) t []) f
act types enter x (build b f fs) = pick (ltb b 32) (some (build (suc b) f fs)) none  -- "at most 32 are open at one time"
act types leave x (build zero f fs) = none
act types leave x (build (suc b) f fs) = some (build b f fs)

unfoldable pub acts : Types → List Action → Lexeme → Build → Option Build
acts types [] x f = some f
acts types (a ∷ ds) x f = elim (act types a x f) as (λ o. Option Build) [ none ↦ none | some g ↦ acts types ds x g ]
