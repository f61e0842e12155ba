-- A manifest's tree by the bytes of every name: its items with the strings themselves in the place of their numbers, and without places. Two manifests with one
-- such tree differ at most in unused strings and in the numbering that follows.
use Rattle.std.specs.Prelude.{ℕ, ◌+◌, List, [], ◌∷◌, ◌++◌, map, take, drop}
use Rattle.rules.specs.Bytes.{two}
use Rattle.rules.specs.Bytes
use Rattle.rules.specs.Format.{form_of, size}
use Rattle.rules.specs.declared.Piece.TheVariants.{Nothing, Label, Integer, Boolean, Operator, Name}
use Rattle.rules.specs.declared.Piece as format
use Rattle.rules.specs.Fields.{Field, field, Fields, none, more, read_all, others}
use Rattle.rules.specs.Read.{manifest_of}
use Rattle.rules.specs.Compile.{string_at}
use Rattle.notation.specs.Building.{Piece, byte, name, Node, node, Nodes, empty, ◌▸◌}

module _ (strings : List (List ℕ)) where
  -- a piece that stands at i of the head h
  unfoldable pub named_piece : (head : List ℕ) → (i : ℕ) → format.Piece → List Piece
  named_piece h i Nothing = []
  named_piece h i Label = byte (Bytes.byte h i) ∷ []
  named_piece h i Integer = map byte (take 8 (drop i h))
  named_piece h i Boolean = byte (Bytes.byte h i) ∷ []
  named_piece h i Operator = byte (Bytes.byte h i) ∷ []
  named_piece h i Name = name (string_at strings (two h i)) ∷ []

  -- the head of a field with the tag t
  unfoldable pub named_head : (tag : ℕ) → (head : List ℕ) → List Piece
  named_head t h = named_piece h 0 (form_of t).one ++ named_piece h (size (form_of t).one) (form_of t).two

  -- a field; and fields, behind others
  unfoldable mutual
    pub named : Field → Node
    named (field p t h ks) = node 0 t (named_head t h) (named_onto ks empty)

    pub named_onto : Fields → Nodes → Nodes
    named_onto none js = js
    named_onto (more k ks) js = named_onto ks (js ▸ named k)

-- the items, which come behind the table
unfoldable pub named_tree : (manifest : List ℕ) → Nodes
named_tree m = named_onto (manifest_of m).strings (others (read_all m)) empty
