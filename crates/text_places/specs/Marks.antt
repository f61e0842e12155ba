-- Where the fields of a manifest begin, and which place of the text each came with: a list as long as the bytes, that has the place + 1 where a field
-- begins and 0 everywhere else.
use Rattle.std.specs.Prelude.{ℕ, suc, ◌≡◌, List, [], ◌∷◌, ◌++◌, length, replicate}
use Rattle.wire.specs.Bytes.{byte as at}
use Rattle.rules.specs.Fields.{Field, field, Fields, none, more}
use Rattle.notation.specs.Building.{Piece, byte, name, Node, node, Nodes, empty, ◌▸◌, Frame, frame, Build, build}

-- ---- A manifest: three bytes of a header, the head, the parts

unfoldable mutual
  pub field_marks : Field → List ℕ
  field_marks (field p t h ks) = suc p ∷ 0 ∷ 0 ∷ (replicate (length h) 0 ++ fields_marks ks)

  pub fields_marks : Fields → List ℕ
  fields_marks none = []
  fields_marks (more k ks) = field_marks k ++ fields_marks ks

-- a field begins at this offset, and came with this place
pub record Begins (ks : Fields) (offset place : ℕ) : Type 0 where
  pub marked : at (fields_marks ks) offset ≡ suc place

-- ---- A tree in the making: a name takes two bytes in any table of strings

unfoldable pub head_marks : List Piece → List ℕ
head_marks [] = []
head_marks (byte b ∷ h) = 0 ∷ head_marks h
head_marks (name s ∷ h) = 0 ∷ 0 ∷ head_marks h

unfoldable mutual
  pub node_marks : Node → List ℕ
  node_marks (node p t h ks) = suc p ∷ 0 ∷ 0 ∷ (head_marks h ++ part_marks ks)

  pub part_marks : Nodes → List ℕ
  part_marks empty = []
  part_marks (ks ▸ k) = part_marks ks ++ node_marks k

-- the header of an open field; the field that stands for the manifest has none
unfoldable pub opening_marks : (place : ℕ) → (around : List Frame) → List ℕ
opening_marks p [] = []
opening_marks p (f ∷ fs) = suc p ∷ 0 ∷ 0 ∷ []

unfoldable pub around_marks : List Frame → List ℕ
around_marks [] = []
around_marks (frame q u g js ∷ fs) = ((around_marks fs ++ opening_marks q fs) ++ head_marks g) ++ part_marks js

-- up to the parts of the field being read, and with them
unfoldable pub front_marks : (place : ℕ) → List Piece → List Frame → List ℕ
front_marks p h fs = (around_marks fs ++ opening_marks p fs) ++ head_marks h

unfoldable pub open_marks : (place : ℕ) → List Piece → Nodes → List Frame → List ℕ
open_marks p h ks fs = front_marks p h fs ++ part_marks ks

unfoldable pub tree_marks : Build → List ℕ
tree_marks (build b (frame p t h ks) fs) = open_marks p h ks fs

-- where the field being read begins, where its parts do, and where the bytes end
unfoldable pub start_of : Build → ℕ
start_of (build b f fs) = length (around_marks fs)

unfoldable pub body_of : Build → ℕ
body_of (build b (frame p t h ks) fs) = length (front_marks p h fs)

unfoldable pub size_of : Build → ℕ
size_of f = length (tree_marks f)
