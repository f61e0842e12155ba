-- What a tree in the making is in bytes: its open fields, the outermost first, each with its header, its head and its finished parts.
use Rattle.std.specs.Prelude.{ℕ, suc, ◌%◌, ◌≡◌, List, [], ◌∷◌, ◌++◌}
use Rattle.std.proofs.Math.Option.{Option, none, some}
use Rattle.wire.specs.Runs.{over}
use Rattle.rules.specs.Fields.{write_all, none as fields_end}
use Rattle.notation.specs.Building.{Piece, Nodes, Frame, frame}
use Rattle.notation.specs.Convert.{head_bytes, numbered_onto, or_later, late_among}

-- numbers as a slice of bytes holds them: a label past 255 does not fit a byte, and a text with one is refused
unfoldable pub low : List ℕ → List ℕ
low [] = []
low (b ∷ bs) = b % 256 ∷ low bs

-- the output begins with these bytes, as far as it reaches
pub record Holds (out bs : List ℕ) : Type 0 where
  pub base : List ℕ
  pub is : over base 0 bs ≡ out

-- the header of an open field, whose length is not known; the field that stands for the manifest has none
unfoldable pub opening : (tag : ℕ) → (around : List Frame) → List ℕ
opening t [] = []
opening t (f ∷ fs) = t ∷ 0 ∷ 0 ∷ []

-- names get their numbers in this table
module _ (table : List (List ℕ)) where
  unfoldable pub parts_bytes : Nodes → List ℕ
  parts_bytes ks = write_all (numbered_onto table ks fields_end)

  -- the fields around one
  unfoldable pub around_bytes : List Frame → List ℕ
  around_bytes [] = []
  around_bytes (frame q u g js ∷ fs) = ((around_bytes fs ++ opening u fs) ++ head_bytes table g) ++ parts_bytes js

  -- up to the parts of the field being read, and with them
  unfoldable pub head_end : (tag : ℕ) → List Piece → List Frame → List ℕ
  head_end t h fs = (around_bytes fs ++ opening t fs) ++ head_bytes table h

  unfoldable pub open_bytes : (tag : ℕ) → List Piece → Nodes → List Frame → List ℕ
  open_bytes t h ks fs = head_end t h fs ++ parts_bytes ks

-- the first constant on a line past 255: among the parts of the fields around, then among those of the field being read
unfoldable pub late_around : List Frame → Option ℕ
late_around [] = none
late_around (frame q u g js ∷ fs) = or_later (late_around fs) (late_among js)

unfoldable pub late_open : Nodes → List Frame → Option ℕ
late_open ks fs = or_later (late_around fs) (late_among ks)

-- its place + 1, or 0
unfoldable pub late_number : Option ℕ → ℕ
late_number none = 0
late_number (some p) = suc p
