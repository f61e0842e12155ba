-- What converting writes is no longer than a sound manifest with the same tree whose strings include those of the text: the fields of the items are as long, and the
-- table is a part.
use Prim.Native.Nat.{ℕ, zero, suc, ◌+◌, ◌≤◌}
use mathlib.Core.Path.{◌≡◌, refl, sym, ap, ◌∙◌}
use mathlib.Core.Bool.{Bool, true, false}
use mathlib.Core.List.{List, [], ◌∷◌, ◌++◌, map}
use native.Mathlib.Omega.{arith}
use lib.Dec.{eqb}
use lib.ListN.{length, length-append, length-take, take, drop}
use Rattle.rules.specs.Format.{form_of, size, head_size, three}
use Rattle.rules.specs.Catalog.{high_bytes}
use Rattle.rules.specs.Check.{check}
use Rattle.rules.specs.EditRule.{IsBytes}
use Rattle.rules.specs.Fields.{Field, field, Fields, none as fields_end, more, read_all, wrap, write, write_all, head_of, tag_of, inner, first, others}
use Rattle.rules.specs.Ranges.{Each}
use Rattle.rules.specs.Read.{strings_from, manifest_from, manifest_of}
use Rattle.rules.specs.declared.Kind.TheVariants.{Table, Item}
use Rattle.rules.specs.declared.Part.TheVariants.{Over, One, Many}
use Rattle.rules.specs.declared.Piece.{Piece as ListedPiece}
use Rattle.rules.specs.declared.Piece.TheVariants.{Nothing, Label, Integer, Boolean, Operator, Name}
use Rattle.rules.specs.declared.Rest.{Rest}
use Rattle.rules.specs.declared.Rest.TheVariants.{Only, Text, Fields as Inner}
use Rattle.rules.proofs.Listed.{OneOf, one, PartsAre, HeadFor, Listed, all_listed}
use Rattle.rules.proofs.WriteBack.{written_back}
use Rattle.notation.specs.Building.{Piece, byte, name, Node, node, Nodes, empty, ◌▸◌}
use Rattle.notation.specs.Convert.{piece_bytes, head_bytes, numbered, numbered_onto, string_fields, manifest_fields}
use Rattle.notation.specs.Named.{named_piece, named_head, named, named_onto, named_tree}
use Rattle.notation.proofs.Written.{All, no_field, also_field, text_head}
use Rattle.notation.proofs.WrittenNames.{Rising}
use Rattle.notation.proofs.ListedParts.{each_of_parts, each_inside}
use Rattle.notation.proofs.StringTable.{Among}
use Rattle.notation.proofs.TableStrings.{strings_rise}
use Rattle.notation.proofs.TablePart.{total, part_weighs}
use Rattle.notation.proofs.Unplaced.{unplaced, unplaced_all}
use Rattle.rules.specs.Verdicts.{no_fault}

-- ---- How many bytes a tree takes

abbrev piece_length : Piece → ℕ
piece_length (byte b) = 1
piece_length (name s) = 2

unfoldable head_length : List Piece → ℕ
head_length [] = 0
head_length (p ∷ ps) = piece_length p + head_length ps

unfoldable mutual
  node_length : Node → ℕ
  node_length (node p t h ks) = 3 + head_length h + nodes_length ks

  nodes_length : Nodes → ℕ
  nodes_length empty = 0
  nodes_length (ks ▸ k) = nodes_length ks + node_length k

-- places take none
mutual
  unfolding node_length unplaced

  node_unplaced : (k : Node) → node_length (unplaced k) ≡ node_length k
  node_unplaced (node p t h ks) = ap (λ (n : ℕ). 3 + head_length h + n) (nodes_unplaced ks)

  nodes_unplaced : (ks : Nodes) → nodes_length (unplaced_all ks) ≡ nodes_length ks
  nodes_unplaced empty = refl
  nodes_unplaced (ks ▸ k) = omega (arith, nodes_unplaced ks, node_unplaced k)

-- a field written has its header, its head and its fields
field_length : (p t : ℕ) (h : List ℕ) (ks : Fields) → length (write (field p t h ks)) ≡ 3 + length h + length (write_all ks)
unfolding write wrap
field_length p t h ks = omega (arith, length-append h (write_all ks))

-- ---- A tree with string numbers, written

module _ (table : List (List ℕ)) where
  piece_written : (p : Piece) → length (piece_bytes table p) ≡ piece_length p
  unfolding piece_bytes high_bytes
  piece_written (byte b) = refl
  piece_written (name s) = refl

  head_written : (h : List Piece) → length (head_bytes table h) ≡ head_length h
  unfolding head_bytes head_length
  head_written [] = refl
  head_written (p ∷ h) = omega (arith, length-append (piece_bytes table p) (head_bytes table h), piece_written p, head_written h)

  mutual
    unfolding numbered node_length write_all

    node_written : (k : Node) → length (write (numbered table k)) ≡ node_length k
    node_written (node p t h ks) = omega (arith, field_length p t (head_bytes table h) (numbered_onto table ks fields_end), head_written h, nodes_written ks fields_end)

    nodes_written : (ks : Nodes) (rest : Fields) → length (write_all (numbered_onto table ks rest)) ≡ nodes_length ks + length (write_all rest)
    nodes_written empty rest = omega arith
    nodes_written (ks ▸ k) rest = omega (arith, nodes_written ks (more (numbered table k) rest), length-append (write (numbered table k)) (write_all rest), node_written k)

-- ---- Strings, written

-- a string takes a header and its bytes
abbrev string_length : List ℕ → ℕ
string_length s = 3 + length s

strings_written : (ss : List (List ℕ)) → length (write_all (string_fields ss)) ≡ total string_length ss
unfolding string_fields write_all total
strings_written [] = refl
strings_written (s ∷ ss) = omega (arith, length-append (write (field 0 0x02 s fields_end)) (write_all (string_fields ss)), field_length 0 0x02 s fields_end, strings_written ss)

-- fields take at least as much as the strings among them
strings_within : (ks : Fields) → total string_length (strings_from ks) ≤ length (write_all ks)
unfolding strings_from write_all total tag_of head_of
strings_within fields_end = omega arith
strings_within (more (field p t h js) ks) = go (eqb t 0x02) (strings_within ks)
  where
    go : (b : Bool) → total string_length (strings_from ks) ≤ length (write_all ks) → total string_length (elim b [ true ↦ h ∷ strings_from ks | false ↦ strings_from ks ]) ≤ length (write (field p t h js) ++ write_all ks)
    go true l = omega (arith, length-append (write (field p t h js)) (write_all ks), field_length p t h js)
    go false l = omega (arith, length-append (write (field p t h js)) (write_all ks))

-- ---- The tree of fields as listed

module _ (strings : List (List ℕ)) where
  bytes_length : (bs : List ℕ) → head_length (map byte bs) ≡ length bs
  unfolding head_length
  bytes_length [] = refl
  bytes_length (b ∷ bs) = omega (arith, bytes_length bs)

  -- a piece takes at most its listed size
  piece_named : (h : List ℕ) (i : ℕ) (x : ListedPiece) → head_length (named_piece strings h i x) ≤ size x
  unfolding named_piece head_length size
  piece_named h i Nothing = omega arith
  piece_named h i Label = omega arith
  piece_named h i Integer = omega (arith, bytes_length (take 8 (drop i h)), length-take 8 (drop i h))
  piece_named h i Boolean = omega arith
  piece_named h i Operator = omega arith
  piece_named h i Name = omega arith

  heads_joined : (ps qs : List Piece) → head_length (ps ++ qs) ≡ head_length ps + head_length qs
  unfolding head_length
  heads_joined [] qs = omega arith
  heads_joined (p ∷ ps) qs = omega (arith, heads_joined ps qs)

  head_named : (t : ℕ) (h : List ℕ) → head_length (named_head strings t h) ≤ head_size (form_of t)
  unfolding named_head head_size
  head_named t h =
      let x : ListedPiece = (form_of t).one in
      let y : ListedPiece = (form_of t).two in
      omega (arith, heads_joined (named_piece strings h 0 x) (named_piece strings h (size x) y), piece_named h 0 x, piece_named h (size x) y)

  -- which is there
  head_there : (t : ℕ) (h : List ℕ) (x : Rest) → (form_of t).rest ≡ x → HeadFor x (form_of t) h → head_size (form_of t) ≤ length h
  head_there t h Only e r = let count = r.count in omega arith
  head_there t h Text e r = let count = (text_head t e).count in omega arith
  head_there t h (Inner ps) e r = let count = r.count in omega arith

  -- a tree by names takes no more than its fields written
  abbrev WithinAt : ℕ → Type 0
  WithinAt d = (k : Field) → Listed d k → node_length (named strings k) ≤ length (write k)

  nodes_within : (d : ℕ) → WithinAt d → {ks : Fields} → All (Listed d) ks → (js : Nodes) → nodes_length (named_onto strings ks js) ≤ nodes_length js + length (write_all ks)
  unfolding named_onto nodes_length write_all
  nodes_within d each no_field js = omega arith
  nodes_within d each (also_field {k = k} {ks = ks} a all) js =
      omega (arith, nodes_within d each all (js ▸ named strings k), each k a, length-append (write k) (write_all ks))

  node_within : (d : ℕ) (k : Field) → Listed d k → node_length (named strings k) ≤ length (write k)
  unfolding named node_length
  node_within zero k a = absurd a
  node_within (suc d) (field p t h ks) a =
      let inside = nodes_within d (λ k b. node_within d k b) (each_inside (form_of t).rest a.fields) empty in
      omega (arith, inside, field_length p t h ks, head_named t h, head_there t h (form_of t).rest refl a.head)

-- ---- The manifest

-- one field and others: the strings in the first and the tree of the others take no more
record Taken (ks : Fields) : Type 0 where
  enough : 3 + total string_length (strings_from (inner (first ks))) + nodes_length (named_onto (strings_from (inner (first ks))) (others ks) empty) ≤ length (write_all ks)

manifest_taken : (ks : Fields) → PartsAre (Listed 32) (three (One Table) (Many Item) Over) ks → Taken ks
unfolding first inner others write_all node_length
manifest_taken ks parts = go parts.in_first (each_of_parts (three (One Table) (Many Item) Over) parts)
  where
    go : {js rest : Fields} → OneOf (Listed 32) Table js rest → All (Listed 32) js → Taken js
    go (one {f = field p t h js} {fs = fs} e a) (also_field b all) =
        let within = nodes_within (strings_from js) 32 (λ k c. node_within (strings_from js) 32 k c) all empty in
        record { enough = omega (arith, length-append (write (field p t h js)) (write_all fs), field_length p t h js, strings_within js, within) }

-- a manifest of the same tree, whose table is a part of its own, is no longer
pub no_longer : (m : List ℕ) → IsBytes m → check m ≡ no_fault → (table : List (List ℕ)) → Rising table → Each (λ s. Among s (manifest_of m).strings) table → (ks : Nodes) → unplaced_all ks ≡ named_tree m → length (write_all (manifest_fields table ks)) ≤ length m
unfolding manifest_fields write_all manifest_of manifest_from named_tree
no_longer m bytes w table up all ks same =
    let strings : List (List ℕ) = (manifest_of m).strings in
    let items : Fields = numbered_onto table ks fields_end in
    let whole : length (write_all (read_all m)) ≡ length m = ap length (written_back m bytes w) in
    let tree : nodes_length ks ≡ nodes_length (named_tree m) = sym (nodes_unplaced ks) ∙ ap nodes_length same in
    let table_field : Field = field 0 0x01 [] (string_fields table) in
    omega (arith, whole, tree, (manifest_taken (read_all m) (all_listed m bytes w)).enough, part_weighs string_length table strings up (strings_rise m bytes w) all, length-append (write table_field) (write_all items), field_length 0 0x01 [] (string_fields table), strings_written table, nodes_written table ks fields_end)
