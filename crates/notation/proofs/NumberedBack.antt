-- A tree as listed, with the numbers of its strings in a table that has them all, and then with the strings that have these numbers, is the tree but for
-- places. So what converting writes has the tree that the text builds.
use Prim.Native.Nat.{ℕ, ◌+◌, ◌*◌, ◌/◌, ◌%◌, ◌≤◌}
use mathlib.Core.Path.{◌≡◌, refl, sym, ap, ap₂, ◌∙◌}
use mathlib.Core.Bool.{true, false}
use mathlib.Core.List.{List, [], ◌∷◌, ◌++◌, map}
use mathlib.Core.Option.{none}
use native.Mathlib.Omega.{arith}
use lib.Dec.{eqb}
use lib.ListN.{length, take}
use lib.Seq.{take-length}
use Rattle.rules.specs.Bytes.{two}
use Rattle.rules.specs.Format.{form_of, size}
use Rattle.rules.specs.Compile.{string_at}
use Rattle.rules.specs.Fields.{field, Fields, none as fields_end, more, read_all, head_of, tag_of, inner, first, others}
use Rattle.rules.specs.Read.{strings_from, manifest_from, manifest_of}
use Rattle.rules.specs.declared.Piece.{Piece as ListedPiece}
use Rattle.rules.proofs.TypedBack.{unplaced as unplaced_field, unplaced_all as unplaced_fields}
use Rattle.rules.specs.Types.{Types}
use Rattle.notation.specs.Tokens.{Lexeme}
use Rattle.notation.specs.Building.{Piece, byte, Node, node, Nodes, empty, ◌▸◌}
use Rattle.notation.specs.Convert.{table_behind, piece_bytes, head_bytes, numbered, numbered_onto, manifest_fields, late_among, manifest_bytes}
use Rattle.notation.specs.Named.{named_piece, named_head, named, named_onto, named_tree}
use Rattle.notation.proofs.WrittenRead.{read_back}
use Rattle.notation.proofs.Formed.{Heading, no_piece, an_integer, a_string, a_boolean, an_operator, one_name, two_names, Formed, formed, AllFormed, none_formed, also_formed}
use Rattle.notation.proofs.StringTable.{Numbered}
use Rattle.notation.proofs.NumberedTree.{plain_bytes, name_bytes_lem}
use Rattle.notation.proofs.TypedNamed.{onto_unplaced, others_unplaced}
use Rattle.notation.proofs.Unplaced.{unplaced, unplaced_all}
use Rattle.notation.proofs.ConvertedSound.{strings_back, ReadWhole, items_has, manifest_complete}

-- ---- Heads

module _ (types : Types) (table : List (List ℕ)) (small : length table ≤ 1024) where
  -- the string with the number that two bytes make
  name_back : {w : List ℕ} (i : Numbered table w) → string_at table (i.number / 256 * 256 + i.number % 256) ≡ w
  name_back i =
      let whole : i.number / 256 * 256 + i.number % 256 ≡ i.number = omega arith in
      ap (string_at table) whole ∙ i.back

  -- eight bytes are all that is taken
  eight_back : (bs : List ℕ) → length bs ≡ 8 → map byte (take 8 bs) ≡ map byte bs
  eight_back bs e = ap (map byte) (ap (λ (n : ℕ). take n bs) (sym e) ∙ take-length bs)

  -- the pieces of a head
  head_back : {t : ℕ} {x y : ListedPiece} {h : List Piece} → Heading types (Numbered table) t x y h → named_piece table (head_bytes table h) 0 x ++ named_piece table (head_bytes table h) (size x) y ≡ h
  unfolding head_bytes piece_bytes named_piece size two
  head_back no_piece = refl
  head_back (an_integer {l = l} {bs = bs} c eight b) = rw (plain_bytes types table bs) (ap (λ (ps : List Piece). byte l ∷ ps) (eight_back bs eight))
  head_back (a_string {l = l} c n) = rw (name_bytes_lem types table small n.known, name_back n.known)
  head_back (a_boolean c low) = refl
  head_back (an_operator low) = refl
  head_back (one_name n) = rw (name_bytes_lem types table small n.known, name_back n.known)
  head_back (two_names m n) = rw (name_bytes_lem types table small m.known, name_bytes_lem types table small n.known, name_back m.known, name_back n.known)

  whole_head : (t : ℕ) {h : List Piece} → Heading types (Numbered table) t (form_of t).one (form_of t).two h → named_head table t (head_bytes table h) ≡ h
  unfolding named_head
  whole_head t i = head_back i

  -- ---- Fields

  mutual
    unfolding numbered named unplaced

    node_back : {k : Node} → Formed types (Numbered table) k → named table (numbered table k) ≡ unplaced k
    node_back (formed {t = t} small-tag head contents all) = ap₂ (λ (h : List Piece) (ks : Nodes). node 0 t h ks) (whole_head t head) (nodes_back all fields_end)

    nodes_back : {ks : Nodes} → AllFormed types (Numbered table) ks → (rest : Fields) → named_onto table (numbered_onto table ks rest) empty ≡ named_onto table rest (unplaced_all ks)
    nodes_back none_formed rest = refl
    nodes_back (also_formed {ks = ks} {k = k} all f) rest =
        nodes_back all (more (numbered table k) rest) ∙ ap (λ (j : Node). named_onto table rest (unplaced_all ks ▸ j)) (node_back f)

-- ---- The manifest

-- the strings of a table do not depend on places
strings_unplaced : (ks : Fields) → strings_from (unplaced_fields ks) ≡ strings_from ks
unfolding strings_from unplaced_field tag_of head_of
strings_unplaced fields_end = refl
strings_unplaced (more (field p t h js) ks) = ap (λ (ss : List (List ℕ)). elim (eqb t 0x02) [ true ↦ h ∷ ss | false ↦ ss ]) (strings_unplaced ks)

table_unplaced : (ks : Fields) → strings_from (inner (first (unplaced_fields ks))) ≡ strings_from (inner (first ks))
unfolding unplaced_field first inner
table_unplaced fields_end = refl
table_unplaced (more (field p t h js) ks) = strings_unplaced js

module _ (types : Types) {xs : List Lexeme} {items : Nodes} (r : ReadWhole types xs items) (late : late_among items ≡ none) where
  abbrev table : List (List ℕ)
  table = table_behind xs []

  -- what is written is read as the fields, but for places
  fields_back : unplaced_fields (read_all (manifest_bytes xs items)) ≡ unplaced_fields (manifest_fields table items)
  unfolding manifest_bytes
  fields_back = read_back (manifest_fields table items) (manifest_complete types r late)

  -- its strings are those of the table
  pub written_strings : (manifest_of (manifest_bytes xs items)).strings ≡ table
  unfolding manifest_of manifest_from manifest_fields first inner
  written_strings =
      sym (table_unplaced (read_all (manifest_bytes xs items))) ∙ ap (λ (ks : Fields). strings_from (inner (first ks))) fields_back ∙ table_unplaced (manifest_fields table items) ∙ strings_back table

  -- its items, by names, are those of the text
  written_items : named_onto table (others (read_all (manifest_bytes xs items))) empty ≡ unplaced_all items
  unfolding manifest_fields others named_onto
  written_items =
      sym (onto_unplaced table (others (read_all (manifest_bytes xs items))) empty)
      ∙ ap (λ (ks : Fields). named_onto table ks empty) (sym (others_unplaced (read_all (manifest_bytes xs items))) ∙ ap others fields_back ∙ others_unplaced (manifest_fields table items))
      ∙ onto_unplaced table (numbered_onto table items fields_end) empty
      ∙ nodes_back types table r.few (items_has types r late).all fields_end

  -- its tree is that of the text, but for places
  pub written_tree : named_tree (manifest_bytes xs items) ≡ unplaced_all items
  unfolding named_tree
  written_tree = rw written_strings written_items
