-- A tree as listed whose labels rise can be printed: going over its fields, with the numbers of their strings, stops nowhere.
use Prim.Native.Nat.{ℕ, ◌+◌, ◌*◌, ◌/◌, ◌%◌, ◌≤◌}
use mathlib.Core.Path.{◌≡◌, refl, sym, ◌∙◌}
use mathlib.Core.Bool.{Bool, true, false, not, ◌&&◌, ◌||◌}
use mathlib.Core.List.{List, [], ◌∷◌, map}
use native.Mathlib.Omega.{arith}
use lib.Dec.{leb, eqb}
use lib.ListN.{length}
use borrow.Author.Tests.{eqb-true, eqb-false, leb-true, le-leb}
use Rattle.rules.specs.Bytes.{pick, byte as byte_at, two}
use Rattle.rules.specs.Format.{is_constant, size, forms, form_in, form_of}
use Rattle.rules.specs.Types.{Types}
use Rattle.rules.specs.Compile.{string_at, is_built_in}
use Rattle.rules.specs.Fields.{field, Fields, none as fields_end, more}
use Rattle.rules.specs.declared.Piece.{Piece as ListedPiece}
use Rattle.rules.specs.declared.Piece.TheVariants.{Nothing, Label, Integer, Boolean, Operator, Name}
use Rattle.rules.proofs.Lists.{both_left, both_right, both_true, or_true_right}
use Rattle.rules.proofs.Within.{false_not_true}
use Rattle.notation.specs.Building.{Piece, byte, name, Node, Nodes}
use Rattle.notation.specs.Convert.{piece_bytes, head_bytes, numbered, numbered_onto, label_in}
use Rattle.notation.specs.Printer.{spellable, names_spellable, type_right, label_right, past, over, over_all}
use Rattle.notation.proofs.Formed.{Heading, no_piece, an_integer, a_string, a_boolean, an_operator, one_name, two_names, Formed, formed, AllFormed, none_formed, also_formed}
use Rattle.notation.proofs.LabelsRise.{Rises, rises_plain, rises_constant, AllRise, none_rise, also_rise}
use Rattle.notation.proofs.NumberedTree.{name_bytes_lem}
use Rattle.notation.proofs.StringTable.{Numbered}

-- ---- Which fields begin with a name

-- a name
abbrev is_name_piece : ListedPiece → Bool
is_name_piece Nothing = false
is_name_piece Label = false
is_name_piece Integer = false
is_name_piece Boolean = false
is_name_piece Operator = false
is_name_piece Name = true

-- no constant does
constant_unnamed : (t : ℕ) → is_constant t ≡ true → is_name_piece (form_of t).one ≡ false
unfolding form_of form_in forms
constant_unnamed t c = go (eqb t 0x10) refl (eqb t 0x11) refl
  where
    low : 0x10 ≤ t
    low = leb-true 0x10 t (both_left (leb 0x10 t) (leb t 0x12) c)

    high : t ≤ 0x12
    high = leb-true t 0x12 (both_right (leb 0x10 t) (leb t 0x12) c)

    is : (u : ℕ) → t ≡ u → is_name_piece (form_of u).one ≡ false → is_name_piece (form_of t).one ≡ false
    is u e f = rw e f

    go : (a : Bool) → eqb t 0x10 ≡ a → (b : Bool) → eqb t 0x11 ≡ b → is_name_piece (form_of t).one ≡ false
    go true h b i = is 0x10 (eqb-true t 0x10 h) refl
    go false h true i = is 0x11 (eqb-true t 0x11 i) refl
    go false h false i = is 0x12 (let x = eqb-false t 0x10 h in let y = eqb-false t 0x11 i in omega (arith, low, high)) refl

-- ---- The tests of one field

-- both names
or_both : (p q a b : Bool) → (p || (q || a)) ≡ true → (p || (q || b)) ≡ true → (p || (q || (a && b))) ≡ true
or_both true q a b e f = refl
or_both false true a b e f = refl
or_both false false a b e f = both_true a b e f

module _ (types : Types) (table : List (List ℕ)) (small : length table ≤ 1024) where
  -- a name is read back from its two bytes
  name_back : {w : List ℕ} (i : Numbered table w) → string_at table (i.number / 256 * 256 + i.number % 256) ≡ w
  name_back i =
      let whole : i.number / 256 * 256 + i.number % 256 ≡ i.number = omega arith in
      rw whole i.back

  -- names are spelled
  names_spelled : (t : ℕ) {x y : ListedPiece} {h : List Piece} → Heading types (Numbered table) t x y h → (eqb t 0x11 || (eqb t 0x31 || (spellable table (head_bytes table h) 0 x && spellable table (head_bytes table h) (size x) y))) ≡ true
  unfolding spellable head_bytes piece_bytes size two
  names_spelled t no_piece = or_true_right (eqb t 0x11) _ (or_true_right (eqb t 0x31) true refl)
  names_spelled t (an_integer c e b) = or_true_right (eqb t 0x11) _ (or_true_right (eqb t 0x31) true refl)
  names_spelled t (a_string c n) = rw (name_bytes_lem types table small n.known, name_back n.known) n.spelling
  names_spelled t (a_boolean c l) = or_true_right (eqb t 0x11) _ (or_true_right (eqb t 0x31) true refl)
  names_spelled t (an_operator l) = or_true_right (eqb t 0x11) _ (or_true_right (eqb t 0x31) true refl)
  names_spelled t (one_name n) = rw (name_bytes_lem types table small n.known, name_back n.known) (or_both (eqb t 0x11) (eqb t 0x31) _ true n.spelling (or_true_right (eqb t 0x11) _ (or_true_right (eqb t 0x31) true refl)))
  names_spelled t (two_names m n) = rw (name_bytes_lem types table small m.known, name_bytes_lem types table small n.known, name_back m.known, name_back n.known) (or_both (eqb t 0x11) (eqb t 0x31) _ _ m.spelling n.spelling)

  -- a field that begins with no name is no resource
  no_resource : (t : ℕ) (h : List ℕ) → is_name_piece (form_of t).one ≡ false → type_right types table t h ≡ true
  unfolding type_right form_of form_in forms
  no_resource t h e = go (eqb t 0x25) refl (eqb t 0x27) refl
    where
      named : (u : ℕ) → t ≡ u → is_name_piece (form_of u).one ≡ false
      named u i = rw i at e

      go : (a : Bool) → eqb t 0x25 ≡ a → (b : Bool) → eqb t 0x27 ≡ b → pick a (is_built_in types table (two h 0)) (pick b (not (is_built_in types table (two h 0))) true) ≡ true
      go true i b j = false_not_true (sym (named 0x25 (eqb-true t 0x25 i)))
      go false i true j = false_not_true (sym (named 0x27 (eqb-true t 0x27 j)))
      go false i false j = refl

  -- types are as the tags say
  type_told : (t : ℕ) {x y : ListedPiece} {h : List Piece} → Heading types (Numbered table) t x y h → (form_of t).one ≡ x → type_right types table t (head_bytes table h) ≡ true
  unfolding type_right is_built_in head_bytes piece_bytes two
  type_told t no_piece e = no_resource t (head_bytes table []) (rw e)
  type_told t (an_integer {l = l} {bs = bs} c n b) e = no_resource t (head_bytes table (byte l ∷ map byte bs)) (rw e)
  type_told t (a_string {l = l} {w = w} c n) e = no_resource t (head_bytes table (byte l ∷ name w ∷ [])) (rw e)
  type_told t (a_boolean {l = l} {b = b} c n) e = no_resource t (head_bytes table (byte l ∷ byte b ∷ [])) (rw e)
  type_told t (an_operator {b = b} l) e = no_resource t (head_bytes table (byte b ∷ [])) (rw e)
  type_told t (one_name n) e = rw (name_bytes_lem types table small n.known, name_back n.known) n.type
  type_told t (two_names m n) e = rw (name_bytes_lem types table small m.known, name_back m.known) m.type

  -- a constant's label is its first byte
  label_first : (t : ℕ) {x y : ListedPiece} {h : List Piece} → Heading types (Numbered table) t x y h → (form_of t).one ≡ x → is_constant t ≡ true → byte_at (head_bytes table h) 0 ≡ label_in h
  unfolding head_bytes piece_bytes
  label_first t no_piece e c = refl
  label_first t (an_integer d l b) e c = refl
  label_first t (a_string d n) e c = refl
  label_first t (a_boolean d l) e c = refl
  label_first t (an_operator l) e c = refl
  label_first t (one_name n) e c = false_not_true (sym (rw e at (constant_unnamed t c)))
  label_first t (two_names m n) e c = false_not_true (sym (rw e at (constant_unnamed t c)))

  -- ---- Going over fields

  -- a field whose tests hold is passed
  field_passed : (p t i : ℕ) (h : List ℕ) (ks : Fields) → label_right table i t h ≡ true → names_spellable table t h ≡ true → type_right types table t h ≡ true → over types table (field p t h ks) i ≡ over_all types table ks (pick (is_constant t) (byte_at h 0) i)
  unfolding over
  field_passed p t i h ks a b c = rw (a, b, c)

  -- a field that is no constant has a right label
  label_plain : (i t : ℕ) (h : List ℕ) → is_constant t ≡ false → label_right table i t h ≡ true
  unfolding label_right
  label_plain i t h c = rw c

  -- so is that of a constant
  label_constant : (i t : ℕ) (h : List ℕ) → i ≤ byte_at h 0 → label_right table i t h ≡ true
  unfolding label_right
  label_constant i t h l = or_true_right (not (is_constant t)) _ (le-leb i (byte_at h 0) l)

  -- going over a tree stops nowhere
  mutual
    unfolding over numbered names_spellable

    over_node : {i j : ℕ} {k : Node} → Rises i k j → Formed types (Numbered table) k → over types table (numbered table k) i ≡ past j
    over_node {i} {j} (rises_plain {p = p} {t = t} {h = h} {ks = ks} c r) (formed s head contents all) =
        field_passed p t i (head_bytes table h) (numbered_onto table ks fields_end) (label_plain i t (head_bytes table h) c) (names_spelled t head) (type_told t head refl) ∙ rw c (over_nodes r all fields_end)
    over_node {i} {j} (rises_constant {p = p} {t = t} {h = h} c e l) (formed s head contents all) =
        let label : byte_at (head_bytes table h) 0 ≡ j = label_first t head refl c ∙ e in
        field_passed p t i (head_bytes table h) fields_end (label_constant i t (head_bytes table h) (omega arith)) (names_spelled t head) (type_told t head refl) ∙ rw (c, label)

    pub over_nodes : {i j : ℕ} {ks : Nodes} → AllRise i ks j → AllFormed types (Numbered table) ks → (rest : Fields) → over_all types table (numbered_onto table ks rest) i ≡ over_all types table rest j
    over_nodes none_rise none_formed rest = refl
    over_nodes (also_rise {k = k} r a) (also_formed all f) rest = over_nodes r all (more (numbered table k) rest) ∙ rw (over_node a f)
