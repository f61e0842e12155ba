-- No constant of a manifest is late: in its tree by the bytes of every name each label is a byte of the manifest. So it is in a tree that is the
-- same but for places.
use Prim.Native.Nat.{ℕ, zero, suc, ◌+◌, ◌≤◌}
use mathlib.Core.Path.{◌≡◌, refl, sym}
use mathlib.Core.Bool.{Bool, true, false, ◌&&◌}
use mathlib.Core.List.{List, [], ◌∷◌, ◌++◌, map, append-nil}
use mathlib.Core.Option.{Option, none, some}
use native.Mathlib.Omega.{arith}
use lib.Dec.{ltb}
use lib.ListN.{length, take, drop}
use borrow.Author.Tests.{le-ltb}
use Rattle.rules.specs.Bytes
use Rattle.rules.specs.Bytes.{pick, end_of, fields_in}
use Rattle.rules.specs.Format.{is_constant, form_of, size, head_size}
use Rattle.rules.specs.EditRule.{IsBytes}
use Rattle.rules.specs.Fields.{Field, field, Fields, none as fields_end, more, read_each, read_body, read_field, read_all, others}
use Rattle.rules.specs.Read.{manifest_of}
use Rattle.rules.specs.declared.Piece.{Piece as ListedPiece}
use Rattle.rules.specs.declared.Piece.TheVariants.{Nothing, Label, Integer, Boolean, Operator, Name}
use Rattle.rules.specs.declared.Rest.{Rest}
use Rattle.rules.specs.declared.Rest.TheVariants.{Only, Text, Fields as Inner}
use Rattle.notation.specs.Building.{Piece, byte, Node, node, Nodes, empty, ◌▸◌}
use Rattle.notation.specs.Convert.{label_in, or_later, late_in, late_among}
use Rattle.notation.specs.Named.{named_piece, named_head, named, named_onto, named_tree}
use Rattle.notation.proofs.NeedsKept.{none_not_some}
use Rattle.notation.proofs.FormedTokens.{no_bytes}
use Rattle.notation.proofs.TableStrings.{taken_bytes, later_bytes}
use Rattle.notation.proofs.Unplaced.{unplaced, unplaced_all}

-- ---- Heads that are bytes

-- the head of a field is bytes, and so are those in it
mutual
  data Bytewise : Field → Type 0 where
    bytewise : {p t : ℕ} {h : List ℕ} {ks : Fields} → IsBytes h → AllBytewise ks → Bytewise (field p t h ks)

  data AllBytewise : Fields → Type 0 where
    none_bytewise : AllBytewise fields_end
    also_bytewise : {k : Field} {ks : Fields} → Bytewise k → AllBytewise ks → AllBytewise (more k ks)

-- the fields read of bytes are so
each_bytewise : (f : ℕ → Field) → ((q : ℕ) → Bytewise (f q)) → (qs : List ℕ) → AllBytewise (read_each f qs)
unfolding read_each
each_bytewise f all [] = none_bytewise
each_bytewise f all (q ∷ qs) = also_bytewise (all q) (each_bytewise f all qs)

module _ (m : List ℕ) (bytes : IsBytes m) where
  slice_bytes : (a b : ℕ) → IsBytes (drop a (take b m))
  slice_bytes a b = later_bytes a (take b m) (taken_bytes b m bytes)

  body_bytewise : (f : ℕ → Field) → ((q : ℕ) → Bytewise (f q)) → (p n : ℕ) (r : Rest) → Bytewise (read_body m f p n r)
  unfolding read_body
  body_bytewise f all p n Only = bytewise (slice_bytes (p + 3) (end_of m p)) none_bytewise
  body_bytewise f all p n Text = bytewise (slice_bytes (p + 3) (end_of m p)) none_bytewise
  body_bytewise f all p n (Inner ps) = bytewise (slice_bytes (p + 3) (p + 3 + n)) (each_bytewise f all (fields_in m (p + 3 + n) (end_of m p)))

  field_bytewise : (d p : ℕ) → Bytewise (read_field m d p)
  unfolding read_field
  field_bytewise zero p = bytewise no_bytes none_bytewise
  field_bytewise (suc d) p = body_bytewise (read_field m d) (λ q. field_bytewise d q) p (head_size (form_of (Bytes.byte m p))) (form_of (Bytes.byte m p)).rest

others_bytewise : {ks : Fields} → AllBytewise ks → AllBytewise (others ks)
unfolding others
others_bytewise none_bytewise = none_bytewise
others_bytewise (also_bytewise b all) = all

-- ---- Labels

module _ (strings : List (List ℕ)) where
  -- bytes before pieces: the label is a byte
  first_low : (bs : List ℕ) → IsBytes bs → (ps : List Piece) → label_in ps ≤ 255 → label_in (map byte bs ++ ps) ≤ 255
  first_low [] b ps l = l
  first_low (x ∷ bs) b ps l = let low = b.below 0 in omega arith

  -- a piece before others
  piece_low : (h : List ℕ) → IsBytes h → (i : ℕ) (x : ListedPiece) (ps : List Piece) → label_in ps ≤ 255 → label_in (named_piece strings h i x ++ ps) ≤ 255
  unfolding named_piece
  piece_low h b i Nothing ps l = l
  piece_low h b i Label ps l = let low = b.below i in omega arith
  piece_low h b i Integer ps l = first_low (take 8 (drop i h)) (taken_bytes 8 (drop i h) (later_bytes i h b)) ps l
  piece_low h b i Boolean ps l = let low = b.below i in omega arith
  piece_low h b i Operator ps l = let low = b.below i in omega arith
  piece_low h b i Name ps l = omega arith

  -- a piece alone
  last_low : (h : List ℕ) → IsBytes h → (i : ℕ) (x : ListedPiece) → label_in (named_piece strings h i x) ≤ 255
  last_low h b i x = rw (append-nil (named_piece strings h i x)) at (piece_low h b i x [] (omega arith))

  -- a whole head
  label_low : (t : ℕ) (h : List ℕ) → IsBytes h → label_in (named_head strings t h) ≤ 255
  unfolding named_head
  label_low t h b = piece_low h b 0 (form_of t).one (named_piece strings h (size (form_of t).one) (form_of t).two) (last_low h b (size (form_of t).one) (form_of t).two)

  -- a test that does not hold with another does not hold
  not_both : (a b : Bool) → b ≡ false → (a && b) ≡ false
  not_both true b e = e
  not_both false b e = refl

  -- none is late among fields whose heads are bytes
  mutual
    unfolding named late_in

    late_not : {k : Field} → Bytewise k → late_in (named strings k) ≡ none
    late_not (bytewise {t = t} {h = h} b all) =
        let low : (is_constant t && ltb 255 (label_in (named_head strings t h))) ≡ false = not_both (is_constant t) (ltb 255 (label_in (named_head strings t h))) (le-ltb 255 _ (label_low t h b)) in
        rw low (none_late all empty refl)

    none_late : {ks : Fields} → AllBytewise ks → (js : Nodes) → late_among js ≡ none → late_among (named_onto strings ks js) ≡ none
    none_late none_bytewise js e = e
    none_late (also_bytewise {k = k} b all) js e = none_late all (js ▸ named strings k) (rw e (late_not b))

-- ---- Places do not matter

-- none is late, if neither those before nor this one is
neither_late : (o p q r : Option ℕ) → (q ≡ none → o ≡ none) → (r ≡ none → p ≡ none) → or_later q r ≡ none → or_later o p ≡ none
neither_late o p none r f g e = rw (f refl) (g e)
neither_late o p (some i) r f g e = none_not_some (sym e)

-- whether one is late does not depend on places
mutual
  unfolding late_in unplaced

  node_late : (k : Node) → late_in (unplaced k) ≡ none → late_in k ≡ none
  node_late (node p t h ks) e = go (is_constant t && ltb 255 (label_in h)) (λ i. nodes_late ks i) e
    where
      go : (b : Bool) → (late_among (unplaced_all ks) ≡ none → late_among ks ≡ none) → ◌≡◌ {A = Option ℕ} (pick b (some 0) (late_among (unplaced_all ks))) none → ◌≡◌ {A = Option ℕ} (pick b (some p) (late_among ks)) none
      go true inner e = none_not_some (sym e)
      go false inner e = inner e

  nodes_late : (ks : Nodes) → late_among (unplaced_all ks) ≡ none → late_among ks ≡ none
  nodes_late empty e = refl
  nodes_late (ks ▸ k) e = neither_late (late_among ks) (late_in k) (late_among (unplaced_all ks)) (late_in (unplaced k)) (λ i. nodes_late ks i) (λ i. node_late k i) e

-- ---- The manifest

-- no constant of a manifest's tree is late
tree_not_late : (m : List ℕ) → IsBytes m → late_among (named_tree m) ≡ none
unfolding named_tree read_all late_in
tree_not_late m b = none_late (manifest_of m).strings (others_bytewise (each_bytewise (read_field m 32) (field_bytewise m b 32) (fields_in m 0 (length m)))) empty refl

-- nor is one of a tree that is the same but for places
pub not_late : (m : List ℕ) → IsBytes m → (ks : Nodes) → unplaced_all ks ≡ named_tree m → late_among ks ≡ none
not_late m b ks e = nodes_late ks (rw e (tree_not_late m b))
