-- The marks are as many as the bytes, in any table of strings, and the marks of a tree that is numbered are those of the tree. Assumes nothing.
use mathlib.Core.Path.{◌≡◌, refl, sym, ap, ◌∙◌}
use mathlib.Core.List.{List, [], ◌∷◌, ◌++◌, append_assoc, append-nil}
use Prim.Native.Nat.{ℕ, suc}
use native.Mathlib.Omega.{arith}
use lib.ListN.{length, length-append, replicate, length-replicate}
use Rattle.wire.specs.Numbers.{high_bytes}
use Rattle.rules.specs.Fields.{Field, field, Fields, none as fields_end, more, wrap, write, write_all}
use Rattle.notation.specs.Building.{Piece, byte, name, Node, node, Nodes, empty, ◌▸◌, Frame, frame, Build, build}
use Rattle.notation.specs.Convert.{piece_bytes, head_bytes, numbered, numbered_onto}
use Rattle.tree_builder.specs.declared.Building.{Building}
use Rattle.tree_builder.specs.Open.{opening, parts_bytes, around_bytes, head_end, open_bytes}
use Rattle.tree_builder.specs.Shows.{Shows}
use Rattle.text_places.specs.Marks.{field_marks, fields_marks, head_marks, node_marks, part_marks, opening_marks, around_marks, front_marks, open_marks, tree_marks, start_of, body_of, size_of}

-- ---- Fields

mutual
  unfolding field_marks write wrap

  pub field_size : (k : Field) → length (field_marks k) ≡ length (write k)
  field_size (field p t h ks) = omega (arith, length-append (replicate (length h) 0) (fields_marks ks), length-replicate {A = ℕ} (length h) 0, length-append h (write_all ks), fields_size ks)

  fields_size : (ks : Fields) → length (fields_marks ks) ≡ length (write_all ks)
  fields_size fields_end = refl
  fields_size (more k ks) = omega (arith, length-append (field_marks k) (fields_marks ks), length-append (write k) (write_all ks), field_size k, fields_size ks)

-- ---- Trees

module _ (table : List (List ℕ)) where
  head_marks_lem : (h : List Piece) → replicate (length (head_bytes table h)) 0 ≡ head_marks h
  unfolding head_bytes piece_bytes head_marks high_bytes
  head_marks_lem [] = refl
  head_marks_lem (byte b ∷ h) = ap (λ (l : List ℕ). 0 ∷ l) (head_marks_lem h)
  head_marks_lem (name s ∷ h) = ap (λ (l : List ℕ). 0 ∷ 0 ∷ l) (head_marks_lem h)

  -- a tree and the fields that it is
  mutual
    unfolding field_marks numbered node_marks

    node_marks_lem : (k : Node) → field_marks (numbered table k) ≡ node_marks k
    node_marks_lem (node p t h ks) = ap (λ (l : List ℕ). suc p ∷ 0 ∷ 0 ∷ (l ++ fields_marks (numbered_onto table ks fields_end))) (head_marks_lem h) ∙ ap (λ (l : List ℕ). suc p ∷ 0 ∷ 0 ∷ (head_marks h ++ l)) (onto_marks ks fields_end ∙ append-nil (part_marks ks))

    pub onto_marks : (ks : Nodes) (rest : Fields) → fields_marks (numbered_onto table ks rest) ≡ part_marks ks ++ fields_marks rest
    onto_marks empty rest = refl
    onto_marks (ks ▸ k) rest =
        onto_marks ks (more (numbered table k) rest) ∙ ap (λ (l : List ℕ). part_marks ks ++ (l ++ fields_marks rest)) (node_marks_lem k)
        ∙ sym (append_assoc (part_marks ks) (node_marks k) (fields_marks rest))

  pub parts_size_lem : (ks : Nodes) → length (part_marks ks) ≡ length (parts_bytes table ks)
  unfolding parts_bytes fields_marks
  parts_size_lem ks = ap length (sym (onto_marks ks fields_end ∙ append-nil (part_marks ks))) ∙ fields_size (numbered_onto table ks fields_end)

  head_size_lem : (h : List Piece) → length (head_marks h) ≡ length (head_bytes table h)
  head_size_lem h = ap length (sym (head_marks_lem h)) ∙ length-replicate {A = ℕ} (length (head_bytes table h)) 0

  opening_size : (p t : ℕ) (fs : List Frame) → length (opening_marks p fs) ≡ length (opening t fs)
  unfolding opening_marks opening
  opening_size p t [] = refl
  opening_size p t (f ∷ fs) = refl

  around_size : (fs : List Frame) → length (around_marks fs) ≡ length (around_bytes table fs)
  unfolding around_marks around_bytes
  around_size [] = refl
  around_size (frame q u g js ∷ fs) =
      omega (
        arith,
        length-append ((around_marks fs ++ opening_marks q fs) ++ head_marks g) (part_marks js),
        length-append (around_marks fs ++ opening_marks q fs) (head_marks g),
        length-append (around_marks fs) (opening_marks q fs),
        length-append ((around_bytes table fs ++ opening u fs) ++ head_bytes table g) (parts_bytes table js),
        length-append (around_bytes table fs ++ opening u fs) (head_bytes table g),
        length-append (around_bytes table fs) (opening u fs),
        around_size fs,
        opening_size q u fs,
        head_size_lem g,
        parts_size_lem js,
      )

  front_size : (p t : ℕ) (h : List Piece) (fs : List Frame) → length (front_marks p h fs) ≡ length (head_end table t h fs)
  unfolding front_marks head_end
  front_size p t h fs =
      omega (
        arith,
        length-append (around_marks fs ++ opening_marks p fs) (head_marks h),
        length-append (around_marks fs) (opening_marks p fs),
        length-append (around_bytes table fs ++ opening t fs) (head_bytes table h),
        length-append (around_bytes table fs) (opening t fs),
        around_size fs,
        opening_size p t fs,
        head_size_lem h,
      )

  -- what a state tells of the tree that it shows
  module _ (s : Building) (m out : List ℕ) where
    pub shown_start : (f : Build) → Shows table s m out f → s.start ≡ start_of f
    unfolding Shows start_of
    shown_start (build b (frame p t h ks) fs) x = x.start ∙ sym (around_size fs)

    pub shown_body : (f : Build) → Shows table s m out f → s.body ≡ body_of f
    unfolding Shows body_of
    shown_body (build b (frame p t h ks) fs) x = x.body ∙ sym (front_size p t h fs)

    pub shown_size : (f : Build) → Shows table s m out f → s.fill ≡ size_of f
    unfolding Shows size_of tree_marks open_marks open_bytes
    shown_size (build b (frame p t h ks) fs) x =
        omega (arith, x.fill, length-append (front_marks p h fs) (part_marks ks), length-append (head_end table t h fs) (parts_bytes table ks), front_size p t h fs, parts_size_lem ks)
