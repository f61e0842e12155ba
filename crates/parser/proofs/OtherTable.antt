-- The lengths of a tree's bytes do not depend on the table, so a state with no output, and no word just read, shows the same tree for any table.
-- Assumes nothing.
use mathlib.Core.Path.{◌≡◌, refl, sym, ◌∙◌, ap₂}
use mathlib.Core.Bool.{false}
use mathlib.Core.List.{List, [], ◌∷◌, ◌++◌}
use native.Mathlib.Omega.{arith}
use lib.ListN.{length, length-append}
use Prim.Native.Nat.{ℕ, suc, ◌+◌, max}
use Rattle.wire.specs.Runs.{over}
use Rattle.wire.proofs.Laws.{over_length}
use Rattle.rules.specs.Catalog.{high_bytes}
use Rattle.rules.specs.Fields.{field, Fields, none as fields_end, more, wrap, write, write_all}
use Rattle.rules.proofs.Within.{false_not_true}
use Rattle.notation.specs.Building.{Piece, byte, name, Node, node, Nodes, empty, ◌▸◌, tallest, Frame, frame, Build, build}
use Rattle.notation.specs.Convert.{piece_bytes, head_bytes, numbered, numbered_onto}
use Rattle.tree_builder.specs.declared.Building.{Building}
use Rattle.tree_builder.specs.Open.{low, Holds, opening, parts_bytes, around_bytes, head_end, open_bytes}
use Rattle.tree_builder.specs.State.{slot_number}
use Rattle.tree_builder.specs.Shows.{Around, LastPart, Shows}
use Rattle.parser.specs.Reading.{without_word}

-- a field written has its header, its head and its fields
field_length : (p t : ℕ) (h : List ℕ) (ks : Fields) → length (write (field p t h ks)) ≡ 3 + length h + length (write_all ks)
unfolding write wrap
field_length p t h ks = omega (arith, length-append h (write_all ks))

module _ (T U : List (List ℕ)) where
  piece_same : (p : Piece) → length (piece_bytes T p) ≡ length (piece_bytes U p)
  unfolding piece_bytes high_bytes
  piece_same (byte b) = refl
  piece_same (name s) = refl

  head_same : (h : List Piece) → length (head_bytes T h) ≡ length (head_bytes U h)
  unfolding head_bytes
  head_same [] = refl
  head_same (p ∷ h) = omega (arith, length-append (piece_bytes T p) (head_bytes T h), length-append (piece_bytes U p) (head_bytes U h), piece_same p, head_same h)

  mutual
    unfolding numbered write_all

    node_same : (k : Node) → length (write (numbered T k)) ≡ length (write (numbered U k))
    node_same (node p t h ks) =
        omega (arith, field_length p t (head_bytes T h) (numbered_onto T ks fields_end), field_length p t (head_bytes U h) (numbered_onto U ks fields_end), head_same h, nodes_same ks fields_end fields_end refl)

    nodes_same : (ks : Nodes) (a b : Fields) → length (write_all a) ≡ length (write_all b) → length (write_all (numbered_onto T ks a)) ≡ length (write_all (numbered_onto U ks b))
    nodes_same empty a b e = e
    nodes_same (ks ▸ k) a b e =
        nodes_same ks (more (numbered T k) a) (more (numbered U k) b) (omega (arith, length-append (write (numbered T k)) (write_all a), length-append (write (numbered U k)) (write_all b), node_same k, e))

  parts_same : (ks : Nodes) → length (parts_bytes T ks) ≡ length (parts_bytes U ks)
  unfolding parts_bytes
  parts_same ks = nodes_same ks fields_end fields_end refl

  around_same : (fs : List Frame) → length (around_bytes T fs) ≡ length (around_bytes U fs)
  unfolding around_bytes
  around_same [] = refl
  around_same (frame q u g js ∷ fs) =
      omega (arith, around_same fs, head_same g, parts_same js, length-append ((around_bytes T fs ++ opening u fs) ++ head_bytes T g) (parts_bytes T js), length-append (around_bytes T fs ++ opening u fs) (head_bytes T g), length-append (around_bytes T fs) (opening u fs), length-append ((around_bytes U fs ++ opening u fs) ++ head_bytes U g) (parts_bytes U js), length-append (around_bytes U fs ++ opening u fs) (head_bytes U g), length-append (around_bytes U fs) (opening u fs))

  end_same : (t : ℕ) (h : List Piece) (fs : List Frame) → length (head_end T t h fs) ≡ length (head_end U t h fs)
  unfolding head_end
  end_same t h fs = omega (arith, around_same fs, head_same h, length-append (around_bytes T fs ++ opening t fs) (head_bytes T h), length-append (around_bytes T fs) (opening t fs), length-append (around_bytes U fs ++ opening t fs) (head_bytes U h), length-append (around_bytes U fs) (opening t fs))

  pub open_same : (t : ℕ) (h : List Piece) (ks : Nodes) (fs : List Frame) → length (open_bytes T t h ks fs) ≡ length (open_bytes U t h ks fs)
  unfolding open_bytes
  open_same t h ks fs = omega (arith, end_same t h fs, parts_same ks, length-append (head_end T t h fs) (parts_bytes T ks), length-append (head_end U t h fs) (parts_bytes U ks))

  -- the slots
  slots_same : (m : List ℕ) (n : ℕ) (fs : List Frame) → Around T m n fs → Around U m n fs
  unfolding Around
  slots_same m n [] a = tt
  slots_same m n (frame q u g js ∷ fs) a = (
    record {
      tall = a.0.tall;
      kept = a.0.kept ∙ ap₂ (λ (p q : ℕ). slot_number p q a.0.tall) (around_same fs) (end_same u g fs);
      deep = a.0.deep;
      exact = a.0.exact;
      label = a.0.label;
    },
    slots_same m (suc (max (tallest js) n)) fs a.1,
  )

  last_same : (s : Building) (t : ℕ) (h : List Piece) (ks : Nodes) (fs : List Frame) → LastPart T s t h ks fs → LastPart U s t h ks fs
  unfolding LastPart
  last_same s t h empty fs x = tt
  last_same s t h (ks ▸ k) fs x = (x.0 ∙ open_same t h ks fs, x.1)

  -- no bytes hold what they hold of anything
  none_held : (bs : List ℕ) → Holds [] bs
  none_held bs = record { base = []; is = no_bytes (over [] 0 bs) (over_length [] 0 bs) }
    where
      no_bytes : (m : List ℕ) → length m ≡ 0 → m ≡ []
      no_bytes [] e = refl
      no_bytes (b ∷ m) e = absurd (omega arith)

  -- so the tree is shown with the other table
  pub shows_same : (s : Building) (m : List ℕ) (f : Build) → s.word ≡ false → Shows T s m [] f → Shows U s m [] f
  unfolding Shows
  shows_same s m (build b (frame p t h ks) fs) e x =
      record {
        rounds = x.rounds;
        depth = x.depth;
        fill = x.fill ∙ open_same t h ks fs;
        start = x.start ∙ around_same fs;
        body = x.body ∙ end_same t h fs;
        tall = x.tall;
        deep = x.deep;
        last = last_same s t h ks fs x.last;
        within = x.within;
        high = x.high;
        late = x.late;
        word = λ i. false_not_true (sym e ∙ i);
        label = x.label;
        slots = slots_same m (suc (tallest ks)) fs x.slots;
        bytes = none_held (low (open_bytes U t h ks fs));
      }

-- ---- A word that no longer counts

last_kept : (T : List (List ℕ)) (s : Building) (t : ℕ) (h : List Piece) (ks : Nodes) (fs : List Frame) → LastPart T s t h ks fs → LastPart T (without_word s) t h ks fs
unfolding LastPart
last_kept T s t h empty fs x = tt
last_kept T s t h (ks ▸ k) fs x = x

pub word_forgotten : (T : List (List ℕ)) (s : Building) (m out : List ℕ) (f : Build) → Shows T s m out f → Shows T (without_word s) m out f
unfolding Shows
word_forgotten T s m out (build b (frame p t h ks) fs) x =
    record {
      rounds = x.rounds;
      depth = x.depth;
      fill = x.fill;
      start = x.start;
      body = x.body;
      tall = x.tall;
      deep = x.deep;
      last = last_kept T s t h ks fs x.last;
      within = x.within;
      high = x.high;
      late = x.late;
      word = λ i. false_not_true i;
      label = x.label;
      slots = x.slots;
      bytes = x.bytes;
    }
