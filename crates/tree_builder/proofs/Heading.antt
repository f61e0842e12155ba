-- Bytes put before all parts of the field being read: a name of it, or a parent. Assumes nothing.
use mathlib.Core.Path.{◌≡◌, refl, sym, ap, ◌∙◌}
use mathlib.Core.List.{List, [], ◌∷◌, ◌++◌, append_assoc, append-nil}
use mathlib.Core.Option.{Option, none}
use Prim.Native.Nat.{ℕ, suc, ◌+◌, ◌-◌, ◌≤◌, ◌<◌, max}
use native.Mathlib.Omega.{arith}
use borrow.Author.Tests.{le-leb, lt-leb}
use lib.ListN.{length, length-append}
use Rattle.wire.specs.Numbers.{high_bytes}
use Rattle.wire.specs.Runs.{bytes_at, over}
use Rattle.wire.proofs.Laws.{high_length}
use Rattle.rules.specs.Fields.{Fields, none as fields_end, more, write, write_all}
use Rattle.rules.specs.Types.{Types}
use Rattle.notation.specs.Building.{Piece, byte, name, Node, node, Nodes, empty, ◌▸◌, leaf, height, tallest, Frame, frame, build, named, parent_first, act, in_front, added_first, spelled}
use Rattle.notation.specs.Tokens.{place_of, token_of}
use Rattle.notation.specs.Convert.{label_in, late_in, late_among, or_later, head_bytes, piece_bytes, numbered, numbered_onto}
use Rattle.tree_builder.specs.declared.Building.{Building}
use Rattle.tree_builder.specs.Open.{low, Holds, parts_bytes, around_bytes, opening, head_end, open_bytes, late_around, late_open, late_number}
use Rattle.tree_builder.specs.State.{raised, with_part}
use Rattle.tree_builder.specs.Shows.{number_in, LastPart, Shown, Shows, Answers, DoesAt, AName}
use Rattle.tree_builder.proofs.Stores.{low_append, low_length, holds_inserted, kept_lifted}
use Rattle.tree_builder.proofs.Bytes.{low_high}
use Rattle.tree_builder.proofs.Slots.{around_higher}
use Rattle.tree_builder.proofs.Late.{late_inner}
use Rattle.tree_builder.proofs.Ready.{body_short}
use Rattle.tree_builder.proofs.Adding.{false_not_true}
use Rattle.tree_builder.proofs.Leaves.{name_bytes_lem}
use Rattle.std.specs.Prelude.{Some, None}

module _ (table : List (List ℕ)) where
  -- ---- A name more

  head_append : (h g : List Piece) → head_bytes table (h ++ g) ≡ head_bytes table h ++ head_bytes table g
  unfolding head_bytes
  head_append [] g = refl
  head_append (x ∷ h) g = ap (λ (l : List ℕ). piece_bytes table x ++ l) (head_append h g) ∙ sym (append_assoc (piece_bytes table x) (head_bytes table h) (head_bytes table g))

  named_end : (t : ℕ) (h : List Piece) (w : List ℕ) (fs : List Frame) → head_end table t (h ++ (name w ∷ [])) fs ≡ head_end table t h fs ++ high_bytes 2 (number_in table w)
  unfolding head_end head_bytes piece_bytes number_in
  named_end t h w fs =
      let front : List ℕ = around_bytes table fs ++ opening t fs in
      ap (λ (l : List ℕ). front ++ l) (head_append h (name w ∷ []) ∙ ap (λ (l : List ℕ). head_bytes table h ++ l) (append-nil (high_bytes 2 (number_in table w))))
      ∙ sym (append_assoc front (head_bytes table h) (high_bytes 2 (number_in table w)))

  named_open : (t : ℕ) (h : List Piece) (w : List ℕ) (ks : Nodes) (fs : List Frame) → open_bytes table t (h ++ (name w ∷ [])) ks fs ≡ head_end table t h fs ++ (high_bytes 2 (number_in table w) ++ parts_bytes table ks)
  unfolding open_bytes
  named_open t h w ks fs =
      ap (λ (l : List ℕ). l ++ parts_bytes table ks) (named_end t h w fs) ∙ append_assoc (head_end table t h fs) (high_bytes 2 (number_in table w)) (parts_bytes table ks)

  open_length : (t : ℕ) (h : List Piece) (ks : Nodes) (fs : List Frame) → length (open_bytes table t h ks fs) ≡ length (head_end table t h fs) + length (parts_bytes table ks)
  unfolding open_bytes
  open_length t h ks fs = length-append (head_end table t h fs) (parts_bytes table ks)

  named_length : (t : ℕ) (h : List Piece) (w : List ℕ) (ks : Nodes) (fs : List Frame) → length (open_bytes table t (h ++ (name w ∷ [])) ks fs) ≡ length (open_bytes table t h ks fs) + 2
  named_length t h w ks fs =
      ap length (named_open t h w ks fs)
      ∙ omega (arith, length-append (head_end table t h fs) (high_bytes 2 (number_in table w) ++ parts_bytes table ks), length-append (high_bytes 2 (number_in table w)) (parts_bytes table ks), high_length 2 (number_in table w), open_length t h ks fs)

  label_kept : (h : List Piece) (w : List ℕ) → label_in h ≤ 255 → label_in (h ++ (name w ∷ [])) ≤ 255
  label_kept [] w e = omega arith
  label_kept (byte b ∷ h) w e = e
  label_kept (name v ∷ h) w e = e

  -- ---- A part before the others

  write_front : (k : Node) (ks : Nodes) (rest : Fields) → write_all (numbered_onto table (in_front k ks) rest) ≡ write (numbered table k) ++ write_all (numbered_onto table ks rest)
  unfolding write numbered in_front
  write_front k empty rest = refl
  write_front k (ks ▸ j) rest = write_front k ks (more (numbered table j) rest)

  front_open : (t : ℕ) (h : List Piece) (k : Node) (ks : Nodes) (fs : List Frame) → open_bytes table t h (in_front k ks) fs ≡ head_end table t h fs ++ (write (numbered table k) ++ parts_bytes table ks)
  unfolding open_bytes parts_bytes
  front_open t h k ks fs = ap (λ (l : List ℕ). head_end table t h fs ++ l) (write_front k ks fields_end)

  front_length : (t : ℕ) (h : List Piece) (k : Node) (ks : Nodes) (fs : List Frame) → length (open_bytes table t h (in_front k ks) fs) ≡ length (open_bytes table t h ks fs) + length (write (numbered table k))
  front_length t h k ks fs =
      ap length (front_open t h k ks fs)
      ∙ omega (arith, length-append (head_end table t h fs) (write (numbered table k) ++ parts_bytes table ks), length-append (write (numbered table k)) (parts_bytes table ks), open_length t h ks fs)

front_tall : (k : Node) (ks : Nodes) → tallest (in_front k ks) ≡ max (tallest ks) (height k)
unfolding tallest in_front
front_tall k empty = refl
front_tall k (ks ▸ j) = omega (arith, front_tall k ks)

-- where there is a part, one of one level makes nothing taller
level_one : (n : ℕ) → n ≡ 1 → (ks : Nodes) (j : Node) → max (tallest (ks ▸ j)) n ≡ tallest (ks ▸ j)
unfolding tallest
level_one n e ks (node p t h js) = omega arith

front_late : (k : Node) (ks : Nodes) → late_in k ≡ none → late_among (in_front k ks) ≡ late_among ks
unfolding late_among in_front
front_late k empty e = e
front_late k (ks ▸ j) e = ap (λ (o : Option ℕ). or_later o (late_in j)) (front_late k ks e)

parent_plain : (p : ℕ) (w : List ℕ) → late_in (leaf p 0x35 (name w ∷ [])) ≡ none
unfolding late_among
parent_plain p w = late_inner p 0x35 (name w ∷ []) empty (omega arith)

-- bytes before the parts: those of the head, or of a first part
parts_lifted : (xs ys ps : List ℕ) {out moved out' : List ℕ} (p n fill : ℕ) → Holds out (low (xs ++ ps)) → p ≡ length xs → fill ≡ length (xs ++ ps) → n ≡ length ys → moved ≡ over out (p + n) (bytes_at out p (fill - p)) → out' ≡ over moved p ys
    → Holds out' (low xs ++ (ys ++ low ps))
parts_lifted xs ys ps {out} p n fill held at filled size up put =
    let count : fill - p ≡ length (low ps) = omega (arith, length-append xs ps, low_length ps) in
    holds_inserted (low xs) ys (low ps) p (p + n) (rw (sym (low_append xs ps)) held) (up ∙ ap (λ (i : ℕ). over out (p + n) (bytes_at out p i)) count) put (at ∙ sym (low_length xs)) (omega arith)

module _ (table : List (List ℕ)) (s : Building) (m out : List ℕ) {moved out' : List ℕ} where
  module _ (w : List ℕ) (up : moved ≡ over out (s.body + 2) (bytes_at out s.body (s.fill - s.body))) (put : out' ≡ over moved s.body (high_bytes 2 (number_in table w))) where
    last_named : (t : ℕ) (h : List Piece) (ks : Nodes) (fs : List Frame) → LastPart table s t h ks fs → LastPart table (raised s 2 2) t (h ++ (name w ∷ [])) ks fs
    unfolding LastPart raised
    last_named t h empty fs l = tt
    last_named t h (ks ▸ k) fs l = (omega (arith, l.0, named_length table t h w ks fs), l.1)

    name_shown : {b t : ℕ} {h : List Piece} {ks : Nodes} {fs : List Frame} → Shown table s m out b t h ks fs → Shown table (raised s 2 2) m out' b t (h ++ (name w ∷ [])) ks fs
    unfolding raised open_bytes
    name_shown {b} {t} {h} {ks} {fs} x =
        let two : List ℕ = high_bytes 2 (number_in table w) in
        let front : List ℕ = head_end table t h fs in
        record {
          rounds = x.rounds;
          depth = x.depth;
          fill = omega (arith, x.fill, named_length table t h w ks fs);
          start = x.start;
          body = omega (arith, x.body, ap length (named_end table t h w fs), length-append front two, high_length 2 (number_in table w));
          tall = x.tall;
          deep = x.deep;
          last = last_named t h ks fs x.last;
          within = omega (arith, x.within);
          high = x.high;
          late = x.late;
          word = λ e. false_not_true e;
          label = label_kept table h w x.label;
          slots = x.slots;
          bytes = rw (ap low (named_open table t h w ks fs) ∙ low_append front (two ++ parts_bytes table ks) ∙ ap (λ (l : List ℕ). low front ++ l) (low_append two (parts_bytes table ks) ∙ ap (λ (l : List ℕ). l ++ low (parts_bytes table ks)) (low_high 2 (number_in table w))))
              (parts_lifted front two (parts_bytes table ks) s.body 2 s.fill x.bytes x.body x.fill (sym (high_length 2 (number_in table w))) up put);
        }

  -- a part of one level, of n bytes, before the others
  module _ (k : Node) (ys : List ℕ) (n : ℕ) (flat : height k ≡ 1) (plain : late_in k ≡ none) (are : low (write (numbered table k)) ≡ ys) (size : n ≡ length ys)
      (up : moved ≡ over out (s.body + n) (bytes_at out s.body (s.fill - s.body))) (put : out' ≡ over moved s.body ys) where
    wide : length (write (numbered table k)) ≡ n
    wide = sym (low_length (write (numbered table k))) ∙ ap length are ∙ sym size

    front_held : {b t : ℕ} {h : List Piece} {ks : Nodes} {fs : List Frame} → Shown table s m out b t h ks fs → Holds out' (low (open_bytes table t h (in_front k ks) fs))
    unfolding open_bytes
    front_held {b} {t} {h} {ks} {fs} x =
        let front : List ℕ = head_end table t h fs in
        rw (ap low (front_open table t h k ks fs) ∙ low_append front (write (numbered table k) ++ parts_bytes table ks) ∙ ap (λ (l : List ℕ). low front ++ l) (low_append (write (numbered table k)) (parts_bytes table ks) ∙ ap (λ (l : List ℕ). l ++ low (parts_bytes table ks)) are))
        (parts_lifted front ys (parts_bytes table ks) s.body n s.fill x.bytes x.body x.fill size up put)

    front_lates : {b t : ℕ} {h : List Piece} {ks : Nodes} {fs : List Frame} → Shown table s m out b t h ks fs → s.late ≡ late_number (late_open (in_front k ks) fs)
    unfolding late_open
    front_lates {ks = ks} {fs} x = x.late ∙ ap (λ (o : Option ℕ). late_number (or_later (late_around fs) o)) (sym (front_late k ks plain))

    -- there is no other part
    first_shown : {b t : ℕ} {h : List Piece} {fs : List Frame} → s.depth < 32 → Shown table s m out b t h empty fs → Shown table (with_part s n s.late) m out' b t h (in_front k empty) fs
    unfolding with_part LastPart tallest in_front
    first_shown {b} {t} {h} {fs} room x =
        record {
          rounds = x.rounds;
          depth = x.depth;
          fill = omega (arith, x.fill, front_length table t h k empty fs, wide);
          start = x.start;
          body = x.body;
          tall = omega (arith, x.tall);
          deep = omega (arith, x.deep);
          last = (x.fill, sym flat);
          within = omega arith;
          high = omega arith;
          late = front_lates x;
          word = λ e. false_not_true e;
          label = x.label;
          slots = around_higher table m 1 (suc (max 0 (height k))) fs (omega arith) x.slots;
          bytes = front_held x;
        }

    -- there are others
    before_shown : {b t : ℕ} {h : List Piece} {ks : Nodes} {j : Node} {fs : List Frame} → s.depth < 32 → Shown table s m out b t h (ks ▸ j) fs → Shown table (raised s 0 n) m out' b t h (in_front k (ks ▸ j)) fs
    unfolding raised LastPart in_front
    before_shown {b} {t} {h} {ks} {j} {fs} room x =
        let same : tallest (in_front k (ks ▸ j)) ≡ tallest (ks ▸ j) = front_tall k (ks ▸ j) ∙ level_one (height k) flat ks j in
        record {
          rounds = x.rounds;
          depth = x.depth;
          fill = omega (arith, x.fill, front_length table t h k (ks ▸ j) fs, wide);
          start = x.start;
          body = omega (arith, x.body);
          tall = x.tall ∙ sym same;
          deep = x.deep;
          last = (omega (arith, x.last.0, front_length table t h k ks fs, wide), x.last.1);
          within = omega (arith, x.within);
          high = x.high;
          late = front_lates x;
          word = λ e. false_not_true e;
          label = x.label;
          slots = around_higher table m (suc (tallest (ks ▸ j))) (suc (tallest (in_front k (ks ▸ j)))) fs (omega (arith, same)) x.slots;
          bytes = front_held x;
        }

-- ---- The ways of `add_name` and `parent_first`

module _ (types : Types) (s : Building) (m out : List ℕ) (n : ℕ) {moved out' : List ℕ} {s' : Building} where
  pub name_made : moved ≡ over out (s.body + 2) (bytes_at out s.body (s.fill - s.body)) → out' ≡ over moved s.body (high_bytes 2 n) → s' ≡ raised s 2 2 → DoesAt types (AName n) named s m out (Some s') m out'
  unfolding DoesAt Answers act Shows AName raised
  name_made up put e table (build b (frame q t h ks) fs) x is a =
      record {
        made = build b (frame q t (h ++ (name (spelled (token_of x)) ∷ [])) ks) fs;
        is = refl;
        grown = rw e (omega arith);
        behind = λ i low c. kept_lifted out s.body 2 s.fill (high_bytes 2 n) (omega (arith, a.body, a.fill, body_short table t h ks fs)) (sym (high_length 2 n)) up put i (omega (arith, ap (λ (r : Building). r.fill) e));
        shows = rw e (name_shown table s m out (spelled (token_of x)) up (put ∙ ap (λ (k : ℕ). over moved s.body (high_bytes 2 k)) is) a);
      }

  module _ (room : s.depth < 32) (up : moved ≡ over out (s.body + 5) (bytes_at out s.body (s.fill - s.body))) (put : out' ≡ over moved s.body ((0x35 ∷ high_bytes 2 2) ++ high_bytes 2 n)) where
    pub parent_only : s.tallest ≡ 0 → s' ≡ with_part s 5 s.late → DoesAt types (AName n) parent_first s m out (Some s') m out'
    unfolding DoesAt Answers act Shows AName added_first tallest height high_bytes with_part raised
    parent_only flat e table (build b (frame q t h (ks ▸ node p v g js)) fs) x is a = absurd (omega (arith, a.tall))
    parent_only flat e table (build b (frame q t h empty) fs) x is a =
        record {
          made = build b (frame q t h (in_front (leaf (place_of x) 0x35 (name (spelled (token_of x)) ∷ [])) empty)) fs;
          is = rw (le-leb (length fs + 1) 32 (omega (arith, a.depth)));
          grown = rw e (omega arith);
          behind = λ i low c. kept_lifted out s.body 5 s.fill ((0x35 ∷ high_bytes 2 2) ++ high_bytes 2 n) (omega (arith, a.body, a.fill, body_short table t h empty fs)) refl up put i (omega (arith, ap (λ (r : Building). r.fill) e));
          shows = rw e
              (first_shown table s m out (leaf (place_of x) 0x35 (name (spelled (token_of x)) ∷ [])) ((0x35 ∷ high_bytes 2 2) ++ high_bytes 2 n) 5 refl (parent_plain (place_of x) (spelled (token_of x)))
              (name_bytes_lem table (place_of x) 0x35 n (spelled (token_of x)) (omega arith) is) refl up put room a);
        }

    pub parent_before : 0 < s.tallest → s' ≡ raised s 0 5 → DoesAt types (AName n) parent_first s m out (Some s') m out'
    unfolding DoesAt Answers act Shows AName added_first tallest height high_bytes with_part raised
    parent_before tall e table (build b (frame q t h empty) fs) x is a = absurd (omega (arith, a.tall))
    parent_before tall e table (build b (frame q t h (ks ▸ j)) fs) x is a =
        record {
          made = build b (frame q t h (in_front (leaf (place_of x) 0x35 (name (spelled (token_of x)) ∷ [])) (ks ▸ j))) fs;
          is = rw (le-leb (length fs + 1) 32 (omega (arith, a.depth)));
          grown = rw e (omega arith);
          behind = λ i low c. kept_lifted out s.body 5 s.fill ((0x35 ∷ high_bytes 2 2) ++ high_bytes 2 n) (omega (arith, a.body, a.fill, body_short table t h (ks ▸ j) fs)) refl up put i (omega (arith, ap (λ (r : Building). r.fill) e));
          shows = rw e
              (before_shown table s m out (leaf (place_of x) 0x35 (name (spelled (token_of x)) ∷ [])) ((0x35 ∷ high_bytes 2 2) ++ high_bytes 2 n) 5 refl (parent_plain (place_of x) (spelled (token_of x)))
              (name_bytes_lem table (place_of x) 0x35 n (spelled (token_of x)) (omega arith) is) refl up put room a);
        }

pub parent_refused : (types : Types) (s : Building) (m out : List ℕ) (n : ℕ) → 32 ≤ s.depth → DoesAt types (AName n) parent_first s m out None m out
unfolding DoesAt Answers act Shows added_first
parent_refused types s m out n full table (build b (frame q t h ks) fs) x is a = rw (lt-leb (length fs + 1) 32 (omega (arith, a.depth)))
