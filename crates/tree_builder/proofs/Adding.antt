-- A part of one level comes last: what the state and the output then stand for. Assumes nothing.
use mathlib.Core.Path.{◌≡◌, sym, ap, ◌∙◌}
use mathlib.Core.Bool.{true, false}
use mathlib.Core.List.{List, ◌++◌}
use mathlib.Core.Option.{Option, none}
use Prim.Native.Nat.{ℕ, suc, ◌+◌, ◌≤◌, ◌<◌, max}
use native.Mathlib.Omega.{arith}
use borrow.Author.Tests.{le-leb, lt-leb}
use lib.ListN.{length, length-append}
use Rattle.wire.specs.Runs.{over}
use Rattle.rules.specs.Fields.{write}
use Rattle.notation.specs.Building.{Piece, Node, Nodes, ◌▸◌, height, tallest, Frame, frame, Build, build, added}
use Rattle.notation.specs.Convert.{or_later, late_in, numbered}
use Rattle.tree_builder.specs.declared.Building.{Building}
use Rattle.tree_builder.specs.Open.{low, open_bytes, late_open, late_number}
use Rattle.tree_builder.specs.State.{with_part}
use Rattle.tree_builder.specs.Shows.{LastPart, Shown, Shows, Made}
use Rattle.tree_builder.proofs.Stores.{low_append, low_length, holds_more, kept_behind}
use Rattle.tree_builder.proofs.Bytes.{open_more}
use Rattle.tree_builder.proofs.Slots.{around_higher}
use Rattle.tree_builder.proofs.Late.{late_more}

pub false_not_true : {A : Type 0} → false ≡ true → A
false_not_true e = let z : ◌≡◌ {A = ℕ} 0 1 = cc in absurd (omega arith)

module _ (table : List (List ℕ)) (s : Building) (m out : List ℕ) where
  -- 32 fields are around: there is no room for one more level
  pub no_room : (k : Node) (f : Build) → 32 ≤ s.depth → Shows table s m out f → added k f ≡ none
  unfolding Shows added
  no_room k (build b (frame p t h ks) fs) full x = rw (lt-leb (length fs + 1) 32 (omega (arith, x.depth)))

  -- a node of one level, whose bytes are stored where the filled part ends
  module _ (k : Node) (late n : ℕ) (bs : List ℕ) {out' : List ℕ}
      (flat : height k ≡ 1) (are : low (write (numbered table k)) ≡ bs) (size : n ≡ length bs) (short : n ≤ 12) (put : out' ≡ over out s.fill bs)
      (lately : (o : Option ℕ) → s.late ≡ late_number o → late ≡ late_number (or_later o (late_in k))) where
    pub part_shown : {b t : ℕ} {h : List Piece} {ks : Nodes} {fs : List Frame} → s.depth < 32 → Shown table s m out b t h ks fs → Shown table (with_part s n late) m out' b t h (ks ▸ k) fs
    unfolding with_part LastPart tallest
    part_shown {b} {t} {h} {ks} {fs} room x =
        let whole : List ℕ = open_bytes table t h ks fs in
        let more : open_bytes table t h (ks ▸ k) fs ≡ whole ++ write (numbered table k) = open_more table t h ks k fs in
        let wide : length (write (numbered table k)) ≡ n = sym (low_length (write (numbered table k))) ∙ ap length are ∙ sym size in
        record {
          rounds = x.rounds;
          depth = x.depth;
          fill = omega (arith, x.fill, ap length more, length-append whole (write (numbered table k)));
          start = x.start;
          body = x.body;
          tall = omega (arith, x.tall);
          deep = omega (arith, x.deep);
          last = (x.fill, sym flat);
          within = omega arith;
          high = omega arith;
          late = lately (late_open ks fs) x.late ∙ ap late_number (sym (late_more ks k fs));
          word = λ e. false_not_true e;
          label = x.label;
          slots = around_higher table m (suc (tallest ks)) (suc (max (tallest ks) (height k))) fs (omega arith) x.slots;
          bytes = rw (ap low more ∙ low_append whole (write (numbered table k)) ∙ ap (λ (l : List ℕ). low whole ++ l) are)
              (holds_more (low whole) bs s.fill x.bytes put (x.fill ∙ sym (low_length whole)));
        }

    pub part_added : (f : Build) {s' : Building} → s.depth < 32 → s' ≡ with_part s n late → Shows table s m out f → Made table s.fill out s' m out' (added k f)
    unfolding Shows added with_part
    part_added (build b (frame p t h ks) fs) room e x =
        record { made = build b (frame p t h (ks ▸ k)) fs; is = rw (le-leb (length fs + 1) 32 (omega (arith, x.depth))); shows = rw e (part_shown room x); grown = rw e (omega arith); behind = λ i a c. kept_behind out s.fill bs put i (omega (arith, ap (λ (r : Building). r.fill) e)) }
