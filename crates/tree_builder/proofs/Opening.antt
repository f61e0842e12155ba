-- A field begins: what the state, the slots and the output then stand for. Assumes nothing.
use mathlib.Core.Path.{◌≡◌, refl, sym, ap, ◌∙◌}
use mathlib.Core.List.{List, [], ◌∷◌, ◌++◌}
use mathlib.Core.Option.{none}
use Prim.Native.Nat.{ℕ, suc, ◌+◌, ◌*◌, ◌≤◌, ◌<◌, max}
use native.Mathlib.Omega.{arith}
use borrow.Author.Tests.{le-leb, lt-leb}
use lib.ListN.{length, length-append}
use Rattle.wire.specs.Numbers.{high_bytes}
use Rattle.wire.specs.Runs.{over}
use Rattle.wire.proofs.Laws.{high_length}
use Rattle.notation.specs.Building.{Piece, Nodes, empty, tallest, Frame, frame, Build, build, begun}
use Rattle.notation.specs.Convert.{label_in, head_bytes}
use Rattle.tree_builder.specs.declared.Building.{Building}
use Rattle.tree_builder.specs.Open.{low, Holds, around_bytes, head_end, open_bytes, late_open, late_number}
use Rattle.tree_builder.specs.State.{slot_in, slot_number, opened_at}
use Rattle.tree_builder.specs.Shows.{Around, LastPart, Shown, Shows, Made, Ready}
use Rattle.tree_builder.proofs.Stores.{low_append, low_length, holds_more, kept_behind}
use Rattle.tree_builder.proofs.Bytes.{low_header, around_open, head_end_lem, open_none}
use Rattle.tree_builder.proofs.Slots.{slot_back, around_kept, around_higher}
use Rattle.tree_builder.proofs.Late.{late_begun}
use Rattle.tree_builder.proofs.Ready.{body_short}
use Rattle.tree_builder.proofs.Adding.{false_not_true}

module _ (table : List (List ℕ)) (s : Building) (m out : List ℕ) where
  -- what a new field needs of itself, and of the field around it, which keeps some of its parts
  pub record NewField (start body fill tall late : ℕ) (out' : List ℕ) (t : ℕ) (h : List Piece) (kept : Nodes) (fs : List Frame) (p u : ℕ) (g : List Piece) (parts : Nodes) : Type 0 where
    pub starts : start ≡ length (open_bytes table t h kept fs)
    pub heads : body ≡ length (head_end table u g (frame p t h kept ∷ fs))
    pub fills : fill ≡ length (open_bytes table u g parts (frame p t h kept ∷ fs))
    pub talls : tall ≡ tallest parts
    pub lates : late ≡ late_number (late_open parts (frame p t h kept ∷ fs))
    pub deep : suc s.depth + tall ≤ 32
    pub label : label_in g ≤ 255
    pub exact : max s.tallest (suc (tallest parts)) ≡ max (tallest kept) (suc (tallest parts))
    pub last : LastPart table (opened_at s start body fill tall late) u g parts (frame p t h kept ∷ fs)
    pub bytes : Holds out' (low (open_bytes table u g parts (frame p t h kept ∷ fs)))

  pub field_shown : {p q e n l : ℕ} {m' out' : List ℕ} {b t : ℕ} {h : List Piece} {ks kept : Nodes} {fs : List Frame} {r u : ℕ} {g : List Piece} {js : Nodes} → 256 ≤ length m → Ready s
      → m' ≡ over m (8 * s.depth) (high_bytes 8 (slot_number s.start s.body s.tallest)) → Shown table s m out b t h ks fs → tallest ks ≤ max (tallest kept) (suc (tallest js))
      → NewField p q e n l out' t h kept fs r u g js → Shown table (opened_at s p q e n l) m' out' b u g js (frame r t h kept ∷ fs)
  unfolding opened_at Around
  field_shown {m' = m'} {t = t} {h} {ks} {kept} {fs} {r} {u} {g} {js} room ready save x lower new =
      record {
        rounds = x.rounds;
        depth = omega (arith, x.depth);
        fill = new.fills;
        start = new.starts ∙ ap length (sym (around_open table t h r t h kept fs));
        body = new.heads;
        tall = new.talls;
        deep = omega (arith, new.deep);
        last = new.last;
        within = omega (arith, new.heads, new.fills, body_short table u g js (frame r t h kept ∷ fs));
        high = omega (arith, new.deep);
        late = new.lates;
        word = λ e. false_not_true e;
        label = new.label;
        slots = (
          record {
            tall = s.tallest;
            kept = ap (slot_in m') (sym x.depth) ∙ slot_back m s.depth (slot_number s.start s.body s.tallest) (omega (arith, new.deep)) (omega (arith, ready.fill, ready.start, ready.body, ready.tall)) save
                ∙ ap (λ (i : ℕ). slot_number i s.body s.tallest) x.start ∙ ap (λ (i : ℕ). slot_number (length (around_bytes table fs)) i s.tallest) x.body;
            deep = omega (arith, x.depth, x.deep);
            exact = new.exact;
            label = x.label;
          },
          around_higher table m' (suc (tallest ks)) (suc (max (tallest kept) (suc (tallest js)))) fs (omega arith) (around_kept table m s.depth (slot_number s.start s.body s.tallest) (suc (tallest ks)) fs (omega (arith, x.depth)) save x.slots),
        );
        bytes = new.bytes;
      }

  pub begin_refused : (p t : ℕ) (f : Build) → 32 ≤ s.depth → Shows table s m out f → begun p t f ≡ none
  unfolding Shows begun
  begin_refused r u (build b (frame p t h ks) fs) full x = rw (lt-leb (length fs + 1) 32 (omega (arith, x.depth)))

  -- the header of a field that begins behind all others
  pub begin_made : (r u : ℕ) (f : Build) {m' out' : List ℕ} {s' : Building} → u < 256 → s.depth < 32 → 256 ≤ length m → Ready s → m' ≡ over m (8 * s.depth) (high_bytes 8 (slot_number s.start s.body s.tallest))
      → out' ≡ over out s.fill (u ∷ high_bytes 2 0) → s' ≡ opened_at s s.fill (s.fill + 3) (s.fill + 3) 0 s.late → Shows table s m out f → Made table s.fill out s' m' out' (begun r u f)
  unfolding Shows begun LastPart tallest head_bytes opened_at
  begin_made r u (build b (frame p t h ks) fs) {m'} {out'} small below room ready save put e x =
      let whole : List ℕ = open_bytes table t h ks fs in
      let more : open_bytes table u [] empty (frame p t h ks ∷ fs) ≡ whole ++ (u ∷ 0 ∷ 0 ∷ []) = open_none table u [] (frame p t h ks ∷ fs) ∙ head_end_lem table u [] p t h ks fs in
      let ends : head_end table u [] (frame p t h ks ∷ fs) ≡ whole ++ (u ∷ 0 ∷ 0 ∷ []) = head_end_lem table u [] p t h ks fs in
      let wide : length (whole ++ (u ∷ 0 ∷ 0 ∷ [])) ≡ length whole + 3 = length-append whole (u ∷ 0 ∷ 0 ∷ []) in
      let header : low (u ∷ 0 ∷ 0 ∷ []) ≡ u ∷ high_bytes 2 0 = low_header u small in
      record {
        made = build b (frame r u [] empty) (frame p t h ks ∷ fs);
        is = rw (le-leb (length fs + 1) 32 (omega (arith, x.depth)));
        grown = rw e (omega arith);
        behind = λ i a c. kept_behind out s.fill (u ∷ high_bytes 2 0) put i (omega (arith, ap (λ (r : Building). r.fill) e, high_length 2 0));
        shows = rw e
            (field_shown room ready save x (omega arith)
            (record {
              starts = x.fill;
              heads = omega (arith, x.fill, ap length ends, wide);
              fills = omega (arith, x.fill, ap length more, wide);
              talls = refl;
              lates = x.late ∙ ap late_number (sym (late_begun p t h ks fs));
              deep = omega arith;
              label = omega arith;
              exact = ap (λ (n : ℕ). max n 1) x.tall;
              last = tt;
              bytes = rw (ap low more ∙ low_append whole (u ∷ 0 ∷ 0 ∷ []) ∙ ap (λ (l : List ℕ). low whole ++ l) header)
                  (holds_more (low whole) (u ∷ high_bytes 2 0) s.fill x.bytes put (x.fill ∙ sym (low_length whole)));
            }));
      }
