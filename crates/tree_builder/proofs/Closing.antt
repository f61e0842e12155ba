-- A field ends: its length is stored, and the field around it comes from its slot. Assumes nothing.
use mathlib.Core.Path.{◌≡◌, refl, sym, ap, ◌∙◌}
use mathlib.Core.List.{List, [], ◌∷◌, ◌++◌, append_assoc}
use mathlib.Core.Option.{none}
use Prim.Native.Nat.{ℕ, suc, ◌+◌, ◌-◌, ◌/◌, ◌%◌, ◌≤◌, ◌<◌}
use native.Mathlib.Omega.{arith}
use lib.ListN.{length, length-append}
use Rattle.wire.specs.Numbers.{high_bytes}
use Rattle.wire.specs.Runs.{over}
use Rattle.wire.proofs.Laws.{high_length}
use Rattle.rules.specs.Fields.{wrap, write}
use Rattle.rules.specs.Types.{Types}
use Rattle.notation.specs.Building.{Piece, node, Nodes, ◌▸◌, tallest, Frame, frame, Build, build, close, act}
use Rattle.notation.specs.Tokens.{Lexeme}
use Rattle.notation.specs.Convert.{head_bytes, numbered}
use Rattle.tree_builder.specs.declared.Building.{Building}
use Rattle.tree_builder.specs.Open.{low, Holds, parts_bytes, around_bytes, head_end, open_bytes, late_number}
use Rattle.tree_builder.specs.State.{slot_in, slot_number, closed_into}
use Rattle.tree_builder.specs.Shows.{Around, Slot, LastPart, Shown, Shows, Made, Ready}
use Rattle.tree_builder.proofs.Stores.{low_append, low_length, holds_patched, kept_behind}
use Rattle.tree_builder.proofs.Bytes.{low_two, around_open, inner_open, open_more}
use Rattle.tree_builder.proofs.Late.{late_closed}
use Rattle.tree_builder.proofs.Adding.{false_not_true}

-- the bytes of a field that is closed
body_wrapped : (table : List (List ℕ)) (p t : ℕ) (h : List Piece) (ks : Nodes) → write (numbered table (node p t h ks)) ≡ wrap t (head_bytes table h ++ parts_bytes table ks)
unfolding write numbered parts_bytes
body_wrapped table p t h ks = refl

-- a slot's number in its three parts
slot_parts : (p q n : ℕ) {k : ℕ} → q < 4194304 → n < 64 → k ≡ slot_number p q n → (k / 268435456 ≡ p) × (k / 64 % 4194304 ≡ q) × (k % 64 ≡ n)
slot_parts p q n {k} a b e = (omega arith, omega arith, omega arith)

module _ (types : Types) (table : List (List ℕ)) (s : Building) (m out : List ℕ) where
  pub close_refused : (x : Lexeme) (f : Build) → s.depth ≡ 0 → Shows table s m out f → act types close x f ≡ none
  unfolding Shows act
  close_refused x (build b (frame p t h ks) []) outermost a = refl
  close_refused x (build b (frame p t h ks) (f ∷ fs)) outermost a = absurd (omega (arith, a.depth))

  module _ (p t : ℕ) (h : List Piece) (ks : Nodes) (q u : ℕ) (g : List Piece) (js : Nodes) (fs : List Frame) where
    whole : List ℕ
    whole = open_bytes table u g js fs

    body : List ℕ
    body = head_bytes table h ++ parts_bytes table ks

    -- before and after, around the two bytes of the length
    before : open_bytes table t h ks (frame q u g js ∷ fs) ≡ (whole ++ (t ∷ [])) ++ ((0 ∷ 0 ∷ []) ++ body)
    unfolding whole body
    before = inner_open table t h q u g js fs ks ∙ sym (append_assoc whole (t ∷ []) (0 ∷ 0 ∷ body))

    after : open_bytes table u g (js ▸ node p t h ks) fs ≡ (whole ++ (t ∷ [])) ++ ((length body / 256 ∷ length body % 256 ∷ []) ++ body)
    unfolding whole body wrap
    after =
        open_more table u g js (node p t h ks) fs ∙ ap (λ (l : List ℕ). whole ++ l) (body_wrapped table p t h ks)
        ∙ sym (append_assoc whole (t ∷ []) (length body / 256 ∷ length body % 256 ∷ body))

    length_patched : {n : ℕ} {out' : List ℕ} → n ≡ length body → out' ≡ over out (length whole + 1) (high_bytes 2 (n % 65536)) → Holds out (low (open_bytes table t h ks (frame q u g js ∷ fs)))
        → Holds out' (low (open_bytes table u g (js ▸ node p t h ks) fs))
    unfolding low
    length_patched {n} {out'} size put holds =
        let two : List ℕ = length body / 256 ∷ length body % 256 ∷ [] in
        let front : List ℕ = low (whole ++ (t ∷ [])) in
        let old : low (open_bytes table t h ks (frame q u g js ∷ fs)) ≡ front ++ ((0 ∷ 0 ∷ []) ++ low body) = ap low before ∙ low_append (whole ++ (t ∷ [])) (0 ∷ 0 ∷ body) in
        let new : low (open_bytes table u g (js ▸ node p t h ks) fs) ≡ front ++ (low two ++ low body) =
        ap low after ∙ low_append (whole ++ (t ∷ [])) (two ++ body) in
        let place : length whole + 1 ≡ length front = sym (low_length (whole ++ (t ∷ [])) ∙ length-append whole (t ∷ [])) in
        let stored : high_bytes 2 (n % 65536) ≡ low two = ap (λ (k : ℕ). high_bytes 2 (k % 65536)) size ∙ sym (low_two (length body)) in
        rw new (holds_patched front (0 ∷ 0 ∷ []) (low two) (low body) (length whole + 1) (rw (sym old) holds) refl (put ∙ ap (over out (length whole + 1)) stored) place)

    sizes : (length (open_bytes table t h ks (frame q u g js ∷ fs)) ≡ length whole + 3 + length body) × (length (open_bytes table u g (js ▸ node p t h ks) fs) ≡ length whole + 3 + length body)
    sizes = (
      ap length before ∙ omega (arith, length-append (whole ++ (t ∷ [])) ((0 ∷ 0 ∷ []) ++ body), length-append whole (t ∷ [])),
      ap length after ∙ omega (arith, length-append (whole ++ (t ∷ [])) ((length body / 256 ∷ length body % 256 ∷ []) ++ body), length-append whole (t ∷ [])),
    )

    front_short : length (head_end table u g fs) ≤ length whole
    unfolding whole open_bytes
    front_short = omega (arith, length-append (head_end table u g fs) (parts_bytes table js))

    pub close_shown : {b n : ℕ} {out' : List ℕ} → Ready s → out' ≡ over out (s.start + 1) (high_bytes 2 ((s.fill - s.start - 3) % 65536)) → n ≡ slot_in m (s.depth - 1) → Shown table s m out b t h ks (frame q u g js ∷ fs)
        → Shown table (closed_into s n) m out' b u g (js ▸ node p t h ks) fs
    unfolding closed_into LastPart Around tallest whole
    close_shown {b} {n} {out'} ready put read x =
        let slot : Slot table m (suc (tallest ks)) u g js fs = x.slots.0 in
        let starts : s.start ≡ length whole = x.start ∙ ap length (around_open table t h q u g js fs) in
        let below : s.depth - 1 ≡ length fs = omega (arith, x.depth) in
        let number : n ≡ slot_number (length (around_bytes table fs)) (length (head_end table u g fs)) slot.tall = read ∙ ap (slot_in m) below ∙ slot.kept in
        let parts = slot_parts (length (around_bytes table fs)) (length (head_end table u g fs)) slot.tall (omega (arith, front_short, starts, ready.start, ready.fill)) (omega (arith, slot.deep)) number in
        record {
          rounds = x.rounds;
          depth = below;
          fill = x.fill ∙ sizes.0 ∙ sym sizes.1;
          start = parts.0;
          body = parts.1;
          tall = omega (arith, parts.2, x.tall, slot.exact);
          deep = omega (arith, parts.2, slot.deep, x.deep, below, x.depth);
          last = (starts, omega (arith, x.tall));
          within = ready.start;
          high = omega (arith, x.deep, x.depth);
          late = x.late ∙ ap late_number (sym (late_closed p t h ks q u g js fs x.label));
          word = λ e. false_not_true e;
          label = slot.label;
          slots = x.slots.1;
          bytes = length_patched {n = s.fill - s.start - 3} (omega (arith, x.fill, sizes.0, starts)) (put ∙ ap (λ (i : ℕ). over out (i + 1) (high_bytes 2 ((s.fill - s.start - 3) % 65536))) starts) x.bytes;
        }

  pub close_made : (x : Lexeme) (f : Build) {n : ℕ} {out' : List ℕ} {s' : Building} → 0 < s.depth → Ready s → out' ≡ over out (s.start + 1) (high_bytes 2 ((s.fill - s.start - 3) % 65536)) → n ≡ slot_in m (s.depth - 1)
      → s' ≡ closed_into s n → Shows table s m out f → Made table s.fill out s' m out' (act types close x f)
  unfolding Shows act closed_into
  close_made x (build b (frame p t h ks) []) inside ready put read e a = absurd (omega (arith, a.depth))
  close_made x (build b (frame p t h ks) (frame q u g js ∷ fs)) inside ready put read e a =
      record { made = build b (frame q u g (js ▸ node p t h ks)) fs; is = refl; shows = rw e (close_shown p t h ks q u g js fs ready put read a); grown = rw e (omega arith); behind = λ i low c. kept_behind out (s.start + 1) (high_bytes 2 ((s.fill - s.start - 3) % 65536)) put i (omega (arith, ready.header inside, high_length 2 ((s.fill - s.start - 3) % 65536))) }
