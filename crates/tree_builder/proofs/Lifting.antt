-- Bytes put before the last part, or before all parts: the ways of `around`, `instead`, `add_name` and `parent_first`. Assumes nothing.
use mathlib.Core.Path.{◌≡◌, refl, sym, ap, ◌∙◌}
use mathlib.Core.Bool.{true}
use mathlib.Core.List.{List, [], ◌∷◌, ◌++◌, append_assoc, append-nil}
use mathlib.Core.Option.{none}
use Prim.Native.Nat.{ℕ, suc, ◌+◌, ◌-◌, ◌*◌, ◌/◌, ◌%◌, ◌^◌, ◌≤◌, ◌<◌}
use native.Mathlib.Omega.{arith}
use borrow.Author.Tests.{le-leb, lt-leb}
use lib.ListN.{length, length-append}
use Rattle.wire.specs.Numbers.{high_bytes}
use Rattle.wire.specs.Runs.{bytes_at, over}
use Rattle.wire.proofs.Laws.{high_length, then_store}
use Rattle.rules.specs.Fields.{write}
use Rattle.rules.specs.Types.{Types}
use Rattle.notation.specs.Building.{Piece, byte, name, Node, node, Nodes, empty, ◌▸◌, leaf, height, tallest, Frame, frame, Build, build, around, instead, act}
use Rattle.notation.specs.Tokens.{Lexeme, place_of}
use Rattle.notation.specs.Convert.{label_in, head_bytes, piece_bytes, numbered}
use Rattle.tree_builder.specs.declared.Building.{Building}
use Rattle.tree_builder.specs.Open.{low, Holds, head_end, open_bytes, late_open, late_number}
use Rattle.tree_builder.specs.State.{slot_number, opened_at}
use Rattle.tree_builder.specs.Shows.{number_in, LastPart, LastWord, Shown, Shows, Made, Answers, DoesAt, AnyToken, Ready}
use Rattle.tree_builder.proofs.Stores.{low_append, low_length, holds_more, holds_less, holds_inserted, kept_behind, kept_lifted}
use Rattle.tree_builder.proofs.Bytes.{head_end_lem, open_none, open_more, low_header}
use Rattle.tree_builder.proofs.Late.{late_begun, late_around_lem}
use Rattle.tree_builder.proofs.Opening.{NewField, field_shown}
use Rattle.tree_builder.proofs.Leaves.{head_name, head_none}
use Rattle.std.specs.Prelude.{Some, None}

module _ (types : Types) (table : List (List ℕ)) (s : Building) (m out : List ℕ) where
  -- the field being read has no part, or the last one would be too deep
  pub around_nothing : (u : ℕ) (g : List Piece) (x : Lexeme) (f : Build) → s.tallest ≡ 0 → Shows table s m out f → act types (around u g) x f ≡ none
  unfolding Shows act tallest
  around_nothing u g x (build b (frame p t h empty) fs) flat a = refl
  around_nothing u g x (build b (frame p t h (ks ▸ node q v i js)) fs) flat a = absurd (omega (arith, a.tall))

  pub around_refused : (u : ℕ) (g : List Piece) (x : Lexeme) (f : Build) → 32 ≤ s.depth + s.height → Shows table s m out f → act types (around u g) x f ≡ none
  unfolding Shows act LastPart
  around_refused u g x (build b (frame p t h empty) fs) deep a = refl
  around_refused u g x (build b (frame p t h (ks ▸ k)) fs) deep a = rw (lt-leb (suc (length fs) + height k) 32 (omega (arith, a.depth, a.last.1)))

  module _ {m' out' : List ℕ} (room : 256 ≤ length m) (ready : Ready s) (save : m' ≡ over m (8 * s.depth) (high_bytes 8 (slot_number s.start s.body s.tallest))) where
    -- a header of n bytes before the last part
    module _ (u : ℕ) (g : List Piece) (xs : List ℕ) (n : ℕ) {moved : List ℕ} (are : low (u ∷ 0 ∷ 0 ∷ head_bytes table g) ≡ xs) (size : n ≡ length xs) (short : n ≤ 12) (label : label_in g ≤ 255)
        (up : moved ≡ over out (s.last + n) (bytes_at out s.last (s.fill - s.last))) (put : out' ≡ over moved s.last xs) where
      around_new : {b t : ℕ} {h : List Piece} {ks : Nodes} {k : Node} {fs : List Frame} {r : ℕ} → s.depth + s.height < 32 → Shown table s m out b t h (ks ▸ k) fs
          → NewField table s m out s.last (s.last + n) (s.fill + n) s.height s.late out' t h ks fs r u g (empty ▸ k)
      unfolding LastPart opened_at tallest
      around_new {b} {t} {h} {ks} {k} {fs} {r} shallow x =
          let whole : List ℕ = open_bytes table t h ks fs in
          let part : List ℕ = write (numbered table k) in
          let header : List ℕ = u ∷ 0 ∷ 0 ∷ head_bytes table g in
          let wide : length header ≡ n = sym (low_length header) ∙ ap length are ∙ sym size in
          let old : open_bytes table t h (ks ▸ k) fs ≡ whole ++ part = open_more table t h ks k fs in
          let ends : head_end table u g (frame r t h ks ∷ fs) ≡ whole ++ header = head_end_lem table u g r t h ks fs in
          let none : open_bytes table u g empty (frame r t h ks ∷ fs) ≡ whole ++ header = open_none table u g (frame r t h ks ∷ fs) ∙ ends in
          let new : open_bytes table u g (empty ▸ k) (frame r t h ks ∷ fs) ≡ (whole ++ header) ++ part = open_more table u g empty k (frame r t h ks ∷ fs) ∙ ap (λ (l : List ℕ). l ++ part) none in
          let last : s.last ≡ length whole = x.last.0 in
          let head_length_lem : length (whole ++ header) ≡ s.last + n = length-append whole header ∙ omega arith in
          let filled : s.fill ≡ s.last + length part = x.fill ∙ ap length old ∙ length-append whole part ∙ omega arith in
          let lows : low (open_bytes table u g (empty ▸ k) (frame r t h ks ∷ fs)) ≡ low whole ++ (xs ++ low part) =
          ap low (new ∙ append_assoc whole header part) ∙ low_append whole (header ++ part) ∙ ap (λ (l : List ℕ). low whole ++ l) (low_append header part ∙ ap (λ (l : List ℕ). l ++ low part) are) in
          let moves : s.fill - s.last ≡ length (low part) = omega (arith, low_length part) in
          record {
            starts = last;
            heads = sym (ap length ends ∙ head_length_lem);
            fills = omega (arith, ap length new, length-append (whole ++ header) part);
            talls = omega (arith, x.last.1);
            lates = x.late ∙ ap late_number (sym (late_around_lem r t h ks k fs));
            deep = omega arith;
            label = label;
            exact = omega (arith, x.tall);
            last = (sym (ap length none ∙ head_length_lem), x.last.1);
            bytes = rw lows
                (holds_inserted (low whole) xs (low part) s.last (s.last + n) (rw (sym (ap low old ∙ low_append whole part)) x.bytes) (up ∙ ap (λ (i : ℕ). over out (s.last + n) (bytes_at out s.last i)) moves) put
                (last ∙ sym (low_length whole)) (omega arith));
          }

      pub around_made : (x : Lexeme) (f : Build) {s' : Building} → 0 < s.tallest → s.depth + s.height < 32 → s' ≡ opened_at s s.last (s.last + n) (s.fill + n) s.height s.late → Shows table s m out f
          → Made table s.fill out s' m' out' (act types (around u g) x f)
      unfolding Shows act LastPart tallest opened_at
      around_made x (build b (frame p t h empty) fs) tall shallow e a = absurd (omega (arith, a.tall))
      around_made x (build b (frame p t h (ks ▸ k)) fs) tall shallow e a =
          record {
            made = build b (frame (place_of x) u g (empty ▸ k)) (frame p t h ks ∷ fs);
            is = rw (le-leb (suc (length fs) + height k) 32 (omega (arith, a.depth, a.last.1)));
            grown = rw e (omega arith);
            behind = λ i low c. kept_lifted out s.last n s.fill xs ready.last size up put i (omega (arith, ap (λ (r : Building). r.fill) e));
            shows = rw e (field_shown table s m out room ready save a (omega arith) (around_new shallow a));
          }

    -- a field that has the name of the string constant just read
    module _ (u : ℕ) (small : u < 256) (put : out' ≡ over out s.last ((u ∷ high_bytes 2 0) ++ high_bytes 2 s.name)) where
      instead_new : {b t : ℕ} {h : List Piece} {ks : Nodes} {fs : List Frame} {p l r : ℕ} {w : List ℕ} → s.name ≡ number_in table w → s.before ≡ late_number (late_open ks fs)
          → Shown table s m out b t h (ks ▸ leaf p 0x11 (byte l ∷ name w ∷ [])) fs → NewField table s m out s.last (s.last + 5) (s.last + 5) 0 s.before out' t h ks fs r u (name w ∷ []) empty
      unfolding LastPart tallest
      instead_new {b} {t} {h} {ks} {fs} {p} {l} {r} {w} number before x =
          let k : Node = leaf p 0x11 (byte l ∷ name w ∷ []) in
          let whole : List ℕ = open_bytes table t h ks fs in
          let header : List ℕ = u ∷ 0 ∷ 0 ∷ head_bytes table (name w ∷ []) in
          let stored : List ℕ = (u ∷ high_bytes 2 0) ++ high_bytes 2 s.name in
          let ends : head_end table u (name w ∷ []) (frame r t h ks ∷ fs) ≡ whole ++ header = head_end_lem table u (name w ∷ []) r t h ks fs in
          let none : open_bytes table u (name w ∷ []) empty (frame r t h ks ∷ fs) ≡ whole ++ header = open_none table u (name w ∷ []) (frame r t h ks ∷ fs) ∙ ends in
          let lows : low header ≡ stored =
          low_append (u ∷ 0 ∷ 0 ∷ []) (head_bytes table (name w ∷ [])) ∙ ap (λ (l : List ℕ). l ++ low (head_bytes table (name w ∷ []))) (low_header u small)
          ∙ ap (λ (l : List ℕ). (u ∷ high_bytes 2 0) ++ l) (head_name table w [] number ∙ ap (λ (l : List ℕ). high_bytes 2 s.name ++ l) (head_none table) ∙ append-nil (high_bytes 2 s.name)) in
          let wide : length header ≡ 5 =
          sym (low_length header) ∙ ap length lows ∙ length-append (u ∷ high_bytes 2 0) (high_bytes 2 s.name) ∙ omega (arith, high_length 2 0, high_length 2 s.name) in
          let last : s.last ≡ length whole = x.last.0 in
          let head_length_lem : length (whole ++ header) ≡ s.last + 5 = length-append whole header ∙ omega arith in
          let held : Holds out (low whole) = holds_less (low whole) (low (write (numbered table k))) (rw (sym (ap low (open_more table t h ks k fs) ∙ low_append whole (write (numbered table k)))) x.bytes) in
          record {
            starts = last;
            heads = sym (ap length ends ∙ head_length_lem);
            fills = sym (ap length none ∙ head_length_lem);
            talls = refl;
            lates = before ∙ ap late_number (sym (late_begun r t h ks fs));
            deep = omega (arith, x.deep, x.tall);
            label = omega arith;
            exact = omega (arith, x.tall);
            last = tt;
            bytes = rw (ap low none ∙ low_append whole header ∙ ap (λ (l : List ℕ). low whole ++ l) lows) (holds_more (low whole) stored s.last held put (last ∙ sym (low_length whole)));
          }

      pub instead_made : (x : Lexeme) (f : Build) {s' : Building} → s.word ≡ true → s' ≡ opened_at s s.last (s.last + 5) (s.last + 5) 0 s.before → Shows table s m out f → Made table s.fill out s' m' out' (act types (instead u) x f)
      unfolding Shows act tallest opened_at
      instead_made x (build b (frame p t h ks) fs) is e a =
          let w : LastWord table s ks fs = a.word is in
          let y : Shown table s m out b t h (w.kept ▸ leaf w.place 0x11 (byte w.line ∷ name w.spelled ∷ [])) fs = rw (sym w.is) a in
          record {
            made = build b (frame w.place u (name w.spelled ∷ []) empty) (frame p t h w.kept ∷ fs);
            is = rw w.is;
            grown = rw e (omega (arith, ready.last));
            behind = λ i low c. kept_behind out s.last ((u ∷ high_bytes 2 0) ++ high_bytes 2 s.name) put i (omega (arith, ap (λ (r : Building). r.fill) e, length-append (u ∷ high_bytes 2 0) (high_bytes 2 s.name), high_length 2 0, high_length 2 s.name));
            shows = rw e (field_shown table s m out room ready save y (omega arith) (instead_new w.number w.before y));
          }

-- a header with an operator
operator_low : (table : List (List ℕ)) (u o : ℕ) → u < 256 → low (u ∷ 0 ∷ 0 ∷ head_bytes table (byte o ∷ [])) ≡ (u ∷ high_bytes 2 0) ++ high_bytes 1 o
unfolding head_bytes piece_bytes low high_bytes
operator_low table u o small =
    let tag : u % 256 ≡ u = omega arith in
    let one : o % 256 ≡ o / 256 ^ 0 % 256 = omega arith in
    rw (tag, one)

-- ---- The ways of the functions, whatever the table and the tree

module _ (types : Types) (s : Building) (m out : List ℕ) where
  pub flat_refused : (u : ℕ) (g : List Piece) → s.tallest ≡ 0 → DoesAt types AnyToken (around u g) s m out None m out
  unfolding DoesAt Answers
  flat_refused u g flat table f x p a = around_nothing types table s m out u g x f flat a

  pub deep_refused : (u : ℕ) (g : List Piece) → 32 ≤ s.depth + s.height → DoesAt types AnyToken (around u g) s m out None m out
  unfolding DoesAt Answers
  deep_refused u g deep table f x p a = around_refused types table s m out u g x f deep a

  module _ {m' out' : List ℕ} {s' : Building} (room : 256 ≤ length m) (ready : Ready s) (save : m' ≡ over m (8 * s.depth) (high_bytes 8 (slot_number s.start s.body s.tallest))) (u : ℕ) (small : u < 256) where
    pub plain_made : 0 < s.tallest → s.depth + s.height < 32 → out' ≡ over (over out (s.last + 3) (bytes_at out s.last (s.fill - s.last))) s.last (u ∷ high_bytes 2 0)
        → s' ≡ opened_at s s.last (s.last + 3) (s.fill + 3) s.height s.late → DoesAt types AnyToken (around u []) s m out (Some s') m' out'
    unfolding DoesAt Answers head_bytes high_bytes
    plain_made tall shallow put e table f x p a =
        around_made types table s m out room ready save u [] (u ∷ high_bytes 2 0) 3 (low_header u small) refl (omega arith) (omega arith) refl put x f tall shallow e a

    pub operator_made : (o : ℕ) {mid : List ℕ} → o < 256 → 0 < s.tallest → s.depth + s.height < 32 → mid ≡ over (over out (s.last + 4) (bytes_at out s.last (s.fill - s.last))) s.last (u ∷ high_bytes 2 0)
        → out' ≡ over mid (s.last + 3) (high_bytes 1 o) → s' ≡ opened_at s s.last (s.last + 4) (s.fill + 4) s.height s.late → DoesAt types AnyToken (around u (byte o ∷ [])) s m out (Some s') m' out'
    unfolding DoesAt Answers high_bytes
    operator_made o low tall shallow header put e table f x p a =
        around_made types table s m out room ready save u (byte o ∷ []) ((u ∷ high_bytes 2 0) ++ high_bytes 1 o) 4 (operator_low table u o small) refl (omega arith) (omega arith) refl
        (then_store (over out (s.last + 4) (bytes_at out s.last (s.fill - s.last))) s.last (u ∷ high_bytes 2 0) (s.last + 3) (high_bytes 1 o) header put (omega arith)) x f tall shallow e a

    pub word_made : {mid : List ℕ} → s.word ≡ true → mid ≡ over out s.last (u ∷ high_bytes 2 0) → out' ≡ over mid (s.last + 3) (high_bytes 2 s.name) → s' ≡ opened_at s s.last (s.last + 5) (s.last + 5) 0 s.before
        → DoesAt types AnyToken (instead u) s m out (Some s') m' out'
    unfolding DoesAt Answers
    word_made is header put e table f x p a =
        instead_made types table s m out room ready save u small (then_store out s.last (u ∷ high_bytes 2 0) (s.last + 3) (high_bytes 2 s.name) header put (omega (arith, high_length 2 0))) x f is e a
