-- The ways of the functions that add a field of one token. Assumes nothing.
use mathlib.Core.Path.{◌≡◌, refl, sym, ap, ◌∙◌}
use mathlib.Core.Bool.{true}
use mathlib.Core.List.{List, [], ◌∷◌, ◌++◌, map}
use Prim.Native.Nat.{ℕ, ◌+◌, ◌%◌, ◌/◌, ◌^◌, ◌≤◌, ◌<◌}
use native.Mathlib.Omega.{arith}
use borrow.Author.Tests.{le-leb}
use lib.IntN.{ℤ}
use lib.ListN.{length}
use Rattle.wire.specs.Numbers.{high_bytes, word64}
use Rattle.wire.specs.Runs.{over}
use Rattle.wire.proofs.Laws.{then_store}
use Rattle.rules.specs.Fields.{write}
use Rattle.rules.specs.Types.{Types}
use Rattle.notation.specs.Tokens.{Lexeme, place_of}
use Rattle.notation.specs.Building.{Piece, byte, name, Node, ◌▸◌, leaf, height, frame, build, void, constant, read, act, added, constant_node, variable_node}
use Rattle.notation.specs.Convert.{late_in, late_among, piece_bytes, head_bytes, numbered}
use Rattle.tree_builder.specs.declared.Building.{Building}
use Rattle.tree_builder.specs.Open.{low, late_number}
use Rattle.tree_builder.specs.State.{with_part, late_with}
use Rattle.tree_builder.specs.Shows.{number_in, LastPart, Shown, Shows, Answers, DoesAt, AnyToken, AnInteger, ABoolean, AString, AVariable, AClassVariable}
use Rattle.tree_builder.proofs.Stores.{low_append, low_length, kept_behind}
use Rattle.tree_builder.proofs.Bytes.{low_high, low_leaf}
use Rattle.tree_builder.proofs.Late.{late_plain, late_constant}
use Rattle.tree_builder.proofs.Adding.{no_room, part_shown, part_added}
use Rattle.std.specs.Prelude.{Some, None}

-- ---- Their bytes

module _ (table : List (List ℕ)) where
  pub head_name : (w : List ℕ) (h : List Piece) {n : ℕ} → n ≡ number_in table w → low (head_bytes table (name w ∷ h)) ≡ high_bytes 2 n ++ low (head_bytes table h)
  unfolding head_bytes piece_bytes number_in
  head_name w h e =
      low_append (high_bytes 2 (number_in table w)) (head_bytes table h) ∙ ap (λ (l : List ℕ). l ++ low (head_bytes table h)) (low_high 2 (number_in table w))
      ∙ ap (λ (k : ℕ). high_bytes 2 k ++ low (head_bytes table h)) (sym e)

  head_byte : (b : ℕ) (h : List Piece) → low (head_bytes table (byte b ∷ h)) ≡ b % 256 ∷ low (head_bytes table h)
  unfolding head_bytes piece_bytes low
  head_byte b h = refl

  head_bytes_lem : (bs : List ℕ) → head_bytes table (map byte bs) ≡ bs
  unfolding head_bytes piece_bytes
  head_bytes_lem [] = refl
  head_bytes_lem (b ∷ bs) = ap (λ (l : List ℕ). b ∷ l) (head_bytes_lem bs)

  pub head_none : low (head_bytes table []) ≡ []
  unfolding head_bytes low
  head_none = refl

  leaf_bytes : (p t : ℕ) (h : List Piece) (bs : List ℕ) → t < 256 → low (head_bytes table h) ≡ bs → low (write (numbered table (leaf p t h))) ≡ (t ∷ high_bytes 2 (length bs)) ++ bs
  leaf_bytes p t h bs small e =
      low_leaf table p t h small ∙ ap (λ (k : ℕ). t ∷ high_bytes 2 k ++ low (head_bytes table h)) (sym (low_length (head_bytes table h)) ∙ ap length e)
      ∙ ap (λ (l : List ℕ). t ∷ high_bytes 2 (length bs) ++ l) e

  void_bytes : (p t : ℕ) → t < 256 → low (write (numbered table (leaf p t []))) ≡ t ∷ high_bytes 2 0
  unfolding high_bytes
  void_bytes p t small = leaf_bytes p t [] [] small head_none

  pub name_bytes_lem : (p t n : ℕ) (w : List ℕ) → t < 256 → n ≡ number_in table w → low (write (numbered table (leaf p t (name w ∷ [])))) ≡ (t ∷ high_bytes 2 2) ++ high_bytes 2 n
  unfolding high_bytes
  name_bytes_lem p t n w small e = leaf_bytes p t (name w ∷ []) (high_bytes 2 n) small (head_name w [] e ∙ rw head_none)

  names_bytes : (p t c n : ℕ) (v w : List ℕ) → t < 256 → c ≡ number_in table v → n ≡ number_in table w → low (write (numbered table (leaf p t (name v ∷ name w ∷ [])))) ≡ ((t ∷ high_bytes 2 4) ++ high_bytes 2 c) ++ high_bytes 2 n
  unfolding high_bytes
  names_bytes p t c n v w small d e = leaf_bytes p t (name v ∷ name w ∷ []) (high_bytes 2 c ++ high_bytes 2 n) small (head_name v (name w ∷ []) d ∙ rw (head_name w [] e, head_none))

  string_bytes : (p l n : ℕ) (w : List ℕ) → n ≡ number_in table w → low (write (numbered table (leaf p 0x11 (byte l ∷ name w ∷ [])))) ≡ (0x11 ∷ high_bytes 2 3 ++ (l % 256 ∷ [])) ++ high_bytes 2 n
  unfolding high_bytes
  string_bytes p l n w e = leaf_bytes p 0x11 (byte l ∷ name w ∷ []) (l % 256 ∷ high_bytes 2 n) (omega arith) (head_byte l (name w ∷ []) ∙ rw (head_name w [] e, head_none))

  boolean_bytes : (p l v : ℕ) → low (write (numbered table (leaf p 0x12 (byte l ∷ byte v ∷ [])))) ≡ (0x12 ∷ high_bytes 2 2 ++ (l % 256 ∷ [])) ++ high_bytes 1 v
  unfolding high_bytes
  boolean_bytes p l v =
      let one : v % 256 ≡ v / 256 ^ 0 % 256 = omega arith in
      leaf_bytes p 0x12 (byte l ∷ byte v ∷ []) (l % 256 ∷ high_bytes 1 v) (omega arith) (head_byte l (byte v ∷ []) ∙ rw (head_byte v [], head_none, one))

  integer_bytes : (p l : ℕ) (z : ℤ) → low (write (numbered table (leaf p 0x10 (byte l ∷ map byte (high_bytes 8 (word64 z)))))) ≡ (0x10 ∷ high_bytes 2 9 ++ (l % 256 ∷ [])) ++ high_bytes 8 (word64 z)
  unfolding high_bytes
  integer_bytes p l z =
      leaf_bytes p 0x10 (byte l ∷ map byte (high_bytes 8 (word64 z))) (l % 256 ∷ high_bytes 8 (word64 z)) (omega arith)
      (head_byte l (map byte (high_bytes 8 (word64 z))) ∙ ap (λ (bs : List ℕ). l % 256 ∷ low bs) (head_bytes_lem (high_bytes 8 (word64 z))) ∙ ap (λ (bs : List ℕ). l % 256 ∷ bs) (low_high 8 (word64 z)))

-- a number of eight bytes behind other bytes, as a call stores it
pub signed_stored : (m : List ℕ) (p : ℕ) (a : List ℕ) (q : ℕ) (z : ℤ) {y : ℤ} {m1 m2 : List ℕ} → m1 ≡ over m p a → m2 ≡ over m1 q (high_bytes 8 (word64 y)) → y ≡ z → q ≡ p + length a → m2 ≡ over m p (a ++ high_bytes 8 (word64 z))
signed_stored m p a q z {y} first second e end = then_store m p a q (high_bytes 8 (word64 y)) first second end ∙ ap (λ (x : ℤ). over m p (a ++ high_bytes 8 (word64 x))) e

-- ---- Their ways

-- a string is remembered, with the first late constant before it
abbrev as_word : Building → (name before : ℕ) → Building
as_word r n o = record { brackets = r.brackets; depth = r.depth; fill = r.fill; start = r.start; body = r.body; tallest = r.tallest; last = r.last; height = r.height; late = r.late; word = true; name = n; before = o }

module _ (types : Types) (s : Building) (m out : List ℕ) where
  module _ (P : List (List ℕ) → Lexeme → Type 0) (full : 32 ≤ s.depth) where
    pub void_refused : (t : ℕ) → DoesAt types P (void t) s m out None m out
    unfolding DoesAt Answers act
    void_refused t table f x p a = no_room table s m out (leaf (place_of x) t []) f full a

    pub constant_refused : DoesAt types P constant s m out None m out
    unfolding DoesAt Answers act
    constant_refused table f x p a = no_room table s m out (constant_node x) f full a

    pub read_refused : DoesAt types P read s m out None m out
    unfolding DoesAt Answers act
    read_refused table f x p a = no_room table s m out (variable_node x) f full a

  module _ {out' : List ℕ} {s' : Building} (room : s.depth < 32) where
    pub void_made : (t : ℕ) → t < 256 → out' ≡ over out s.fill (t ∷ high_bytes 2 0) → s' ≡ with_part s 3 s.late → DoesAt types AnyToken (void t) s m out (Some s') m out'
    unfolding DoesAt Answers act height high_bytes
    void_made t small put e table f x p a =
        part_added table s m out (leaf (place_of x) t []) s.late 3 (t ∷ high_bytes 2 0) refl (void_bytes table (place_of x) t small) refl (omega arith) put
        (λ o n. n ∙ ap late_number (sym (late_plain (place_of x) t [] o (omega arith)))) f room e a

    pub variable_made : (t n : ℕ) → t < 256 → out' ≡ over out s.fill ((t ∷ high_bytes 2 2) ++ high_bytes 2 n) → s' ≡ with_part s 5 s.late → DoesAt types (AVariable t n) read s m out (Some s') m out'
    unfolding DoesAt Answers act height high_bytes
    variable_made t n small put e table f x v a =
        rw v.is
        (part_added table s m out (leaf v.place t (name v.spelled ∷ [])) s.late 5 ((t ∷ high_bytes 2 2) ++ high_bytes 2 n) refl (name_bytes_lem table v.place t n v.spelled small v.number) refl (omega arith) put
        (λ o n. n ∙ ap late_number (sym (late_plain v.place t (name v.spelled ∷ []) o (omega arith)))) f room e a)

    pub class_made : (c n : ℕ) → out' ≡ over out s.fill (((0x15 ∷ high_bytes 2 4) ++ high_bytes 2 c) ++ high_bytes 2 n) → s' ≡ with_part s 7 s.late → DoesAt types (AClassVariable c n) read s m out (Some s') m out'
    unfolding DoesAt Answers act height high_bytes
    class_made c n put e table f x v a =
        rw v.is
        (part_added table s m out (leaf v.place 0x15 (name v.scope ∷ name v.spelled ∷ [])) s.late 7 (((0x15 ∷ high_bytes 2 4) ++ high_bytes 2 c) ++ high_bytes 2 n) refl
        (names_bytes table v.place 0x15 c n v.scope v.spelled (omega arith) v.outer v.number) refl (omega arith) put
        (λ o n. n ∙ ap late_number (sym (late_plain v.place 0x15 (name v.scope ∷ name v.spelled ∷ []) o (omega arith)))) f room e a)

    module _ (l p : ℕ) {late : ℕ} (lately : late ≡ late_with s.late l p) where
      pub integer_made : (z : ℤ) → out' ≡ over out s.fill ((0x10 ∷ high_bytes 2 9 ++ (l % 256 ∷ [])) ++ high_bytes 8 (word64 z)) → s' ≡ with_part s 12 late → DoesAt types (AnInteger l p z) constant s m out (Some s') m out'
      unfolding DoesAt Answers act height high_bytes AnInteger constant_node late_in late_among
      integer_made z put e table f x is a =
          rw is
          (part_added table s m out (leaf p 0x10 (byte l ∷ map byte (high_bytes 8 (word64 z)))) late 12 ((0x10 ∷ high_bytes 2 9 ++ (l % 256 ∷ [])) ++ high_bytes 8 (word64 z)) refl (integer_bytes table p l z) refl (omega arith) put
          (λ o n. lately ∙ late_constant o s.late l p n) f room e a)

      pub boolean_made : (v : ℕ) → out' ≡ over out s.fill ((0x12 ∷ high_bytes 2 2 ++ (l % 256 ∷ [])) ++ high_bytes 1 v) → s' ≡ with_part s 5 late → DoesAt types (ABoolean l p v) constant s m out (Some s') m out'
      unfolding DoesAt Answers act height high_bytes ABoolean late_in late_among
      boolean_made v put e table f x is a =
          rw is
          (part_added table s m out (leaf p 0x12 (byte l ∷ byte v ∷ [])) late 5 ((0x12 ∷ high_bytes 2 2 ++ (l % 256 ∷ [])) ++ high_bytes 1 v) refl (boolean_bytes table p l v) refl (omega arith) put
          (λ o n. lately ∙ late_constant o s.late l p n) f room e a)

      pub string_made : (n : ℕ) → out' ≡ over out s.fill ((0x11 ∷ high_bytes 2 3 ++ (l % 256 ∷ [])) ++ high_bytes 2 n) → s' ≡ with_part s 6 late → DoesAt types (AString l p n) constant s m out (Some (as_word s' n s.late)) m out'
      unfolding DoesAt Answers act height high_bytes late_in late_among Shows added LastPart with_part
      string_made n put e table (build b (frame q t h ks) fs) x v a =
          let k : Node = leaf p 0x11 (byte l ∷ name v.spelled ∷ []) in
          let y : Shown table s' m out' b t h (ks ▸ k) fs =
          rw e
          (part_shown table s m out k late 6 ((0x11 ∷ high_bytes 2 3 ++ (l % 256 ∷ [])) ++ high_bytes 2 n) refl (string_bytes table p l n v.spelled v.number) refl (omega arith) put
          (λ o i. lately ∙ late_constant o s.late l p i) room a) in
          rw v.is
          (record {
            made = build b (frame q t h (ks ▸ k)) fs;
            is = rw (le-leb (length fs + 1) 32 (omega (arith, a.depth)));
            grown = rw e (omega arith);
            behind = λ i c d. kept_behind out s.fill ((0x11 ∷ high_bytes 2 3 ++ (l % 256 ∷ [])) ++ high_bytes 2 n) put i (omega (arith, ap (λ (r : Building). r.fill) e));
            shows = record {
              rounds = y.rounds;
              depth = y.depth;
              fill = y.fill;
              start = y.start;
              body = y.body;
              tall = y.tall;
              deep = y.deep;
              last = y.last;
              within = y.within;
              high = y.high;
              late = y.late;
              label = y.label;
              slots = y.slots;
              bytes = y.bytes;
              word = λ w. record { kept = ks; place = p; line = l; spelled = v.spelled; is = refl; number = v.number; before = a.late };
            };
          })
