-- A tree of fields that is as listed, written, has the shape that the check asks for, and is a byte string. It is the other direction of
-- rules' Listed: nothing is said of places, so whoever builds the tree needs no bytes.
use Prim.Native.Nat.{ℕ, zero, suc, ◌+◌, ◌<◌, ◌≤◌}
use mathlib.Core.Path.{◌≡◌, refl, sym, ap, subst, ◌∙◌}
use mathlib.Core.Bool.{Bool, true, false, ◌&&◌}
use mathlib.Core.List.{List, [], ◌∷◌, ◌++◌, append-nil}
use native.Mathlib.Omega.{arith}
use lib.Dec.{eqb}
use lib.ListN.{length, length-append}
use borrow.Author.Tests.{le-leb, eq-eqb, eqb-true}
use Rattle.rules.specs.Bytes.{pick, byte, two, end_of}
use Rattle.rules.specs.Format.{size, head_size, forms, form_in, form_of, three, follow, may_end, rest_right, length_right, piece_right, bytes_right}
use Rattle.rules.specs.Check.{header, allowing, walk, rest, body, inside, shape}
use Rattle.rules.specs.Fields.{Field, field, Fields, none, more, wrap, write, write_all, head_of, tag_of, inner}
use Rattle.rules.specs.EditRule.{IsBytes}
use Rattle.rules.specs.declared.Kind.TheVariants.{Table, Item}
use Rattle.rules.specs.declared.Part.TheVariants.{Over, One, Many}
use Rattle.rules.specs.declared.Parts.{Parts}
use Rattle.rules.specs.declared.Piece.{Piece}
use Rattle.rules.specs.declared.Piece.TheVariants.{Nothing, Label, Integer, Boolean, Operator, Name}
use Rattle.rules.specs.declared.Rest.{Rest}
use Rattle.rules.specs.declared.Rest.TheVariants.{Only, Text, Fields as Inner}
use Rattle.rules.specs.declared.Form.{Form}
use Rattle.rules.specs.declared.Next.{Next}
use Rattle.rules.specs.declared.Next.TheVariants.{Go, Wrong}
use Rattle.values.specs.declared.Reason.TheVariants.{Malformed}
use Rattle.rules.proofs.Lists.{both_left, both_right, both_true}
use Rattle.rules.proofs.Within.{wrong_not_go}
use Rattle.rules.proofs.Listed.{Same, same, HeadIs}
use Rattle.notation.proofs.Stands.{Stands, stands_whole, stands_first, stands_second, body_of, FieldAt, field_at, starts, fields_found}
use Rattle.rules.specs.Verdicts.{fault_at, no_fault}

-- ---- Trees as listed

-- what may come after the fields ks, where ps may come
abbrev pub onward : Next → (Parts → Next) → Next
onward (Go ps) f = f ps
onward Wrong f = Wrong

unfoldable pub after : Parts → Fields → Next
after ps none = Go ps
after ps (more k ks) = onward (follow ps (tag_of k)) (λ n. after n ks)

-- P holds of each field
pub data All (P : Field → Type 0) : Fields → Type 0 where
  no_field : All P none
  also_field : {k : Field} {ks : Fields} → P k → All P ks → All P (more k ks)

-- the fields may stand where ps may come, and none is missing; P holds of each
pub record Complete (P : Field → Type 0) (ps : Parts) (ks : Fields) : Type 0 where
  pub last : Parts
  pub reached : after ps ks ≡ Go last
  pub ends : may_end last ≡ true
  pub each : All P ks

-- any bytes, at most 255
pub record ShortText (h : List ℕ) : Type 0 where
  pub bytes : IsBytes h
  pub short : length h ≤ 255

-- a head as the line l says, by what follows it
abbrev pub RightHead : Rest → Form → List ℕ → Type 0
RightHead Only l h = HeadIs l h
RightHead Text l h = ShortText h
RightHead (Inner ps) l h = HeadIs l h

-- the fields after the head: none, or those listed
abbrev pub RightInner : (Field → Type 0) → Rest → Fields → Type 0
RightInner P Only ks = Same ks none
RightInner P Text ks = Same ks none
RightInner P (Inner ps) ks = Complete P ps ks

-- tag, head and fields are as the line of the tag says; P holds of each of the fields
pub record RightBody (P : Field → Type 0) (t : ℕ) (h : List ℕ) (ks : Fields) : Type 0 where
  pub tag : t < 256
  pub head : RightHead (form_of t).rest (form_of t) h
  pub fields : RightInner P (form_of t).rest ks

-- a field of at most d levels is right, and so are all fields in it
abbrev pub Right : ℕ → Field → Type 0
Right zero k = ⊥
Right (suc d) (field p t h ks) = RightBody (Right d) t h ks

-- ---- The pieces of a head

-- a text begins with no piece
abbrev plain : Rest → ℕ → Bool
plain Only n = true
plain Text n = eqb n 0
plain (Inner ps) n = true

-- so it is in a list of lines
all_plain : List (ℕ × Form) → Bool
all_plain [] = true
all_plain (x ∷ xs) = plain x.1.rest (head_size x.1) && all_plain xs

-- a line that is found in such a list is so
plain_in : (xs : List (ℕ × Form)) (t : ℕ) → all_plain xs ≡ true → plain (form_in xs t).rest (head_size (form_in xs t)) ≡ true
unfolding all_plain form_in
plain_in [] t h = refl
plain_in (x ∷ xs) t h = go (eqb t x.0) (plain_in xs t (both_right (plain x.1.rest (head_size x.1)) (all_plain xs) h))
  where
    go : (b : Bool) → plain (form_in xs t).rest (head_size (form_in xs t)) ≡ true → plain (pick b x.1 (form_in xs t)).rest (head_size (pick b x.1 (form_in xs t))) ≡ true
    go true others = both_left (plain x.1.rest (head_size x.1)) (all_plain xs) h
    go false others = others

-- the list of fields is such a list
text_plain : (t : ℕ) → plain (form_of t).rest (head_size (form_of t)) ≡ true
unfolding form_of forms all_plain head_size size
text_plain t = plain_in forms t refl

-- no byte at all is right for every piece
nothing_right : (i : ℕ) (x : Piece) → piece_right [] i x ≡ true
unfolding piece_right
nothing_right i Nothing = refl
nothing_right i Label = refl
nothing_right i Integer = refl
nothing_right i Boolean = refl
nothing_right i Operator = refl
nothing_right i Name = refl

-- so the pieces of a text are none
pub text_head : (t : ℕ) → (form_of t).rest ≡ Text → HeadIs (form_of t) []
text_head t e =
    let l : Form = form_of t in
    let none_there : head_size l ≡ 0 = eqb-true _ _ (subst (λ (x : Rest). plain x (head_size (form_of t)) ≡ true) e (text_plain t)) in
    record { count = sym none_there; bytes = record { below = λ i. omega arith }; first = nothing_right 0 l.one; second = nothing_right (size l.one) l.two }

-- a piece that is right stays so in another list that has its byte
piece_moved : (h m : List ℕ) (i q : ℕ) (x : Piece) → (0 < size x → byte m q ≡ byte h i) → piece_right h i x ≡ true → piece_right m q x ≡ true
unfolding piece_right size
piece_moved h m i q Nothing e w = refl
piece_moved h m i q Label e w = refl
piece_moved h m i q Integer e w = refl
piece_moved h m i q Boolean e w = rw (e (omega arith)) w
piece_moved h m i q Operator e w = rw (e (omega arith)) w
piece_moved h m i q Name e w = refl

-- the pieces of a right head are there
pub head_fits : (t : ℕ) (h : List ℕ) (x : Rest) → (form_of t).rest ≡ x → RightHead x (form_of t) h → head_size (form_of t) ≤ length h
head_fits t h Only e r = let count = r.count in omega arith
head_fits t h Text e r = let count = (text_head t e).count in omega arith
head_fits t h (Inner ps) e r = let count = r.count in omega arith

module _ (m : List ℕ) (q : ℕ) where
  -- pieces that are right stay so where they stand
  pieces_right : (l : Form) {h : List ℕ} → HeadIs l h → Stands m (q + 3) h → bytes_right m q l ≡ true
  unfolding bytes_right head_size
  pieces_right l {h} r s =
      let count = r.count in
      let start : q + 3 ≡ q + 3 + 0 = omega arith in
      both_true _ _
      (piece_moved h m 0 (q + 3) l.one (λ z. ap (byte m) start ∙ s.same 0 (omega arith)) r.first)
      (piece_moved h m (size l.one) (q + 3 + size l.one) l.two (λ z. s.same (size l.one) (omega arith)) r.second)

  -- so do the pieces of a right head
  head_right : (t : ℕ) {h : List ℕ} (x : Rest) → (form_of t).rest ≡ x → RightHead x (form_of t) h → Stands m (q + 3) h → bytes_right m q (form_of t) ≡ true
  head_right t Only e r s = pieces_right (form_of t) r s
  head_right t {h} Text e r s = pieces_right (form_of t) (text_head t e) (stands_first [] h s)
  head_right t (Inner ps) e r s = pieces_right (form_of t) r s

-- ---- One header

-- the length that is written is the one listed
length_listed_lem : (P : Field → Type 0) (l : Form) (h : List ℕ) (ks : Fields) (x : Rest) → RightHead x l h → RightInner P x ks → rest_right x (head_size l) (length (h ++ write_all ks)) ≡ true
unfolding rest_right write_all
length_listed_lem P l h ks Only r same = eq-eqb _ _ (ap length (append-nil h) ∙ r.count)
length_listed_lem P l h ks Text r same = let all = ap length (append-nil h) in let short = r.short in le-leb (length (h ++ [])) 255 (omega arith)
length_listed_lem P l h ks (Inner ps) r c = refl

-- the same of a right field
length_right_lem : (d : ℕ) (k : Field) → Right d k → length_right (form_of (tag_of k)) (length (body_of k)) ≡ true
unfolding length_right tag_of body_of head_of inner
length_right_lem zero k r = absurd r
length_right_lem (suc d) (field p t h ks) r = length_listed_lem (Right d) (form_of t) h ks (form_of t).rest r.head r.fields

module _ (m : List ℕ) where
  -- a right field has a right header, where its tag may stand and it ends within what surrounds it
  header_right : (d : ℕ) (k : Field) (ps : Parts) (q e : ℕ) → Right d k → FieldAt m q k → q + length (write k) ≤ e → header m ps q e ≡ follow ps (tag_of k)
  unfolding header
  header_right d k ps q e r f l =
      let there = le-leb (q + 3) e (omega (arith, f.ends)) in
      let within = le-leb (end_of m q) e (omega (arith, f.ends)) in
      rw (there, within, f.tag, f.count, length_right_lem d k r)

  -- ---- The fields of one body

  -- what is inside a right field of at most d levels is sound where it is written
  abbrev SoundAt : ℕ → Type 0
  SoundAt d = (q : ℕ) (k : Field) → Right d k → Stands m q (write k) → inside m d q ≡ no_fault

  -- so is the walk over right fields, where none is missing
  walk_right : (d p : ℕ) → SoundAt d → {ks : Fields} → All (Right d) ks → (ps last : Parts) (q e : ℕ) → after ps ks ≡ Go last → may_end last ≡ true → Stands m q (write_all ks) → e ≡ q + length (write_all ks) → walk m (inside m d) p ps e (starts q ks) ≡ no_fault
  unfolding walk starts after write_all
  walk_right d p each no_field ps last q e reached ends s h =
      let may : may_end ps ≡ true = cc in
      rw may
  walk_right d p each (also_field {k = k} {ks = ks} r all) ps last q e reached ends s h =
      let n = length-append (write k) (write_all ks) in
      let first = stands_first (write k) (write_all ks) s in
      let second = stands_second (write k) (write_all ks) s in
      rw (header_right d k ps q e r (field_at k first) (omega arith), each q k r first) (go (follow ps (tag_of k)) reached (λ next reached. walk_right d p each all next last (q + length (write k)) e reached ends second (omega arith)))
    where
      go : (x : Next) → onward x (λ next. after next ks) ≡ Go last → ((next : Parts) → after next ks ≡ Go last → walk m (inside m d) p next e (starts (q + length (write k)) ks) ≡ no_fault) → allowing x (λ next. walk m (inside m d) p next e (starts (q + length (write k)) ks)) (fault_at Malformed q) ≡ no_fault
      go (Go next) reached others = others next reached
      go Wrong reached others = wrong_not_go reached

  -- ---- One field with the levels left for it

  -- what follows the pieces of a right field is sound
  rest_right_lem : (d q : ℕ) → SoundAt d → (l : Form) (h : List ℕ) (ks : Fields) (x : Rest) → Stands m (q + 3) (h ++ write_all ks) → end_of m q ≡ q + 3 + length (h ++ write_all ks) → RightHead x l h → RightInner (Right d) x ks → rest m (inside m d) q (q + 3 + head_size l) x ≡ no_fault
  unfolding rest
  rest_right_lem d q each l h ks Only s e r i = refl
  rest_right_lem d q each l h ks Text s e r i = refl
  rest_right_lem d q each l h ks (Inner ps) s e r c =
      let n = length-append h (write_all ks) in
      let count = r.count in
      let at : Stands m (q + 3 + head_size l) (write_all ks) = rw r.count at (stands_second h (write_all ks) s) in
      rw (fields_found ks (q + 3 + head_size l) (end_of m q) at (omega arith)) (walk_right d q each c.each ps c.last (q + 3 + head_size l) (end_of m q) c.reached c.ends at (omega arith))

  -- a right field is sound where it is written
  field_sound : (d q : ℕ) (k : Field) → Right d k → Stands m q (write k) → inside m d q ≡ no_fault
  unfolding inside body tag_of body_of head_of inner
  field_sound zero q k r s = absurd r
  field_sound (suc d) q (field p t h ks) r s =
      let f = field_at (field p t h ks) s in
      let n = length-append h (write_all ks) in
      let pieces = head_right m q t (form_of t).rest refl r.head (stands_first h (write_all ks) f.body) in
      let fit = le-leb (head_size (form_of t)) (length (h ++ write_all ks)) (omega (arith, head_fits t h (form_of t).rest refl r.head)) in
      let after-pieces = rest_right_lem d q (λ q k r s. field_sound d q k r s) (form_of t) h ks (form_of t).rest f.body (ap (λ (i : ℕ). q + 3 + i) f.count) r.head r.fields in
      rw (f.tag, f.count, fit, pieces) after-pieces

-- ---- The whole manifest

-- the fields outside others: one 01, then items
abbrev pub manifest_parts : Parts
manifest_parts = three (One Table) (Many Item) Over

-- a manifest that is written of right fields has the shape that the check asks for
pub shape_right : (ks : Fields) → Complete (Right 32) manifest_parts ks → shape (write_all ks) ≡ no_fault
unfolding shape
shape_right ks c =
    let m : List ℕ = write_all ks in
    let s = stands_whole m in
    rw (fields_found ks 0 (length m) s (omega arith)) (walk_right m 32 0 (λ q k r s. field_sound m 32 q k r s) c.each manifest_parts c.last 0 (length m) c.reached c.ends s (omega arith))

-- ---- Its bytes

-- one byte before others
bytes_after : {x : ℕ} {xs : List ℕ} → x < 256 → IsBytes xs → IsBytes (x ∷ xs)
bytes_after {x} {xs} h b = record { below = go }
  where
    go : (i : ℕ) → byte (x ∷ xs) i < 256
    go zero = h
    go (suc i) = b.below i

-- bytes before others
bytes_joined : (xs ys : List ℕ) → IsBytes xs → IsBytes ys → IsBytes (xs ++ ys)
bytes_joined [] ys a b = b
bytes_joined (x ∷ xs) ys a b = bytes_after (a.below 0) (bytes_joined xs ys (record { below = λ i. a.below (suc i) }) b)

-- a right head is bytes
head_bytes : (l : Form) (h : List ℕ) (x : Rest) → RightHead x l h → IsBytes h
head_bytes l h Only r = r.bytes
head_bytes l h Text r = r.bytes
head_bytes l h (Inner ps) r = r.bytes

-- each of the fields of a right field
pub each_inner : (P : Field → Type 0) {ks : Fields} (x : Rest) → RightInner P x ks → All P ks
each_inner P Only same = no_field
each_inner P Text same = no_field
each_inner P (Inner ps) c = c.each

-- fields one after the other are bytes, if each is
fields_bytes : {P : Field → Type 0} → ((k : Field) → P k → length (write k) < 65536 → IsBytes (write k)) → {ks : Fields} → All P ks → length (write_all ks) < 65536 → IsBytes (write_all ks)
unfolding write_all
fields_bytes each no_field n = record { below = λ i. omega arith }
fields_bytes each (also_field {k = k} {ks = ks} r all) n =
    let sum = length-append (write k) (write_all ks) in
    bytes_joined (write k) (write_all ks) (each k r (omega arith)) (fields_bytes each all (omega arith))

-- a right field is bytes
field_bytes_lem : (d : ℕ) (k : Field) → Right d k → length (write k) < 65536 → IsBytes (write k)
unfolding write wrap
field_bytes_lem zero k r n = absurd r
field_bytes_lem (suc d) (field p t h ks) r n =
    let sum = length-append h (write_all ks) in
    let all = fields_bytes (λ k r n. field_bytes_lem d k r n) (each_inner (Right d) (form_of t).rest r.fields) (omega arith) in
    bytes_after r.tag (bytes_after (omega arith) (bytes_after (omega arith) (bytes_joined h (write_all ks) (head_bytes (form_of t) h (form_of t).rest r.head) all)))

-- a length of two bytes is enough for every field
pub bytes_right_lem : (ks : Fields) → Complete (Right 32) manifest_parts ks → length (write_all ks) < 65536 → IsBytes (write_all ks)
bytes_right_lem ks c n = fields_bytes (λ k r n. field_bytes_lem 32 k r n) c.each n
