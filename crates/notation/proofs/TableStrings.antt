-- The strings of a sound manifest: they are the texts at their places, at most 1,024, each of at most 255 bytes, and they rise.
use Prim.Native.Nat.{ℕ, zero, suc, ◌+◌, ◌-◌, ◌<◌, ◌≤◌}
use mathlib.Core.Path.{◌≡◌, refl, sym, ap, ◌∙◌}
use mathlib.Core.Bool.{Bool, true, false}
use mathlib.Core.List.{List, [], ◌∷◌, map}
use native.Mathlib.Omega.{arith}
use lib.Dec.{eqb, ltb, lit<}
use lib.ListN.{length, take as take_bytes, drop, length-take}
use lib.Seq.{slice, take-nil, get_or-drop}
use borrow.Author.Tests.{ltb-true, ltb-false, leb-true, eqb-true, eqb-false}
use Rattle.wire.proofs.Fields.{no_fields, field_first}
use Rattle.rules.specs.Bytes.{pick, byte, two, end_of, fields_in}
use Rattle.rules.specs.Format.{allowed, take, taken, three, follow, forms, form_in, form_of, size, head_size, rest_right, length_right}
use Rattle.rules.specs.Check.{ascends, walk, inside, text, rising_from, rising, string_places, check}
use Rattle.rules.specs.Fields.{Field, Fields, more, read_each, read_body, read_field, read_all, head_of, tag_of, inner, first}
use Rattle.rules.specs.Read.{strings_from, manifest_from, manifest_of}
use Rattle.rules.specs.Compile.{string_at}
use Rattle.rules.specs.EditRule.{IsBytes}
use Rattle.rules.specs.declared.Kind.TheVariants.{Table, Text as AText}
use Rattle.rules.specs.declared.Part.TheVariants.{Over, UpTo}
use Rattle.rules.specs.declared.Parts.{Parts}
use Rattle.rules.specs.declared.Rest.{Rest}
use Rattle.rules.specs.declared.Rest.TheVariants.{Only, Text as AnyText, Fields as Inner}
use Rattle.rules.specs.declared.Took.TheVariants.{Takes, Passes}
use Rattle.rules.specs.declared.Next.TheVariants.{Go, Wrong}
use Rattle.values.specs.declared.Reason.TheVariants.{StringOrder}
use Rattle.rules.proofs.Lists.{Each, none_left, also}
use Rattle.rules.proofs.Within.{wrong_not_go, fault_not_sound, first_field, inside_sound, level_left, check_sound, shape_sound}
use Rattle.notation.proofs.Written.{ShortText}
use Rattle.notation.proofs.WrittenNames.{Rising, no_string, one_string, next_string}
use Rattle.rules.specs.Verdicts.{fault_at, no_fault}

-- ---- Texts

-- bytes taken of bytes are bytes
pub taken_bytes : (n : ℕ) (m : List ℕ) → IsBytes m → IsBytes (take_bytes n m)
taken_bytes n m b = record { below = λ i. go n m b.below i }
  where
    go : (n : ℕ) (m : List ℕ) → ((i : ℕ) → byte m i < 256) → (i : ℕ) → byte (take_bytes n m) i < 256
    go zero m b i = lit< tt
    go (suc n) [] b i = lit< tt
    go (suc n) (x ∷ m) b zero = b 0
    go (suc n) (x ∷ m) b (suc i) = go n m (λ j. b (suc j)) i

-- and so are bytes from a place on
pub later_bytes : (a : ℕ) (m : List ℕ) → IsBytes m → IsBytes (drop a m)
later_bytes a m b = record { below = λ i. rw (get_or-drop a m i 0) (b.below (a + i)) }

-- a body cut out by its ends is the text taken by its length
cut : (a n : ℕ) (m : List ℕ) → slice a (a + n) m ≡ take_bytes n (drop a m)
cut zero n m = let z : 0 + n ≡ n = omega arith in ap (λ (k : ℕ). take_bytes k m) z
cut (suc a) n [] = ap (drop (suc a)) (take-nil (suc a + n)) ∙ sym (take-nil n)
cut (suc a) n (x ∷ m) = let s : suc a + n ≡ suc (a + n) = omega arith in ap (λ (k : ℕ). slice (suc a) k (x ∷ m)) s ∙ cut a n m

-- ---- One string

-- where at most n strings may come, a field is a string, and one fewer may come after it
record StringCame (n t : ℕ) (x : Parts) : Type 0 where
  left : n ≡ 0 → ⊥
  tag : t ≡ 2
  next : x ≡ three (UpTo (n - 1) AText) Over Over

string_came : (n t : ℕ) (x : Parts) → follow (three (UpTo n AText) Over Over) t ≡ Go x → StringCame n t x
unfolding follow take allowed
string_came n t x e = go (eqb n 0) refl (eqb t 2) refl e
  where
    go : (z : Bool) → eqb n 0 ≡ z → (b : Bool) → eqb t 2 ≡ b → taken (pick z Passes (pick b (Takes (UpTo (n - 1) AText)) Passes)) (λ y. Go (three y Over Over)) Wrong ≡ Go x → StringCame n t x
    go true z b hb e = wrong_not_go e
    go false z true hb e = record { left = eqb-false n 0 z; tag = eqb-true t 2 hb; next = cc }
    go false z false hb e = wrong_not_go e

string_line : {t : ℕ} → t ≡ 2 → (form_of t).rest ≡ AnyText
unfolding form_of form_in forms
string_line e = ap (λ (t : ℕ). (form_of t).rest) e

-- a field is read with its tag
tag_at : (m : List ℕ) (d q : ℕ) → 0 < d → tag_of (read_field m d q) ≡ byte m q
unfolding read_field read_body tag_of
tag_at m zero q u = absurd (omega arith)
tag_at m (suc d) q u = go (head_size (form_of (byte m q))) (form_of (byte m q)).rest
  where
    go : (h : ℕ) (r : Rest) → tag_of (read_body m (read_field m d) q h r) ≡ byte m q
    go h Only = refl
    go h AnyText = refl
    go h (Inner ps) = refl

-- a string is read as its text
string_head : (m : List ℕ) (d q : ℕ) → byte m q ≡ 2 → 0 < d → head_of (read_field m d q) ≡ text m q
unfolding read_field read_body head_of text
string_head m zero q is u = absurd (omega arith)
string_head m (suc d) q is u = rw (string_line is) (cut (q + 3) (two m (q + 1)) m)

-- which has at most 255 bytes
text_short_lem : (m : List ℕ) → IsBytes m → (q : ℕ) → byte m q ≡ 2 → length_right (form_of (byte m q)) (two m (q + 1)) ≡ true → ShortText (text m q)
unfolding length_right rest_right text
text_short_lem m b q is right =
    let small : two m (q + 1) ≤ 255 = leb-true _ _ (rw (string_line is) at right) in
    record { bytes = taken_bytes (two m (q + 1)) (drop (q + 3) m) (later_bytes (q + 3) m b); short = omega (arith, length-take (two m (q + 1)) (drop (q + 3) m)) }

one_string_lem : (k : Field) (ks : Fields) → tag_of k ≡ 2 → strings_from (more k ks) ≡ head_of k ∷ strings_from ks
unfolding strings_from
one_string_lem k ks e = rw (e, strings_from)

-- ---- All strings

-- the strings from q to e, where at most n may come, are read as their texts, and are at most n, each short
record StringsAre (m : List ℕ) (d n q e : ℕ) : Type 0 where
  read : strings_from (read_each (read_field m d) (fields_in m q e)) ≡ map (text m) (fields_in m q e)
  few : length (fields_in m q e) ≤ n
  short : Each ShortText (map (text m) (fields_in m q e))

module _ (m : List ℕ) (bytes : IsBytes m) (d p e : ℕ) where
  no_strings_left : (n q : ℕ) → e ≤ q → StringsAre m d n q e
  unfolding read_each strings_from
  no_strings_left n q h = record { read = rw (no_fields m q e h); few = rw (no_fields m q e h) (omega arith); short = rw (no_fields m q e h) none_left }

  one_more_string : (n q : ℕ) → q < e → byte m q ≡ 2 → ShortText (text m q) → (n ≡ 0 → ⊥) → 0 < d → StringsAre m d (n - 1) (end_of m q) e → StringsAre m d n q e
  unfolding read_each
  one_more_string n q l is few_bytes z u o = record {
    read = rw (field_first m q e l) (one_string_lem (read_field m d q) (read_each (read_field m d) (fields_in m (end_of m q) e)) (tag_at m d q u ∙ is) ∙ cc (string_head m d q is u, o.read));
    few = let h = o.few in rw (field_first m q e l) (omega arith);
    short = rw (field_first m q e l) (also few_bytes o.short);
  }

  strings_are : (k n q : ℕ) → e - q ≤ k → walk m (inside m d) p (three (UpTo n AText) Over Over) e (fields_in m q e) ≡ no_fault → StringsAre m d n q e
  strings_are zero n q b w = no_strings_left n q (omega arith)
  strings_are (suc k) n q b w = go (λ j r c v. strings_are k j r c v) (ltb q e) refl
    where
      go : ((n q : ℕ) → e - q ≤ k → walk m (inside m d) p (three (UpTo n AText) Over Over) e (fields_in m q e) ≡ no_fault → StringsAre m d n q e) → (t : Bool) → ltb q e ≡ t → StringsAre m d n q e
      go others-are false t = no_strings_left n q (ltb-false q e t)
      go others-are true t =
          let l : q < e = ltb-true q e t in
          let f = first_field m (inside m d) p (three (UpTo n AText) Over Over) q e l w in
          let c = string_came n (byte m q) f.next f.right.tag in
          let o = others-are (n - 1) (end_of m q) (omega arith) (rw c.next at f.others) in
          one_more_string n q l c.tag (text_short_lem m bytes q c.tag f.right.size) c.left (level_left m d q f.sound) o

-- ---- The table

table_line : {t : ℕ} → t ≡ 1 → (form_of t).rest ≡ Inner (three (UpTo 1024 AText) Over Over)
unfolding form_of form_in forms
table_line e = ap (λ (t : ℕ). (form_of t).rest) e

table_pieces : {t : ℕ} → t ≡ 1 → head_size (form_of t) ≡ 0
unfolding form_of form_in forms head_size size
table_pieces e = ap (λ (t : ℕ). head_size (form_of t)) e

table_inner : (m : List ℕ) (d : ℕ) → byte m 0 ≡ 1 → inner (read_field m (suc d) 0) ≡ read_each (read_field m d) (fields_in m 3 (end_of m 0))
unfolding read_field read_body inner
table_inner m d is = rw (table_pieces is, table_line is)

table_tag : (t : ℕ) → allowed Table t ≡ true → t ≡ 1
unfolding allowed
table_tag t e = eqb-true t 1 e

-- each string against the one before it
risen_from : (m : List ℕ) (a : ℕ) (ps : List ℕ) → rising_from m a ps ≡ no_fault → Rising (text m a ∷ map (text m) ps)
unfolding rising_from
risen_from m a [] w = one_string
risen_from m a (b ∷ ps) w = go (ascends (text m a) (text m b)) refl (λ v. risen_from m b ps v) w
  where
    go : (x : Bool) → ascends (text m a) (text m b) ≡ x → (rising_from m b ps ≡ no_fault → Rising (text m b ∷ map (text m) ps)) → pick x (rising_from m b ps) (fault_at StringOrder b) ≡ no_fault → Rising (text m a ∷ text m b ∷ map (text m) ps)
    go true x later w = next_string x (later w)
    go false x later w = fault_not_sound w

risen : (m : List ℕ) (ps : List ℕ) → rising m ps ≡ no_fault → Rising (map (text m) ps)
unfolding rising
risen m [] w = no_string
risen m (a ∷ ps) w = risen_from m a ps w

mapped_length : {A B : Type 0} (f : A → B) (xs : List A) → length (map f xs) ≡ length xs
mapped_length f [] = refl
mapped_length f (x ∷ xs) = ap suc (mapped_length f xs)

-- the string with a number, which is empty past the last
numbered_short : {ss : List (List ℕ)} → Each ShortText ss → (n : ℕ) → ShortText (string_at ss n)
unfolding string_at
numbered_short none_left n = record { bytes = record { below = λ i. lit< tt }; short = omega arith }
numbered_short (also h hs) zero = h
numbered_short (also h hs) (suc n) = numbered_short hs n

-- ---- A sound manifest

module _ (m : List ℕ) (bytes : IsBytes m) (w : check m ≡ no_fault) where
  -- it begins with the table, which ends within it
  record TableThere : Type 0 where
    tag : byte m 0 ≡ 1
    sound : inside m 32 0 ≡ no_fault
    ends : end_of m 0 ≤ length m

  table_there : TableThere
  table_there = let t = shape_sound m (check_sound m w).shaped in record { tag = table_tag (byte m 0) t.kind; sound = t.within.sound; ends = t.within.ends }

  all_strings_are : StringsAre m 31 1024 3 (end_of m 0)
  all_strings_are =
      let t = table_there in
      let ws = (inside_sound m 31 0 t.sound).fields (three (UpTo 1024 AText) Over Over) (table_line t.tag) in
      strings_are m bytes 31 0 (end_of m 0) (end_of m 0) 1024 3 (omega arith) (rw (table_pieces t.tag) at ws)

  -- the strings of the tree are the texts at their places
  pub strings_read : (manifest_of m).strings ≡ map (text m) (string_places m)
  unfolding manifest_of manifest_from read_all read_each first string_places
  strings_read =
      let t = table_there in
      let ends = t.ends in
      let l : 0 < length m = omega arith in
      rw (field_first m 0 (length m) l) (ap strings_from (table_inner m 31 t.tag) ∙ all_strings_are.read)

  -- there are at most 1,024
  pub strings_few : length (manifest_of m).strings ≤ 1024
  unfolding string_places
  strings_few = let few = all_strings_are.few in rw (strings_read, mapped_length (text m) (string_places m)) few

  -- each is a byte string of at most 255 bytes
  pub each_short : Each ShortText (manifest_of m).strings
  unfolding string_places
  each_short = rw strings_read all_strings_are.short

  pub strings_bytes : (n : ℕ) → IsBytes (string_at (manifest_of m).strings n)
  strings_bytes n = (numbered_short each_short n).bytes

  pub strings_short : (n : ℕ) → length (string_at (manifest_of m).strings n) ≤ 255
  strings_short n = (numbered_short each_short n).short

  -- they rise
  pub strings_rise : Rising (manifest_of m).strings
  strings_rise = rw strings_read (risen m (string_places m) (check_sound m w).strings)
