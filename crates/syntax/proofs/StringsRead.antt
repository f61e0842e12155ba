-- The strings of a sound manifest: those of the tree are the texts at their places, there are at most 1,024 of at most 255 bytes, and a table
-- that `index_strings` filled has the place of each.
use Prim.Native.Nat.{ℕ, zero, suc, ◌+◌, ◌*◌, ◌-◌, ◌<◌, ◌≤◌}
use mathlib.Core.Path.{◌≡◌, refl, sym, ap, ◌∙◌}
use mathlib.Core.Bool.{Bool, true, false}
use mathlib.Core.List.{List, [], ◌∷◌, ◌++◌}
use native.Mathlib.Omega.{arith}
use lib.Dec.{eqb, ltb}
use lib.ListN.{length, get_or, take as take_bytes, drop, length-take}
use lib.Seq.{slice, take-nil}
use borrow.Author.Tests.{ltb-true, ltb-false, leb-true, eqb-true, eqb-false, eq-eqb}
use Rattle.wire.specs.Numbers.{high_bytes}
use Rattle.wire.specs.Runs.{over}
use Rattle.wire.proofs.Laws.{over_length, over_join, high_length, run_outside, two_same, stored_two}
use Rattle.wire.proofs.Fields.{no_fields, field_first}
use Rattle.rules.specs.Bytes.{pick, byte, two, end_of, fields_in}
use Rattle.rules.specs.Format.{allowed, take, taken, three, follow, forms, form_in, form_of, size, head_size, rest_right, length_right}
use Rattle.rules.specs.Check.{walk, inside, text, string_places, check}
use Rattle.rules.specs.Fields.{Field, Fields, more, read_each, read_body, read_field, read_all, head_of, tag_of, inner, first}
use Rattle.rules.specs.Read.{strings_from, manifest_from, manifest_of}
use Rattle.rules.specs.Evaluate.{any}
use Rattle.rules.specs.Types.{Types, built_in_types}
use Rattle.rules.specs.Compile.{same_bytes, string_at, string_number, is_built_in, title_text}
use Rattle.rules.specs.declared.Kind.TheVariants.{Table, Text as AText}
use Rattle.rules.specs.declared.Part.TheVariants.{Over, UpTo}
use Rattle.rules.specs.declared.Parts.{Parts}
use Rattle.rules.specs.declared.Rest.{Rest}
use Rattle.rules.specs.declared.Rest.TheVariants.{Only, Text as AnyText, Fields as Inner}
use Rattle.rules.specs.declared.Took.TheVariants.{Takes, Passes}
use Rattle.rules.specs.declared.Next.TheVariants.{Go, Wrong}
use Rattle.rules.proofs.Lists.{Each, none_left, also}
use Rattle.rules.proofs.Within.{wrong_not_go, false_not_true, first_field, inside_sound, level_left, check_sound, shape_sound}
use Rattle.syntax.specs.Strings.{texts_at, string_texts, is_built_in_text, place_bytes, indexed, Indexed}
use Rattle.syntax.proofs.Texts.{string_text}
use Rattle.rules.specs.Verdicts.{no_fault}

-- ---- One string

-- where at most n strings may come, a field is a string, and one fewer may come after it
record StringCame (n t : ℕ) (x : Parts) : Type 0 where
  left : n ≡ 0 → ⊥
  tag : t ≡ 2
  next : x ≡ three (UpTo (n - 1) AText) Over Over

string_came : (n t : ℕ) (x : Parts) → follow (three (UpTo n AText) Over Over) t ≡ Go x → StringCame n t x
unfolding follow take allowed
string_came n t x e = go (eqb n 0) refl (eqb t 2) refl e
  where
    go : (z : Bool) → eqb n 0 ≡ z → (b : Bool) → eqb t 2 ≡ b → taken (pick z Passes (pick b (Takes (UpTo (n - 1) AText)) Passes)) (λ y. Go (three y Over Over)) Wrong ≡ Go x → StringCame n t x
    go true z b hb e = wrong_not_go e
    go false z true hb e = record { left = eqb-false n 0 z; tag = eqb-true t 2 hb; next = cc }
    go false z false hb e = wrong_not_go e

cut : (a n : ℕ) (m : List ℕ) → slice a (a + n) m ≡ take_bytes n (drop a m)
cut zero n m = let z : 0 + n ≡ n = omega arith in ap (λ (k : ℕ). take_bytes k m) z
cut (suc a) n [] = ap (drop (suc a)) (take-nil (suc a + n)) ∙ sym (take-nil n)
cut (suc a) n (x ∷ m) = let s : suc a + n ≡ suc (a + n) = omega arith in ap (λ (k : ℕ). slice (suc a) k (x ∷ m)) s ∙ cut a n m

string_line : {t : ℕ} → t ≡ 2 → (form_of t).rest ≡ AnyText
unfolding form_of form_in forms
string_line e = ap (λ (t : ℕ). (form_of t).rest) e

-- a field is read with its tag
pub tag_at : (m : List ℕ) (d q : ℕ) → 0 < d → tag_of (read_field m d q) ≡ byte m q
unfolding read_field read_body tag_of
tag_at m zero q u = absurd (omega arith)
tag_at m (suc d) q u = go (head_size (form_of (byte m q))) (form_of (byte m q)).rest
  where
    go : (h : ℕ) (r : Rest) → tag_of (read_body m (read_field m d) q h r) ≡ byte m q
    go h Only = refl
    go h AnyText = refl
    go h (Inner ps) = refl

-- a string is read as its text
string_head : (m : List ℕ) (d q : ℕ) → byte m q ≡ 2 → 0 < d → head_of (read_field m d q) ≡ text m q
unfolding read_field read_body head_of text
string_head m zero q is u = absurd (omega arith)
string_head m (suc d) q is u = rw (string_line is) (cut (q + 3) (two m (q + 1)) m)

-- a string has at most 255 bytes
abbrev pub Short : List ℕ → Type 0
Short s = length s ≤ 255

-- also the one with a number, which is empty past the last
pub numbered_short : {ss : List (List ℕ)} → Each Short ss → (n : ℕ) → length (string_at ss n) ≤ 255
unfolding string_at
numbered_short none_left n = omega arith
numbered_short (also h hs) zero = h
numbered_short (also h hs) (suc n) = numbered_short hs n

string_short : (m : List ℕ) (q : ℕ) → byte m q ≡ 2 → length_right (form_of (byte m q)) (two m (q + 1)) ≡ true → Short (text m q)
unfolding length_right rest_right text
string_short m q is right =
    let small : two m (q + 1) ≤ 255 = leb-true _ _ (rw (string_line is) at right) in
    omega (arith, length-take (two m (q + 1)) (drop (q + 3) m))

one_string_lem : (k : Field) (ks : Fields) → tag_of k ≡ 2 → strings_from (more k ks) ≡ head_of k ∷ strings_from ks
unfolding strings_from
one_string_lem k ks e = go (eqb (tag_of k) 2) (eq-eqb _ _ e)
  where
    go : (b : Bool) → b ≡ true → elim b [ true ↦ head_of k ∷ strings_from ks | false ↦ strings_from ks ] ≡ head_of k ∷ strings_from ks
    go true h = refl
    go false h = false_not_true h

-- ---- All strings

-- the strings from q to e, where at most n may come, are read as their texts, and are at most n, each short
record StringsAre (m : List ℕ) (d n q e : ℕ) : Type 0 where
  read : strings_from (read_each (read_field m d) (fields_in m q e)) ≡ texts_at m (fields_in m q e)
  few : length (fields_in m q e) ≤ n
  short : Each Short (texts_at m (fields_in m q e))

module _ (m : List ℕ) (d p e : ℕ) where
  no_strings_left : (n q : ℕ) → e ≤ q → StringsAre m d n q e
  unfolding read_each strings_from texts_at
  no_strings_left n q h = record { read = rw (no_fields m q e h); few = rw (no_fields m q e h) (omega arith); short = rw (no_fields m q e h) none_left }

  one_more_string : (n q : ℕ) → q < e → byte m q ≡ 2 → Short (text m q) → (n ≡ 0 → ⊥) → 0 < d → StringsAre m d (n - 1) (end_of m q) e → StringsAre m d n q e
  unfolding read_each texts_at
  one_more_string n q l is few_bytes z u o = record {
    read = rw (field_first m q e l) (one_string_lem (read_field m d q) (read_each (read_field m d) (fields_in m (end_of m q) e)) (tag_at m d q u ∙ is) ∙ cc (string_head m d q is u, o.read));
    few = let h = o.few in rw (field_first m q e l) (omega arith);
    short = rw (field_first m q e l) (also few_bytes o.short);
  }

  strings_are : (k n q : ℕ) → e - q ≤ k → walk m (inside m d) p (three (UpTo n AText) Over Over) e (fields_in m q e) ≡ no_fault → StringsAre m d n q e
  strings_are zero n q b w = no_strings_left n q (omega arith)
  strings_are (suc k) n q b w = go (λ j r c v. strings_are k j r c v) (ltb q e) refl
    where
      go : ((n q : ℕ) → e - q ≤ k → walk m (inside m d) p (three (UpTo n AText) Over Over) e (fields_in m q e) ≡ no_fault → StringsAre m d n q e) → (t : Bool) → ltb q e ≡ t → StringsAre m d n q e
      go others-are false t = no_strings_left n q (ltb-false q e t)
      go others-are true t =
          let l : q < e = ltb-true q e t in
          let f = first_field m (inside m d) p (three (UpTo n AText) Over Over) q e l w in
          let c = string_came n (byte m q) f.next f.right.tag in
          let o = others-are (n - 1) (end_of m q) (omega arith) (rw c.next at f.others) in
          one_more_string n q l c.tag (string_short m q c.tag f.right.size) c.left (level_left m d q f.sound) o

-- ---- The table

table_line : {t : ℕ} → t ≡ 1 → (form_of t).rest ≡ Inner (three (UpTo 1024 AText) Over Over)
unfolding form_of form_in forms
table_line e = ap (λ (t : ℕ). (form_of t).rest) e

table_pieces : {t : ℕ} → t ≡ 1 → head_size (form_of t) ≡ 0
unfolding form_of form_in forms head_size size
table_pieces e = ap (λ (t : ℕ). head_size (form_of t)) e

table_inner : (m : List ℕ) (d : ℕ) → byte m 0 ≡ 1 → inner (read_field m (suc d) 0) ≡ read_each (read_field m d) (fields_in m 3 (end_of m 0))
unfolding read_field read_body inner
table_inner m d is = rw (table_pieces is, table_line is)

table_tag : (t : ℕ) → allowed Table t ≡ true → t ≡ 1
unfolding allowed
table_tag t e = eqb-true t 1 e

-- ---- A sound manifest

module _ (m : List ℕ) (w : check m ≡ no_fault) where
  -- it begins with the table, which ends within it
  record TableThere : Type 0 where
    tag : byte m 0 ≡ 1
    sound : inside m 32 0 ≡ no_fault
    ends : end_of m 0 ≤ length m

  table_there : TableThere
  table_there = let t = shape_sound m (check_sound m w).shaped in record { tag = table_tag (byte m 0) t.kind; sound = t.within.sound; ends = t.within.ends }

  pub table_ends : end_of m 0 ≤ length m
  table_ends = table_there.ends

  all_strings_are : StringsAre m 31 1024 3 (end_of m 0)
  all_strings_are =
      let t = table_there in
      let ws = (inside_sound m 31 0 t.sound).fields (three (UpTo 1024 AText) Over Over) (table_line t.tag) in
      strings_are m 31 0 (end_of m 0) (end_of m 0) 1024 3 (omega arith) (rw (table_pieces t.tag) at ws)

  -- there are at most 1,024 strings
  pub few_strings_lem : length (string_places m) ≤ 1024
  unfolding string_places
  few_strings_lem = all_strings_are.few

  -- each has at most 255 bytes
  pub short_strings : Each Short (string_texts m)
  unfolding string_texts string_places
  short_strings = all_strings_are.short

  -- the strings of the tree are the texts at their places
  pub strings_read : (manifest_of m).strings ≡ string_texts m
  unfolding manifest_of manifest_from read_all read_each first string_texts string_places
  strings_read =
      let t = table_there in
      let ends = t.ends in
      let l : 0 < length m = omega arith in
      rw (field_first m 0 (length m) l) (ap strings_from (table_inner m 31 t.tag) ∙ all_strings_are.read)

-- ---- The table of their places

module _ (w : List ℕ) (a p : ℕ) (bs : List ℕ) where
  place_then : over w a (high_bytes 2 p ++ bs) ≡ over (over w a (high_bytes 2 p)) (a + 2) bs
  place_then = sym (over_join w a (high_bytes 2 p) bs) ∙ ap (λ (k : ℕ). over (over w a (high_bytes 2 p)) (a + k) bs) (high_length 2 p)

  place_back : a + 2 ≤ length w → p < 65536 → two (over (over w a (high_bytes 2 p)) (a + 2) bs) a ≡ p
  place_back room fits =
      let w' : List ℕ = over w a (high_bytes 2 p) in
      two_same (over w' (a + 2) bs) w' a a (run_outside w' (a + 2) bs a 2 (λ i x y z t. omega arith)) ∙ stored_two w a p room fits

-- each place is read back, if it fits two bytes and there is room
pub places_back : (ps : List ℕ) → ((n : ℕ) → n < length ps → get_or ps n 0 < 65536) → (w : List ℕ) (a : ℕ) → a + 2 * length ps ≤ length w → (n : ℕ) → n < length ps → two (over w a (place_bytes ps)) (a + 2 * n) ≡ get_or ps n 0
unfolding place_bytes
places_back [] fits w a room n h = absurd (omega arith)
places_back (p ∷ ps) fits w a room zero h =
    let here : a + 2 * 0 ≡ a = omega arith in
    rw (place_then w a p (place_bytes ps), here) (place_back w a p (place_bytes ps) (omega arith) (fits zero (omega arith)))
places_back (p ∷ ps) fits w a room (suc n) h =
    let there : a + 2 * suc n ≡ a + 2 + 2 * n = omega arith in
    let same_room = over_length w a (high_bytes 2 p) in
    rw (place_then w a p (place_bytes ps), there) (places_back ps (λ j k. fits (suc j) (omega arith)) (over w a (high_bytes 2 p)) (a + 2) (omega arith) n (omega arith))

-- the fields up to e stand before e
pub places_below : (m : List ℕ) (e k q : ℕ) → e - q ≤ k → (n : ℕ) → n < length (fields_in m q e) → get_or (fields_in m q e) n 0 < e
places_below m e zero q b n h = let none_left_lem = rw (no_fields m q e (omega arith)) at h in absurd (omega arith)
places_below m e (suc k) q b n h = go (λ r c j i. places_below m e k r c j i) n h (ltb q e) refl
  where
    go : ((r : ℕ) → e - r ≤ k → (j : ℕ) → j < length (fields_in m r e) → get_or (fields_in m r e) j 0 < e) → (n : ℕ) → n < length (fields_in m q e) → (t : Bool) → ltb q e ≡ t → get_or (fields_in m q e) n 0 < e
    go later n h false t = let none_left_lem = rw (no_fields m q e (ltb-false q e t)) at h in absurd (omega arith)
    go later zero h true t = let l : q < e = ltb-true q e t in rw (field_first m q e l) l
    go later (suc n) h true t =
        let l : q < e = ltb-true q e t in
        let h' = rw (field_first m q e l) at h in
        rw (field_first m q e l) (later (end_of m q) (omega arith) n (omega arith))

-- a table with room for 1,024 places, after `index_strings`, has the place of each string
module _ (m table : List ℕ) (w : check m ≡ no_fault) (short : length m ≤ 65535) (room : 2048 ≤ length table) where
  string_fits : (n : ℕ) → n < length (string_places m) → get_or (string_places m) n 0 < 65536
  unfolding string_places
  string_fits n h =
      let ends = table_ends m w in
      let below = places_below m (end_of m 0) (end_of m 0) 3 (omega arith) n h in
      omega arith

  place_read : (n : ℕ) → n < length (string_places m) → two (indexed m table) (2 * n) ≡ get_or (string_places m) n 0
  unfolding indexed
  place_read n h =
      let few = few_strings_lem m w in
      let from_start : 0 + 2 * n ≡ 2 * n = omega arith in
      rw from_start at (places_back (string_places m) string_fits table 0 (omega arith) n h)

  pub table_holds : Indexed m (indexed m table) (length (string_places m))
  table_holds = record { count = refl; place = place_read }

-- ---- Names of the tree's strings

-- the string with a number, of the tree, is the text at its place
pub string_read : (m : List ℕ) (n : ℕ) → check m ≡ no_fault → n < length (string_places m) → string_at (manifest_of m).strings n ≡ text m (get_or (string_places m) n 0)
string_read m n w h = ap (λ (ss : List (List ℕ)). string_at ss n) (strings_read m w) ∙ string_text m n h

-- a built-in type by the number of its name
pub built_in_read : (types : Types) (m : List ℕ) (n : ℕ) → check m ≡ no_fault → n < length (string_places m) → is_built_in types (manifest_of m).strings n ≡ is_built_in_text types (text m (get_or (string_places m) n 0))
unfolding is_built_in is_built_in_text
built_in_read types m n w h = ap (λ (x : List ℕ). any (same_bytes x) (built_in_types types)) (string_read m n w h)

-- the number of the string `title`
pub title_read : (m : List ℕ) → check m ≡ no_fault → string_number title_text (manifest_of m).strings 0 ≡ string_number title_text (string_texts m) 0
title_read m w = ap (λ (ss : List (List ℕ)). string_number title_text ss 0) (strings_read m w)
