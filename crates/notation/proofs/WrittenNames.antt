-- The strings and the names of a written tree: where the strings rise, and each name is below their number, the check finds no fault in them.
use Prim.Native.Nat.{ℕ, zero, suc, ◌+◌, ◌-◌, ◌<◌, ◌≤◌}
use mathlib.Core.Path.{◌≡◌, refl, sym, ap, subst, ◌∙◌}
use mathlib.Core.Bool.{Bool, true, false}
use mathlib.Core.List.{List, [], ◌∷◌, ◌++◌, append-nil}
use native.Mathlib.Omega.{arith}
use lib.Dec.{eqb, ltb}
use lib.ListN.{length, length-append}
use borrow.Author.Tests.{le-ltb, eqb-true}
use Rattle.rules.specs.Bytes.{pick, byte, two}
use Rattle.rules.specs.Format.{size, head_size, forms, form_in, form_of, three, allowed, take, taken, follow, name_right, names_right}
use Rattle.rules.specs.Check.{ascends, text, rising_from, rising, stride, next_in_order, places_up, names_known}
use Rattle.rules.specs.Fields.{Field, field, Fields, none, more, write, write_all, head_of, tag_of, inner, first, others}
use Rattle.rules.specs.Read.{strings_from}
use Rattle.rules.specs.declared.Kind.TheVariants.{Text as AText}
use Rattle.rules.specs.declared.Part.TheVariants.{Over, UpTo}
use Rattle.rules.specs.declared.Parts.{Parts}
use Rattle.rules.specs.declared.Piece.{Piece}
use Rattle.rules.specs.declared.Piece.TheVariants.{Nothing, Label, Integer, Boolean, Operator, Name}
use Rattle.rules.specs.declared.Rest.{Rest}
use Rattle.rules.specs.declared.Rest.TheVariants.{Only, Text, Fields as Inner}
use Rattle.rules.specs.declared.Form.{Form}
use Rattle.rules.specs.declared.Took.TheVariants.{Takes, Passes}
use Rattle.rules.specs.declared.Next.{Next}
use Rattle.rules.specs.declared.Next.TheVariants.{Go, Wrong}
use Rattle.rules.proofs.Lists.{both_true}
use Rattle.rules.proofs.Within.{wrong_not_go}
use Rattle.rules.proofs.Listed.{Same, same}
use Rattle.notation.proofs.Stands.{Stands, stands_first, stands_second, stands_taken, body_of, field_at, starts}
use Rattle.notation.proofs.Written.{onward, after, All, no_field, also_field, RightHead, RightInner, RightBody, Right, head_fits, each_inner}
use Rattle.rules.specs.Verdicts.{no_fault}

-- ---- Names

-- the names that a head begins with are below n
pub record HeadKnown (n : ℕ) (l : Form) (h : List ℕ) : Type 0 where
  pub first : name_right h n 0 l.one ≡ true
  pub second : name_right h n (size l.one) l.two ≡ true

-- so are those of a field and of all fields in it
mutual
  pub data Known (n : ℕ) : Field → Type 0 where
    known : {p t : ℕ} {h : List ℕ} {ks : Fields} → HeadKnown n (form_of t) h → AllKnown n ks → Known n (field p t h ks)

  pub data AllKnown (n : ℕ) : Fields → Type 0 where
    none_known : AllKnown n none
    also_known : {k : Field} {ks : Fields} → Known n k → AllKnown n ks → AllKnown n (more k ks)

-- a name that is known stays so in another list that has its bytes
name_moved : (h m : List ℕ) (n i q : ℕ) (x : Piece) → (1 < size x → two m q ≡ two h i) → name_right h n i x ≡ true → name_right m n q x ≡ true
unfolding name_right size
name_moved h m n i q Nothing e w = refl
name_moved h m n i q Label e w = refl
name_moved h m n i q Integer e w = refl
name_moved h m n i q Boolean e w = refl
name_moved h m n i q Operator e w = refl
name_moved h m n i q Name e w = rw (e (omega arith)) w

-- into the fields of a right field, which begin after its head, or past its end
stride_right : (P : Field → Type 0) (l : Form) (h : List ℕ) (ks : Fields) (x : Rest) → RightHead x l h → RightInner P x ks → stride x (head_size l) (length (h ++ write_all ks)) ≡ length h
unfolding stride write_all
stride_right P l h ks Only r same = ap length (append-nil h)
stride_right P l h ks Text r same = ap length (append-nil h)
stride_right P l h ks (Inner ps) r c = sym r.count

module _ (m : List ℕ) (n : ℕ) where
  -- two bytes where they stand
  two_moved : {q : ℕ} (i : ℕ) {h : List ℕ} → Stands m q h → i + 1 < length h → two m (q + i) ≡ two h i
  unfolding two
  two_moved {q} i s l =
      let next : q + i + 1 ≡ q + (i + 1) = omega arith in
      rw (next, s.same i (omega arith), s.same (i + 1) l)

  -- the names of a head are known where it stands
  names_right_lem : (q : ℕ) (l : Form) (h : List ℕ) → HeadKnown n l h → head_size l ≤ length h → Stands m (q + 3) h → names_right m n q l ≡ true
  unfolding names_right head_size
  names_right_lem q l h w fit s =
      let start : q + 3 + 0 ≡ q + 3 = omega arith in
      both_true _ _
      (name_moved h m n 0 (q + 3) l.one (λ z. rw start at (two_moved 0 s (omega arith))) w.first)
      (name_moved h m n (size l.one) (q + 3 + size l.one) l.two (λ z. two_moved (size l.one) s (omega arith)) w.second)

  -- ---- In reading order

  module _ (e : ℕ) where
    -- the names of the fields from q up to e are known, of as many as are counted
    abbrev pub KnownFrom : ℕ → Type 0
    KnownFrom q = (j : ℕ) → names_known m n (places_up j m q e) ≡ no_fault

    -- from e on there is none
    pub none_further : KnownFrom e
    unfolding places_up names_known
    none_further zero = refl
    none_further (suc j) = rw (le-ltb e e (omega arith))

    -- they are known from a field on, if its own are and those from the next one on
    one_further : (q : ℕ) → names_right m n q (form_of (byte m q)) ≡ true → KnownFrom (next_in_order m q) → KnownFrom q
    unfolding places_up names_known
    one_further q here later zero = refl
    one_further q here later (suc j) = go (ltb q e)
      where
        go : (b : Bool) → names_known m n (pick b (q ∷ places_up j m (next_in_order m q) e) []) ≡ no_fault
        go true = rw here (later j)
        go false = refl

    -- those of a right field at q are known, if they are from its end on
    abbrev pub KnownAt : ℕ → Type 0
    KnownAt d = (q : ℕ) (k : Field) → Right d k → Known n k → Stands m q (write k) → KnownFrom (q + length (write k)) → KnownFrom q

    -- so are those of right fields one after the other
    pub fields_known : (d : ℕ) → KnownAt d → {ks : Fields} → All (Right d) ks → AllKnown n ks → (q : ℕ) → Stands m q (write_all ks) → KnownFrom (q + length (write_all ks)) → KnownFrom q
    unfolding write_all
    fields_known d each no_field w q s later = let here : q + 0 ≡ q = omega arith in rw here at later
    fields_known d each (also_field {k = k} {ks = ks} r all) (also_known w ws) q s later =
        let after : q + (length (write k) + length (write_all ks)) ≡ q + length (write k) + length (write_all ks) = omega arith in
        each q k r w (stands_first (write k) (write_all ks) s) (fields_known d each all ws (q + length (write k)) (stands_second (write k) (write_all ks) s) (rw (length-append (write k) (write_all ks), after) at later))

    -- those of a right field
    pub field_known : (d q : ℕ) (k : Field) → Right d k → Known n k → Stands m q (write k) → KnownFrom (q + length (write k)) → KnownFrom q
    unfolding tag_of body_of head_of inner
    field_known zero q k r w s later = absurd r
    field_known (suc d) q (field p t h ks) r (known w ws) s later =
        let f = field_at (field p t h ks) s in
        let sum = length-append h (write_all ks) in
        let here : names_right m n q (form_of t) ≡ true = names_right_lem q (form_of t) h w (head_fits t h (form_of t).rest refl r.head) (stands_first h (write_all ks) f.body) in
        let next : next_in_order m q ≡ q + 3 + length h = rw (f.tag, f.count) (ap (λ (i : ℕ). q + 3 + i) (stride_right (Right d) (form_of t) h ks (form_of t).rest r.head r.fields)) in
        let end : q + length (write (field p t h ks)) ≡ q + 3 + length h + length (write_all ks) = omega (arith, f.ends, f.count) in
        let within = fields_known d (λ q k r w s l. field_known d q k r w s l) (each_inner (Right d) (form_of t).rest r.fields) ws (q + 3 + length h) (stands_second h (write_all ks) f.body) (rw end at later) in
        one_further q (rw f.tag here) (rw next within)

-- ---- Strings

-- each string comes before the next one
pub data Rising : List (List ℕ) → Type 0 where
  no_string : Rising []
  one_string : {s : List ℕ} → Rising (s ∷ [])
  next_string : {s t : List ℕ} {ss : List (List ℕ)} → ascends s t ≡ true → Rising (t ∷ ss) → Rising (s ∷ t ∷ ss)

-- a string: a field 02, with nothing in it but its bytes
pub record StringField (k : Field) : Type 0 where
  pub tag : tag_of k ≡ 2
  pub bare : inner k ≡ none

-- where at most c strings may come, a field that may stand is a string, and after it strings may come
record StringCame (t : ℕ) (x : Parts) : Type 0 where
  tag : t ≡ 2
  left : ℕ
  next : x ≡ three (UpTo left AText) Over Over

string_came : (c t : ℕ) (x : Parts) → follow (three (UpTo c AText) Over Over) t ≡ Go x → StringCame t x
unfolding follow take allowed
string_came c t x e = go (eqb c 0) (eqb t 2) refl e
  where
    go : (z b : Bool) → eqb t 2 ≡ b → taken (pick z Passes (pick b (Takes (UpTo (c - 1) AText)) Passes)) (λ y. Go (three y Over Over)) Wrong ≡ Go x → StringCame t x
    go true b hb e = wrong_not_go e
    go false true hb e = record { tag = eqb-true t 2 hb; left = c - 1; next = cc }
    go false false hb e = wrong_not_go e

-- a field with nothing in it has no fields
nothing_inside : {ks js : Fields} → Same ks js → ks ≡ js
nothing_inside same = refl

-- a right field 02 is a string
string_bare : (d : ℕ) (k : Field) → tag_of k ≡ 2 → Right d k → StringField k
unfolding tag_of inner form_of form_in forms
string_bare zero k e r = absurd r
string_bare (suc d) (field p t h ks) e r = record { tag = e; bare = nothing_inside (subst (λ (u : ℕ). RightBody (Right d) u h ks) e r).fields }

-- right fields that may stand where strings may come are strings
pub all_strings : (d c : ℕ) {ks : Fields} (last : Parts) → All (Right d) ks → after (three (UpTo c AText) Over Over) ks ≡ Go last → All StringField ks
unfolding after
all_strings d c last no_field e = no_field
all_strings d c last (also_field {k = k} {ks = ks} r all) e = go (follow (three (UpTo c AText) Over Over) (tag_of k)) refl (λ j e. all_strings d j last all e) e
  where
    go : (x : Next) → follow (three (UpTo c AText) Over Over) (tag_of k) ≡ x → ((j : ℕ) → after (three (UpTo j AText) Over Over) ks ≡ Go last → All StringField ks) → onward x (λ y. after y ks) ≡ Go last → All StringField (more k ks)
    go (Go y) f others e =
        let came = string_came c (tag_of k) y f in
        also_field (string_bare d k came.tag r) (others came.left (rw came.next at e))
    go Wrong f others e = wrong_not_go e

-- the first string, and then the others
strings_first : {k : Field} (ks : Fields) → StringField k → strings_from (more k ks) ≡ head_of k ∷ strings_from ks
unfolding strings_from
strings_first ks s = rw (s.tag, strings_from)

-- there are as many as places
pub strings_counted : {ks : Fields} → All StringField ks → (q : ℕ) → length (starts q ks) ≡ length (strings_from ks)
unfolding starts strings_from
strings_counted no_field q = refl
strings_counted (also_field {k = k} {ks = ks} s all) q = ap suc (strings_counted all (q + length (write k))) ∙ sym (ap length (strings_first ks s))

-- of strings that rise, the first comes before the second, and the others rise
two_rise : {s t : List ℕ} {ss : List (List ℕ)} → Rising (s ∷ t ∷ ss) → (ascends s t ≡ true) × Rising (t ∷ ss)
two_rise (next_string w r) = (w, r)

module _ (m : List ℕ) where
  -- a string is found where it is written
  text_found_lem : (q : ℕ) (k : Field) → StringField k → Stands m q (write k) → text m q ≡ head_of k
  unfolding text body_of write_all
  text_found_lem q k i s =
      let f = field_at k s in
      let body : body_of k ≡ head_of k = rw i.bare (append-nil (head_of k)) in
      stands_taken (two m (q + 1)) f.count f.body ∙ body

  -- strings that rise from the one at a on
  rising_on : {ks : Fields} → All StringField ks → (a q : ℕ) → Rising (text m a ∷ strings_from ks) → Stands m q (write_all ks) → rising_from m a (starts q ks) ≡ no_fault
  unfolding rising_from starts write_all
  rising_on no_field a q w s = refl
  rising_on (also_field {k = k} {ks = ks} i all) a q w s =
      let found = text_found_lem q k i (stands_first (write k) (write_all ks) s) in
      let x = two_rise (rw (strings_first ks i, ← found) at w) in
      rw x.0 (rising_on all q (q + length (write k)) x.1 (stands_second (write k) (write_all ks) s))

  -- strings that rise pass the check
  pub rising_right : {ks : Fields} → All StringField ks → (q : ℕ) → Rising (strings_from ks) → Stands m q (write_all ks) → rising m (starts q ks) ≡ no_fault
  unfolding rising starts write_all
  rising_right no_field q w s = refl
  rising_right (also_field {k = k} {ks = ks} i all) q w s =
      let found = text_found_lem q k i (stands_first (write k) (write_all ks) s) in
      rising_on all q (q + length (write k)) (rw (strings_first ks i, ← found) at w) (stands_second (write k) (write_all ks) s)
