-- The names in the fields read of a sound manifest are known: each is below the number of its strings.
use Prim.Native.Nat.{ℕ, zero, suc, ◌+◌, ◌*◌, ◌-◌, ◌<◌, ◌≤◌}
use mathlib.Core.Path.{◌≡◌, refl, ap, ap₂, subst, ◌∙◌}
use mathlib.Core.Bool.{Bool, true, false}
use mathlib.Core.List.{List}
use native.Mathlib.Omega.{arith}
use lib.Dec.{ltb}
use lib.ListN.{length, length-map, take}
use lib.Seq.{slice, get_or-take, get_or-drop}
use borrow.Author.Tests.{ltb-true, ltb-false, lt-ltb}
use Rattle.wire.proofs.Fields.{no_fields, field_first}
use Rattle.values.specs.declared.Reason.TheVariants.{StringOrder}
use Rattle.rules.specs.Bytes.{pick, byte, two, end_of, fields_in}
use Rattle.rules.specs.Format.{size, head_size, form_of, three, name_right, names_right}
use Rattle.rules.specs.Check.{text, walk, inside, stride, next_in_order, places_up, places_in, names_known, string_places, check}
use Rattle.rules.specs.Fields.{Field, read_each, read_body, read_field, read_all, others}
use Rattle.rules.specs.Read.{manifest_of}
use Rattle.rules.specs.EditRule.{IsBytes}
use Rattle.rules.specs.declared.Part.TheVariants.{Over, Many}
use Rattle.rules.specs.declared.Kind.TheVariants.{Item}
use Rattle.rules.specs.declared.Parts.{Parts}
use Rattle.rules.specs.declared.Piece.{Piece}
use Rattle.rules.specs.declared.Piece.TheVariants.{Nothing, Label, Integer, Boolean, Operator, Name}
use Rattle.rules.specs.declared.Rest.{Rest}
use Rattle.rules.specs.declared.Rest.TheVariants.{Only, Text, Fields as Inner}
use Rattle.rules.specs.declared.Form.{Form}
use Rattle.rules.proofs.Lists.{both_left, both_right}
use Rattle.rules.proofs.Within.{fault_not_sound, first_field, SoundBody, inside_sound, check_sound, shape_sound}
use Rattle.notation.proofs.WrittenNames.{HeadKnown, Known, known, AllKnown, none_known, also_known}
use Rattle.notation.proofs.TableStrings.{strings_read}
use Rattle.rules.specs.Verdicts.{fault_at, no_fault}

module _ (m : List ℕ) (n : ℕ) where
  -- ---- Heads cut out

  -- what is cut out has the bytes that stood there
  byte_cut : (f t i : ℕ) → f + i < t → byte (slice f t m) i ≡ byte m (f + i)
  byte_cut f t i h = get_or-drop f (take t m) i 0 ∙ get_or-take t m (f + i) 0 h

  two_cut : (f t i : ℕ) → f + i + 1 < t → two (slice f t m) i ≡ two m (f + i)
  unfolding two
  two_cut f t i h =
      let next : f + (i + 1) ≡ f + i + 1 = omega arith in
      ap₂ (λ (a b : ℕ). a * 256 + b) (byte_cut f t i (omega arith)) (byte_cut f t (i + 1) (omega arith) ∙ ap (byte m) next)

  -- a name that is known stays so in a list that has its bytes
  name_cut : (h : List ℕ) (i q : ℕ) (x : Piece) → (1 < size x → two h i ≡ two m q) → name_right m n q x ≡ true → name_right h n i x ≡ true
  unfolding name_right size
  name_cut h i q Nothing e w = refl
  name_cut h i q Label e w = refl
  name_cut h i q Integer e w = refl
  name_cut h i q Boolean e w = refl
  name_cut h i q Operator e w = refl
  name_cut h i q Name e w = rw (e (omega arith)) w

  -- the names of the field at q are known in its head
  head_known : (q t : ℕ) (l : Form) → q + 3 + head_size l ≤ t → names_right m n q l ≡ true → HeadKnown n l (slice (q + 3) t m)
  unfolding names_right head_size
  head_known q t l fit w =
      let start : q + 3 + 0 ≡ q + 3 = omega arith in
      let h : List ℕ = slice (q + 3) t m in
      let one : Bool = name_right m n (q + 3) l.one in
      let other : Bool = name_right m n (q + 3 + size l.one) l.two in
      record {
        first = name_cut h 0 (q + 3) l.one (λ z. two_cut (q + 3) t 0 (omega arith) ∙ ap (two m) start) (both_left one other w);
        second = name_cut h (size l.one) (q + 3 + size l.one) l.two (λ z. two_cut (q + 3) t (size l.one) (omega arith)) (both_right one other w);
      }

  -- ---- In reading order, up to e

  module _ (e : ℕ) where
    -- the names of the fields from q on are known, of as many as there can be
    record NamesFrom (q : ℕ) : Type 0 where
      count : ℕ
      enough : e - q ≤ count
      sound : names_known m n (places_up count m q e) ≡ no_fault

    -- those of the field at q are, and those from the next one on
    record FirstNames (q : ℕ) : Type 0 where
      here : names_right m n q (form_of (byte m q)) ≡ true
      later : NamesFrom (next_in_order m q)

    -- before the end, what is known from q on is known of the field at q and from the next one on
    first_names : (q : ℕ) → q < e → NamesFrom q → FirstNames q
    unfolding places_up names_known
    first_names q l f = go f.count f.enough f.sound
      where
        test : (j : ℕ) → e - q ≤ suc j → (b : Bool) → names_right m n q (form_of (byte m q)) ≡ b → pick b (names_known m n (places_up j m (next_in_order m q) e)) (fault_at StringOrder q) ≡ no_fault → FirstNames q
        test j a true h w = record { here = h; later = record { count = j; enough = omega arith; sound = w } }
        test j a false h w = fault_not_sound w

        go : (j : ℕ) → e - q ≤ j → names_known m n (places_up j m q e) ≡ no_fault → FirstNames q
        go zero a w = absurd (omega arith)
        go (suc j) a w = test j a (names_right m n q (form_of (byte m q))) refl (rw (lt-ltb q e l) at w)

    -- a sound field at q, read with d levels left, has its names known, and those behind it are
    abbrev KnownAt : ℕ → Type 0
    KnownAt d = (q : ℕ) → q < e → inside m d q ≡ no_fault → end_of m q ≤ e → NamesFrom q → Known n (read_field m d q) × NamesFrom (end_of m q)

    -- at the end there is no field
    no_field_known : (f : ℕ → Field) (q t : ℕ) → q ≤ t → t ≤ q → NamesFrom q → AllKnown n (read_each f (fields_in m q t)) × NamesFrom t
    unfolding read_each
    no_field_known f q t a b names = (rw (no_fields m q t b) none_known, let same : q ≡ t = omega arith in subst NamesFrom same names)

    -- so have the fields from q to t, which are at most k
    fields_known : (k d p : ℕ) (ps : Parts) (q t : ℕ) → KnownAt d → t - q ≤ k → q ≤ t → t ≤ e → walk m (inside m d) p ps t (fields_in m q t) ≡ no_fault → NamesFrom q → AllKnown n (read_each (read_field m d) (fields_in m q t)) × NamesFrom t
    unfolding read_each
    fields_known zero d p ps q t each b l h w names = no_field_known (read_field m d) q t l (omega arith) names
    fields_known (suc k) d p ps q t each b l h w names = go (λ x y b l w i. fields_known k d p x y t each b l h w i) (ltb q t) refl
      where
        go : ((ps : Parts) (q : ℕ) → t - q ≤ k → q ≤ t → walk m (inside m d) p ps t (fields_in m q t) ≡ no_fault → NamesFrom q → AllKnown n (read_each (read_field m d) (fields_in m q t)) × NamesFrom t) → (x : Bool) → ltb q t ≡ x → AllKnown n (read_each (read_field m d) (fields_in m q t)) × NamesFrom t
        go others_known false x = no_field_known (read_field m d) q t l (ltb-false q t x) names
        go others_known true x =
            let before : q < t = ltb-true q t x in
            let f = first_field m (inside m d) p ps q t before w in
            let ends : end_of m q ≤ t = f.right.ends in
            let one = each q (omega arith) f.sound (omega arith) names in
            let more = others_known f.next (end_of m q) (omega arith) ends f.others one.1 in
            (rw (field_first m q t before) (also_known one.0 more.0), more.1)

    -- one field, by what follows its pieces
    body_known : (d q : ℕ) → KnownAt d → SoundBody m (inside m d) q (form_of (byte m q)) → end_of m q ≤ e → FirstNames q → (r : Rest) → (form_of (byte m q)).rest ≡ r → Known n (read_body m (read_field m d) q (head_size (form_of (byte m q))) r) × NamesFrom (end_of m q)
    unfolding read_body stride
    body_known d q each s h f r x = go r x (subst (λ (y : Rest). NamesFrom (q + 3 + stride y (head_size l) (two m (q + 1)))) x f.later)
      where
        l : Form
        l = form_of (byte m q)

        go : (r : Rest) → l.rest ≡ r → NamesFrom (q + 3 + stride r (head_size l) (two m (q + 1))) → Known n (read_body m (read_field m d) q (head_size l) r) × NamesFrom (end_of m q)
        go Only x names = let there = s.pieces in (known (head_known q (end_of m q) l (omega arith) f.here) none_known, names)
        go Text x names = let there = s.pieces in (known (head_known q (end_of m q) l (omega arith) f.here) none_known, names)
        go (Inner ps) x names =
            let from : ℕ = q + 3 + head_size l in
            let there = s.pieces in
            let inner = fields_known (end_of m q) d q ps from (end_of m q) each (omega arith) (omega arith) h (s.fields ps x) names in
            (known (head_known q from l (omega arith) f.here) inner.0, inner.1)

    -- a field of at most d levels
    field_known : (d : ℕ) → KnownAt d
    unfolding read_field inside
    field_known zero q l w h names = fault_not_sound w
    field_known (suc d) q l w h names = body_known d q (λ q l w h names. field_known d q l w h names) (inside_sound m d q w) h (first_names q l names) (form_of (byte m q)).rest refl

-- ---- A sound manifest

module _ (m : List ℕ) (bytes : IsBytes m) (w : check m ≡ no_fault) where
  -- each name in its items is below the number of its strings
  pub items_known : AllKnown (length (manifest_of m).strings) (others (read_all m))
  unfolding read_all read_each others places_in
  items_known =
      let c = check_sound m w in
      let t = shape_sound m c.shaped in
      let ends = t.within.ends in
      let first : 0 < length m = omega arith in
      let n : ℕ = length (string_places m) in
      let names : NamesFrom m n (length m) (end_of m 0) = record { count = length m - end_of m 0; enough = omega arith; sound = c.names } in
      let all = fields_known m n (length m) (length m) 32 0 (three Over (Many Item) Over) (end_of m 0) (length m) (field_known m n (length m) 32) (omega arith) (omega arith) (omega arith) t.others names in
      rw (strings_read m bytes w, length-map (string_places m) (text m), field_first m 0 (length m) first) all.0
