-- Going over the fields in reading order is going over the tree of fields read.
use Prim.Native.Nat.{ℕ, zero, suc, ◌+◌, ◌*◌, ◌-◌, ◌≤◌, ◌<◌}
use mathlib.Core.Path.{◌≡◌, refl, sym, ap, ap₂, subst, ◌∙◌}
use mathlib.Core.Bool.{Bool, true, false, not, ◌&&◌, ◌||◌}
use mathlib.Core.List.{List}
use native.Mathlib.Omega.{arith}
use lib.Dec.{leb, eqb, ltb}
use lib.ListN.{length, take, drop}
use lib.Seq.{slice, get_or-take, get_or-drop}
use borrow.Author.Tests.{ltb-true, ltb-false, leb-true, eqb-true, eqb-false}
use Rattle.wire.proofs.Fields.{no_fields, field_first}
use Rattle.rules.specs.Bytes.{pick, byte, two, end_of, fields_in}
use Rattle.rules.specs.Format.{three, forms, form_in, form_of, size, head_size, is_constant}
use Rattle.rules.specs.Check.{walk, inside, stride, next_in_order, check}
use Rattle.rules.specs.Fields.{field, Fields, none as fields_end, read_each, read_body, read_field, read_all, others}
use Rattle.rules.specs.Types.{Types}
use Rattle.rules.specs.Compile.{is_built_in}
use Rattle.rules.specs.declared.Part.TheVariants.{Over, Many}
use Rattle.rules.specs.declared.Kind.TheVariants.{Item}
use Rattle.rules.specs.declared.Parts.{Parts}
use Rattle.rules.specs.declared.Rest.{Rest}
use Rattle.rules.specs.declared.Rest.TheVariants.{Only, Text, Fields as Inner}
use Rattle.rules.proofs.Within.{fault_not_sound, first_field, SoundBody, inside_sound, check_sound, shape_sound}
use Rattle.notation.proofs.Lexing.{both_true}
use Rattle.syntax.specs.Strings.{string_texts, found_of}
use Rattle.syntax.proofs.StringsRead.{strings_read}
use Rattle.notation.specs.Printer.{Gone, stops, past, going, stopped_at, label_right, names_spellable, type_right, over, over_all, unprintable_at}
use Rattle.printable.specs.Reading.{prints_at, label_behind, gone_from}
use Rattle.printable.proofs.OneField.{first_byte, spelled_so}
use Rattle.printable.proofs.InOrder.{gone_first, gone_end}
use Rattle.std.specs.Prelude.{Some, None}
use Rattle.rules.specs.Verdicts.{no_fault}

-- ---- Heads that begin alike

-- a constant begins with its label
label_size : (t : ℕ) → is_constant t ≡ true → 1 ≤ head_size (form_of t)
unfolding head_size size form_of form_in forms
label_size t h = let b = both_true (leb 0x10 t) (leb t 0x12) h in go (leb-true 0x10 t b.0) (leb-true t 0x12 b.1) (eqb t 0x10) refl (eqb t 0x11) refl
  where
    so : {n : ℕ} → t ≡ n → 1 ≤ head_size (form_of n) → 1 ≤ head_size (form_of t)
    so e k = subst (λ (x : ℕ). 1 ≤ head_size (form_of x)) (sym e) k

    go : 0x10 ≤ t → t ≤ 0x12 → (a : Bool) → eqb t 0x10 ≡ a → (b : Bool) → eqb t 0x11 ≡ b → 1 ≤ head_size (form_of t)
    go l k true ea b eb = so (eqb-true t 0x10 ea) (omega arith)
    go l k false ea true eb = so (eqb-true t 0x11 eb) (omega arith)
    go l k false ea false eb =
        let x = eqb-false t 0x10 ea in
        let y = eqb-false t 0x11 eb in
        let last : t ≡ 0x12 = above l k x y in
        so last (omega arith)
      where
        above : 0x10 ≤ t → t ≤ 0x12 → (t ≡ 0x10 → ⊥) → (t ≡ 0x11 → ⊥) → t ≡ 0x12
        above l k x y = omega arith

-- a resource begins with its type
type_size : (t n : ℕ) → eqb t n ≡ true → 2 ≤ head_size (form_of n) → 2 ≤ head_size (form_of t)
type_size t n e h = subst (λ (x : ℕ). 2 ≤ head_size (form_of x)) (sym (eqb-true t n e)) h

module _ (types : Types) (ss : List (List ℕ)) (t : ℕ) (g h : List ℕ) (alike : (i : ℕ) → i < head_size (form_of t) → byte g i ≡ byte h i) where
  two_alike : (i : ℕ) → i + 1 < head_size (form_of t) → two g i ≡ two h i
  unfolding two
  two_alike i l = ap₂ (λ (x y : ℕ). x * 256 + y) (alike i (omega arith)) (alike (i + 1) l)

  label_alike : (l : ℕ) → label_right ss l t g ≡ label_right ss l t h
  unfolding label_right
  label_alike l = go (is_constant t) refl
    where
      go : (b : Bool) → is_constant t ≡ b → (not (is_constant t) || leb l (byte g 0)) ≡ (not (is_constant t) || leb l (byte h 0))
      go true e = ap (λ (x : ℕ). not (is_constant t) || leb l x) (alike 0 (label_size t e))
      go false e = ap (λ (b : Bool). not b || leb l (byte g 0)) e ∙ sym (ap (λ (b : Bool). not b || leb l (byte h 0)) e)

  pub behind_alike : (l : ℕ) → pick (is_constant t) (byte g 0) l ≡ pick (is_constant t) (byte h 0) l
  behind_alike l = go (is_constant t) refl
    where
      go : (b : Bool) → is_constant t ≡ b → pick b (byte g 0) l ≡ pick b (byte h 0) l
      go true e = alike 0 (label_size t e)
      go false e = refl

  names_alike : names_spellable ss t g ≡ names_spellable ss t h
  unfolding names_spellable head_size
  names_alike =
      let one = spelled_so ss g h 0 0 (form_of t).one (λ z. two_alike 0 (omega arith)) in
      let other = spelled_so ss g h (size (form_of t).one) (size (form_of t).one) (form_of t).two (λ z. two_alike (size (form_of t).one) (omega arith)) in
      rw (one, other)

  type_alike : type_right types ss t g ≡ type_right types ss t h
  unfolding type_right head_size size form_of form_in forms
  type_alike = go (eqb t 0x25) refl (eqb t 0x27) refl
    where
      go : (a : Bool) → eqb t 0x25 ≡ a → (b : Bool) → eqb t 0x27 ≡ b → pick a (is_built_in types ss (two g 0)) (pick b (not (is_built_in types ss (two g 0))) true) ≡ pick a (is_built_in types ss (two h 0)) (pick b (not (is_built_in types ss (two h 0))) true)
      go true ea b eb = ap (is_built_in types ss) (two_alike 0 (type_size t 0x25 ea (omega arith)))
      go false ea true eb = ap (λ (n : ℕ). not (is_built_in types ss n)) (two_alike 0 (type_size t 0x27 eb (omega arith)))
      go false ea false eb = refl

  -- they pass the same tests
  pub tests_alike : (l : ℕ) → (label_right ss l t g && (names_spellable ss t g && type_right types ss t g)) ≡ (label_right ss l t h && (names_spellable ss t h && type_right types ss t h))
  tests_alike l = rw (label_alike l, names_alike, type_alike)

-- what is cut out begins as what stands there
cut_alike : (m : List ℕ) (f e n : ℕ) → f + n ≤ e → (i : ℕ) → i < n → byte (slice f e m) i ≡ byte (drop f m) i
cut_alike m f e n h i l = get_or-drop f (take e m) i 0 ∙ get_or-take e m (f + i) 0 (omega arith) ∙ sym (get_or-drop f m i 0)

-- ---- Going on

-- going over fields one after the other
then_on : (g : Gone) (f h k : ℕ → Gone) → ((l : ℕ) → f l ≡ going (h l) k) → going g f ≡ going (going g h) k
then_on (stops p) f h k e = refl
then_on (past l) f h k e = e l

to_the_end : (g : Gone) (f : ℕ → Gone) → ((l : ℕ) → f l ≡ past l) → going g f ≡ g
to_the_end (stops p) f e = refl
to_the_end (past l) f e = e l

module _ (types : Types) (m : List ℕ) (ss : List (List ℕ)) where
  -- the field at q, cut out up to e, and then what is in it
  gone_field : (q e l : ℕ) (ks : Fields) (k : ℕ → Gone) → q < length m → q + 3 + head_size (form_of (byte m q)) ≤ e → ((j : ℕ) → gone_from types m ss (next_in_order m q) j ≡ going (over_all types ss ks j) k) → gone_from types m ss q l ≡ going (over types ss (field q (byte m q) (slice (q + 3) e m) ks) l) k
  unfolding over prints_at label_behind
  gone_field q e l ks k h fit inner =
      let t : ℕ = byte m q in
      let there : (i : ℕ) → i < head_size (form_of t) → byte (slice (q + 3) e m) i ≡ byte (drop (q + 3) m) i = cut_alike m (q + 3) e (head_size (form_of t)) fit in
      let tests = tests_alike types ss t (slice (q + 3) e m) (drop (q + 3) m) there l in
      let label = behind_alike types ss t (slice (q + 3) e m) (drop (q + 3) m) there l ∙ ap (λ (b : ℕ). pick (is_constant t) b l) (first_byte m (q + 3)) in
      gone_first types m ss q l h ∙ choose (prints_at types m ss l q) (label_behind m l q) ∙ ap₂ (λ (b : Bool) (j : ℕ). going (pick b (over_all types ss ks j) (stops q)) k) (sym tests) (sym label)
    where
      choose : (b : Bool) (j : ℕ) → pick b (gone_from types m ss (next_in_order m q) j) (stops q) ≡ going (pick b (over_all types ss ks j) (stops q)) k
      choose true j = inner j
      choose false j = refl

  -- a sound field at q, read with d levels left
  abbrev GoneAt : ℕ → Type 0
  GoneAt d = (q l : ℕ) → q < length m → inside m d q ≡ no_fault → end_of m q ≤ length m → gone_from types m ss q l ≡ going (over types ss (read_field m d q) l) (gone_from types m ss (end_of m q))

  -- the fields from q to e
  abbrev FieldsGone : (d q e : ℕ) → Type 0
  FieldsGone d q e = (l : ℕ) → gone_from types m ss q l ≡ going (over_all types ss (read_each (read_field m d) (fields_in m q e)) l) (gone_from types m ss e)

  -- at the end there is none
  none_gone : (d q e : ℕ) → q ≤ e → e ≤ q → FieldsGone d q e
  unfolding read_each over_all
  none_gone d q e a b l =
      let same : q ≡ e = omega arith in
      rw (no_fields m q e b) (ap (λ (p : ℕ). gone_from types m ss p l) same)

  fields_gone : (k d p : ℕ) (ps : Parts) (q e : ℕ) → GoneAt d → e - q ≤ k → q ≤ e → e ≤ length m → walk m (inside m d) p ps e (fields_in m q e) ≡ no_fault → FieldsGone d q e
  unfolding read_each over_all
  fields_gone zero d p ps q e each b l h w = none_gone d q e l (omega arith)
  fields_gone (suc k) d p ps q e each b l h w = go (λ x y b l w. fields_gone k d p x y e each b l h w) (ltb q e) refl
    where
      go : ((ps : Parts) (q : ℕ) → e - q ≤ k → q ≤ e → walk m (inside m d) p ps e (fields_in m q e) ≡ no_fault → FieldsGone d q e) → (x : Bool) → ltb q e ≡ x → FieldsGone d q e
      go later false x = none_gone d q e l (ltb-false q e x)
      go later true x =
          let before : q < e = ltb-true q e x in
          let f = first_field m (inside m d) p ps q e before w in
          let ends : end_of m q ≤ e = f.right.ends in
          let behind = later f.next (end_of m q) (omega arith) ends f.others in
          let rest : Fields = read_each (read_field m d) (fields_in m (end_of m q) e) in
          λ j. each q j (omega arith) f.sound (omega arith) ∙ then_on (over types ss (read_field m d q) j) (gone_from types m ss (end_of m q)) (over_all types ss rest) (gone_from types m ss e) behind ∙ rw (field_first m q e before)

  -- one field, by what follows its pieces
  body_gone : (d q l : ℕ) → GoneAt d → SoundBody m (inside m d) q (form_of (byte m q)) → q < length m → end_of m q ≤ length m → (r : Rest) → (form_of (byte m q)).rest ≡ r → gone_from types m ss q l ≡ going (over types ss (read_body m (read_field m d) q (head_size (form_of (byte m q))) r) l) (gone_from types m ss (end_of m q))
  unfolding read_body stride over_all
  body_gone d q l each s h ends r x = go r (ap (λ (y : Rest). q + 3 + stride y size_here (two m (q + 1))) x) x
    where
      size_here : ℕ
      size_here = head_size (form_of (byte m q))

      go : (r : Rest) → next_in_order m q ≡ q + 3 + stride r size_here (two m (q + 1)) → (form_of (byte m q)).rest ≡ r → gone_from types m ss q l ≡ going (over types ss (read_body m (read_field m d) q size_here r) l) (gone_from types m ss (end_of m q))
      go Only next x = let there = s.pieces in gone_field q (end_of m q) l fields_end (gone_from types m ss (end_of m q)) h (omega arith) (λ j. ap (λ (p : ℕ). gone_from types m ss p j) next)
      go Text next x = let there = s.pieces in gone_field q (end_of m q) l fields_end (gone_from types m ss (end_of m q)) h (omega arith) (λ j. ap (λ (p : ℕ). gone_from types m ss p j) next)
      go (Inner ps) next x =
          let from : ℕ = q + 3 + size_here in
          let there = s.pieces in
          let within = fields_gone (end_of m q) d q ps from (end_of m q) each (omega arith) (omega arith) ends (s.fields ps x) in
          gone_field q from l (read_each (read_field m d) (fields_in m from (end_of m q))) (gone_from types m ss (end_of m q)) h (omega arith) (λ j. ap (λ (p : ℕ). gone_from types m ss p j) next ∙ within j)

  -- a field of at most d levels
  field_gone : (d : ℕ) → GoneAt d
  unfolding read_field inside
  field_gone zero q l h w ends = fault_not_sound w
  field_gone (suc d) q l h w ends = body_gone d q l (λ q l h w ends. field_gone d q l h w ends) (inside_sound m d q w) h ends (form_of (byte m q)).rest refl

-- ---- A sound manifest

module _ (types : Types) (m : List ℕ) (w : check m ≡ no_fault) where
  -- the walk over its items finds the first field that cannot be printed
  pub items_gone : stopped_at (gone_from types m (string_texts m) (end_of m 0) 0) ≡ unprintable_at types m
  unfolding unprintable_at read_all read_each others
  items_gone =
      let t = shape_sound m (check_sound m w).shaped in
      let ends = t.within.ends in
      let first : 0 < length m = omega arith in
      let ss : List (List ℕ) = string_texts m in
      let all = fields_gone types m ss (length m) 32 0 (three Over (Many Item) Over) (end_of m 0) (length m) (field_gone types m ss 32) (omega arith) (omega arith) (omega arith) t.others in
      let items : Gone = over_all types ss (read_each (read_field m 32) (fields_in m (end_of m 0) (length m))) 0 in
      let whole = all 0 ∙ to_the_end items (gone_from types m ss (length m)) (λ l. gone_end types m ss (length m) l (omega arith)) in
      rw (strings_read m w, field_first m 0 (length m) first) (ap stopped_at whole)

  -- a field that stops the walk is the answer
  pub found_at : {p q : ℕ} → q ≡ end_of m 0 → stops p ≡ gone_from types m (string_texts m) q 0 → Some p ≡ found_of (unprintable_at types m)
  unfolding found_of stopped_at
  found_at eq e = ap (λ (g : Gone). found_of (stopped_at g)) e ∙ ap (λ (q : ℕ). found_of (stopped_at (gone_from types m (string_texts m) q 0))) eq ∙ ap found_of items_gone

  -- and where none does there is no answer
  pub found_none : {l q : ℕ} → q ≡ end_of m 0 → past l ≡ gone_from types m (string_texts m) q 0 → None ≡ found_of (unprintable_at types m)
  unfolding found_of stopped_at
  found_none eq e = ap (λ (g : Gone). found_of (stopped_at g)) e ∙ ap (λ (q : ℕ). found_of (stopped_at (gone_from types m (string_texts m) q 0))) eq ∙ ap found_of items_gone
