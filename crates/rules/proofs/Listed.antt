-- The fields read of a sound manifest are as listed, said by structure alone: for each field its head has the bytes of its pieces, and the fields in
-- it are those of its parts, one part after the other. No place and no offset is in it, so whoever goes over the tree needs no bytes.
use Prim.Native.Nat.{ℕ, zero, suc, ◌+◌, ◌-◌, ◌<◌, ◌≤◌}
use mathlib.Core.Path.{◌≡◌, refl, sym, ap, ◌∙◌, subst}
use mathlib.Core.Bool.{Bool, true, false, ◌&&◌}
use mathlib.Core.List.{List}
use native.Mathlib.Omega.{arith}
use lib.Dec.{eqb, ltb}
use lib.ListN.{length, take as take_bytes, length-take, get_or-eq_default}
use lib.Seq.{slice, length-slice, get_or-take, get_or-drop}
use borrow.Author.Tests.{ltb-true, ltb-false, eqb-true, eqb-false}
use Rattle.rules.specs.Bytes.{pick, byte, two, end_of, fields_in}
use Rattle.rules.specs.Format.{allowed, size, head_size, form_of, take, taken, three, follow, part_may_end, may_end, rest_right, length_right, piece_right, bytes_right}
use Rattle.rules.specs.Check.{walk, inside, shape, check}
use Rattle.rules.specs.Fields.{Field, field, Fields, none, more, read_each, read_body, read_field, read_all, tag_of}
use Rattle.rules.specs.EditRule.{IsBytes}
use Rattle.rules.specs.declared.Kind.{Kind}
use Rattle.rules.specs.declared.Kind.TheVariants.{Table, Item, Device}
use Rattle.rules.specs.declared.Part.{Part}
use Rattle.rules.specs.declared.Part.TheVariants.{Over, One, UpTo, Many, Names}
use Rattle.rules.specs.declared.Parts.{Parts}
use Rattle.rules.specs.declared.Piece.{Piece}
use Rattle.rules.specs.declared.Piece.TheVariants.{Nothing, Label, Integer, Boolean, Operator, Name}
use Rattle.rules.specs.declared.Rest.{Rest}
use Rattle.rules.specs.declared.Rest.TheVariants.{Only, Text, Fields as Inner}
use Rattle.rules.specs.declared.Form.{Form}
use Rattle.rules.specs.declared.Took.{Took}
use Rattle.rules.specs.declared.Took.TheVariants.{Takes, Passes, Refuses}
use Rattle.rules.specs.declared.Next.TheVariants.{Go, Wrong}
use Rattle.wire.proofs.Fields.{no_fields, field_first}
use Rattle.rules.proofs.Within.{fault_not_sound, false_not_true, wrong_not_go, first_field, none_missing, SoundBody, inside_sound, check_sound}
use Rattle.rules.specs.Verdicts.{no_fault}

-- ---- What a part takes of the fields: those before the second list. P holds of each

-- nothing
pub data Same : Fields → Fields → Type 0 where
  same : {ks : Fields} → Same ks ks

-- ---- What a part makes of a field is one of three

pub takes_what : {a b : Part} → Takes a ≡ Takes b → a ≡ b
takes_what e = cc

pub not_takes : {A : Type 0} {x : Part} → Passes ≡ Takes x → A
not_takes e = let z : ◌≡◌ {A = ℕ} 0 1 = cc in absurd (omega arith)

pub not_refused : {A : Type 0} {x : Part} → Refuses ≡ Takes x → A
not_refused e = let z : ◌≡◌ {A = ℕ} 0 1 = cc in absurd (omega arith)

pub not_passes : {A : Type 0} {x : Part} → Takes x ≡ Passes → A
not_passes e = let z : ◌≡◌ {A = ℕ} 0 1 = cc in absurd (omega arith)

pub refused_not_passes : {A : Type 0} → Refuses ≡ Passes → A
refused_not_passes e = let z : ◌≡◌ {A = ℕ} 0 1 = cc in absurd (omega arith)

module _ (P : Field → Type 0) where
  -- one field of a kind
  pub data OneOf (k : Kind) : Fields → Fields → Type 0 where
    one : {f : Field} {fs : Fields} → allowed k (tag_of f) ≡ true → P f → OneOf k (more f fs) fs

  -- any number of fields of a kind
  pub data ManyOf (k : Kind) : Fields → Fields → Type 0 where
    none_of_many : {fs : Fields} → ManyOf k fs fs
    one_of_many : {f : Field} {fs rest : Fields} → allowed k (tag_of f) ≡ true → P f → ManyOf k fs rest → ManyOf k (more f fs) rest

  -- at most n fields of a kind
  pub data AtMost (k : Kind) : ℕ → Fields → Fields → Type 0 where
    no_further : {n : ℕ} {fs : Fields} → AtMost k n fs fs
    further : {n : ℕ} {f : Field} {fs rest : Fields} → (n ≡ 0 → ⊥) → allowed k (tag_of f) ≡ true → P f → AtMost k (n - 1) fs rest → AtMost k n (more f fs) rest

  -- one 1B, or one or more 31
  pub data NamesOf : Fields → Fields → Type 0 where
    default_name : {f : Field} {fs : Fields} → eqb (tag_of f) 0x1b ≡ true → P f → NamesOf (more f fs) fs
    device_names : {f : Field} {fs rest : Fields} → eqb (tag_of f) 0x31 ≡ true → P f → ManyOf Device fs rest → NamesOf (more f fs) rest

  abbrev pub PartTakes : Part → Fields → Fields → Type 0
  PartTakes Over ks rest = Same ks rest
  PartTakes (One k) ks rest = OneOf k ks rest
  PartTakes (UpTo n k) ks rest = AtMost k n ks rest
  PartTakes (Many k) ks rest = ManyOf k ks rest
  PartTakes Names ks rest = NamesOf ks rest

  -- the fields ks are those of three parts, one after the other
  pub record PartsAre (ps : Parts) (ks : Fields) : Type 0 where
    pub second : Fields
    pub third : Fields
    pub in_first : PartTakes ps.first ks second
    pub in_second : PartTakes ps.second second third
    pub in_third : PartTakes ps.third third none

  -- ---- The check's way through the parts gives that

  -- where a part takes a field and its remainder takes the next ones, it takes them together
  takes_more : (a x : Part) (f : Field) (fs rest : Fields) → take a (tag_of f) ≡ Takes x → P f → PartTakes x fs rest → PartTakes a (more f fs) rest
  unfolding take
  takes_more Over x f fs rest e h s = not_takes e
  takes_more (One k) x f fs rest e h s = go (allowed k (tag_of f)) refl e
    where
      last : {gs hs : Fields} → Same gs hs → allowed k (tag_of f) ≡ true → OneOf k (more f gs) hs
      last same b = one b h

      go : (b : Bool) → allowed k (tag_of f) ≡ b → pick b (Takes Over) Refuses ≡ Takes x → OneOf k (more f fs) rest
      go true b e = last (subst (λ (y : Part). PartTakes y fs rest) (sym (takes_what e)) s) b
      go false b e = not_refused e
  takes_more (UpTo n k) x f fs rest e h s = go (eqb n 0) refl (allowed k (tag_of f)) refl e
    where
      go : (z : Bool) → eqb n 0 ≡ z → (b : Bool) → allowed k (tag_of f) ≡ b → pick z Passes (pick b (Takes (UpTo (n - 1) k)) Passes) ≡ Takes x → AtMost k n (more f fs) rest
      go true z b hb e = not_takes e
      go false z true hb e = further (eqb-false n 0 z) hb h (subst (λ (y : Part). PartTakes y fs rest) (sym (takes_what e)) s)
      go false z false hb e = not_takes e
  takes_more (Many k) x f fs rest e h s = go (allowed k (tag_of f)) refl e
    where
      go : (b : Bool) → allowed k (tag_of f) ≡ b → pick b (Takes (Many k)) Passes ≡ Takes x → ManyOf k (more f fs) rest
      go true b e = one_of_many b h (subst (λ (y : Part). PartTakes y fs rest) (sym (takes_what e)) s)
      go false b e = not_takes e
  takes_more Names x f fs rest e h s = go (eqb (tag_of f) 0x31) refl (eqb (tag_of f) 0x1b) refl e
    where
      last : {gs hs : Fields} → Same gs hs → eqb (tag_of f) 0x1b ≡ true → NamesOf (more f gs) hs
      last same b = default_name b h

      go : (a : Bool) → eqb (tag_of f) 0x31 ≡ a → (b : Bool) → eqb (tag_of f) 0x1b ≡ b → pick a (Takes (Many Device)) (pick b (Takes Over) Refuses) ≡ Takes x → NamesOf (more f fs) rest
      go true ha b hb e = device_names ha h (subst (λ (y : Part). PartTakes y fs rest) (sym (takes_what e)) s)
      go false ha true hb e = last (subst (λ (y : Part). PartTakes y fs rest) (sym (takes_what e)) s) hb
      go false ha false hb e = not_refused e

  -- a part that leaves a field to the next one has taken nothing
  passes_all : (a : Part) (t : ℕ) (ks : Fields) → take a t ≡ Passes → PartTakes a ks ks
  unfolding take
  passes_all Over t ks e = same
  passes_all (One k) t ks e = go (allowed k t) e
    where
      go : (b : Bool) → pick b (Takes Over) Refuses ≡ Passes → OneOf k ks ks
      go true e = not_passes e
      go false e = refused_not_passes e
  passes_all (UpTo n k) t ks e = no_further
  passes_all (Many k) t ks e = none_of_many
  passes_all Names t ks e = go (eqb t 0x31) (eqb t 0x1b) e
    where
      go : (a b : Bool) → pick a (Takes (Many Device)) (pick b (Takes Over) Refuses) ≡ Passes → NamesOf ks ks
      go true b e = not_passes e
      go false true e = not_passes e
      go false false e = refused_not_passes e

  -- so has a part that may end
  ends_empty : (a : Part) (ks : Fields) → part_may_end a ≡ true → PartTakes a ks ks
  unfolding part_may_end
  ends_empty Over ks e = same
  ends_empty (One k) ks e = false_not_true e
  ends_empty (UpTo n k) ks e = no_further
  ends_empty (Many k) ks e = none_of_many
  ends_empty Names ks e = false_not_true e

  parts_end : (ps : Parts) → may_end ps ≡ true → PartsAre ps none
  unfolding may_end
  parts_end ps e = go (part_may_end ps.first) refl (part_may_end ps.second) refl (part_may_end ps.third) refl e
    where
      go : (a : Bool) → part_may_end ps.first ≡ a → (b : Bool) → part_may_end ps.second ≡ b → (c : Bool) → part_may_end ps.third ≡ c → (a && (b && c)) ≡ true → PartsAre ps none
      go true ha true hb true hc e = record { second = none; third = none; in_first = ends_empty ps.first none ha; in_second = ends_empty ps.second none hb; in_third = ends_empty ps.third none hc }
      go true ha true hb false hc e = false_not_true e
      go true ha false hb c hc e = false_not_true e
      go false ha b hb c hc e = false_not_true e

  goes_where : {a b : Parts} → Go a ≡ Go b → a ≡ b
  goes_where e = cc

  -- one field further on
  parts_more : (ps n : Parts) (f : Field) (fs : Fields) → follow ps (tag_of f) ≡ Go n → P f → PartsAre n fs → PartsAre ps (more f fs)
  unfolding follow
  parts_more ps n f fs e h s = go (take ps.first (tag_of f)) refl (take ps.second (tag_of f)) refl (take ps.third (tag_of f)) refl e
    where
      by_first : (x : Part) → take ps.first (tag_of f) ≡ Takes x → PartsAre (three x ps.second ps.third) fs → PartsAre ps (more f fs)
      by_first x t s = record { second = s.second; third = s.third; in_first = takes_more ps.first x f fs s.second t h s.in_first; in_second = s.in_second; in_third = s.in_third }

      by_second : (y : Part) (q : Fields) → take ps.first (tag_of f) ≡ Passes → take ps.second (tag_of f) ≡ Takes y → {r : Fields} → Same fs r → PartTakes y r q → PartTakes ps.third q none → PartsAre ps (more f fs)
      by_second y q a t same s z = record { second = more f fs; third = q; in_first = passes_all ps.first (tag_of f) (more f fs) a; in_second = takes_more ps.second y f fs q t h s; in_third = z }

      by_third : (z : Part) → take ps.first (tag_of f) ≡ Passes → take ps.second (tag_of f) ≡ Passes → take ps.third (tag_of f) ≡ Takes z → {r q : Fields} → Same fs r → Same r q → PartTakes z q none → PartsAre ps (more f fs)
      by_third z a b t same same s = record { second = more f fs; third = more f fs; in_first = passes_all ps.first (tag_of f) (more f fs) a; in_second = passes_all ps.second (tag_of f) (more f fs) b; in_third = takes_more ps.third z f fs none t h s }

      at_last : (x : Parts) → Go x ≡ Go n → PartsAre x fs
      at_last x e = subst (λ (y : Parts). PartsAre y fs) (sym (goes_where e)) s

      go : (a : Took) → take ps.first (tag_of f) ≡ a → (b : Took) → take ps.second (tag_of f) ≡ b → (c : Took) → take ps.third (tag_of f) ≡ c → taken a (λ x. Go (three x ps.second ps.third)) (taken b (λ y. Go (three Over y ps.third)) (taken c (λ z. Go (three Over Over z)) Wrong)) ≡ Go n → PartsAre ps (more f fs)
      go (Takes x) ha b hb c hc e = by_first x ha (at_last (three x ps.second ps.third) e)
      go Passes ha (Takes y) hb c hc e = let s = at_last (three Over y ps.third) e in by_second y s.third ha hb s.in_first s.in_second s.in_third
      go Passes ha Passes hb (Takes z) hc e = let s = at_last (three Over Over z) e in by_third z ha hb hc s.in_first s.in_second s.in_third
      go Passes ha Passes hb Passes hc e = wrong_not_go e
      go Passes ha Passes hb Refuses hc e = wrong_not_go e
      go Passes ha Refuses hb c hc e = wrong_not_go e
      go Refuses ha b hb c hc e = wrong_not_go e

-- ---- One field

-- the head of a field whose line in the list is l: the bytes of its two pieces
pub record HeadIs (l : Form) (h : List ℕ) : Type 0 where
  pub count : length h ≡ head_size l
  pub bytes : IsBytes h
  pub first : piece_right h 0 l.one ≡ true
  pub second : piece_right h (size l.one) l.two ≡ true

-- of a text nothing is asked, since its head is all of it
abbrev pub HeadFor : Rest → Form → List ℕ → Type 0
HeadFor Only l h = HeadIs l h
HeadFor Text l h = Unit {0}
HeadFor (Inner ps) l h = HeadIs l h

abbrev pub InnerFor : (Field → Type 0) → Rest → Fields → Type 0
InnerFor P Only ks = Same ks none
InnerFor P Text ks = Same ks none
InnerFor P (Inner ps) ks = PartsAre P ps ks

-- head and fields are as the line l says; P holds of each of the fields
pub record AsListed (P : Field → Type 0) (l : Form) (h : List ℕ) (ks : Fields) : Type 0 where
  pub head : HeadFor l.rest l h
  pub fields : InnerFor P l.rest ks

-- a field of at most d levels is as listed, and so are all fields in it
abbrev pub Listed : ℕ → Field → Type 0
Listed zero k = ⊥
Listed (suc d) (field p t h ks) = AsListed (Listed d) (form_of t) h ks

as_listed : (P : Field → Type 0) (l : Form) (h : List ℕ) (ks : Fields) (r : Rest) → l.rest ≡ r → HeadFor r l h → InnerFor P r ks → AsListed P l h ks
as_listed P l h ks r e a b = record { head = subst (λ (x : Rest). HeadFor x l h) (sym e) a; fields = subst (λ (x : Rest). InnerFor P x ks) (sym e) b }

-- ---- Heads from bytes

slice_byte : (m : List ℕ) (f t i : ℕ) → f + i < t → byte (slice f t m) i ≡ byte m (f + i)
slice_byte m f t i h = get_or-drop f (take_bytes t m) i 0 ∙ get_or-take t m (f + i) 0 h

slice_bytes : (m : List ℕ) → IsBytes m → (f t : ℕ) → IsBytes (slice f t m)
slice_bytes m b f t = record { below = λ i. go i (ltb (f + i) t) refl }
  where
    go : (i : ℕ) (x : Bool) → ltb (f + i) t ≡ x → byte (slice f t m) i < 256
    go i true h = rw (slice_byte m f t i (ltb-true (f + i) t h)) (b.below (f + i))
    go i false h =
        let past : t ≤ f + i = ltb-false (f + i) t h in
        let count = length-take t m in
        let zero_there : byte (slice f t m) i ≡ 0 = get_or-drop f (take_bytes t m) i 0 ∙ get_or-eq_default (take_bytes t m) 0 (omega arith) in
        omega arith

-- a piece that is right stays so in another list that has its byte
piece_moved : (m h : List ℕ) (q i : ℕ) (x : Piece) → (0 < size x → byte h i ≡ byte m q) → piece_right m q x ≡ true → piece_right h i x ≡ true
unfolding piece_right size
piece_moved m h q i Nothing e w = refl
piece_moved m h q i Label e w = refl
piece_moved m h q i Integer e w = refl
piece_moved m h q i Boolean e w = rw (e (omega arith)) w
piece_moved m h q i Operator e w = rw (e (omega arith)) w
piece_moved m h q i Name e w = refl

pub both_left : (a b : Bool) → (a && b) ≡ true → a ≡ true
both_left true b e = refl
both_left false b e = e

pub both_right : (a b : Bool) → (a && b) ≡ true → b ≡ true
both_right true b e = e
both_right false b e = false_not_true e

-- the pieces of the field at p, cut out, are its head
head_is : (m : List ℕ) → IsBytes m → (p : ℕ) (l : Form) → bytes_right m p l ≡ true → p + 3 + head_size l ≤ length m → HeadIs l (slice (p + 3) (p + 3 + head_size l) m)
unfolding bytes_right head_size
head_is m b p l w h =
    let t : ℕ = p + 3 + (size l.one + size l.two) in
    let c = length-slice (p + 3) t m h in
    let start : p + 3 + 0 ≡ p + 3 = omega arith in
    let one = both_left (piece_right m (p + 3) l.one) (piece_right m (p + 3 + size l.one) l.two) w in
    let two = both_right (piece_right m (p + 3) l.one) (piece_right m (p + 3 + size l.one) l.two) w in
    record {
      count = omega arith;
      bytes = slice_bytes m b (p + 3) t;
      first = piece_moved m (slice (p + 3) t m) (p + 3) 0 l.one (λ z. slice_byte m (p + 3) t 0 (omega arith) ∙ ap (λ (q : ℕ). byte m q) start) one;
      second = piece_moved m (slice (p + 3) t m) (p + 3 + size l.one) (size l.one) l.two (λ z. slice_byte m (p + 3) t (size l.one) (omega arith)) two;
    }

-- ---- What is read is as listed

module _ (m : List ℕ) (bytes : IsBytes m) where
  -- a sound field whose length is right, read with d levels left, is as listed
  abbrev ListedAt : ℕ → Type 0
  ListedAt d = (p : ℕ) → inside m d p ≡ no_fault → end_of m p ≤ length m → length_right (form_of (byte m p)) (two m (p + 1)) ≡ true → Listed d (read_field m d p)

  tag_read : (d p : ℕ) → inside m d p ≡ no_fault → tag_of (read_field m d p) ≡ byte m p
  unfolding inside read_field read_body tag_of
  tag_read zero p w = fault_not_sound w
  tag_read (suc d) p w = go (head_size (form_of (byte m p))) (form_of (byte m p)).rest
    where
      go : (h : ℕ) (r : Rest) → tag_of (read_body m (read_field m d) p h r) ≡ byte m p
      go h Only = refl
      go h Text = refl
      go h (Inner ps) = refl

  -- at the end no field is read, and no part is missing
  none_read : (d p : ℕ) (ps : Parts) (q e : ℕ) → e ≤ q → walk m (inside m d) p ps e (fields_in m q e) ≡ no_fault → PartsAre (Listed d) ps (read_each (read_field m d) (fields_in m q e))
  unfolding read_each
  none_read d p ps q e l w = rw (no_fields m q e l) (parts_end (Listed d) ps (none_missing m (inside m d) p ps q e l w))

  -- the fields from q to e, of which there are at most k
  parts_read : (k d p : ℕ) (ps : Parts) (q e : ℕ) → ListedAt d → e - q ≤ k → e ≤ length m → walk m (inside m d) p ps e (fields_in m q e) ≡ no_fault → PartsAre (Listed d) ps (read_each (read_field m d) (fields_in m q e))
  unfolding read_each
  parts_read zero d p ps q e each b h w = none_read d p ps q e (omega arith) w
  parts_read (suc k) d p ps q e each b h w = go (λ x y b w. parts_read k d p x y e each b h w) (ltb q e) refl
    where
      go : ((ps : Parts) (q : ℕ) → e - q ≤ k → walk m (inside m d) p ps e (fields_in m q e) ≡ no_fault → PartsAre (Listed d) ps (read_each (read_field m d) (fields_in m q e))) → (t : Bool) → ltb q e ≡ t → PartsAre (Listed d) ps (read_each (read_field m d) (fields_in m q e))
      go others_read false t = none_read d p ps q e (ltb-false q e t) w
      go others_read true t =
          let before : q < e = ltb-true q e t in
          let f = first_field m (inside m d) p ps q e before w in
          let ends : end_of m q ≤ e = f.right.ends in
          let first = each q f.sound (omega arith) f.right.size in
          let tag : follow ps (tag_of (read_field m d q)) ≡ Go f.next = rw (tag_read d q f.sound) f.right.tag in
          rw (field_first m q e before) (parts_more (Listed d) ps f.next (read_field m d q) (read_each (read_field m d) (fields_in m (end_of m q) e)) tag first (others_read f.next (end_of m q) (omega arith) f.others))

  -- where nothing follows the pieces, the length is theirs
  only_length : (r : Rest) (h n : ℕ) → r ≡ Only → rest_right r h n ≡ true → n ≡ h
  unfolding rest_right
  only_length r h n e w = eqb-true n h (subst (λ (x : Rest). rest_right x h n ≡ true) e w)

  -- one field, by what follows its pieces
  body_read : (d p : ℕ) → ListedAt d → SoundBody m (inside m d) p (form_of (byte m p)) → end_of m p ≤ length m → length_right (form_of (byte m p)) (two m (p + 1)) ≡ true → (r : Rest) → (form_of (byte m p)).rest ≡ r → Listed (suc d) (read_body m (read_field m d) p (head_size (form_of (byte m p))) r)
  unfolding read_body length_right
  body_read d p each s h w Only x =
      let l : Form = form_of (byte m p) in
      let n : two m (p + 1) ≡ head_size l = only_length l.rest (head_size l) (two m (p + 1)) x w in
      as_listed (Listed d) l (slice (p + 3) (end_of m p) m) none Only x (rw n (head_is m bytes p l s.bytes (omega arith))) same
  body_read d p each s h w Text x = as_listed (Listed d) (form_of (byte m p)) (slice (p + 3) (end_of m p) m) none Text x tt same
  body_read d p each s h w (Inner ps) x =
      let l : Form = form_of (byte m p) in
      let from : ℕ = p + 3 + head_size l in
      let there = s.pieces in
      as_listed (Listed d) l (slice (p + 3) from m) (read_each (read_field m d) (fields_in m from (end_of m p))) (Inner ps) x (head_is m bytes p l s.bytes (omega arith)) (parts_read (end_of m p) d p ps from (end_of m p) each (omega arith) h (s.fields ps x))

  pub field_listed : (d p : ℕ) → inside m d p ≡ no_fault → end_of m p ≤ length m → length_right (form_of (byte m p)) (two m (p + 1)) ≡ true → Listed d (read_field m d p)
  unfolding read_field inside
  field_listed zero p w h n = fault_not_sound w
  field_listed (suc d) p w h n = body_read d p (λ q w h n. field_listed d q w h n) (inside_sound m d p w) h n (form_of (byte m p)).rest refl

  -- the fields of a sound manifest: one 01, then items, none deeper than 32
  pub shape_listed : shape m ≡ no_fault → PartsAre (Listed 32) (three (One Table) (Many Item) Over) (read_all m)
  unfolding shape read_all
  shape_listed w = parts_read (length m) 32 0 (three (One Table) (Many Item) Over) 0 (length m) (λ p w h n. field_listed 32 p w h n) (omega arith) (omega arith) w

pub all_listed : (m : List ℕ) → IsBytes m → check m ≡ no_fault → PartsAre (Listed 32) (three (One Table) (Many Item) Over) (read_all m)
all_listed m bytes w = shape_listed m bytes (check_sound m w).shaped
