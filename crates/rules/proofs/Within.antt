-- What a check without a fault says of each field: its header is there and right, it ends within what surrounds it, its pieces are there and right,
-- and the walk over its own fields, one level further down, is Sound too. At level 0 every field is a fault, so none is deeper than `shape` allows, 32.
use Prim.Native.Nat.{ℕ, zero, suc, ◌+◌, ◌-◌, ◌<◌, ◌≤◌}
use mathlib.Core.Path.{◌≡◌, refl}
use mathlib.Core.Logic.{◌⊎◌, inl, inr}
use mathlib.Core.Bool.{Bool, true, false, ◌&&◌}
use mathlib.Core.List.{List, Memᴰ, not-mem-nil}
use native.Mathlib.Omega.{arith}
use native.Mathlib.Numerals.{sub-one}
use lib.Dec.{ltb, leb}
use lib.ListN.{length}
use borrow.Author.Tests.{leb-true, ltb-true, ltb-false}
use Rattle.values.specs.declared.Reason.{Reason}
use Rattle.values.specs.declared.Reason.TheVariants.{Malformed}
use Rattle.rules.specs.Bytes.{pick, byte, two, end_of, fields_in}
use Rattle.rules.specs.Format.{allowed, take, taken, three, follow, form_of, head_size, part_may_end, may_end, length_right, bytes_right}
use Rattle.rules.specs.Check.{header, and_then, allowing, walk, rest, body, inside, shape, rising, string_places, names_known, places_in, check}
use Rattle.rules.specs.declared.Kind.{Kind}
use Rattle.rules.specs.declared.Kind.TheVariants.{Table, Item}
use Rattle.rules.specs.declared.Part.{Part}
use Rattle.rules.specs.declared.Part.TheVariants.{Over, One, Many}
use Rattle.rules.specs.declared.Parts.{Parts}
use Rattle.rules.specs.declared.Rest.{Rest}
use Rattle.rules.specs.declared.Rest.TheVariants.{Fields}
use Rattle.rules.specs.declared.Form.{Form}
use Rattle.rules.specs.declared.Took.TheVariants.{Takes, Refuses}
use Rattle.rules.specs.declared.Next.{Next}
use Rattle.rules.specs.declared.Next.TheVariants.{Go, Wrong}
use Rattle.wire.proofs.Fields.{no_fields, field_first}
use Rattle.std.specs.Prelude.{Ok, Err}
use Rattle.rules.specs.Verdicts.{Verdict, fault_at, no_fault}

-- ---- Answers that differ

pub fault_not_sound : {A : Type 0} {r : Reason} {p : ℕ} → fault_at r p ≡ no_fault → A
fault_not_sound e = let z : ◌≡◌ {A = ℕ} 0 1 = cc in absurd (omega arith)

pub false_not_true : {A : Type 0} → false ≡ true → A
false_not_true e = let z : ◌≡◌ {A = ℕ} 0 1 = cc in absurd (omega arith)

pub wrong_not_go : {A : Type 0} {ps : Parts} → Wrong ≡ Go ps → A
wrong_not_go e = let z : ◌≡◌ {A = ℕ} 0 1 = cc in absurd (omega arith)

-- two checks one after the other are Sound if both are
pub first_sound : (u v : Verdict) → and_then u v ≡ no_fault → u ≡ no_fault
first_sound (Ok tt) v w = refl
first_sound (Err f) v w = w

pub second_sound : (u v : Verdict) → and_then u v ≡ no_fault → v ≡ no_fault
second_sound (Ok tt) v w = w
second_sound (Err f) v w = fault_not_sound w

either : {A B C : Type 0} → (A → C) → (B → C) → A ⊎ B → C
either f g (inl a) = f a
either f g (inr b) = g b

-- ---- One header

-- the header at q is right, where ps may come and what surrounds it ends at e: n is what may come after it
pub record RightHeader (m : List ℕ) (ps : Parts) (q e : ℕ) (n : Parts) : Type 0 where
  pub there : q + 3 ≤ e
  pub ends : end_of m q ≤ e
  pub size : length_right (form_of (byte m q)) (two m (q + 1)) ≡ true
  pub tag : follow ps (byte m q) ≡ Go n

pub header_right : (m : List ℕ) (ps : Parts) (q e : ℕ) (n : Parts) → header m ps q e ≡ Go n → RightHeader m ps q e n
unfolding header
header_right m ps q e n h = go (leb (q + 3) e) refl (leb (end_of m q) e) refl (length_right (form_of (byte m q)) (two m (q + 1))) refl h
  where
    go : (x : Bool) → leb (q + 3) e ≡ x → (y : Bool) → leb (end_of m q) e ≡ y → (z : Bool) → length_right (form_of (byte m q)) (two m (q + 1)) ≡ z → pick (x && (y && z)) (follow ps (byte m q)) Wrong ≡ Go n → RightHeader m ps q e n
    go true hx true hy true hz w = record { there = leb-true _ _ hx; ends = leb-true _ _ hy; size = hz; tag = w }
    go true hx true hy false hz w = wrong_not_go w
    go true hx false hy z hz w = wrong_not_go w
    go false hx y hy z hz w = wrong_not_go w

-- ---- The fields of one body

-- the walk is Sound and not at its end: the field at q is right, what is inside it is Sound, and so is the walk from its end on
pub record FirstField (m : List ℕ) (inner : ℕ → Verdict) (p : ℕ) (ps : Parts) (q e : ℕ) : Type 0 where
  pub next : Parts
  pub right : RightHeader m ps q e next
  pub sound : inner q ≡ no_fault
  pub others : walk m inner p next e (fields_in m (end_of m q) e) ≡ no_fault

pub first_field : (m : List ℕ) (inner : ℕ → Verdict) (p : ℕ) (ps : Parts) (q e : ℕ) → q < e → walk m inner p ps e (fields_in m q e) ≡ no_fault → FirstField m inner p ps q e
unfolding walk
first_field m inner p ps q e l w = go (header m ps q e) refl (inner q) refl (rw (field_first m q e l) at w)
  where
    go : (n : Next) → header m ps q e ≡ n → (v : Verdict) → inner q ≡ v → allowing n (λ x. and_then v (walk m inner p x e (fields_in m (end_of m q) e))) (fault_at Malformed q) ≡ no_fault → FirstField m inner p ps q e
    go (Go x) hn (Ok tt) hv w = record { next = x; right = header_right m ps q e x hn; sound = hv; others = w }
    go (Go x) hn (Err f) hv w = fault_not_sound w
    go Wrong hn v hv w = fault_not_sound w

-- the walk is Sound and at its end: no part is missing
pub none_missing : (m : List ℕ) (inner : ℕ → Verdict) (p : ℕ) (ps : Parts) (q e : ℕ) → e ≤ q → walk m inner p ps e (fields_in m q e) ≡ no_fault → may_end ps ≡ true
unfolding walk
none_missing m inner p ps q e l w = go (may_end ps) refl (rw (no_fields m q e l) at w)
  where
    go : (b : Bool) → may_end ps ≡ b → pick b no_fault (fault_at Malformed p) ≡ no_fault → may_end ps ≡ true
    go true hb w = hb
    go false hb w = fault_not_sound w

-- the field at r is one of those from q to e: it stands between them, and what is inside it is Sound
pub record Within (m : List ℕ) (inner : ℕ → Verdict) (q e r : ℕ) : Type 0 where
  pub starts : q ≤ r
  pub there : r + 3 ≤ e
  pub ends : end_of m r ≤ e
  pub sound : inner r ≡ no_fault

-- a field that starts later among them
later : {m : List ℕ} {inner : ℕ → Verdict} {q s e r : ℕ} → q ≤ s → Within m inner s e r → Within m inner q e r
later l i = record { starts = omega arith; there = i.there; ends = i.ends; sound = i.sound }

-- each field of a Sound walk is so
pub each_within : (m : List ℕ) (inner : ℕ → Verdict) (p : ℕ) (ps : Parts) (q e : ℕ) → walk m inner p ps e (fields_in m q e) ≡ no_fault → (r : ℕ) → Memᴰ r (fields_in m q e) → Within m inner q e r
each_within m inner p ps q e w r i = up_to (e - q) ps q (omega arith) w i
  where
    at_end_lem : (q : ℕ) → e ≤ q → Memᴰ r (fields_in m q e) → Within m inner q e r
    at_end_lem q l i = absurd (not-mem-nil (∣ rw (no_fields m q e l) at i ∣₁))

    up_to : (k : ℕ) (ps : Parts) (q : ℕ) → e - q ≤ k → walk m inner p ps e (fields_in m q e) ≡ no_fault → Memᴰ r (fields_in m q e) → Within m inner q e r
    up_to zero ps q b w i = at_end_lem q (omega arith) i
    up_to (suc k) ps q b w i = go (λ x y b w i. up_to k x y b w i) (ltb q e) refl
      where
        go : ((ps : Parts) (q : ℕ) → e - q ≤ k → walk m inner p ps e (fields_in m q e) ≡ no_fault → Memᴰ r (fields_in m q e) → Within m inner q e r) → (t : Bool) → ltb q e ≡ t → Within m inner q e r
        go among_others false t = at_end_lem q (ltb-false q e t) i
        go among_others true t =
            let l : q < e = ltb-true q e t in
            let f = first_field m inner p ps q e l w in
            let here : r ≡ q → Within m inner q e r = λ h. rw h (record { starts = omega arith; there = f.right.there; ends = f.right.ends; sound = f.sound }) in
            let after : Memᴰ r (fields_in m (end_of m q) e) → Within m inner q e r = λ j. later (omega arith) (among_others f.next (end_of m q) (omega arith) f.others j) in
            either here after (mathlib.Core.List.Memᴰ.cases_cons (rw (field_first m q e l) at i))

-- ---- One body

-- the body of the field at p, whose line in the list is l, is Sound: its pieces are there and right, and the walk over its fields is Sound
pub record SoundBody (m : List ℕ) (inner : ℕ → Verdict) (p : ℕ) (l : Form) : Type 0 where
  pub pieces : head_size l ≤ two m (p + 1)
  pub bytes : bytes_right m p l ≡ true
  pub fields : (ps : Parts) → l.rest ≡ Fields ps → walk m inner p ps (end_of m p) (fields_in m (p + 3 + head_size l) (end_of m p)) ≡ no_fault

pub body_sound : (m : List ℕ) (inner : ℕ → Verdict) (p : ℕ) (l : Form) → body m inner p l ≡ no_fault → SoundBody m inner p l
unfolding body rest
body_sound m inner p l w = go (leb (head_size l) (two m (p + 1))) refl (bytes_right m p l) refl w
  where
    walked : (ps : Parts) {r : Rest} → r ≡ Fields ps → rest m inner p (p + 3 + head_size l) r ≡ no_fault → walk m inner p ps (end_of m p) (fields_in m (p + 3 + head_size l) (end_of m p)) ≡ no_fault
    walked ps f w = rw f at w

    go : (a : Bool) → leb (head_size l) (two m (p + 1)) ≡ a → (b : Bool) → bytes_right m p l ≡ b → pick (a && b) (rest m inner p (p + 3 + head_size l) l.rest) (fault_at Malformed p) ≡ no_fault → SoundBody m inner p l
    go true ha true hb w = record { pieces = leb-true _ _ ha; bytes = hb; fields = λ ps f. walked ps f w }
    go true ha false hb w = fault_not_sound w
    go false ha b hb w = fault_not_sound w

-- ---- One field with the levels left for it

-- what is inside the field at p, with d levels left, is Sound: there is a level for it, and its body is Sound with one level less
pub level_left : (m : List ℕ) (d p : ℕ) → inside m d p ≡ no_fault → 0 < d
unfolding inside
level_left m zero p w = fault_not_sound w
level_left m (suc d) p w = omega arith

pub inside_sound : (m : List ℕ) (d p : ℕ) → inside m (suc d) p ≡ no_fault → SoundBody m (inside m d) p (form_of (byte m p))
unfolding inside
inside_sound m d p w = body_sound m (inside m d) p (form_of (byte m p)) w

-- the same where the level is not known to be a successor
pub inside_sound' : (m : List ℕ) (d p : ℕ) → inside m d p ≡ no_fault → SoundBody m (inside m (d - 1)) p (form_of (byte m p))
unfolding inside
inside_sound' m zero p w = fault_not_sound w
inside_sound' m (suc d) p w = rw sub-one (inside_sound m d p w)

-- ---- Which part a field is

-- where one field of a kind must come, a field with the tag t is of that kind, and the parts after it may come next
pub record OneCame (k : Kind) (t : ℕ) (b c : Part) (n : Parts) : Type 0 where
  pub kind : allowed k t ≡ true
  pub left : n ≡ three Over b c

pub one_came : (k : Kind) (t : ℕ) (b c : Part) (n : Parts) → follow (three (One k) b c) t ≡ Go n → OneCame k t b c n
unfolding follow take
one_came k t b c n e = go (allowed k t) refl e
  where
    go : (x : Bool) → allowed k t ≡ x → taken (pick x (Takes Over) Refuses) (λ y. Go (three y b c)) (taken (take b t) (λ y. Go (three Over y c)) (taken (take c t) (λ y. Go (three Over Over y)) Wrong)) ≡ Go n → OneCame k t b c n
    go true h e = record { kind = h; left = cc }
    go false h e = wrong_not_go e

-- where one field of a kind must come and the walk is Sound, it is there: at q, of that kind, within e, and the walk after it is Sound
pub record OneThere (m : List ℕ) (inner : ℕ → Verdict) (p : ℕ) (k : Kind) (b c : Part) (q e : ℕ) : Type 0 where
  pub kind : allowed k (byte m q) ≡ true
  pub within : Within m inner q e q
  pub others : walk m inner p (three Over b c) e (fields_in m (end_of m q) e) ≡ no_fault

pub one_there : (m : List ℕ) (inner : ℕ → Verdict) (p : ℕ) (k : Kind) (b c : Part) (q e : ℕ) → walk m inner p (three (One k) b c) e (fields_in m q e) ≡ no_fault → OneThere m inner p k b c q e
unfolding may_end part_may_end
one_there m inner p k b c q e w = go (ltb q e) refl
  where
    go : (x : Bool) → ltb q e ≡ x → OneThere m inner p k b c q e
    go false h = let z : false ≡ true = none_missing m inner p (three (One k) b c) q e (ltb-false q e h) w in false_not_true z
    go true h =
        let f = first_field m inner p (three (One k) b c) q e (ltb-true q e h) w in
        let c = one_came k (byte m q) b c f.next f.right.tag in
        record { kind = c.kind; within = record { starts = omega arith; there = f.right.there; ends = f.right.ends; sound = f.sound }; others = rw c.left at f.others }

-- ---- A whole manifest

-- the check of a manifest is Sound: so are its three parts
pub record SoundManifest (m : List ℕ) : Type 0 where
  pub shaped : shape m ≡ no_fault
  pub strings : rising m (string_places m) ≡ no_fault
  pub names : names_known m (length (string_places m)) (places_in m (end_of m 0) (length m)) ≡ no_fault

pub check_sound : (m : List ℕ) → check m ≡ no_fault → SoundManifest m
unfolding check
check_sound m w =
    let s = rising m (string_places m) in
    let n = names_known m (length (string_places m)) (places_in m (end_of m 0) (length m)) in
    let t = second_sound (shape m) (and_then s n) w in
    record { shaped = first_sound (shape m) (and_then s n) w; strings = first_sound s n t; names = second_sound s n t }

-- the fields outside others: one 01 at place 0, then items
pub shape_sound : (m : List ℕ) → shape m ≡ no_fault → OneThere m (inside m 32) 0 Table (Many Item) Over 0 (length m)
unfolding shape
shape_sound m w = one_there m (inside m 32) 0 Table (Many Item) Over 0 (length m) w
