-- A field that stands soundly, opened by the line of its tag in the list of fields: what is read of it, and its parts at their places. Here the
-- field at p has d levels left, and the fields in it have b: d ≡ suc b.
use Prim.Native.Nat.{ℕ, zero, suc, ◌+◌, ◌-◌, ◌<◌, ◌≤◌}
use mathlib.Core.Path.{◌≡◌, refl, sym, ap, ap₂, ◌∙◌, subst}
use mathlib.Core.Bool.{true}
use mathlib.Core.List.{List, [], ◌∷◌}
use native.Mathlib.Omega.{arith}
use lib.ListN.{length}
use lib.Seq.{slice, slice-cons, slice_empty}
use borrow.Author.Tests.{eqb-true}
use Rattle.wire.specs.Bytes.{byte, two, end_of, fields_in}
use Rattle.wire.specs.Runs.{bytes_at}
use Rattle.wire.proofs.Fields.{no_fields, field_first}
use Rattle.rules.specs.Format.{three, form_of, head_size, rest_right, length_right, bytes_right}
use Rattle.rules.specs.Check.{walk, inside}
use Rattle.rules.specs.Fields.{Field, field, Fields, none, more, read_each, read_body, read_field, tag_of, first, others}
use Rattle.rules.specs.declared.Kind.{Kind}
use Rattle.rules.specs.declared.Part.{Part}
use Rattle.rules.specs.declared.Part.TheVariants.{Over, One}
use Rattle.rules.specs.declared.Parts.{Parts}
use Rattle.rules.specs.declared.Rest.{Rest}
use Rattle.rules.specs.declared.Rest.TheVariants.{Only, Text, Fields as Inner}
use Rattle.rules.proofs.Within.{level_left, SoundBody, inside_sound}
use Rattle.places.specs.At.{Stands, StandsAs, Siblings, ended, sibling}
use Rattle.places.proofs.Parts.{PartsStand, one_part}
use Rattle.rules.specs.Verdicts.{no_fault}

-- ---- Bytes of a head

-- a part of the bytes is a run of them
pub part_run : (m : List ℕ) (p k t : ℕ) → p + k ≡ t → t ≤ length m → slice p t m ≡ bytes_at m p k
unfolding bytes_at
part_run m p zero t e l = let z : p ≡ t = omega arith in rw z (slice_empty t m)
part_run m p (suc k) t e l = slice-cons p t m 0 (omega arith) l ∙ ap (λ (bs : List ℕ). byte m p ∷ bs) (part_run m (suc p) k t (omega arith) l)

-- what stands in a run stands in the bytes
pub run_byte : (m : List ℕ) (p k i r : ℕ) → p + i ≡ r → i < k → byte (bytes_at m p k) i ≡ byte m r
unfolding bytes_at
run_byte m p zero i r e l = absurd (omega arith)
run_byte m p (suc k) zero r e l = let z : p ≡ r = omega arith in ap (byte m) z
run_byte m p (suc k) (suc i) r e l = run_byte m (suc p) k i r (omega arith) (omega arith)

pub run_two : (m : List ℕ) (p k i r : ℕ) → p + i ≡ r → i + 1 < k → two (bytes_at m p k) i ≡ two m r
unfolding two
run_two m p k i r e l = omega (arith, run_byte m p k i r e (omega arith), run_byte m p k (i + 1) (r + 1) (omega arith) l)

-- ---- Levels

-- there is a level for a field that stands
pub level : {m : List ℕ} {d p : ℕ} → Stands m d p → d ≡ suc (d - 1)
level {m} {d} {p} s = let l = level_left m d p s.sound in omega arith

lower : {m : List ℕ} {d b p : ℕ} → d ≡ suc b → Stands m d p → Stands m (suc b) p
lower {m} {p = p} l s = subst (λ (x : ℕ). Stands m x p) l s

-- a field that stands has its header
pub header_within : {m : List ℕ} {d p : ℕ} → Stands m d p → p + 3 ≤ length m
header_within s = let e = s.ends in omega arith

-- what is read there has the tag
pub tag_read : {m : List ℕ} {d p : ℕ} → Stands m d p → tag_of (read_field m d p) ≡ byte m p
unfolding read_field read_body tag_of
tag_read {m} {d} {p} s = ap (λ (x : ℕ). tag_of (read_field m x p)) (level s) ∙ go (head_size (form_of (byte m p))) (form_of (byte m p)).rest
  where
    go : (h : ℕ) (r : Rest) → tag_of (read_body m (read_field m (d - 1)) p h r) ≡ byte m p
    go h Only = refl
    go h Text = refl
    go h (Inner ps) = refl

-- ---- Lines of the list

-- a tag's line: h bytes and then fields, or h bytes alone
pub record Line (t h : ℕ) (ps : Parts) : Type 0 where
  pub head : head_size (form_of t) ≡ h
  pub rest : (form_of t).rest ≡ Inner ps

pub record Leaf (t h : ℕ) : Type 0 where
  pub head : head_size (form_of t) ≡ h
  pub rest : (form_of t).rest ≡ Only

-- the field at p has the tag t, h bytes and then the parts ps from q on
pub record Opened (m : List ℕ) (d b p t h : ℕ) (ps : Parts) (q : ℕ) : Type 0 where
  pub read : read_field m d p ≡ field p t (bytes_at m (p + 3) h) (read_each (read_field m b) (fields_in m q (end_of m p)))
  pub parts : PartsStand m b p ps q (end_of m p)
  pub bytes : bytes_right m p (form_of t) ≡ true

-- it has the tag t and h bytes alone
pub record OpenedLeaf (m : List ℕ) (d p t h : ℕ) : Type 0 where
  pub read : read_field m d p ≡ field p t (bytes_at m (p + 3) h) none
  pub ends : end_of m p ≡ p + 3 + h
  pub bytes : bytes_right m p (form_of t) ≡ true

-- what is read, by the line
pub read_by : (m : List ℕ) (p t : ℕ) {d b h : ℕ} {r : Rest} → d ≡ suc b → byte m p ≡ t → head_size (form_of t) ≡ h → (form_of t).rest ≡ r → read_field m d p ≡ read_body m (read_field m b) p h r
unfolding read_field
read_by m p t {b = b} l e x y = ap (λ (n : ℕ). read_field m n p) l ∙ ap₂ (read_body m (read_field m b) p) (ap (λ (u : ℕ). head_size (form_of u)) e ∙ x) (ap (λ (u : ℕ). (form_of u).rest) e ∙ y)

-- what is sound of the body, by the line
body_by : {m : List ℕ} {d b p t : ℕ} → Stands m d p → d ≡ suc b → byte m p ≡ t → SoundBody m (inside m b) p (form_of t)
body_by {m} {b = b} {p = p} s l e = subst (λ (u : ℕ). SoundBody m (inside m b) p (form_of u)) e (inside_sound m b p (lower l s).sound)

pub opened : {m : List ℕ} {d b p t h q : ℕ} {ps : Parts} → Stands m d p → d ≡ suc b → byte m p ≡ t → Line t h ps → p + 3 + h ≡ q → Opened m d b p t h ps q
unfolding read_body
opened {m} {d} {b} {p} {t} {h} {q} {ps} s l e i f =
    let body = body_by s l e in
    let pieces : h ≤ two m (p + 1) = subst (λ (n : ℕ). n ≤ two m (p + 1)) i.head body.pieces in
    let from : p + 3 + head_size (form_of t) ≡ q = ap (λ (n : ℕ). p + 3 + n) i.head ∙ f in
    let deep = s.depth in
    let ends = s.ends in
    record {
      read = read_by m p t l e i.head i.rest ∙ λ j. field p (e j) (part_run m (p + 3) h (p + 3 + h) refl (omega arith) j) (read_each (read_field m b) (fields_in m (f j) (end_of m p)));
      parts = record { depth = omega arith; from = omega arith; ends = ends; sound = subst (λ (n : ℕ). walk m (inside m b) p ps (end_of m p) (fields_in m n (end_of m p)) ≡ no_fault) from (body.fields ps i.rest) };
      bytes = body.bytes;
    }

only_length : (r : Rest) (h n : ℕ) → r ≡ Only → rest_right r h n ≡ true → n ≡ h
unfolding rest_right
only_length r h n e w = eqb-true n h (subst (λ (x : Rest). rest_right x h n ≡ true) e w)

pub opened_leaf : {m : List ℕ} {d p t h : ℕ} → Stands m d p → byte m p ≡ t → Leaf t h → OpenedLeaf m d p t h
unfolding read_body length_right
opened_leaf {m} {d} {p} {t} {h} s e i =
    let right : rest_right (form_of t).rest (head_size (form_of t)) (two m (p + 1)) ≡ true = subst (λ (u : ℕ). rest_right (form_of u).rest (head_size (form_of u)) (two m (p + 1)) ≡ true) e s.size in
    let count : two m (p + 1) ≡ h = only_length (form_of t).rest (head_size (form_of t)) (two m (p + 1)) i.rest right ∙ i.head in
    record {
      read = read_by m p t (level s) e i.head i.rest ∙ λ j. field p (e j) (part_run m (p + 3) h (end_of m p) (omega arith) s.ends j) none;
      ends = omega arith;
      bytes = (body_by s (level s) e).bytes;
    }

-- ---- The fields read

-- the first one and those after it
pub first_read : (f : ℕ → Field) (m : List ℕ) (q e : ℕ) → q < e → first (read_each f (fields_in m q e)) ≡ f q
unfolding first read_each
first_read f m q e l = rw (field_first m q e l) refl

pub others_read : (f : ℕ → Field) (m : List ℕ) (q e : ℕ) → q < e → others (read_each f (fields_in m q e)) ≡ read_each f (fields_in m (end_of m q) e)
unfolding others read_each
others_read f m q e l = rw (field_first m q e l) refl

pub none_read : (f : ℕ → Field) (m : List ℕ) (e : ℕ) → read_each f (fields_in m e e) ≡ none
unfolding read_each
none_read f m e = rw (no_fields m e e (omega arith)) refl

-- where one field of the kind k must come: it stands there, is read first, and the other parts come after it
pub record OneRead (m : List ℕ) (d p : ℕ) (k : Kind) (b c : Part) (q e : ℕ) : Type 0 where
  pub before : q < e
  pub part : StandsAs m d k q
  pub after : PartsStand m d p (three b c Over) (end_of m q) e
  pub read : first (read_each (read_field m d) (fields_in m q e)) ≡ read_field m d q
  pub read_after : others (read_each (read_field m d) (fields_in m q e)) ≡ read_each (read_field m d) (fields_in m (end_of m q) e)

pub one_read : {m : List ℕ} {d p : ℕ} {k : Kind} {b c : Part} {q e : ℕ} → PartsStand m d p (three (One k) b c) q e → OneRead m d p k b c q e
one_read {m} {d} {q = q} {e = e} s =
    let o = one_part s in
    record { before = o.before; part = o.part; after = o.after; read = first_read (read_field m d) m q e o.before; read_after = others_read (read_field m d) m q e o.before }

-- what F makes of the fields read from q to e, the first of which, up to r, are siblings, is what G makes of the places of those
pub siblings_read : {A : Type 0} (F : Fields → A) (G : List ℕ → A) {m : List ℕ} {d : ℕ} {k : Kind} {q r e : ℕ} → Siblings m d k q r → r ≤ e → F (read_each (read_field m d) (fields_in m r e)) ≡ G [] → ((p : ℕ) → StandsAs m d k p → (ks : Fields) (ps : List ℕ) → F ks ≡ G ps → F (more (read_field m d p) ks) ≡ G (p ∷ ps)) → F (read_each (read_field m d) (fields_in m q e)) ≡ G (fields_in m q r)
unfolding read_each
siblings_read F G {m} {r = r} ended l h step = h ∙ ap G (sym (no_fields m r r (omega arith)))
siblings_read F G {m} {d} {q = q} {r = r} {e = e} (sibling b s i) l h step =
    rw (field_first m q e (omega arith), field_first m q r b) (step q s (read_each (read_field m d) (fields_in m (end_of m q) e)) (fields_in m (end_of m q) r) (siblings_read F G i l h step))

-- the same where nothing follows them
pub all_read : {A : Type 0} (F : Fields → A) (G : List ℕ → A) {m : List ℕ} {d : ℕ} {k : Kind} {q e : ℕ} → Siblings m d k q e → F none ≡ G [] → ((p : ℕ) → StandsAs m d k p → (ks : Fields) (ps : List ℕ) → F ks ≡ G ps → F (more (read_field m d p) ks) ≡ G (p ∷ ps)) → F (read_each (read_field m d) (fields_in m q e)) ≡ G (fields_in m q e)
all_read F G {m} {d} {e = e} s h step = siblings_read F G s (omega arith) (ap F (none_read (read_field m d) m e) ∙ h) step
