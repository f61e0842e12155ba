-- What is read of a sound manifest, written back, is the manifest: the tree of fields has lost nothing.
use Prim.Native.Nat.{ℕ, zero, suc, ◌+◌, ◌-◌, ◌/◌, ◌%◌, ◌<◌, ◌≤◌}
use mathlib.Core.Path.{◌≡◌, refl, sym, ap, ◌∙◌}
use mathlib.Core.Bool.{Bool, true, false}
use mathlib.Core.List.{List, ◌∷◌, ◌++◌, append-nil}
use native.Mathlib.Omega.{arith}
use native.Mathlib.Numerals.{add-one}
use lib.Dec.{ltb}
use lib.ListN.{length, take, drop}
use lib.Seq.{slice, slice-cons, slice_empty, length-slice, length-take-le, take-add, take-length, drop-append-le, drop_at}
use borrow.Author.Tests.{ltb-true, ltb-false}
use Rattle.rules.specs.Bytes.{byte, two, end_of, fields_in}
use Rattle.rules.specs.Format.{form_of, head_size, three}
use Rattle.rules.specs.Check.{walk, inside, shape, check}
use Rattle.rules.specs.Fields.{Field, read_each, read_body, read_field, read_all, wrap, write, write_all}
use Rattle.rules.specs.EditRule.{IsBytes}
use Rattle.rules.specs.declared.Kind.TheVariants.{Table, Item}
use Rattle.rules.specs.declared.Part.TheVariants.{Over, One, Many}
use Rattle.rules.specs.declared.Parts.{Parts}
use Rattle.rules.specs.declared.Rest.{Rest}
use Rattle.rules.specs.declared.Rest.TheVariants.{Only, Text, Fields}
use Rattle.rules.specs.declared.Form.{Form}
use Rattle.wire.proofs.Fields.{no_fields, field_first}
use Rattle.rules.proofs.Within.{fault_not_sound, first_field, SoundBody, inside_sound, check_sound}
use Rattle.rules.specs.Verdicts.{no_fault}

-- ---- Bytes from a place up to another

module _ (m : List ℕ) where
  -- the first byte, then the others
  slice_first : (f t : ℕ) → f < t → t ≤ length m → slice f t m ≡ byte m f ∷ slice (f + 1) t m
  slice_first f t a b = rw add-one (slice-cons f t m 0 a b)

  -- up to q, then from q on
  slice_joined : (p q e : ℕ) → p ≤ q → q ≤ e → e ≤ length m → slice p q m ++ slice q e m ≡ slice p e m
  slice_joined p q e a b c =
      let after : List ℕ = take (e - q) (drop q m) in
      let sum : e ≡ q + (e - q) = omega arith in
      let split : take e m ≡ take q m ++ after = ap (λ (k : ℕ). take k m) sum ∙ take-add q (e - q) m in
      let count : length (take q m) ≡ q = length-take-le q m (omega arith) in
      let all : slice p e m ≡ slice p q m ++ after = ap (λ (l : List ℕ). drop p l) split ∙ drop-append-le p (take q m) after (omega arith) in
      let last : slice q e m ≡ after = ap (λ (l : List ℕ). drop q l) split ∙ drop_at (take q m) after q count in
      ap (λ (l : List ℕ). slice p q m ++ l) last ∙ sym all

-- ---- Fields

module _ (m : List ℕ) (bytes : IsBytes m) where
  -- the tag, the length in two bytes and the body make the bytes of the field at p
  wrap_body : (p : ℕ) → end_of m p ≤ length m → wrap (byte m p) (slice (p + 3) (end_of m p) m) ≡ slice p (end_of m p) m
  unfolding wrap two
  wrap_body p h =
      let body : List ℕ = slice (p + 3) (end_of m p) m in
      let low_byte = bytes.below (p + 1 + 1) in
      let count = length-slice (p + 3) (end_of m p) m h in
      let high : length body / 256 ≡ byte m (p + 1) = omega arith in
      let low : length body % 256 ≡ byte m (p + 1 + 1) = omega arith in
      let start : p + 1 + 1 + 1 ≡ p + 3 = omega arith in
      let header : slice p (end_of m p) m ≡ byte m p ∷ byte m (p + 1) ∷ byte m (p + 1 + 1) ∷ body =
      slice_first m p (end_of m p) (omega arith) h
      ∙ ap (λ (l : List ℕ). byte m p ∷ l) (slice_first m (p + 1) (end_of m p) (omega arith) h)
      ∙ ap (λ (l : List ℕ). byte m p ∷ byte m (p + 1) ∷ l) (slice_first m (p + 1 + 1) (end_of m p) (omega arith) h)
      ∙ ap (λ (k : ℕ). byte m p ∷ byte m (p + 1) ∷ byte m (p + 1 + 1) ∷ slice k (end_of m p) m) start in
      ap (λ (x : ℕ). byte m p ∷ x ∷ length body % 256 ∷ body) high ∙ ap (λ (x : ℕ). byte m p ∷ byte m (p + 1) ∷ x ∷ body) low ∙ sym header

  no_field_written : (f : ℕ → Field) (q e : ℕ) → q ≤ e → e ≤ q → write_all (read_each f (fields_in m q e)) ≡ slice q e m
  unfolding read_each write_all
  no_field_written f q e a b = let n : q ≡ e = omega arith in rw (no_fields m q e b, n) (sym (slice_empty e m))

  -- a sound field, read with d levels left and written back, is its bytes
  abbrev WrittenAt : ℕ → Type 0
  WrittenAt d = (p : ℕ) → inside m d p ≡ no_fault → end_of m p ≤ length m → write (read_field m d p) ≡ slice p (end_of m p) m

  -- so are the fields from q to e, of which there are at most k
  fields_written : (k d p : ℕ) (ps : Parts) (q e : ℕ) → WrittenAt d → e - q ≤ k → q ≤ e → e ≤ length m → walk m (inside m d) p ps e (fields_in m q e) ≡ no_fault → write_all (read_each (read_field m d) (fields_in m q e)) ≡ slice q e m
  unfolding read_each write_all
  fields_written zero d p ps q e each b l h w = no_field_written (read_field m d) q e l (omega arith)
  fields_written (suc k) d p ps q e each b l h w = go (λ x y b l w. fields_written k d p x y e each b l h w) (ltb q e) refl
    where
      go : ((ps : Parts) (q : ℕ) → e - q ≤ k → q ≤ e → walk m (inside m d) p ps e (fields_in m q e) ≡ no_fault → write_all (read_each (read_field m d) (fields_in m q e)) ≡ slice q e m) → (t : Bool) → ltb q e ≡ t → write_all (read_each (read_field m d) (fields_in m q e)) ≡ slice q e m
      go others-written false t = no_field_written (read_field m d) q e l (ltb-false q e t)
      go others-written true t =
          let before : q < e = ltb-true q e t in
          let f = first_field m (inside m d) p ps q e before w in
          let ends : end_of m q ≤ e = f.right.ends in
          let first = each q f.sound (omega arith) in
          let others = others-written f.next (end_of m q) (omega arith) ends f.others in
          rw (field_first m q e before) (ap (λ (x : List ℕ). x ++ write_all (read_each (read_field m d) (fields_in m (end_of m q) e))) first ∙ ap (λ (x : List ℕ). slice q (end_of m q) m ++ x) others ∙ slice_joined m q (end_of m q) e (omega arith) ends h)

  -- one field, by what follows its pieces
  body_written : (d p : ℕ) (l : Form) → WrittenAt d → SoundBody m (inside m d) p l → end_of m p ≤ length m → (r : Rest) → l.rest ≡ r → write (read_body m (read_field m d) p (head_size l) r) ≡ slice p (end_of m p) m
  unfolding read_body write write_all
  body_written d p l each s h Only e = rw append-nil (wrap_body p h)
  body_written d p l each s h Text e = rw append-nil (wrap_body p h)
  body_written d p l each s h (Fields ps) e =
      let from : ℕ = p + 3 + head_size l in
      let there = s.pieces in
      let fields = fields_written (end_of m p) d p ps from (end_of m p) each (omega arith) (omega arith) h (s.fields ps e) in
      ap (λ (x : List ℕ). wrap (byte m p) (slice (p + 3) from m ++ x)) fields ∙ ap (λ (x : List ℕ). wrap (byte m p) x) (slice_joined m (p + 3) from (end_of m p) (omega arith) (omega arith) h) ∙ wrap_body p h

  pub field_written : (d p : ℕ) → inside m d p ≡ no_fault → end_of m p ≤ length m → write (read_field m d p) ≡ slice p (end_of m p) m
  unfolding read_field inside
  field_written zero p w h = fault_not_sound w
  field_written (suc d) p w h = body_written d p (form_of (byte m p)) (λ q w h. field_written d q w h) (inside_sound m d p w) h (form_of (byte m p)).rest refl

  -- ---- The whole manifest

  pub shape_written : shape m ≡ no_fault → write_all (read_all m) ≡ m
  unfolding shape read_all
  shape_written w = fields_written (length m) 32 0 (three (One Table) (Many Item) Over) 0 (length m) (λ p w h. field_written 32 p w h) (omega arith) (omega arith) (omega arith) w ∙ take-length m

-- what is read of a manifest in which the check finds no fault, written back, is the manifest
pub written_back : (m : List ℕ) → IsBytes m → check m ≡ no_fault → write_all (read_all m) ≡ m
written_back m bytes w = shape_written m bytes (check_sound m w).shaped
