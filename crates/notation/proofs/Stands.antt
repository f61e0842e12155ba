-- Bytes that stand in a manifest from a place on, and what is read where a written field stands: its tag, its length, its body, and the places of
-- the fields one after the other.
use Prim.Native.Nat.{ℕ, ◌+◌, ◌/◌, ◌%◌, ◌<◌, ◌≤◌}
use mathlib.Core.Path.{◌≡◌, refl, ap, ◌∙◌}
use mathlib.Core.List.{List, [], ◌∷◌, ◌++◌}
use native.Mathlib.Omega.{arith}
use lib.ListN.{length, take, drop, length-drop, length-append, get_or-append}
use lib.Seq.{slice, length-slice, length-take-le, ext_get_or, get_or-append-add, get_or-take, get_or-drop}
use Rattle.wire.proofs.Fields.{no_fields, field_first}
use Rattle.rules.specs.Bytes.{byte, two, end_of, fields_in}
use Rattle.rules.specs.Fields.{Field, field, Fields, none, more, wrap, write, write_all, head_of, tag_of, inner}

-- ---- Bytes

-- from q on, m has the bytes bs
pub record Stands (m : List ℕ) (q : ℕ) (bs : List ℕ) : Type 0 where
  pub fits : q + length bs ≤ length m
  pub same : (i : ℕ) → i < length bs → byte m (q + i) ≡ byte bs i

-- a manifest stands in itself
pub stands_whole : (m : List ℕ) → Stands m 0 m
stands_whole m = record { fits = omega arith; same = λ i h. ap (byte m) (omega arith) }

module _ {m : List ℕ} {q : ℕ} where
  -- of two parts, the first stands there
  pub stands_first : (xs ys : List ℕ) → Stands m q (xs ++ ys) → Stands m q xs
  stands_first xs ys s =
      let n = length-append xs ys in
      let fits = s.fits in
      record { fits = omega arith; same = λ i h. s.same i (omega arith) ∙ get_or-append xs ys 0 i h }

  -- the second part stands after the first
  pub stands_second : (xs ys : List ℕ) → Stands m q (xs ++ ys) → Stands m (q + length xs) ys
  stands_second xs ys s =
      let n = length-append xs ys in
      let fits = s.fits in
      let moved : (i : ℕ) → q + length xs + i ≡ q + (length xs + i) = λ i. omega arith in
      record { fits = omega arith; same = λ i h. ap (byte m) (moved i) ∙ s.same (length xs + i) (omega arith) ∙ get_or-append-add xs ys i 0 }

  -- cut out, they are themselves
  pub stands_cut : {bs : List ℕ} (e : ℕ) → e ≡ q + length bs → Stands m q bs → slice q e m ≡ bs
  stands_cut {bs} e h s =
      let fits = s.fits in
      let count : length (slice q e m) ≡ length bs = length-slice q e m (omega arith) ∙ omega arith in
      ext_get_or 0 (slice q e m) bs count (λ i l. get_or-drop q _ i 0 ∙ get_or-take e m (q + i) 0 (omega arith) ∙ s.same i (omega arith))

  -- the same where they are taken from what is left after q
  pub stands_taken : {bs : List ℕ} (n : ℕ) → n ≡ length bs → Stands m q bs → take n (drop q m) ≡ bs
  stands_taken {bs} n h s =
      let fits = s.fits in
      let count : length (take n (drop q m)) ≡ length bs = length-take-le n (drop q m) (omega (arith, length-drop q m)) ∙ h in
      ext_get_or 0 (take n (drop q m)) bs count (λ i l. get_or-take n (drop q m) i 0 (omega arith) ∙ get_or-drop q m i 0 ∙ s.same i (omega arith))

-- ---- One field

-- what follows the header of a field
unfoldable pub body_of : Field → List ℕ
body_of k = head_of k ++ write_all (inner k)

-- a field has its tag, its length and its body
pub write_parts : (k : Field) → write k ≡ wrap (tag_of k) (body_of k)
unfolding write tag_of body_of head_of inner
write_parts (field p t h ks) = refl

-- the field k is written at q
pub record FieldAt (m : List ℕ) (q : ℕ) (k : Field) : Type 0 where
  pub tag : byte m q ≡ tag_of k
  pub count : two m (q + 1) ≡ length (body_of k)
  pub ends : end_of m q ≡ q + length (write k)
  pub body : Stands m (q + 3) (body_of k)

-- a field is read where it is written
pub field_at : {m : List ℕ} {q : ℕ} (k : Field) → Stands m q (write k) → FieldAt m q k
unfolding wrap two
field_at {m} {q} k s = go (rw (write_parts k) at s)
  where
    go : Stands m q (wrap (tag_of k) (body_of k)) → FieldAt m q k
    go s =
        let n : ℕ = length (body_of k) in
        let start : q ≡ q + 0 = omega arith in
        let next : q + 1 + 1 ≡ q + 2 = omega arith in
        let tag : byte m q ≡ tag_of k = ap (byte m) start ∙ s.same 0 (omega arith) in
        let high : byte m (q + 1) ≡ n / 256 = s.same 1 (omega arith) in
        let low : byte m (q + 1 + 1) ≡ n % 256 = ap (byte m) next ∙ s.same 2 (omega arith) in
        let count : two m (q + 1) ≡ n = omega arith in
        let size : length (write k) ≡ 3 + n = ap length (write_parts k) ∙ omega arith in
        record { tag = tag; count = count; ends = omega arith; body = stands_second (tag_of k ∷ n / 256 ∷ n % 256 ∷ []) (body_of k) s }

-- ---- Fields one after the other

-- the places of the fields ks, where they are written from q on
unfoldable pub starts : ℕ → Fields → List ℕ
starts q none = []
starts q (more k ks) = q ∷ starts (q + length (write k)) ks

-- each has at least its header
pub write_nonempty : (k : Field) → 3 ≤ length (write k)
unfolding wrap
write_nonempty k = rw (write_parts k) (omega arith)

-- they are the fields that are found there
pub fields_found : {m : List ℕ} (ks : Fields) (q e : ℕ) → Stands m q (write_all ks) → e ≡ q + length (write_all ks) → fields_in m q e ≡ starts q ks
unfolding starts write_all
fields_found {m} none q e s h = no_fields m q e (omega arith)
fields_found {m} (more k ks) q e s h =
    let f = field_at k (stands_first (write k) (write_all ks) s) in
    let n = length-append (write k) (write_all ks) in
    let some = write_nonempty k in
    let others = fields_found ks (q + length (write k)) e (stands_second (write k) (write_all ks) s) (omega arith) in
    field_first m q e (omega arith) ∙ rw f.ends (ap (λ (ps : List ℕ). q ∷ ps) others)
