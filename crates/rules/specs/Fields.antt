-- A manifest as a tree of fields, each with its place: read by the list of fields alone, and written back.
use Rattle.std.specs.Prelude.{ℕ, zero, suc, ◌+◌, ◌/◌, ◌%◌, List, [], ◌∷◌, ◌++◌, length}
use Rattle.std.proofs.Math.Seq.{slice}
use Rattle.rules.specs.Bytes.{byte, end_of, fields_in}
use Rattle.rules.specs.Format.{form_of, head_size}
use Rattle.rules.specs.declared.Rest.{Rest}
use Rattle.rules.specs.declared.Rest.TheVariants.{Only, Text, Fields as Inner}

-- a field: its place and tag, the bytes that its body begins with, and the fields that follow them
mutual
  pub data Field : Type 0 where
    field : (place tag : ℕ) → (head : List ℕ) → Fields → Field

  pub data Fields : Type 0 where
    none : Fields
    more : Field → Fields → Fields

-- ---- Reading

unfoldable pub read_each : (ℕ → Field) → List ℕ → Fields
read_each f [] = none
read_each f (q ∷ qs) = more (f q) (read_each f qs)

-- the field at p, whose pieces have h bytes; f reads the fields in it
unfoldable pub read_body : List ℕ → (ℕ → Field) → ℕ → ℕ → Rest → Field
read_body m f p h Only = field p (byte m p) (slice (p + 3) (end_of m p) m) none
read_body m f p h Text = field p (byte m p) (slice (p + 3) (end_of m p) m) none
read_body m f p h (Inner ps) = field p (byte m p) (slice (p + 3) (p + 3 + h) m) (read_each f (fields_in m (p + 3 + h) (end_of m p)))

-- the field at p, with d levels left for it; a field too deep is read as an empty one
unfoldable pub read_field : List ℕ → ℕ → ℕ → Field
read_field m zero p = field p 0 [] none
read_field m (suc d) p = read_body m (read_field m d) p (head_size (form_of (byte m p))) (form_of (byte m p)).rest

-- all fields of a manifest: "the deepest allowed is 32"
unfoldable pub read_all : List ℕ → Fields
read_all m = read_each (read_field m 32) (fields_in m 0 (length m))

-- ---- Writing back

unfoldable pub wrap : ℕ → List ℕ → List ℕ
wrap t b = t ∷ length b / 256 ∷ length b % 256 ∷ b

unfoldable mutual
  pub write : Field → List ℕ
  write (field p t h ks) = wrap t (h ++ write_all ks)

  pub write_all : Fields → List ℕ
  write_all none = []
  write_all (more k ks) = write k ++ write_all ks

-- ---- Parts of a field

unfoldable pub head_of : Field → List ℕ
head_of (field p t h ks) = h

unfoldable pub tag_of : Field → ℕ
tag_of (field p t h ks) = t

unfoldable pub inner : Field → Fields
inner (field p t h ks) = ks

-- the first field, and those after it; where there is none, an empty field
unfoldable pub first : Fields → Field
first none = field 0 0 [] none
first (more k ks) = k

unfoldable pub others : Fields → Fields
others none = none
others (more k ks) = ks
