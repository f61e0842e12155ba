-- What the laws of OneTree assume is met, and met by no more than is meant: two manifests with one tree and which labels differ, by computation.
use Prim.Native.Nat.{ℕ}
use mathlib.Core.Path.{◌≡◌, refl}
use mathlib.Core.Bool.{Bool, true, false}
use mathlib.Core.List.{List, [], ◌∷◌, ◌++◌}
use Rattle.rules.specs.Bytes.{two, fields_up, fields_in}
use Rattle.rules.specs.Format.{forms, form_in, form_of, size, head_size}
use Rattle.rules.specs.Fields.{read_each, read_body, read_field, read_all}
use Rattle.rules.specs.Compile.{same_bytes}
use Rattle.rules.specs.EditRule.{opposite, same_field, same_fields, one_tree, differs_here, differs_in, differs_any, differing}
use Rattle.rules.proofs.Rows

-- the string "a", then the assignment of an integer, or of a boolean, to it
table : List ℕ
table = 1 ∷ 0 ∷ 4 ∷ 2 ∷ 0 ∷ 1 ∷ 97 ∷ []

integer : (label value : ℕ) → List ℕ
integer l n = table ++ (33 ∷ 0 ∷ 14 ∷ 0 ∷ 0 ∷ 16 ∷ 0 ∷ 9 ∷ l ∷ 0 ∷ 0 ∷ 0 ∷ 0 ∷ 0 ∷ 0 ∷ 0 ∷ n ∷ [])

boolean : (label value : ℕ) → List ℕ
boolean l n = table ++ (33 ∷ 0 ∷ 7 ∷ 0 ∷ 0 ∷ 18 ∷ 0 ∷ 2 ∷ l ∷ n ∷ [])

unfoldable same : List ℕ → List ℕ → Bool
unfolding two fields_up fields_in forms form_in form_of size head_size read_each read_body read_field read_all same_bytes opposite same_field same_fields one_tree
same m m' = one_tree m m'

unfoldable differs : List ℕ → List ℕ → ℕ → Bool
unfolding two fields_up fields_in forms form_in form_of size head_size read_each read_body read_field read_all same_bytes differs_here differs_in differs_any differing
differs m m' l = differing m m' l

record Expected : Type 0 where
  -- another value, and another kind: one tree, and the label differs
  value : same (integer 7 1) (integer 7 2) ≡ true
  value_differs : differs (integer 7 1) (integer 7 2) 7 ≡ true
  kind : same (integer 7 1) (boolean 7 1) ≡ true
  kind_differs : differs (integer 7 1) (boolean 7 1) 7 ≡ true
  other_label : differs (integer 7 1) (boolean 7 1) 8 ≡ false
  -- the same constant does not differ
  equal : same (integer 7 1) (integer 7 1) ≡ true
  nothing_differs : differs (integer 7 1) (integer 7 1) 7 ≡ false
  -- another label, and a constant that is missing: not one tree
  label : same (integer 7 1) (integer 8 1) ≡ false
  missing : same (integer 7 1) table ≡ false
  -- document 01's schedule with peak false and true
  schedules : same (Rows.row1).manifest (Rows.row2).manifest ≡ true
  peak : differs (Rows.row1).manifest (Rows.row2).manifest 2 ≡ true
  fee : differs (Rows.row1).manifest (Rows.row2).manifest 1 ≡ false

expected : Expected
unfolding same differs table integer boolean Rows.row1 Rows.row2
expected = record {
  value = refl;
  value_differs = refl;
  kind = refl;
  kind_differs = refl;
  other_label = refl;
  equal = refl;
  nothing_differs = refl;
  label = refl;
  missing = refl;
  schedules = refl;
  peak = refl;
  fee = refl;
}
