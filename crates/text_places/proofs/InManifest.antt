-- A field of a manifest is of the table of strings, which came with no token, or one of the items. Assumes nothing.
use mathlib.Core.Path.{◌≡◌, sym, ap, ◌∙◌, subst}
use mathlib.Core.List.{List, [], ◌∷◌, ◌++◌, append-nil}
use Prim.Native.Nat.{ℕ, zero, suc, ◌-◌, ◌≤◌, ◌<◌}
use native.Mathlib.Omega.{arith}
use lib.ListN.{length, replicate, get_or-append}
use Rattle.wire.specs.Bytes.{byte as at}
use Rattle.rules.specs.Fields.{field, none as fields_end, write}
use Rattle.notation.specs.Building.{Nodes}
use Rattle.notation.specs.Convert.{string_fields, manifest_fields}
use Rattle.text_places.specs.Marks.{field_marks, fields_marks, Begins, part_marks}
use Rattle.text_places.proofs.Inserting.{Only, only_both, header_first, behind_front}
use Rattle.text_places.proofs.MarkedBytes.{field_size, onto_marks}

-- ---- The table

zeros_only : (p n : ℕ) → Only p (replicate n 0)
zeros_only p n = record { only = λ i q e. go n i q e }
  where
    go : (n i q : ℕ) → at (replicate n 0) i ≡ suc q → q ≡ p
    go zero i q e = absurd (omega arith)
    go (suc n) zero q e = absurd (omega arith)
    go (suc n) (suc i) q e = go n i q e

strings_only : (ss : List (List ℕ)) → Only 0 (fields_marks (string_fields ss))
unfolding field_marks string_fields
strings_only [] = zeros_only 0 0
strings_only (s ∷ ss) = only_both 0 (field_marks (field 0 0x02 s fields_end)) (fields_marks (string_fields ss)) (header_first 0 (replicate (length s) 0 ++ []) (subst (Only 0) (sym (append-nil (replicate (length s) 0))) (zeros_only 0 (length s)))) (strings_only ss)

module _ (S : List (List ℕ)) (items : Nodes) (o p : ℕ) (b : Begins (manifest_fields S items) o p) where
  table : List ℕ
  table = field_marks (field 0 0x01 [] (string_fields S))

  there : at (table ++ part_marks items) o ≡ suc p
  unfolding manifest_fields field_marks table
  there = ap (λ (ms : List ℕ). at (table ++ ms) o) (sym (onto_marks S items fields_end ∙ append-nil (part_marks items))) ∙ b.marked

  pub in_table : o < length (write (field 0 0x01 [] (string_fields S))) → p ≡ 0
  unfolding field_marks table
  in_table near =
      let inside : at table o ≡ suc p = sym (get_or-append table (part_marks items) 0 o (omega (arith, field_size (field 0 0x01 [] (string_fields S))))) ∙ there in
      (header_first 0 (fields_marks (string_fields S)) (strings_only S)).only o p inside

  pub in_items : length (write (field 0 0x01 [] (string_fields S))) ≤ o → at (part_marks items) (o - length (write (field 0 0x01 [] (string_fields S)))) ≡ suc p
  unfolding table
  in_items far =
      let size = field_size (field 0 0x01 [] (string_fields S)) in
      ap (λ (n : ℕ). at (part_marks items) (o - n)) (sym size) ∙ sym (behind_front table (part_marks items) o (omega (arith, size))) ∙ there
