-- The tree of a sound manifest has at most 32 levels.
use Prim.Native.Nat.{ℕ, zero, suc, ◌≤◌}
use mathlib.Core.Path.{◌≡◌}
use mathlib.Core.List.{List}
use native.Mathlib.Omega.{arith}
use Rattle.rules.specs.Format.{form_of, three}
use Rattle.rules.specs.Check.{check}
use Rattle.rules.specs.Fields.{Field, field, Fields, others}
use Rattle.rules.specs.Read.{manifest_of}
use Rattle.rules.specs.Compile.{string_at}
use Rattle.rules.specs.EditRule.{IsBytes}
use Rattle.rules.specs.declared.Kind.TheVariants.{Table, Item}
use Rattle.rules.specs.declared.Part.TheVariants.{Over, One, Many}
use Rattle.rules.proofs.Listed.{Listed, all_listed}
use Rattle.notation.specs.Building.{Nodes, empty, ◌▸◌, height, tallest}
use Rattle.notation.specs.Named.{named, named_onto, named_tree}
use Rattle.notation.proofs.Written.{All, no_field, also_field}
use Rattle.notation.proofs.Expected.{items_onto}
use Rattle.notation.proofs.ListedParts.{each_of_parts, each_inside}
use Rattle.notation.proofs.TypedNamed.{tree_named}
use Rattle.rules.specs.Verdicts.{no_fault}

module _ (strings : List (List ℕ)) where
  -- a field as listed of at most d levels gives a node of at most d
  abbrev Low : ℕ → Type 0
  Low d = (k : Field) → Listed d k → height (named strings k) ≤ d

  -- so do fields, behind others
  fields_low : (d : ℕ) → Low d → {ks : Fields} → All (Listed d) ks → (js : Nodes) → tallest js ≤ d → tallest (named_onto strings ks js) ≤ d
  unfolding named height
  fields_low d low no_field js h = h
  fields_low d low (also_field {k = k} a all) js h = let here = low k a in fields_low d low all (js ▸ named strings k) (omega arith)

  field_low : (d : ℕ) → Low d
  unfolding named height
  field_low zero k a = absurd a
  field_low (suc d) (field p t h ks) a = omega (arith, fields_low d (λ k b. field_low d k b) (each_inside (form_of t).rest a.fields) empty (omega arith))

all_behind : {P : Field → Type 0} {ks : Fields} → All P ks → All P (others ks)
unfolding others
all_behind no_field = no_field
all_behind (also_field p all) = all

module _ (m : List ℕ) (bytes : IsBytes m) (w : check m ≡ no_fault) where
  pub named_low : tallest (named_tree m) ≤ 32
  unfolding named_tree height
  named_low = fields_low (manifest_of m).strings 32 (field_low (manifest_of m).strings 32) (all_behind (each_of_parts (three (One Table) (Many Item) Over) (all_listed m bytes w))) empty (omega arith)

  -- what its printed text should build has at most 32 levels
  pub tree_low : tallest (items_onto (string_at (manifest_of m).strings) (manifest_of m).items empty) ≤ 32
  tree_low = rw (tree_named m bytes w) named_low
