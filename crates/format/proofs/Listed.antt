-- The tags that have no parts, and those that have no line.
use Prim.Native.Nat.{ℕ, ◌+◌, ◌<◌, ◌≤◌}
use mathlib.Core.Path.{◌≡◌, refl, sym}
use mathlib.Core.Bool.{Bool, true, false}
use mathlib.Core.List.{List, [], ◌∷◌}
use native.Mathlib.Omega.{arith}
use lib.Dec.{eqb}
use borrow.Author.Tests.{eqb-true}
use Rattle.rules.specs.Format.{form_of}
use Rattle.rules.specs.declared.Part.{Part}
use Rattle.format.specs.Numbers.{how_many, shaped, part_from, push, lowest, parts_from, parts_in, line_number}
use Rattle.format.proofs.Table.{unlike, along, elsewhere}

-- the parts of a tag
abbrev pub parts : ℕ → List Part
parts t = parts_in (form_of t).rest

-- whether a tag has none
abbrev is_none : List Part → Bool
is_none [] = true
is_none (p ∷ ps) = false

abbrev pub has_none : ℕ → Bool
has_none t = is_none (parts t)

is_none_lem : (ps : List Part) → is_none ps ≡ true → parts_from 0 ≡ ps
unfolding parts_from lowest push part_from shaped how_many
is_none_lem [] e = refl
is_none_lem (p ∷ ps) e = absurd (let z : ◌≡◌ {A = ℕ} 0 1 = cc in omega arith)

-- from lo on, but for the keys
pub no_parts_lem : (ks : List ℕ) (n lo : ℕ) → along has_none ks n lo ≡ true → (t : ℕ) → lo ≤ t → t < lo + n → unlike t ks → parts_from 0 ≡ parts t
no_parts_lem ks n lo h t a b u = is_none_lem (parts t) (elsewhere has_none ks n lo h t a b u)

-- the line of a tag that has none
pub no_line : (ks : List ℕ) (n lo : ℕ) → along (λ t. eqb (line_number t) 0) ks n lo ≡ true → (t : ℕ) → lo ≤ t → t < lo + n → unlike t ks → 0 ≡ line_number t
no_line ks n lo h t a b u = sym (eqb-true (line_number t) 0 (elsewhere (λ x. eqb (line_number x) 0) ks n lo h t a b u))
