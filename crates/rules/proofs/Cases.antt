-- Every row of the table holds of the definition, and so does the printed text of the first two: by computation.
use Prim.Native.Nat.{ℕ, ◌-◌}
use mathlib.Core.Path.{◌≡◌, refl}
use mathlib.Core.List.{List, [], ◌∷◌, ◌++◌}
use lib.ListN.{length, replicate}
use Rattle.values.specs.Numbers.{accepted, refused}
use Rattle.rules.specs.Types.{the_eight}
use Rattle.rules.proofs.Computing.{Seen, seen, printed}
use Rattle.rules.proofs.Rows.{Expected, Row}
use Rattle.rules.proofs.Rows

-- the whole outcome that a row expects: the answer, and the output to its end
unfoldable pub wanted : ℕ → Expected → Seen
wanted output (Expected.accepted steps catalog) = record { answer = accepted (length catalog) steps; output = catalog ++ replicate (output - length catalog) 0 }
wanted output (Expected.refused number place) = record { answer = refused number place; output = replicate output 0 }

unfoldable pub expects : Row → Seen
expects r = wanted r.output r.expected

unfoldable pub gives : Row → Seen
gives r = seen the_eight r.manifest r.device r.limit r.output r.memory

-- a fact of each row
pub data Each (P : Row → Type 0) : List Row → Type 0 where
  no_row : Each P []
  also : {r : Row} {rs : List Row} → P r → Each P rs → Each P (r ∷ rs)

abbrev pub Holds : Row → Type 0
Holds r = gives r ≡ expects r

-- the starred cases and the further rows, together: a line for each, so that a refusal names the row
pub table_holds : Each Holds Rows.table
unfolding gives expects wanted seen Rows.table Rows.row1 Rows.row2 Rows.row3 Rows.row4 Rows.row5 Rows.row6 Rows.row7 Rows.row8 Rows.row9 Rows.row10 Rows.row11 Rows.row12 Rows.row13 Rows.row14 Rows.row15 Rows.row16 Rows.row17 Rows.row18 Rows.row19 Rows.row20 Rows.row21 Rows.row22 Rows.row23 Rows.row24 Rows.row25 Rows.row26 Rows.row27 Rows.row28 Rows.row29 Rows.row30 Rows.row31 Rows.row32 Rows.row33 Rows.row34 Rows.row35 Rows.row36 Rows.row37 Rows.row38 Rows.row39 Rows.row40 Rows.row41 Rows.row42 Rows.row43 Rows.row44
table_holds =
    also {r = Rows.row1} refl (
    also {r = Rows.row2} refl (
    also {r = Rows.row3} refl (
    also {r = Rows.row4} refl (
    also {r = Rows.row5} refl (
    also {r = Rows.row6} refl (
    also {r = Rows.row7} refl (
    also {r = Rows.row8} refl (
    also {r = Rows.row9} refl (
    also {r = Rows.row10} refl (
    also {r = Rows.row11} refl (
    also {r = Rows.row12} refl (
    also {r = Rows.row13} refl (
    also {r = Rows.row14} refl (
    also {r = Rows.row15} refl (
    also {r = Rows.row16} refl (
    also {r = Rows.row17} refl (
    also {r = Rows.row18} refl (
    also {r = Rows.row19} refl (
    also {r = Rows.row20} refl (
    also {r = Rows.row21} refl (
    also {r = Rows.row22} refl (
    also {r = Rows.row23} refl (
    also {r = Rows.row24} refl (
    also {r = Rows.row25} refl (
    also {r = Rows.row26} refl (
    also {r = Rows.row27} refl (
    also {r = Rows.row28} refl (
    also {r = Rows.row29} refl (
    also {r = Rows.row30} refl (
    also {r = Rows.row31} refl (
    also {r = Rows.row32} refl (
    also {r = Rows.row33} refl (
    also {r = Rows.row34} refl (
    also {r = Rows.row35} refl (
    also {r = Rows.row36} refl (
    also {r = Rows.row37} refl (
    also {r = Rows.row38} refl (
    also {r = Rows.row39} refl (
    also {r = Rows.row40} refl (
    also {r = Rows.row41} refl (
    also {r = Rows.row42} refl (
    also {r = Rows.row43} refl (
    also {r = Rows.row44} refl (
    no_row))))))))))))))))))))))))))))))))))))))))))))

-- the printer's input: the device, a line feed, the manifest
unfoldable pub input_of : Row → List ℕ
input_of r = r.device ++ (10 ∷ r.manifest)

pub first_printed : printed (input_of Rows.row1) ≡ Rows.printed1
unfolding printed input_of Rows.row1 Rows.printed1
first_printed = refl

pub second_printed : printed (input_of Rows.row2) ≡ Rows.printed2
unfolding printed input_of Rows.row2 Rows.printed2
second_printed = refl
