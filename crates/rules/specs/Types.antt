-- Built-in types: the eight of document 01, or those of a list that the caller lends. The sixth request of document 02: "Let the caller lend a list that
-- replaces the eight built-in types: 1 to 64 fields 02, each 1 to 32 lower-case letters, strictly rising."
use Rattle.std.specs.Prelude.{ℕ, zero, suc, ◌+◌, Bool, true, false, ◌&&◌, List, [], ◌∷◌, map, eqb, leb, length}
use Rattle.values.specs.declared.Reason.TheVariants.{TypeList}
use Rattle.rules.specs.Bytes.{pick, byte, two, fields_in}
use Rattle.rules.specs.Check.{header_there, body_within, ascends, text}
use Rattle.rules.specs.Verdicts.{Verdict, fault_at, no_fault}

-- "Built-in types: kiosk, tablet, printer, scanner, gate, screen, plan, wall."
unfoldable pub eight_types : List (List ℕ)
eight_types =
    (107 ∷ 105 ∷ 111 ∷ 115 ∷ 107 ∷ [])  -- kiosk
    ∷ (116 ∷ 97 ∷ 98 ∷ 108 ∷ 101 ∷ 116 ∷ [])  -- tablet
    ∷ (112 ∷ 114 ∷ 105 ∷ 110 ∷ 116 ∷ 101 ∷ 114 ∷ [])  -- printer
    ∷ (115 ∷ 99 ∷ 97 ∷ 110 ∷ 110 ∷ 101 ∷ 114 ∷ [])  -- scanner
    ∷ (103 ∷ 97 ∷ 116 ∷ 101 ∷ [])  -- gate
    ∷ (115 ∷ 99 ∷ 114 ∷ 101 ∷ 101 ∷ 110 ∷ [])  -- screen
    ∷ (112 ∷ 108 ∷ 97 ∷ 110 ∷ [])  -- plan
    ∷ (119 ∷ 97 ∷ 108 ∷ 108 ∷ [])  -- wall
    ∷ []

-- ---- A list

-- the places of its fields: "The list is 02 fields one after the other from byte 0"
unfoldable pub type_places : (list : List ℕ) → List ℕ
type_places list = fields_in list 0 (length list)

-- the types that it holds
unfoldable pub types_in : (list : List ℕ) → List (List ℕ)
types_in list = map (text list) (type_places list)

-- "another byte than a to z"
unfoldable pub lower_case : List ℕ → Bool
lower_case [] = true
lower_case (c ∷ cs) = (leb 0x61 c && leb c 0x7a) && lower_case cs

-- one field, where the type before it is known: "fewer than three bytes, another tag, a length past the end, 0 or over 32 letters, another byte than a to z, not
-- above the one before it" are the faults. The first field is above the type without letters.
unfoldable pub field_right : (list : List ℕ) → (before : List ℕ) → (place : ℕ) → Bool
field_right list before q =
    header_there q (length list)
    && (eqb (byte list q) 0x02
    && (body_within list q (length list)
    && ((leb 1 (two list (q + 1)) && leb (two list (q + 1)) 32)
    && (lower_case (text list q)
    && ascends before (text list q)))))

-- each field in turn, of which there may be so many more: "28, the list breaks one of these rules, at its first faulty field, a 65th included"
unfoldable pub types_right : (list : List ℕ) → (more : ℕ) → (before : List ℕ) → (places : List ℕ) → Verdict
types_right list more before [] = no_fault
types_right list zero before (q ∷ qs) = fault_at TypeList q
types_right list (suc more) before (q ∷ qs) = pick (field_right list before q) (types_right list more (text list q) qs) (fault_at TypeList q)

-- "or 0 if empty"
unfoldable pub check_list : (list : List ℕ) → Verdict
check_list [] = fault_at TypeList 0
check_list (b ∷ bs) = types_right (b ∷ bs) 64 [] (type_places (b ∷ bs))

-- the eight as such a list
unfoldable pub eight_as_list : List ℕ
eight_as_list =
    2 ∷ 0 ∷ 4 ∷ 103 ∷ 97 ∷ 116 ∷ 101  -- gate
    ∷ 2 ∷ 0 ∷ 5 ∷ 107 ∷ 105 ∷ 111 ∷ 115 ∷ 107  -- kiosk
    ∷ 2 ∷ 0 ∷ 4 ∷ 112 ∷ 108 ∷ 97 ∷ 110  -- plan
    ∷ 2 ∷ 0 ∷ 7 ∷ 112 ∷ 114 ∷ 105 ∷ 110 ∷ 116 ∷ 101 ∷ 114  -- printer
    ∷ 2 ∷ 0 ∷ 7 ∷ 115 ∷ 99 ∷ 97 ∷ 110 ∷ 110 ∷ 101 ∷ 114  -- scanner
    ∷ 2 ∷ 0 ∷ 6 ∷ 115 ∷ 99 ∷ 114 ∷ 101 ∷ 101 ∷ 110  -- screen
    ∷ 2 ∷ 0 ∷ 6 ∷ 116 ∷ 97 ∷ 98 ∷ 108 ∷ 101 ∷ 116  -- tablet
    ∷ 2 ∷ 0 ∷ 4 ∷ 119 ∷ 97 ∷ 108 ∷ 108  -- wall
    ∷ []

-- ---- What a call takes as built in

-- "Not lending a list is another call and means the eight."
pub data Types : Type 0 where
  the_eight : Types
  lent : (list : List ℕ) → Types

unfoldable pub built_in_types : Types → List (List ℕ)
built_in_types the_eight = eight_types
built_in_types (lent list) = types_in list

unfoldable pub check_types : Types → Verdict
check_types the_eight = no_fault
check_types (lent list) = check_list list
