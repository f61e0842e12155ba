-- Lists of types, by computation, on the schedule of document 01 (row 1), which has one resource, of type kiosk, at 117; and lists at fault.
use Prim.Native.Nat.{ℕ}
use mathlib.Core.Path.{◌≡◌, refl}
use mathlib.Core.List.{List, [], ◌∷◌, ◌++◌}
use Rattle.rules.specs.Types.{Types, lent, eight_as_list}
use Rattle.rules.proofs.Computing.{Seen, seen}
use Rattle.rules.proofs.Rows.{Expected, accepted, refused, row1}
use Rattle.rules.proofs.Cases.{expects, wanted}

-- the schedule, with a list
unfoldable scheduled : (list : List ℕ) → Seen
scheduled list = seen (lent list) row1.manifest row1.device row1.limit row1.output row1.memory

-- no manifest, which is refused 2
unfoldable without_manifest : (list : List ℕ) → (memory : ℕ) → Seen
without_manifest list memory = seen (lent list) [] row1.device row1.limit row1.output memory

unfoldable is : (number place : ℕ) → Seen
is number place = wanted row1.output (refused number place)

-- "kio", "kiosk", "kiosks" and "wall", as fields
unfoldable kio : List ℕ
kio = 2 ∷ 0 ∷ 3 ∷ 107 ∷ 105 ∷ 111 ∷ []

unfoldable kiosk : List ℕ
kiosk = 2 ∷ 0 ∷ 5 ∷ 107 ∷ 105 ∷ 111 ∷ 115 ∷ 107 ∷ []

unfoldable kiosks : List ℕ
kiosks = 2 ∷ 0 ∷ 6 ∷ 107 ∷ 105 ∷ 111 ∷ 115 ∷ 107 ∷ 115 ∷ []

unfoldable wall : List ℕ
wall = 2 ∷ 0 ∷ 4 ∷ 119 ∷ 97 ∷ 108 ∷ 108 ∷ []

-- "A type is built in precisely if the list holds it": alone, and among others
listed : scheduled kiosk ≡ expects row1
unfolding scheduled kiosk seen expects wanted row1
listed = refl

among_others : scheduled (kio ++ kiosk ++ kiosks ++ wall) ≡ expects row1
unfolding scheduled kio kiosk kiosks wall seen expects wanted row1
among_others = refl

-- neither what kiosk begins with nor what begins with it
neither : scheduled (kio ++ kiosks) ≡ is 9 117
unfolding scheduled kio kiosks seen is wanted row1
neither = refl

-- 28 "at its first faulty field": not above the one before it, equal or a prefix, "the later is at fault"
twice : scheduled (kiosk ++ kiosk) ≡ is 28 8
unfolding scheduled kiosk seen is wanted row1
twice = refl

prefix_later : scheduled (kio ++ kiosks ++ kiosk) ≡ is 28 15
unfolding scheduled kio kiosk kiosks seen is wanted row1
prefix_later = refl

-- "fewer than three bytes", "another tag", "a length past the end", "0 or over 32 letters", "another byte than a to z"
two_bytes : scheduled (kiosk ++ 2 ∷ 0 ∷ []) ≡ is 28 8
unfolding scheduled kiosk seen is wanted row1
two_bytes = refl

in_a_table : scheduled (1 ∷ 0 ∷ 8 ∷ kiosk) ≡ is 28 0
unfolding scheduled kiosk seen is wanted row1
in_a_table = refl

past_the_end : scheduled (kiosk ++ 2 ∷ 0 ∷ 5 ∷ 119 ∷ 97 ∷ 108 ∷ 108 ∷ []) ≡ is 28 8
unfolding scheduled kiosk seen is wanted row1
past_the_end = refl

no_letters : scheduled (kiosk ++ 2 ∷ 0 ∷ 0 ∷ []) ≡ is 28 8
unfolding scheduled kiosk seen is wanted row1
no_letters = refl

a_digit : scheduled (kiosk ++ 2 ∷ 0 ∷ 2 ∷ 119 ∷ 49 ∷ []) ≡ is 28 8
unfolding scheduled kiosk seen is wanted row1
a_digit = refl

-- "or 0 if empty; checked next after 1": before 2
empty : without_manifest [] 65536 ≡ is 28 0
unfolding without_manifest seen is wanted row1
empty = refl

after_one : without_manifest [] 65535 ≡ is 1 0
unfolding without_manifest seen is wanted row1
after_one = refl

then_two : without_manifest eight_as_list 65536 ≡ is 2 0
unfolding without_manifest eight_as_list seen is wanted row1
then_two = refl
