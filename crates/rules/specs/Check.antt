-- The check before running: "Before anything runs, 3 and 4 are sought in one reading from the first byte, the first fault met being
-- given: a field too deep isn't entered, and a missing part is met at the end of the field that lacks it. Then 5 is checked, from the
-- first byte."
use Rattle.std.specs.Prelude.{ℕ, zero, suc, ◌+◌, ◌-◌, Bool, true, false, ◌&&◌, List, [], ◌∷◌, ltb, leb, length, take, drop, Ok, Err}
use Rattle.rules.specs.Bytes.{pick, byte, two, end_of, fields_in}
use Rattle.rules.specs.Format.{form_of, head_size, follow, may_end, length_right, bytes_right, names_right, three}
use Rattle.rules.specs.declared.Kind.TheVariants.{Table, Item}
use Rattle.rules.specs.declared.Part.TheVariants.{Over, One, Many}
use Rattle.rules.specs.declared.Parts.{Parts}
use Rattle.rules.specs.declared.Rest.{Rest}
use Rattle.rules.specs.declared.Rest.TheVariants.{Only, Text, Fields}
use Rattle.rules.specs.declared.Form.{Form}
use Rattle.rules.specs.declared.Next.{Next}
use Rattle.rules.specs.declared.Next.TheVariants.{Go, Wrong}
use Rattle.values.specs.declared.Reason.TheVariants.{Malformed, TooDeep, StringOrder}
use Rattle.rules.specs.Verdicts.{Verdict, fault_at, no_fault}

-- ---- 3 and 4: the fields are as listed, and none is deeper than 32

-- the header of the field at q, where what surrounds it ends at e: a test for each clause
-- "the three bytes are there"
abbrev pub header_there : (q e : ℕ) → Bool
header_there q e = leb (q + 3) e

-- "the body ends within the field (or manifest) around it"
abbrev pub body_within : (manifest : List ℕ) → (q e : ℕ) → Bool
body_within m q e = leb (end_of m q) e

-- "for tags whose body has one length only .., that length"
abbrev pub length_listed : (manifest : List ℕ) → (q : ℕ) → Bool
length_listed m q = length_right (form_of (byte m q)) (two m (q + 1))

-- "the tag is one that may stand at this position", where ps may come: what may come after it
abbrev pub tag_allowed : (manifest : List ℕ) → Parts → (q : ℕ) → Next
tag_allowed m ps q = follow ps (byte m q)

unfoldable pub header : (manifest : List ℕ) → Parts → (q e : ℕ) → Next
header m ps q e = pick (header_there q e && (body_within m q e && length_listed m q)) (tag_allowed m ps q) Wrong

-- the first fault counts
abbrev pub and_then : Verdict → Verdict → Verdict
and_then (Ok tt) v = v
and_then (Err f) v = fault_at f.reason f.place

-- a header that is right goes on
abbrev pub allowing : Next → (Parts → Verdict) → Verdict → Verdict
allowing (Go ps) f v = f ps
allowing Wrong f v = v

-- the fields at the places given, which belong to the field at p, where ps may come and e ends them: each header (3), then what is inside
-- it, then its next sibling; and at the end a part that is missing (3 at p)
unfoldable pub walk : List ℕ → (ℕ → Verdict) → ℕ → Parts → ℕ → List ℕ → Verdict
walk m inner p ps e [] = pick (may_end ps) no_fault (fault_at Malformed p)
walk m inner p ps e (q ∷ qs) = allowing (header m ps q e) (λ ps'. and_then (inner q) (walk m inner p ps' e qs)) (fault_at Malformed q)

-- what follows the pieces of the field at p, from q on
unfoldable pub rest : List ℕ → (ℕ → Verdict) → ℕ → ℕ → Rest → Verdict
rest m inner p q Only = no_fault
rest m inner p q Text = no_fault
rest m inner p q (Fields ps) = walk m inner p ps (end_of m p) (fields_in m q (end_of m p))

-- the body of the field at p, by its line in the list: the pieces are there and right (3), then what follows them
unfoldable pub body : List ℕ → (ℕ → Verdict) → ℕ → Form → Verdict
body m inner p l = pick (leb (head_size l) (two m (p + 1)) && bytes_right m p l) (rest m inner p (p + 3 + head_size l) l.rest) (fault_at Malformed p)

-- what is inside the field at p, whose header is right, with d levels left for it: too deep (4), or its body
unfoldable pub inside : List ℕ → ℕ → ℕ → Verdict
inside m zero p = fault_at TooDeep p
inside m (suc d) p = body m (inside m d) p (form_of (byte m p))

-- "one field 01, then items"; "Fields outside others have depth 1; .. the deepest allowed is 32"
unfoldable pub shape : List ℕ → Verdict
shape m = walk m (inside m 32) 0 (three (One Table) (Many Item) Over) (length m) (fields_in m 0 (length m))

-- ---- 5: the strings rise strictly by bytes, a prefix first; and no name is past the table

-- x comes before y
unfoldable pub ascends : List ℕ → List ℕ → Bool
ascends [] [] = false
ascends [] (y ∷ ys) = true
ascends (x ∷ xs) [] = false
ascends (x ∷ xs) (y ∷ ys) = pick (ltb x y) true (pick (ltb y x) false (ascends xs ys))

-- the bytes of the body of the field at p
unfoldable pub text : List ℕ → ℕ → List ℕ
text m p = take (two m (p + 1)) (drop (p + 3) m)

-- each string against the one before it; "of two strings the later" is the faulty one
unfoldable pub rising_from : List ℕ → ℕ → List ℕ → Verdict
rising_from m a [] = no_fault
rising_from m a (b ∷ ps) = pick (ascends (text m a) (text m b)) (rising_from m b ps) (fault_at StringOrder b)

unfoldable pub rising : List ℕ → List ℕ → Verdict
rising m [] = no_fault
rising m (a ∷ ps) = rising_from m a ps

-- from a field to the next one in reading order: into its fields, or past its end
unfoldable pub stride : Rest → ℕ → ℕ → ℕ
stride Only h n = n
stride Text h n = n
stride (Fields ps) h n = h

abbrev pub next_in_order : List ℕ → ℕ → ℕ
next_in_order m p = p + 3 + stride (form_of (byte m p)).rest (head_size (form_of (byte m p))) (two m (p + 1))

-- the places of all fields from p up to e, in reading order; k is at least how many they are
unfoldable pub places_up : ℕ → List ℕ → ℕ → ℕ → List ℕ
places_up zero m p e = []
places_up (suc k) m p e = pick (ltb p e) (p ∷ places_up k m (next_in_order m p) e) []

unfoldable pub places_in : List ℕ → ℕ → ℕ → List ℕ
places_in m p e = places_up (e - p) m p e

-- each field that itself holds a name past the n strings
unfoldable pub names_known : List ℕ → ℕ → List ℕ → Verdict
names_known m n [] = no_fault
names_known m n (p ∷ ps) = pick (names_right m n p (form_of (byte m p))) (names_known m n ps) (fault_at StringOrder p)

-- the places of the strings: the fields of the 01
unfoldable pub string_places : List ℕ → List ℕ
string_places m = fields_in m 3 (end_of m 0)

-- 3 and 4, then 5: the strings, then the names of all items
unfoldable pub check : List ℕ → Verdict
check m =
    and_then (shape m)
    (and_then (rising m (string_places m))
    (names_known m (length (string_places m)) (places_in m (end_of m 0) (length m))))
