-- Attributes named twice, by their places in the manifest.
use Rattle.std.specs.Prelude.{ℕ, ◌+◌, ◌<◌, ◌≡◌, Bool, false, ◌||◌, List, [], ◌∷◌, leb, eqb, Option, Some, None}
use Rattle.wire.specs.Bytes.{pick, byte, two, fields_in}
use Rattle.values.specs.declared.Labelled.{Labelled}
use Rattle.rules.specs.Evaluate.{any}
use Rattle.rules.specs.Run.{Given}

-- the 26 at q has the name n
abbrev pub has_name : List ℕ → (n q : ℕ) → Bool
has_name m n q = eqb (two m (q + 3)) n

-- the first of the places whose 26 has the name n
unfoldable pub named_in : List ℕ → (n : ℕ) → (places : List ℕ) → Option ℕ
named_in m n [] = None
named_in m n (q ∷ qs) = pick (has_name m n q) (Some q) (named_in m n qs)

-- the 26 at q has a name of `limit` or more
abbrev pub name_from : List ℕ → (limit q : ℕ) → Bool
name_from m limit q = leb limit (two m (q + 3))

-- the first of the places whose name one before it has, or one of the earlier
unfoldable pub repeated_in : List ℕ → (earlier places : List ℕ) → Option ℕ
repeated_in m earlier [] = None
repeated_in m earlier (q ∷ qs) = pick (any (has_name m (two m (q + 3))) earlier) (Some q) (repeated_in m (q ∷ earlier) qs)

-- the name n is marked
abbrev pub is_marked : (seen : List ℕ) (n : ℕ) → Bool
is_marked seen n = eqb (byte seen n) 1

-- of the names below 1,024, those of the 26s from first up to q are marked
abbrev pub Marked : (m seen : List ℕ) (first q : ℕ) → Type 0
Marked m seen first q = (n : ℕ) → n < 1024 → is_marked seen n ≡ any (has_name m n) (fields_in m first q)

-- no name below 1,024 is marked
abbrev pub Unmarked : (seen : List ℕ) → Type 0
Unmarked seen = (n : ℕ) → n < 1024 → is_marked seen n ≡ false

-- one more name is marked, if it is below 1,024
abbrev pub Marks : (seen seen' : List ℕ) (name : ℕ) → Type 0
Marks seen seen' name = (n : ℕ) → n < 1024 → is_marked seen' n ≡ (eqb name n || is_marked seen n)

-- the evaluated 26s that stand at these places
pub data Alike (m : List ℕ) : List Given → List ℕ → Type 0 where
  alike_none : Alike m [] []
  alike : {q : ℕ} {x : Labelled} {gs : List Given} {qs : List ℕ} → Alike m gs qs → Alike m (record { place = q; name = two m (q + 3); content = x } ∷ gs) (q ∷ qs)
