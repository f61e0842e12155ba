-- What a call hands on as its list of types, and the table of its places in which a type is looked up.
use Rattle.std.specs.Prelude.{ℕ, ◌*◌, ◌-◌, ◌<◌, ◌≤◌, ◌≡◌, true, false, List, [], ◌∷◌, length, get_or}
use Rattle.rules.specs.Bytes.{two}
use Rattle.rules.specs.Check.{ascends, text}
use Rattle.rules.specs.Types.{Types, the_eight, lent, type_places, check_types}
use Rattle.rules.specs.Verdicts.{no_fault}

-- an empty list stands for none, and means the eight: one that is lent is empty only where it is at fault
unfoldable pub chosen : (list : List ℕ) → Types
chosen [] = the_eight
chosen (b ∷ bs) = lent (b ∷ bs)

-- a list without fault, and a table that has the place of each of its types
pub record Listed (list index : List ℕ) (count : ℕ) : Type 0 where
  pub sound : check_types (chosen list) ≡ no_fault
  pub many : count ≡ length (type_places list)
  pub place : (n : ℕ) → n < count → two index (2 * n) ≡ get_or (type_places list) n 0

-- the type with this number
unfoldable pub type_at : (list : List ℕ) → ℕ → List ℕ
type_at list n = text list (get_or (type_places list) n 0)

-- where a text belongs among the types: i of them come before it
pub record Belongs (list : List ℕ) (count : ℕ) (x : List ℕ) (i : ℕ) : Type 0 where
  pub within : i ≤ count
  pub behind : 0 < i → ascends (type_at list (i - 1)) x ≡ true
  pub before : i < count → ascends (type_at list i) x ≡ false
