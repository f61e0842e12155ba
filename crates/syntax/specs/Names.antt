-- Names that the check before running has found among the strings.
use Rattle.std.specs.Prelude.{ℕ, ◌≡◌, List}
use Rattle.rules.specs.Check.{places_in, names_known}
use Rattle.rules.specs.Verdicts.{no_fault}

-- of the fields from p up to z none holds a name past the n strings
pub record NamesFrom (m : List ℕ) (n z p : ℕ) : Type 0 where
  pub sound : names_known m n (places_in m p z) ≡ no_fault
