-- What the functions of items are given.
use Rattle.std.specs.Prelude.{ℕ, ◌≡◌, List}
use Rattle.rules.specs.Bytes.{byte}
use Rattle.rules.specs.declared.Kind.TheVariants.{Item}
use Rattle.places.specs.At.{StandsAs}
use Rattle.statement_printer.specs.Passing.{Source}

-- at p stands an item with the tag t
pub record ItemHere (m table : List ℕ) (strings p t : ℕ) : Type 0 where
  pub source : Source m table strings
  pub stands : StandsAs m 32 Item p
  pub tag : byte m p ≡ t
