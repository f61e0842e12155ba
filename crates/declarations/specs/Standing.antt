-- The definitions that the memory knows stand in the manifest.
use Rattle.std.specs.Prelude.{ℕ, ◌≤◌, ◌<◌, ◌≡◌, List, eqb, length, Option, Some, None}
use Rattle.wire.specs.Bytes.{pick, byte}
use Rattle.rules.specs.Check.{string_places}
use Rattle.rules.specs.declared.Kind.TheVariants.{Item}
use Rattle.places.specs.At.{StandsAs}
use Rattle.syntax.specs.Names.{NamesFrom}
use Rattle.cells.specs.Memory.{definition_of}
use Rattle.summaries.specs.Summaries.{Summarized}

-- from p on, no name of the manifest is past its strings
abbrev pub NamesKnown : List ℕ → ℕ → Type 0
NamesKnown m p = NamesFrom m (length (string_places m)) (length m) p

-- at p stands an item, unless p is 0
pub data Defined (m : List ℕ) (p : ℕ) : Type 0 where
  undefined : p ≡ 0 → Defined m p
  defined : 0 < p → StandsAs m 32 Item p → NamesKnown m p → Defined m p

-- the memory w is long enough, and what it says of the manifest m is right
pub record Set (m w : List ℕ) : Type 0 where
  pub memory : 65536 ≤ length w
  pub manifest : length m ≤ 65535
  pub strings : length (string_places m) ≤ 1024
  pub definitions : (n : ℕ) → Defined m (definition_of w n)
  pub summaries : Summarized m w

-- where the definition of the name n is, if its tag is t
unfoldable pub definition_with : (m w : List ℕ) → (n t : ℕ) → Option ℕ
definition_with m w n t = pick (eqb (definition_of w n) 0) None (pick (eqb (byte m (definition_of w n)) t) (Some (definition_of w n)) None)
