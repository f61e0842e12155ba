-- Definitions as they are gathered.
use Rattle.std.specs.Prelude.{ℕ, ◌<◌, ◌≡◌, ◌⊎◌, false, List, ◌∷◌, Result, Ok, Err}
use Rattle.wire.specs.Bytes.{byte}
use Rattle.values.specs.declared.Refusal.{Refusal}
use Rattle.rules.specs.Tree.{Definition, definition}
use Rattle.rules.specs.State.{Entry, Known}
use Rattle.rules.specs.Run.{defined_name, is_taken, gather_definitions}
use Rattle.rules.specs.declared.Kind.TheVariants.{Item}
use Rattle.places.specs.At.{item_at, items_at, StandsAs}
use Rattle.cells.specs.Layout.{rest_of}
use Rattle.cells.specs.Memory.{state_of, Fine}
use Rattle.evaluator.specs.Answers.{refused_by}
use Rattle.evaluator.specs.Known.{KnownIn}
use Rattle.declarations.specs.Standing.{NamesKnown, Set}

-- at p stands an item, after the string table
pub record ItemStands (m : List ℕ) (p : ℕ) : Type 0 where
  pub after : 0 < p
  pub stands : StandsAs m 32 Item p
  pub names : NamesKnown m p

-- the item at p is a definition
abbrev pub IsDefinition : List ℕ → ℕ → Type 0
IsDefinition m p = (byte m p ≡ 0x32) ⊎ (byte m p ≡ 0x34)

-- the same is known, but of definitions these
unfoldable pub with_definitions : List Definition → Known → Known
with_definitions ds k = record { built_in = k.built_in; title = k.title; definitions = ds; struck_out = k.struck_out }

-- from w to w' what is known of definitions changes, and all else stays
pub record OnlyNames (m w w' : List ℕ) : Type 0 where
  pub set : Set m w'
  pub fine : Fine w → Fine w'
  pub rest : rest_of w' ≡ rest_of w
  pub state : (es : List Entry) (n r : ℕ) → state_of w' es n r ≡ state_of w es n r

-- from w to w' the definition at p becomes known
pub record Defines (m : List ℕ) (p : ℕ) (w w' : List ℕ) : Type 0 where
  pub only : OnlyNames m w w'
  pub known : (k : Known) (d : Definition) → item_at m p ≡ definition d → is_taken k.built_in k.definitions (defined_name d) ≡ false → KnownIn m w k → KnownIn m w' (with_definitions (d ∷ k.definitions) k)

-- behind what is known, of the items at `from` those at `to` are left to be gathered, and w' knows the others
pub record KnownTo (m w' : List ℕ) (from to : List ℕ) (k : Known) : Type 0 where
  pub definitions : List Definition
  pub left : gather_definitions k.built_in k.definitions (items_at m from) ≡ gather_definitions k.built_in definitions (items_at m to)
  pub known : KnownIn m w' (with_definitions definitions k)

-- from w to w' the items at `from` were gathered up to those at `to`, or a name was taken
pub data GathersTo (m w w' : List ℕ) (from to : List ℕ) : Result Unit Refusal → Type 0 where
  taken_so : {why : Refusal} → ((k : Known) → KnownIn m w k → gather_definitions k.built_in k.definitions (items_at m from) ≡ refused_by why) → GathersTo m w w' from to (Err why)
  known_so : OnlyNames m w w' → ((k : Known) → KnownIn m w k → KnownTo m w' from to k) → GathersTo m w w' from to (Ok tt)
