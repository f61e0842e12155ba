-- The names before anything runs, and the node that runs.
use Rattle.std.specs.Prelude.{ℕ, suc, ◌+◌, ◌<◌, ◌≡◌, Bool, true, ◌||◌, List, [], ◌∷◌, eqb}
use Rattle.wire.specs.Bytes.{pick, byte}
use Rattle.rules.specs.Check.{text}
use Rattle.rules.specs.Tree.{node, Constant}
use Rattle.rules.specs.Read.{manifest_of}
use Rattle.rules.specs.Types.{Types}
use Rattle.rules.specs.Compile.{known_with, room_in, start}
use Rattle.rules.specs.declared.Kind.TheVariants.{Block}
use Rattle.places.specs.At.{block_at, item_at, devices_at, StandsAs}
use Rattle.syntax.specs.Strings.{is_built_in_text}
use Rattle.cells.specs.Memory.{Names, state_of, Fine}
use Rattle.memory.specs.Names.{with_built_in, title_of, NoIndex}
use Rattle.evaluator.specs.Known.{KnownIn}
use Rattle.declarations.specs.Standing.{NamesKnown, Set}
use Rattle.memory.specs.Words.{word_of}

-- the string n, at q, is marked if it names a built-in type
unfoldable pub mark_string : Types → List ℕ → (n q : ℕ) → Names → Names
mark_string types m n q ns = pick (is_built_in_text types (text m q)) (with_built_in n true ns) ns

-- so is each of the strings at the places given, which are numbered from n on
unfoldable pub mark_strings : Types → List ℕ → (n : ℕ) → (places : List ℕ) → Names → Names
mark_strings types m n [] ns = ns
mark_strings types m n (q ∷ qs) ns = mark_strings types m (suc n) qs (mark_string types m n q ns)

-- the memory w is as before the first item runs, and knows what is known but for definitions, with so many constants struck out
pub record Prepares (types : Types) (m w : List ℕ) (struck_out : Constant → Bool) : Type 0 where
  pub set : Set m w
  pub fine : Fine w
  pub known : KnownIn m w (known_with struck_out types (manifest_of m).strings [])
  pub title : title_of w ≡ (known_with struck_out types (manifest_of m).strings []).title
  pub state : (limit output : ℕ) → state_of w [] limit (room_in output) ≡ start limit output
  pub index : NoIndex w

-- the words after the first are 0: nothing is struck out, and nothing is asked about
pub record Blank (w : List ℕ) : Type 0 where
  pub words : (i : ℕ) → 0 < i → i < 15 → word_of w i ≡ 0

-- a device's name or a default
unfoldable pub is_device_at : List ℕ → (q : ℕ) → Bool
is_device_at m q = eqb (byte m q) 0x31 || eqb (byte m q) 0x1b

-- the block of the node at p is at r
pub record NodeBlock (m : List ℕ) (p r : ℕ) : Type 0 where
  pub tree : item_at m p ≡ node (devices_at m (p + 3) r) (block_at m 31 r)
  pub stands : StandsAs m 31 Block r
  pub names : NamesKnown m r
