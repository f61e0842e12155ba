-- The node that runs, by its place: "The first node item naming the device, or else the first default one, runs its block in node scope, where
-- it stands; other node items do nothing."
use Rattle.std.specs.Prelude.{ℕ, ◌+◌, Bool, false, ◌&&◌, ◌||◌, not, List, [], ◌∷◌, eqb, length, Option as CodeOption, Some, None}
use Rattle.std.proofs.Math.Option.{Option, none, some}
use Rattle.rules.specs.Bytes.{pick, byte, two, end_of, fields_in}
use Rattle.rules.specs.Compile.{same_bytes, string_at}
use Rattle.syntax.specs.Strings.{string_texts}

-- the items
unfoldable pub item_places : List ℕ → List ℕ
item_places m = fields_in m (end_of m 0) (length m)

-- whether a 31 names the device, among the fields at the places given, up to the first that is none
unfoldable pub some_names : (m device : List ℕ) → List ℕ → Bool
some_names m device [] = false
some_names m device (q ∷ qs) = pick (eqb (byte m q) 0x31) (same_bytes (string_at (string_texts m) (two m (q + 3))) device || some_names m device qs) false

-- the item at p is a node that names the device, or a default one
unfoldable pub names_device : (m device : List ℕ) → ℕ → Bool
names_device m device p = eqb (byte m p) 0x30 && some_names m device (fields_in m (p + 3) (end_of m p))

unfoldable pub is_default_at : List ℕ → ℕ → Bool
is_default_at m p = eqb (byte m p) 0x30 && eqb (byte m (p + 3)) 0x1b

unfoldable pub first_at : (ℕ → Bool) → List ℕ → Option ℕ
first_at f [] = none
first_at f (p ∷ ps) = pick (f p) (some p) (first_at f ps)

unfoldable pub or_first : Option ℕ → Option ℕ → Option ℕ
or_first none q = q
or_first (some p) q = some p

-- the place of the node that runs for the device
unfoldable pub node_for : (m device : List ℕ) → Option ℕ
node_for m device = or_first (first_at (names_device m device) (item_places m)) (first_at (is_default_at m) (item_places m))

-- the default node met before, or else the item at p, if it is one
unfoldable pub default_with : List ℕ → (met : CodeOption ℕ) → (p : ℕ) → CodeOption ℕ
default_with m (Some q) p = Some q
default_with m None p = pick (is_default_at m p) (Some p) None

-- an item that runs: one that is no node, or the node chosen
unfoldable pub runs_at : List ℕ → Option ℕ → ℕ → Bool
runs_at m none p = not (eqb (byte m p) 0x30)
runs_at m (some q) p = not (eqb (byte m p) 0x30) || eqb p q

-- of the items at the places given, those that run
unfoldable pub running : List ℕ → Option ℕ → List ℕ → List ℕ
running m c [] = []
running m c (p ∷ ps) = pick (runs_at m c p) (p ∷ running m c ps) (running m c ps)
