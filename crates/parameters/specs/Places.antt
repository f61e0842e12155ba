-- What is looked for among the 26s of a declaration and the 33s of a definition, by their places in the manifest.
use Rattle.std.specs.Prelude.{ℕ, ◌+◌, List, [], ◌∷◌, ◌++◌, Option as CodeOption, Some, None}
use Rattle.std.proofs.Math.Option.{Option, none, some}
use Rattle.values.specs.declared.Labelled.{Labelled}
use Rattle.wire.specs.Bytes.{pick, two}
use Rattle.rules.specs.Evaluate.{any}
use Rattle.rules.specs.Run.{default_of}
use Rattle.places.specs.At.{default_at}
use Rattle.attributes.specs.Names.{has_name}
use Rattle.attributes.specs.Table.{given_at}
use Rattle.rules.specs.Tree.{Constant}

-- the first of the 26s at `places` whose name none of the 33s has
unfoldable pub unknown_in : List ℕ → (parameters places : List ℕ) → CodeOption ℕ
unknown_in m ps [] = None
unknown_in m ps (q ∷ qs) = pick (any (has_name m (two m (q + 3))) ps) (unknown_in m ps qs) (Some q)

-- the value in the table, or else the default
unfoldable pub or_default : Option Labelled → Option Labelled → Option Labelled
or_default none d = d
or_default (some x) d = some x

-- of the 33 at q
unfoldable pub parameter_value : (m table : List ℕ) → (q : ℕ) → Option Labelled
parameter_value m t q = or_default (given_at t (two m (q + 3))) (default_of (default_at m q))

-- the first of the 33s at these places that has neither
unfoldable pub or_missing : (q : ℕ) → Option Labelled → CodeOption ℕ → CodeOption ℕ
or_missing q none after = Some q
or_missing q (some x) after = after

unfoldable pub missing_in : (m table : List ℕ) → (places : List ℕ) → CodeOption ℕ
missing_in m t [] = None
missing_in m t (q ∷ qs) = or_missing q (parameter_value m t q) (missing_in m t qs)

-- the default that the 33 at q takes, if the table gives it nothing
unfoldable pub of_default : Option Labelled → Option Constant → List Constant
of_default (some x) d = []
of_default none none = []
of_default none (some v) = v ∷ []

unfoldable pub defaults_in : (m table : List ℕ) → (places : List ℕ) → List Constant
defaults_in m t [] = []
defaults_in m t (q ∷ qs) = of_default (given_at t (two m (q + 3))) (default_at m q) ++ defaults_in m t qs
