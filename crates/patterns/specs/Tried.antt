-- The patterns of arms (1A) and of branches (24) at their places, and what trying them tells.
use Rattle.std.specs.Prelude.{ℕ, ◌+◌, ◌≡◌, List, [], ◌∷◌, eqb, Option, Some, None}
use Rattle.labels.specs.Words.{Joins}
use Rattle.values.specs.declared.Value.{Value}
use Rattle.wire.specs.Bytes.{pick, byte, end_of, fields_in}
use Rattle.rules.specs.Patterns.{Patterns, no_pattern, constant_pattern, default_pattern, chosen, tried_labels}
use Rattle.places.specs.At.{constant_at}

-- the patterns of the fields at the places qs, each with the place of what follows it
unfoldable pub patterns_at : List ℕ → (places : List ℕ) → Patterns (Option ℕ)
patterns_at m [] = no_pattern
patterns_at m (q ∷ qs) = pick (eqb (byte m (q + 3)) 0x1b) (default_pattern (Some (end_of m (q + 3))) (patterns_at m qs)) (constant_pattern (constant_at m (q + 3)) (Some (end_of m (q + 3))) (patterns_at m qs))

-- what trying the patterns from q to e tells; their labels were joined to a set
pub record Matches (m : List ℕ) (q e : ℕ) (x : Value) (s s' : List ℕ) (r : Option ℕ) : Type 0 where
  pub at : r ≡ chosen (patterns_at m (fields_in m q e)) x None
  pub labels : Joins s s' (tried_labels (patterns_at m (fields_in m q e)) x)
