-- What follows the patterns at their places: by a function, and what holds of every place where the fields from q to e stand soundly.
use Prim.Native.Nat.{ℕ, ◌+◌, ◌<◌}
use mathlib.Core.Bool.{Bool, true, false}
use mathlib.Core.Path.{◌≡◌}
use mathlib.Core.List.{List, ◌∷◌}
use native.Mathlib.Omega.{arith}
use lib.Dec.{eqb}
use Rattle.wire.specs.Bytes.{pick, byte, end_of, fields_in}
use Rattle.wire.proofs.Fields.{field_first}
use Rattle.rules.specs.Tree.{Constant}
use Rattle.rules.specs.Patterns.{Patterns, constant_pattern, default_pattern}
use Rattle.rules.specs.declared.Kind.{Kind}
use Rattle.rules.proofs.Patterns.{map_patterns, Every, every_none, every_constant, every_default, every_weaker}
use Rattle.places.specs.At.{constant_at, StandsAs, Siblings, ended, sibling}
use Rattle.patterns.specs.Tried.{patterns_at}
use Rattle.patterns.proofs.Places.{no_pattern_lem}
use Rattle.std.specs.Prelude.{Option, Some}

-- patterns that g reads off a tree, of the field at q before others: those at its place, what follows by f
pub mapped_first : {T B : Type 0} (g : T → Patterns B) (f : Option ℕ → B) (m : List ℕ) (q : ℕ) (qs : List ℕ) (default constant : T)
    → g default ≡ default_pattern (f (Some (end_of m (q + 3)))) (map_patterns f (patterns_at m qs)) → g constant ≡ constant_pattern (constant_at m (q + 3)) (f (Some (end_of m (q + 3)))) (map_patterns f (patterns_at m qs))
    → g (pick (eqb (byte m (q + 3)) 0x1b) default constant) ≡ map_patterns f (patterns_at m (q ∷ qs))
unfolding patterns_at map_patterns
mapped_first g f m q qs default constant d c = go (eqb (byte m (q + 3)) 0x1b)
  where
    y : Option ℕ
    y = Some (end_of m (q + 3))

    go : (t : Bool) → g (pick t default constant) ≡ map_patterns f (pick t (default_pattern y (patterns_at m qs)) (constant_pattern (constant_at m (q + 3)) y (patterns_at m qs)))
    go true = d
    go false = c

-- P holds of what follows the pattern of the field at q, and of a later one's
module _ {m : List ℕ} {d e : ℕ} {k : Kind} (P : ℕ → Option ℕ → Type 0) (here : (q : ℕ) → q < e → StandsAs m d k q → P q (Some (end_of m (q + 3)))) (later : (q : ℕ) (y : Option ℕ) → q < e → P (end_of m q) y → P q y) where
  either : {q : ℕ} (t : Bool) (v : Constant) {a : Option ℕ} {ps : Patterns (Option ℕ)} → P q a → Every (P q) ps → Every (P q) (pick t (default_pattern a ps) (constant_pattern v a ps))
  either true v p ps = every_default p ps
  either false v p ps = every_constant p ps

  pub every_follows : {q : ℕ} → Siblings m d k q e → Every (P q) (patterns_at m (fields_in m q e))
  unfolding patterns_at
  every_follows ended = rw (no_pattern_lem m e e (omega arith)) every_none
  every_follows (sibling {q = q} l s r) = rw (field_first m q e l) (either (eqb (byte m (q + 3)) 0x1b) (constant_at m (q + 3)) (here q l s) (every_weaker (every_follows r) (λ y p. later q y l p)))
