-- The patterns of the fields from q to e at their places, for whatever bytes. Assumes nothing.
use Prim.Native.Nat.{ℕ, ◌+◌, ◌≤◌, ◌<◌}
use mathlib.Core.Path.{◌≡◌, sym, ap, ◌∙◌}
use mathlib.Core.List.{List}
use borrow.Author.Tests.{ne_eqb}
use Rattle.wire.specs.Bytes.{byte, end_of, fields_in}
use Rattle.wire.proofs.Fields.{no_fields, field_first}
use Rattle.rules.specs.Patterns.{no_pattern, constant_pattern, default_pattern}
use Rattle.places.specs.At.{constant_at}
use Rattle.patterns.specs.Tried.{patterns_at}
use Rattle.std.specs.Prelude.{Some}

module _ (m : List ℕ) (q e : ℕ) where
  pub no_pattern_lem : e ≤ q → patterns_at m (fields_in m q e) ≡ no_pattern
  unfolding patterns_at
  no_pattern_lem l = ap (patterns_at m) (no_fields m q e l)

  module _ {t : ℕ} (l : q < e) (read : t ≡ byte m (q + 3)) where
    pub default_first : t ≡ 0x1b → patterns_at m (fields_in m q e) ≡ default_pattern (Some (end_of m (q + 3))) (patterns_at m (fields_in m (end_of m q) e))
    unfolding patterns_at
    default_first h = ap (patterns_at m) (field_first m q e l) ∙ rw (sym read ∙ h)

    pub constant_first : (t ≡ 0x1b → ⊥) → patterns_at m (fields_in m q e) ≡ constant_pattern (constant_at m (q + 3)) (Some (end_of m (q + 3))) (patterns_at m (fields_in m (end_of m q) e))
    unfolding patterns_at
    constant_first h = ap (patterns_at m) (field_first m q e l) ∙ rw (sym read, ne_eqb t 0x1b h)
