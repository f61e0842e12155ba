-- One law for each way through the loop of `try_patterns`, whose next field is at q.
use Prim.Native.Nat.{ℕ, ◌+◌, ◌≤◌, ◌<◌}
use mathlib.Core.Path.{◌≡◌, sym, ◌∙◌, subst}
use mathlib.Core.Bool.{Bool, true, false}
use mathlib.Core.List.{List}
use Rattle.labels.specs.Sets.{one_label}
use Rattle.labels.specs.Words.{Joins}
use Rattle.values.specs.declared.Value.{Value}
use Rattle.wire.specs.Bytes.{byte, end_of, fields_in}
use Rattle.rules.specs.Arithmetic.{same_value}
use Rattle.places.specs.At.{constant_at}
use Rattle.patterns.specs.Tried.{patterns_at, Matches}
use Rattle.patterns.proofs.Places.{no_pattern_lem, default_first, constant_first}
use Rattle.patterns.proofs.Trying.{Trying, none_left, default_met, constant_equal, constant_passed}
use Rattle.std.specs.Option.{option_or}
use Rattle.std.specs.Prelude.{Option, Some}

-- the labels tried and the default met before q, with the patterns from there on
abbrev pub TriedTo : (m : List ℕ) (first e : ℕ) → Value → (s tried : List ℕ) (met : Option ℕ) (q : ℕ) → Type 0
TriedTo m first e x s tried met q = Trying m first e x s tried met (patterns_at m (fields_in m q e))

module _ (m : List ℕ) (first e : ℕ) (x : Value) (s tried : List ℕ) (met : Option ℕ) (q : ℕ) (i : TriedTo m first e x s tried met q) where
  pub at_end_lem : e ≤ q → Matches m first e x s tried met
  at_end_lem l = none_left (rw (no_pattern_lem m q e l) at i)

  module _ (l : q < e) {t : ℕ} (read : t ≡ byte m (q + 3)) where
    pub at_default : {follows r : ℕ} {d : Option ℕ} → t ≡ 0x1b → follows ≡ end_of m (q + 3) → d ≡ option_or met (Some follows) → r ≡ end_of m q → TriedTo m first e x s tried d r
    at_default h f k n = rw (k, f, n) (default_met (rw (default_first m q e l read h) at i))

    module _ (h : t ≡ 0x1b → ⊥) {label : ℕ} {more : List ℕ} {b : Bool} (labelled : label ≡ byte m (q + 3 + 3)) (joined : Joins tried more (one_label label)) (same : b ≡ same_value x (constant_at m (q + 3)).value) where
      its_label : Joins tried more (one_label (constant_at m (q + 3)).label)
      unfolding constant_at
      its_label = subst (λ (n : ℕ). Joins tried more (one_label n)) labelled joined

      pub at_equal : {follows : ℕ} → b ≡ true → follows ≡ end_of m (q + 3) → Matches m first e x s more (Some follows)
      at_equal g f = rw f (constant_equal (rw (constant_first m q e l read h) at i) its_label (sym same ∙ g))

      pub at_other : {r : ℕ} → b ≡ false → r ≡ end_of m q → TriedTo m first e x s more met r
      at_other g n = rw n (constant_passed (rw (constant_first m q e l read h) at i) its_label (sym same ∙ g))
