-- How a part of a compile ends: with a result, or refused at a place.
use Rattle.std.specs.Prelude.{ℕ, Bool, true, false}
use Rattle.std.proofs.Math.Option.{Option, none, some}
use Rattle.values.specs.declared.Reason.{Reason}
use Rattle.values.specs.declared.Labelled.{Labelled}
use Rattle.values.specs.declared.Value.{Value}
pub use Rattle.values.specs.Labelled.{under}
use Rattle.labels.specs.declared.Labels.{Labels}
use Rattle.labels.specs.Sets.{no_labels}

infixl 10 ◌>>=◌
pub data Outcome (A : Type 0) : Type 0 where
  refused : Reason → (place : ℕ) → Outcome A
  done : A → Outcome A

-- one after the other: "Evaluation refuses at the first reason met"
unfoldable pub ◌>>=◌ : {A B : Type 0} → Outcome A → (A → Outcome B) → Outcome B
◌>>=◌ (refused r p) f = refused r p
◌>>=◌ (done a) f = f a

-- a check that refuses where the test holds
unfoldable pub refuse_if : Bool → Reason → ℕ → Outcome (Unit {0})
refuse_if true r p = refused r p
refuse_if false r p = done tt

-- what may be missing, or the refusal
unfoldable pub or_refuse : {A : Type 0} → Option A → Reason → ℕ → Outcome A
or_refuse none r p = refused r p
or_refuse (some a) r p = done a

-- what an operation on values gives: it knows no places, and `at` adds the one concerned
pub data Result (A : Type 0) : Type 0 where
  fails : Reason → Result A
  gives : A → Result A

unfoldable pub at : {A : Type 0} → ℕ → Result A → Outcome A
at p (fails r) = refused r p
at p (gives a) = done a

-- ---- Values with their sets

-- a value that no label decides by itself
abbrev pub plain : Value → Outcome Labelled
plain v = done (record { value = v; labels = no_labels })

-- the same outcome, its value under more labels
unfoldable pub joining : Labels → Outcome Labelled → Outcome Labelled
joining set m = m >>= λ x. done (under set x)
