-- What an outcome that ends well says of its steps.
use Prim.Native.Nat.{ℕ}
use mathlib.Core.Path.{◌≡◌, refl}
use mathlib.Core.Bool.{Bool, true, false}
use mathlib.Core.Option.{Option, none, some}
use native.Mathlib.Omega.{arith}
use Rattle.values.specs.declared.Reason.{Reason}
use Rattle.rules.specs.Compile.{checked}
use Rattle.rules.specs.Outcome.{Outcome, refused, done, ◌>>=◌, refuse_if}
use Rattle.notation.specs.Convert.{refuse_at}
use Rattle.std.specs.Prelude.{Ok, Err}
use Rattle.rules.specs.Verdicts.{Verdict, no_fault}

pub refused_not_done : {A B : Type 0} {r : Reason} {p : ℕ} {a : A} → refused r p ≡ done a → B
refused_not_done e = absurd (let z : ◌≡◌ {A = ℕ} 0 1 = cc in omega arith)

-- two steps that end well
pub record Both {A B : Type 0} (o : Outcome A) (f : A → Outcome B) (z : B) : Type 0 where
  pub between : A
  pub before : o ≡ done between
  pub behind : f between ≡ done z

-- what ends well in two steps does so in each
pub both_done_lem : {A B : Type 0} (o : Outcome A) (f : A → Outcome B) (z : B) → (o >>= f) ≡ done z → Both o f z
unfolding ◌>>=◌
both_done_lem (refused x p) f z e = refused_not_done e
both_done_lem (done a) f z e = record { between = a; before = refl; behind = e }

-- a test that does not refuse
pub not_refused : (b : Bool) (x : Reason) (p : ℕ) {z : Unit {0}} → refuse_if b x p ≡ done z → b ≡ false
unfolding refuse_if
not_refused true x p e = refused_not_done e
not_refused false x p e = refl

-- nothing was found to refuse
pub not_refused_at : (o : Option ℕ) (x : Reason) {z : Unit {0}} → refuse_at o x ≡ done z → o ≡ none
unfolding refuse_at
not_refused_at none x e = refl
not_refused_at (some p) x e = refused_not_done e

-- a check that found no fault
pub checked_sound : (v : Verdict) {z : Unit {0}} → checked v ≡ done z → v ≡ no_fault
unfolding checked
checked_sound (Ok tt) e = refl
checked_sound (Err f) e = refused_not_done e
