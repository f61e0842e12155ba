-- What marking names makes of the working memory.
use Rattle.std.specs.Prelude.{ℕ, ◌≡◌, Bool, false, List, Result}
use Rattle.labels.specs.declared.Labels.{Labels}
use Rattle.rules.specs.State.{Scope, Entry, Context}
use Rattle.rules.specs.Run.{after_test}
use Rattle.cells.specs.Memory.{state_of, names_of, Fine, outcome}
use Rattle.cells.specs.Layout.{rest_of}
use Rattle.cells.specs.declared.NotStored.{NotStored}

-- from w to w' the set k joins the marks of the names f in the scope s, as after the test of a condition; the bytes of others stay, and so do the names
pub record Marks (w w' : List ℕ) (answer : Result Unit NotStored) (s : Scope) (f : ℕ → Bool) (k : Labels) : Type 0 where
  pub state : (c : Context) → c.scope ≡ s → (p : ℕ) (es : List Entry) (n r : ℕ) → outcome answer p (state_of w' es n r) ≡ after_test p c f false k (state_of w es n r)
  pub names : names_of w' ≡ names_of w
  pub rest : rest_of w' ≡ rest_of w
  pub fine : Fine w → Fine w'
