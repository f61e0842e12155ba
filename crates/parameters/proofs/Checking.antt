-- The ways of `check_parameters`. Assumes nothing.
use Prim.Native.Nat.{ℕ}
use mathlib.Core.Path.{◌≡◌, sym, ap, ◌∙◌}
use mathlib.Core.List.{List, []}
use native.Mathlib.Omega.{arith}
use Rattle.values.specs.Refusals.{refusal_at}
use Rattle.values.specs.declared.Reason.TheVariants.{UnknownParameter, MissingParameter, AttributeAgain}
use Rattle.wire.specs.Bytes.{fields_in}
use Rattle.rules.specs.Outcome.{Outcome, refused, done, ◌>>=◌}
use Rattle.rules.specs.Tree as tree
use Rattle.rules.specs.Run.{Given, named_once, parameters_known, parameter_values}
use Rattle.rules.specs.declared.Kind.TheVariants.{Parameter}
use Rattle.places.specs.At.{parameters_at, Siblings}
use Rattle.attributes.specs.Names.{repeated_in, Alike}
use Rattle.attributes.specs.Table.{Gives}
use Rattle.attributes.proofs.Repeats.{repeated_outcome, named_places}
use Rattle.parameters.specs.Places.{unknown_in, missing_in}
use Rattle.parameters.specs.Checked.{check_given, Checked, refused_so, checked_so, SmallNames}
use Rattle.parameters.proofs.Laws.{unknown_outcome, known_places, Valued, misses_at, valued, missing_places}
use Rattle.std.specs.Prelude.{Option, Some, None, Result, Ok, Err}
use Rattle.values.specs.declared.Refusal.{Refusal}

-- ---- The checks one after the other

module _ (ps : List tree.Parameter) (gs : List Given) where
  not_known : {q : ℕ} → parameters_known ps gs ≡ refused UnknownParameter q → check_given ps gs ≡ refused UnknownParameter q
  unfolding check_given ◌>>=◌
  not_known e = rw e

  not_valued : {q : ℕ} → parameters_known ps gs ≡ done tt → parameter_values ps gs ≡ refused MissingParameter q → check_given ps gs ≡ refused MissingParameter q
  unfolding check_given ◌>>=◌
  not_valued e f = rw (e, f)

  named_twice : {q : ℕ} {vs : List Given} → parameters_known ps gs ≡ done tt → parameter_values ps gs ≡ done vs → named_once [] gs ≡ refused AttributeAgain q → check_given ps gs ≡ refused AttributeAgain q
  unfolding check_given ◌>>=◌
  named_twice e f g = rw (e, f, g)

  all_right : {vs : List Given} → parameters_known ps gs ≡ done tt → parameter_values ps gs ≡ done vs → named_once [] gs ≡ done tt → check_given ps gs ≡ done vs
  unfolding check_given ◌>>=◌
  all_right e f g = rw (e, f, g)

  valued_not : {p : Option ℕ} {q : ℕ} → Valued (parameter_values ps gs) p → p ≡ Some q → parameter_values ps gs ≡ refused MissingParameter q
  valued_not (misses_at e) h = cc
  valued_not (valued vs e) h = absurd (let z : ◌≡◌ {A = ℕ} 0 1 = cc in omega arith)

-- the values of parameters none of which misses one
record AllValued (o : Outcome (List Given)) : Type 0 where
  values : List Given
  are : o ≡ done values

all_valued : {o : Outcome (List Given)} {p : Option ℕ} → Valued o p → p ≡ None → AllValued o
all_valued (misses_at e) h = absurd (let z : ◌≡◌ {A = ℕ} 0 1 = cc in omega arith)
all_valued (valued vs e) h = record { values = vs; are = e }

-- ---- The ways

abbrev pub Checks : (m t : List ℕ) → (first end from to : ℕ) → Result Unit Refusal → Type 0
Checks m t first end from to r = (gs : List Given) → Gives t gs → Alike m gs (fields_in m first end) → Siblings m 31 Parameter from to → SmallNames m (fields_in m from to) → Checked (parameters_at m (fields_in m from to)) gs r

module _ (m t : List ℕ) (first end from to : ℕ) {unknown : Option ℕ} (looked : unknown ≡ unknown_in m (fields_in m from to) (fields_in m first end)) where
  abbrev ps : List tree.Parameter
  ps = parameters_at m (fields_in m from to)

  pub check_unknown : {q : ℕ} {r : Result Unit Refusal} → unknown ≡ Some q → r ≡ Err (refusal_at UnknownParameter q) → Checks m t first end from to r
  unfolding unknown_outcome
  check_unknown is answer gs g a s small = rw answer (refused_so (not_known ps gs (known_places m (fields_in m from to) a ∙ ap unknown_outcome (sym looked ∙ is))))

  module _ (none : unknown ≡ None) {missing : Option ℕ} (sought : missing ≡ missing_in m t (fields_in m from to)) where
    known : {gs : List Given} → Alike m gs (fields_in m first end) → parameters_known ps gs ≡ done tt
    unfolding unknown_outcome
    known a = known_places m (fields_in m from to) a ∙ ap unknown_outcome (sym looked ∙ none)

    pub check_missing : {q : ℕ} {r : Result Unit Refusal} → missing ≡ Some q → r ≡ Err (refusal_at MissingParameter q) → Checks m t first end from to r
    check_missing is answer gs g a s small = rw answer (refused_so (not_valued ps gs (known a) (valued_not ps gs (missing_places m g small) (sym sought ∙ is))))

    module _ (found : missing ≡ None) {again : Option ℕ} (repeated : again ≡ repeated_in m [] (fields_in m first end)) where
      pub check_twice : {q : ℕ} {r : Result Unit Refusal} → again ≡ Some q → r ≡ Err (refusal_at AttributeAgain q) → Checks m t first end from to r
      unfolding repeated_outcome
      check_twice is answer gs g a s small =
          let v = all_valued (missing_places m g small) (sym sought ∙ found) in
          rw answer (refused_so (named_twice ps gs (known a) v.are (named_places m repeated a ∙ ap repeated_outcome is)))

      pub check_right : again ≡ None → Checks m t first end from to (Ok tt)
      unfolding repeated_outcome
      check_right is gs g a s small =
          let v = all_valued (missing_places m g small) (sym sought ∙ found) in
          checked_so v.values (all_right ps gs (known a) v.are (named_places m repeated a ∙ ap repeated_outcome is))
