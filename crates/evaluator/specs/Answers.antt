-- What the evaluator's answers mean, with the set that was lent for their labels.
use Rattle.std.specs.Prelude.{ℕ, ◌≡◌, List, Result, Ok, Err}
use Rattle.labels.specs.declared.Labels.{Labels}
use Rattle.labels.specs.Sets.{no_labels}
use Rattle.labels.specs.Words.{labels_in, Grows}
use Rattle.values.specs.declared.Value.{Value}
use Rattle.values.specs.declared.Labelled.{Labelled}
use Rattle.values.specs.declared.Refusal.{Refusal}
use Rattle.rules.specs.Outcome.{Outcome, refused, done, joining}

-- what each part of an expression answers
abbrev pub Evaluated : Type 0
Evaluated = Result Value Refusal

-- the outcome that a refusal stands for
abbrev pub refused_by : {A : Type 0} → Refusal → Outcome A
refused_by why = refused why.reason why.place

abbrev pub value_with : Value → Labels → Outcome Labelled
value_with v k = done (record { value = v; labels = k })

-- an answer, with the labels k for its value
unfoldable pub answered : Evaluated → Labels → Outcome Labelled
answered (Ok v) k = value_with v k
answered (Err why) k = refused_by why

-- an answer that no label decides by itself
abbrev pub evaluated : Evaluated → Outcome Labelled
evaluated e = answered e no_labels

-- the set s was lent and became s': it has what it had, and the answer with it is the outcome o with what it had joined to the labels.
-- So after a value it is the union of what it was and the value's labels; after a refusal it has what it had, and may have more.
pub record Joined (s s' : List ℕ) (e : Evaluated) (o : Outcome Labelled) : Type 0 where
  pub grows : Grows s s'
  pub says : answered e (labels_in s') ≡ joining (labels_in s) o
