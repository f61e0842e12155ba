-- What an evaluation tells for which a set without labels was lent: its labels are then the value's own. Assumes nothing.
use Prim.Native.Nat.{ℕ}
use mathlib.Core.Path.{◌≡◌, sym, ap, ◌∙◌}
use mathlib.Core.List.{List}
use Rattle.std.specs.Prelude.{Ok, Err}
use Rattle.labels.specs.declared.Labels.{Labels}
use Rattle.labels.specs.Sets.{no_labels}
use Rattle.labels.specs.Words.{labels_in}
use Rattle.values.specs.declared.Value.{Value}
use Rattle.values.specs.declared.Labelled.{Labelled}
use Rattle.values.specs.declared.Refusal.{Refusal}
use Rattle.rules.specs.Outcome.{Outcome, joining}
use Rattle.cells.specs.Memory.{state_of}
use Rattle.memory.specs.declared.Scope.{Scope}
use Rattle.memory.specs.Contexts.{context_in}
use Rattle.evaluator.specs.Answers.{Evaluated, refused_by, value_with, answered}
use Rattle.evaluator.specs.Known.{Tells, TellsJoined}
use Rattle.evaluator.proofs.Outcomes.{joining_none, value_answered, refusal_answered}
use Rattle.evaluator.proofs.Expressions.{Run}

module _ {m w out : List ℕ} {fill : ℕ} {scope : Scope} {s s' : List ℕ} {e : Evaluated} {f : Run} (none : labels_in s ≡ no_labels) (told : TellsJoined m w out fill scope s s' e f) where
  -- the answer with the set that it left
  pub fresh_told : {o : Outcome Labelled} → answered e (labels_in s') ≡ o → Tells m w out fill scope o f
  fresh_told is = record {
    says = λ k path es n r h.
        let run = f k (context_in scope path) (state_of w es n r) in
        sym is ∙ told.says k path es n r h ∙ ap (λ (l : Labels). joining l run) none ∙ joining_none run;
  }

  pub fresh_refusal : {why : Refusal} → e ≡ Err why → Tells m w out fill scope (refused_by why) f
  fresh_refusal refuses = fresh_told (refusal_answered refuses (labels_in s'))

  pub fresh_value : {v : Value} {l : Labels} → e ≡ Ok v → l ≡ labels_in s' → Tells m w out fill scope (value_with v l) f
  fresh_value {v} yields read = fresh_told (value_answered yields (labels_in s') ∙ ap (value_with v) (sym read))
