-- One law for each way through `store_answer`, `store` and `assign`.
use Prim.Native.Nat.{ℕ, ◌+◌, ◌-◌, ◌≤◌}
use mathlib.Core.Path.{◌≡◌, refl, sym, ap, ◌∙◌}
use mathlib.Core.List.{List}
use native.Mathlib.Omega.{arith}
use lib.ListN.{length}
use Rattle.labels.specs.declared.Labels.{Labels}
use Rattle.labels.specs.Sets.{◌∪◌}
use Rattle.values.specs.declared.Labelled.{Labelled}
use Rattle.values.specs.declared.Refusal.{Refusal}
use Rattle.values.specs.Refusals.{refusal_at}
use Rattle.values.specs.declared.Reason.TheVariants.{AssignedAgain, CellLimit}
use Rattle.wire.specs.Bytes.{byte, two}
use Rattle.rules.specs.Outcome.{Outcome, done, ◌>>=◌, under}
use Rattle.rules.specs.Tree as tree
use Rattle.rules.specs.State.{Entry, State, Known}
use Rattle.rules.specs.State as state
use Rattle.rules.specs.Evaluate.{evaluate}
use Rattle.rules.specs.Run.{Declare, run, store, stored}
use Rattle.rules.specs.declared.Kind.TheVariants.{Statement, Expression}
use Rattle.places.specs.At.{expression_at, statement_at, StandsAs}
use Rattle.places.proofs.Statements.{AssignmentAt, assignment_opens}
use Rattle.cells.specs.Layout.{trail_of}
use Rattle.cells.specs.Scopes.{scope_of}
use Rattle.cells.specs.Memory.{state_of, outcome, Answers}
use Rattle.memory.specs.declared.Context.{Context as Here}
use Rattle.memory.specs.Contexts.{context_of}
use Rattle.evaluator.specs.Answers.{refused_by}
use Rattle.evaluator.specs.Known.{Ready, Tells}
use Rattle.branches.proofs.Standing.{has_level, has_header}
use Rattle.statements.specs.Answers.{ran_as, Keeps, Does, Runs}
use Rattle.std.specs.Prelude.{Result, Ok, Err}
use Rattle.cells.specs.declared.NotStored.{NotStored}
use Rattle.cells.specs.declared.NotStored.TheVariants.{HasValue, NoRoom}

-- ---- Answers

pub ran_done : {a : Result Unit NotStored} (p : ℕ) → a ≡ Ok tt → (st : State) → ran_as (Ok tt) st ≡ outcome a p st
unfolding ran_as outcome
ran_done p e st = rw e

pub ran_again : {a : Result Unit NotStored} {why : Refusal} (p : ℕ) → a ≡ Err HasValue → why ≡ refusal_at AssignedAgain p → (st : State) → ran_as (Err why) st ≡ outcome a p st
unfolding ran_as outcome
ran_again p e h st = rw (e, h)

pub ran_full : {a : Result Unit NotStored} {why : Refusal} (p : ℕ) → a ≡ Err NoRoom → why ≡ refusal_at CellLimit p → (st : State) → ran_as (Err why) st ≡ outcome a p st
unfolding ran_as outcome
ran_full p e h st = rw (e, h)

pub keeps_same : (w : List ℕ) → Keeps w w
keeps_same w = record { names = refl; rest = refl; fine = λ f. f }

-- ---- Stores

pub condition_set_way : {around t u : Labels} (own : Labels) → t ≡ around → u ≡ t ∪ own → u ≡ around ∪ own
condition_set_way own e f = f ∙ ap (λ (k : Labels). k ∪ own) e

pub store_way : {w w' : List ℕ} {here : Here} {set : Labels} {y : Labelled} {a : Result Unit NotStored} (p name : ℕ) (x : Labelled) (answer : Result Unit Refusal) → set ≡ here.path ∪ trail_of w → y ≡ under set x → Answers w w' a (λ q. state.assign q (scope_of here.scope.number) name y) → ((st : State) → ran_as answer st ≡ outcome a p st) → Does w w' here (ran_as answer) (λ c. store c p name x)
unfolding store stored state_of
store_way {w} {w'} {here} p name x answer e u i told = record {
  says = λ es n r. told (state_of w' es n r) ∙ i.state p es n r ∙ ap (λ (z : Labelled). state.assign p (scope_of here.scope.number) name z (state_of w es n r)) (u ∙ ap (λ (k : Labels). under k x) e);
  keeps = record { names = i.names; rest = i.rest; fine = i.fine };
}

-- ---- Assignments

pub assignment_here : {m : List ℕ} {d p : ℕ} → StandsAs m d Statement p → byte m p ≡ 0x21 → AssignmentAt m d (d - 1) p
assignment_here s tag = assignment_opens s.stands (has_level s) tag

pub value_place : {m : List ℕ} {d p : ℕ} → StandsAs m d Statement p → byte m p ≡ 0x21 → length m ≤ 65535 → p + 5 ≤ 65535
value_place s tag l = omega (arith, has_header (assignment_here s tag).value)

module _ {m w out : List ℕ} {d p fill : ℕ} (here : Here) (s : StandsAs m d Statement p) (tag : byte m p ≡ 0x21) {o : Outcome Labelled} (told : StandsAs m (d - 1) Expression (p + 5) → Tells m w out fill here.scope o (λ k c st. evaluate k c st (expression_at m (d - 1) (p + 5)))) where
  assign_run : {o' : Outcome Labelled} → o ≡ o' → (k : Known) (declare : Declare) (es : List Entry) (n r : ℕ) → Ready m w out fill k es → (o' >>= λ x. store (context_of here) p (two m (p + 3)) x (state_of w es n r)) ≡ run k declare (statement_at m d p) (context_of here) (state_of w es n r)
  unfolding run
  assign_run h k declare es n r ready =
      let st = state_of w es n r in
      let at = assignment_here s tag in
      ap (λ (o : Outcome Labelled). o >>= λ x. store (context_of here) p (two m (p + 3)) x st) (sym h ∙ (told at.value).says k here.path es n r ready) ∙ ap (λ (t : tree.Statement). run k declare t (context_of here) st) (sym at.tree)

  pub assign_refused : {answer : Result Unit Refusal} (why : Refusal) → answer ≡ Err why → o ≡ refused_by why → Runs m w w out fill here answer (statement_at m d p)
  unfolding ran_as ◌>>=◌
  assign_refused why handed_on h = record {
    says = λ k declare es n r ready. ap (λ (a : Result Unit Refusal). ran_as a (state_of w es n r)) handed_on ∙ assign_run h k declare es n r ready;
    keeps = keeps_same w;
  }

  pub assign_stored : {w' : List ℕ} {name : ℕ} (answer : Result Unit Refusal) (x : Labelled) → o ≡ done x → name ≡ two m (p + 3) → Does w w' here (ran_as answer) (λ c. store c p name x) → Runs m w w' out fill here answer (statement_at m d p)
  unfolding ◌>>=◌
  assign_stored answer x h l i = record {
    says = λ k declare es n r ready. i.says es n r ∙ ap (λ (q : ℕ). store (context_of here) p q x (state_of w es n r)) l ∙ assign_run h k declare es n r ready;
    keeps = i.keeps;
  }
