-- One law for each way through `enter`: the marks, and the trail if a branch declares. And what `enter_condition` makes of it.
use Prim.Native.Nat.{ℕ}
use mathlib.Core.Path.{◌≡◌, refl, sym, ap, ◌∙◌}
use mathlib.Core.Bool.{Bool, true, false}
use mathlib.Core.List.{List}
use lib.ListN.{replicate}
use Rattle.labels.specs.declared.Labels.{Labels}
use Rattle.rules.specs.Outcome.{Outcome, refused, done, ◌>>=◌}
use Rattle.rules.specs.State.{Scope, Entry, State, Context, new_cells, cells_for, tested, trail_with}
use Rattle.rules.specs.Run.{after_test}
use Rattle.cells.specs.Scopes.{scope_of}
use Rattle.cells.specs.Memory.{state_of, outcome, trailed, Becomes}
use Rattle.memory.specs.declared.Context.{Context as Here}
use Rattle.memory.specs.Contexts.{context_of}
use Rattle.branches.specs.Names.{contains}
use Rattle.places.specs.At.{statement_at}
use Rattle.cells.proofs.Others.{others_byte}
use Rattle.branches.specs.declared.collected.Collected.{Collected}
use Rattle.branches.specs.Texts.{Text, text_of, held}
use Rattle.branches.specs.Marks.{Marks}
use Rattle.summaries.specs.Summaries.{Notes, Summarizes}
use Rattle.summaries.proofs.Summaries.{summarized_still, notes_stay}
use Rattle.summaries.proofs.Walks.{own_text}
use Rattle.statements.specs.Answers.{ran_as, Keeps, Preserves, Does}
use Rattle.statements.specs.Tests.{after_text, Decides}
use Rattle.std.specs.Prelude.{Result, Ok, Err}
use Rattle.cells.specs.declared.NotStored.{NotStored}
use Rattle.values.specs.declared.Refusal.{Refusal}

-- ---- The trail comes after the marks

trail_if : Bool → Labels → State → State
trail_if true k st = trailed k st
trail_if false k st = st

after_test_trail : (p : ℕ) (c : Context) (f : ℕ → Bool) (d : Bool) (k : Labels) (st : State) → (after_test p c f false k st >>= λ st'. done (trail_if d k st')) ≡ after_test p c f d k st
unfolding after_test ◌>>=◌ tested trailed trail_with trail_if
after_test_trail p c f d k st = go d (cells_for st.used (new_cells f (st.cells c.scope)) p)
  where
    go : (d : Bool) (o : Outcome (Unit {0})) → ((o >>= λ _. done (tested c.scope f false k st)) >>= λ st'. done (trail_if d k st')) ≡ (o >>= λ _. done (tested c.scope f d k st))
    go d (refused r q) = refl
    go true (done u) = refl
    go false (done u) = refl

-- ---- What stays

keeps_marks : {w w' : List ℕ} {a : Result Unit NotStored} {s : Scope} {f : ℕ → Bool} {k : Labels} → Marks w w' a s f k → Keeps w w'
keeps_marks i = record { names = i.names; rest = i.rest; fine = i.fine }

keeps_trail : {w w₁ w₂ : List ℕ} (k : Labels) → Keeps w w₁ → Becomes w₁ w₂ (trailed k) (λ ns. ns) → Keeps w w₂
keeps_trail k i t = record { names = t.names ∙ i.names; rest = t.rest ∙ i.rest; fine = λ f. t.fine (i.fine f) }

-- ---- The ways of `enter`, for the names that f tells

-- `answer` is what the marks come to, for a statement at p
module _ (p : ℕ) (f : ℕ → Bool) (d : Bool) {w w₁ : List ℕ} (here : Here) (k : Labels) (a : Result Unit NotStored) (marks : Marks w w₁ a (scope_of here.scope.number) f k) (answer : Result Unit Refusal) (told : (st : State) → ran_as answer st ≡ outcome a p st) where
  marked_then : (es : List Entry) (n r : ℕ) → (ran_as answer (state_of w₁ es n r) >>= λ st'. done (trail_if d k st')) ≡ after_test p (context_of here) f d k (state_of w es n r)
  marked_then es n r = ap (λ (o : Outcome State). o >>= λ st'. done (trail_if d k st')) (told (state_of w₁ es n r) ∙ marks.state (context_of here) refl p es n r) ∙ after_test_trail p (context_of here) f d k (state_of w es n r)

  pub marks_refused : {g : Result Unit Refusal} {why : Refusal} → answer ≡ Err why → g ≡ Err why → Does w w₁ here (ran_as g) (λ c st. after_test p c f d k st)
  unfolding ran_as ◌>>=◌
  marks_refused refuses handed_on = record {
    says = λ es n r. ap (λ (x : Result Unit Refusal). ran_as x (state_of w₁ es n r)) handed_on ∙ sym (ap (λ (x : Result Unit Refusal). ran_as x (state_of w₁ es n r) >>= λ st'. done (trail_if d k st')) refuses) ∙ marked_then es n r;
    keeps = keeps_marks marks;
  }

  -- all are marked: what is left is the trail
  marked_all : answer ≡ Ok tt → (es : List Entry) (n r : ℕ) → done (trail_if d k (state_of w₁ es n r)) ≡ after_test p (context_of here) f d k (state_of w es n r)
  unfolding ran_as ◌>>=◌
  marked_all e es n r = sym (ap (λ (x : Result Unit Refusal). ran_as x (state_of w₁ es n r) >>= λ st'. done (trail_if d k st')) e) ∙ marked_then es n r

  pub marks_only : answer ≡ Ok tt → d ≡ false → Does w w₁ here (ran_as (Ok tt)) (λ c st. after_test p c f d k st)
  unfolding ran_as trail_if
  marks_only e l = record { says = λ es n r. ap (λ (x : Bool). done (trail_if x k (state_of w₁ es n r))) (sym l) ∙ marked_all e es n r; keeps = keeps_marks marks }

  pub marks_trail : {w₂ : List ℕ} → answer ≡ Ok tt → d ≡ true → Becomes w₁ w₂ (trailed k) (λ ns. ns) → Does w w₂ here (ran_as (Ok tt)) (λ c st. after_test p c f d k st)
  unfolding ran_as trail_if
  marks_trail e l t = record { says = λ es n r. ap done (t.state es n r) ∙ ap (λ (x : Bool). done (trail_if x k (state_of w₁ es n r))) (sym l) ∙ marked_all e es n r; keeps = keeps_trail k (keeps_marks marks) t }

-- ---- The ways of `enter_condition`: the names and declarations of a text, once they are collected

-- what is kept, where something was noted first, or nothing at all
pub preserves_same : {m : List ℕ} (w : List ℕ) → Preserves m w w
preserves_same w = record { names = refl; rest = λ k l out. refl; summarized = λ s. s; fine = λ f. f }

pub preserved : {m w w' : List ℕ} → Keeps w w' → Preserves m w w'
preserved {w = w} {w' = w'} kept = record {
  names = kept.names;
  rest = λ k l out. others_byte w w' kept.rest k l;
  summarized = summarized_still kept.rest;
  fine = kept.fine;
}

noted_first : {m w w₁ w₂ : List ℕ} → Notes m w w₁ → Keeps w₁ w₂ → Preserves m w w₂
noted_first {m} {w} {w₁} {w₂} notes kept =
    let stays = notes_stay notes in
    let then : Preserves m w₁ w₂ = preserved kept in
    record {
      names = kept.names ∙ stays.names;
      rest = λ k l out. then.rest k l out ∙ notes.outside k out;
      summarized = λ s. then.summarized notes.summarized;
      fine = λ f. kept.fine (stays.fine f);
    }

pub condition_entered : {m w w₁ w₂ : List ℕ} {here : Here} {answer : State → Outcome State} {nothing branches : Collected} (d p : ℕ) (set : Labels) → nothing.names ≡ replicate 16 0 → nothing.declares ≡ false → Summarizes m w w₁ nothing branches (text_of (statement_at m d p))
    → Does w₁ w₂ here answer (λ c st. after_test p c (contains branches.names) branches.declares set st) → Decides m w w₂ here answer (after_text p (text_of (statement_at m d p)) set)
unfolding after_text
condition_entered {m} {w} {w₁} {w₂} {here} {answer} {nothing} {branches} d p set names declares sums i =
    let stays = notes_stay sums.notes in
    let text : held branches ≡ text_of (statement_at m d p) = own_text names declares sums.collects in
    record {
      says = λ es n r. i.says es n r ∙ ap (after_test p (context_of here) (contains branches.names) branches.declares set) (stays.state es n r) ∙ ap (λ (t : Text). after_test p (context_of here) t.assigns t.declares set (state_of w es n r)) text;
      keeps = noted_first sums.notes i.keeps;
    }
