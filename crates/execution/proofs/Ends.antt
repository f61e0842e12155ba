-- What runs, and then what comes after it: one law for each way in which the code goes on, its premises as the callees ensure them.
use Prim.Native.Nat.{ℕ, ◌+◌, ◌≤◌, ◌*◌, ◌<◌}
use mathlib.Core.Path.{◌≡◌, ap, ◌∙◌, subst, sym}
use mathlib.Core.List.{List, []}
use native.Mathlib.Omega.{arith}
use lib.ListN.{length}
use Rattle.values.specs.declared.Refusal.{Refusal}
use Rattle.wire.specs.Bytes.{two}
use Rattle.rules.specs.Outcome.{Outcome, done, ◌>>=◌}
use Rattle.rules.specs.State.{Entry, State, Context, Known}
use Rattle.rules.specs.Compile.{onto}
use Rattle.cells.specs.Layout.{words_at, head_at}
use Rattle.cells.proofs.Regions.{same_two}
use Rattle.memory.proofs.Titles.{title_same}
use Rattle.catalog_index.proofs.Keeping.{index_same}
use Rattle.evaluator.specs.Answers.{refused_by}
use Rattle.statements.specs.Answers.{Keeps, Preserves}
use Rattle.statements.proofs.Entering.{preserved}
use Rattle.provenance.specs.Notes.{Question}
use Rattle.provenance.proofs.Notes.{noted_same}
use Rattle.declarations.proofs.Laws.{set_kept, known_kept}
use Rattle.execution.specs.Executed.{Able, Stage, state_with, Ends, refused_so, done_so, AbleAfter, Executes}
use Rattle.memory.specs.Words.{word_of}
use Rattle.memory.proofs.Words.{word_at}
use Rattle.std.specs.Prelude.{Result, Ok, Err}

-- ---- What an answer tells

-- the outcome o is done, in the state that the bytes then stand for
pub record DoneAs (m w out : List ℕ) (fill left : ℕ) (k : Known) (ask : Question) (o : Outcome State) : Type 0 where
  pub entries : List Entry
  pub same : o ≡ done (state_with w out fill left entries)
  pub stage : Stage m w out fill k ask entries

pub ended_done : {m w out : List ℕ} {left f : ℕ} {k : Known} {ask : Question} {o : Outcome State} → Ends m w out left k ask o (Ok f) → DoneAs m w out f left k ask o
ended_done (done_so es e s) = record { entries = es; same = e; stage = s }

pub ended_refused : {m w out : List ℕ} {left : ℕ} {why : Refusal} {k : Known} {ask : Question} {o : Outcome State} → Ends m w out left k ask o (Err why) → o ≡ refused_by why
ended_refused (refused_so e) = e

-- the same outcome, the same end
pub ends_same : {m w out : List ℕ} {left : ℕ} {k : Known} {ask : Question} {o o' : Outcome State} {a : Result ℕ Refusal} → o ≡ o' → Ends m w out left k ask o' a → Ends m w out left k ask o a
ends_same e i = rw e i

-- ---- What stays

module _ {m w w' : List ℕ} (kept : Preserves m w w') where
  pub stage_preserved : {out : List ℕ} {fill : ℕ} {k : Known} {ask : Question} {es : List Entry} → Stage m w out fill k ask es → Stage m w' out fill k ask es
  stage_preserved {es = es} s =
      let index : (p : ℕ) → head_at 0 ≤ p → two w' p ≡ two w p = λ p l. same_two w w' p (λ j h. kept.rest (p + j) (omega arith) (λ a b. omega arith)) in
      let words : (i : ℕ) → i < 15 → word_of w' i ≡ word_of w i =
      λ i l. sym (word_at w' i) ∙ same_two w w' (words_at + 2 * i) (λ j h. kept.rest (words_at + 2 * i + j) (omega arith) (λ a b. omega arith)) ∙ word_at w i in
      record {
        ready = record { catalog = s.ready.catalog; index = index_same w w' (onto es []) index s.ready.index; unique = s.ready.unique; known = known_kept kept.names (λ i l. words i (omega arith)) s.ready.known };
        title = title_same w w' (same_two w w' words_at (λ j l. kept.rest (words_at + j) (omega arith) (λ a b. omega arith))) ∙ s.title;
        noted = noted_same words s.noted;
      }

  pub able_preserved : {out : List ℕ} {fill : ℕ} → length w' ≡ length w → Able m w out fill → Able m w' out fill
  able_preserved size a = record { set = set_kept kept.names size kept.summarized a.set; fine = kept.fine a.fine; filled = a.filled }

module _ {m w w' : List ℕ} (kept : Keeps w w') where
  pub stage_kept : {out : List ℕ} {fill : ℕ} {k : Known} {ask : Question} {es : List Entry} → Stage m w out fill k ask es → Stage m w' out fill k ask es
  stage_kept = stage_preserved (preserved kept)

  pub able_kept : {out : List ℕ} {fill : ℕ} → length w' ≡ length w → Able m w out fill → Able m w' out fill
  able_kept = able_preserved (preserved kept)

-- ---- Ways

module _ {m w out : List ℕ} {fill left : ℕ} {c : Context} {f : Known → Context → State → Outcome State} where
  -- a refusal
  pub refuses : {w' out' : List ℕ} {left' : ℕ} (why : Refusal) → left' ≤ left → ((k : Known) (ask : Question) (es : List Entry) → Stage m w out fill k ask es → f k c (state_with w out fill left es) ≡ refused_by why) → Executes m w w' out out' fill left left' c (Err why) f
  unfolding AbleAfter
  refuses why l h = record { able = tt; steps = l; says = λ k ask es s. refused_so (h k ask es s) }

  -- the end at a state that the bytes stand for
  pub stops : {w' out' : List ℕ} {fill' left' : ℕ} → Able m w' out' fill' → left' ≤ left → ((k : Known) (ask : Question) (es : List Entry) → Stage m w out fill k ask es → DoneAs m w' out' fill' left' k ask (f k c (state_with w out fill left es))) → Executes m w w' out out' fill left left' c (Ok fill') f
  unfolding AbleAfter
  stops a l h = record { able = a; steps = l; says = λ k ask es s. let d = h k ask es s in done_so d.entries d.same d.stage }

-- from the outcome o the run goes on with g in the context c
pub record GoesOn (m w out : List ℕ) (fill left : ℕ) (k : Known) (ask : Question) (c : Context) (g : Known → Context → State → Outcome State) (o : Outcome State) : Type 0 where
  pub entries : List Entry
  pub stage : Stage m w out fill k ask entries
  pub same : o ≡ g k c (state_with w out fill left entries)

-- what a callee runs is all that is left
pub goes_on : {m w w₁ w' out out₁ out' : List ℕ} {fill fill₁ left left₁ left' : ℕ} {c c₁ : Context} {a : Result ℕ Refusal} {f g : Known → Context → State → Outcome State} → left₁ ≤ left → ((k : Known) (ask : Question) (es : List Entry) → Stage m w out fill k ask es → GoesOn m w₁ out₁ fill₁ left₁ k ask c₁ g (f k c (state_with w out fill left es))) → Executes m w₁ w' out₁ out' fill₁ left₁ left' c₁ a g → Executes m w w' out out' fill left left' c a f
goes_on l h e = record {
  able = e.able;
  steps = let s = e.steps in omega arith;
  says = λ k ask es s. let o = h k ask es s in ends_same o.same (e.says k ask o.entries o.stage);
}

-- the same run by another name
pub executes_as : {m w w' out out' : List ℕ} {fill left left' : ℕ} {c : Context} {a : Result ℕ Refusal} {f g : Known → Context → State → Outcome State} → ((k : Known) (st : State) → f k c st ≡ g k c st) → Executes m w w' out out' fill left left' c a g → Executes m w w' out out' fill left left' c a f
executes_as same e = record { able = e.able; steps = e.steps; says = λ k ask es s. ends_same (same k _) (e.says k ask es s) }

-- ---- One run, and then another: f is g and then h

module _ {m w w₁ out out₁ : List ℕ} {fill left left₁ : ℕ} {c : Context} {a : Result ℕ Refusal} {f g : Known → Context → State → Outcome State} (h : Known → Context → State → Outcome State) (both : (k : Known) (c : Context) (st : State) → f k c st ≡ (g k c st >>= h k c)) (first : Executes m w w₁ out out₁ fill left left₁ c a g) where
  -- the first is done, and the second runs from there
  pub then_runs : {w' out' : List ℕ} {fill₁ left' : ℕ} {b : Result ℕ Refusal} → a ≡ Ok fill₁ → Executes m w₁ w' out₁ out' fill₁ left₁ left' c b h → Executes m w w' out out' fill left left' c b f
  unfolding ◌>>=◌
  then_runs {fill₁ = fill₁} d e = record {
    able = e.able;
    steps = let s = e.steps in let t = first.steps in omega arith;
    says = λ k ask es s.
        let o = ended_done (subst (Ends m w₁ out₁ left₁ k _ (g k c (state_with w out fill left es))) d (first.says k ask es s)) in
        ends_same (both k c (state_with w out fill left es) ∙ ap (λ (x : Outcome State). x >>= h k c) o.same) (e.says k ask o.entries o.stage);
  }

  -- the first is refused
  pub never_runs : {why : Refusal} → a ≡ Err why → Executes m w w₁ out out₁ fill left left₁ c a f
  unfolding ◌>>=◌
  never_runs {why} e =
      let e' : Executes m w w₁ out out₁ fill left left₁ c (Err why) g = rw e at first in
      rw e (refuses why e'.steps (λ k ask es s. both k c (state_with w out fill left es) ∙ ap (λ (x : Outcome State). x >>= h k c) (ended_refused (e'.says k ask es s))))

-- what can run after an answer that is done
pub able_after : {m w out : List ℕ} {f : ℕ} {a : Result ℕ Refusal} → a ≡ Ok f → AbleAfter m w out a → Able m w out f
unfolding AbleAfter
able_after {m} {w} {out} e i = subst (AbleAfter m w out) e i
