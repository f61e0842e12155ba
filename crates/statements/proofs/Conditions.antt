-- The law of a condition, `run` is its test and then the block chosen; and one law for each way through `decide_if` and `test_if`.
use Prim.Native.Nat.{ℕ, ◌+◌, ◌-◌, ◌≤◌}
use mathlib.Core.Path.{◌≡◌, refl, sym, ap, ap₂, ◌∙◌}
use mathlib.Core.Bool.{Bool, true, false, ◌||◌}
use mathlib.Core.List.{List}
use native.Mathlib.Omega.{arith}
use lib.ListN.{length}
use denote.Enum.Declared.{tag_of}
use Rattle.labels.specs.declared.Labels.{Labels}
use Rattle.labels.specs.Sets.{◌∪◌}
use Rattle.values.specs.declared.Labelled.{Labelled}
use Rattle.values.specs.declared.Value.{Value}
use Rattle.values.specs.declared.Value.TheVariants.{Boolean}
use Rattle.values.specs.declared.Refusal.{Refusal}
use Rattle.values.specs.Refusals.{refusal_at}
use Rattle.values.specs.declared.Reason.TheVariants.{WrongKind}
use Rattle.values.specs.contracts.Value.{the_type}
use Rattle.wire.specs.Bytes.{pick, byte, end_of}
use Rattle.rules.specs.Outcome.{Outcome, refused, done, ◌>>=◌, at}
use Rattle.rules.specs.Arithmetic.{boolean_in}
use Rattle.rules.specs.Tree.{Expression, place_of, Block, conditional}
use Rattle.rules.specs.State.{Entry, State, Context, Known}
use Rattle.rules.specs.Evaluate.{evaluate}
use Rattle.rules.specs.Run.{Declare, run, run_block, in_branch, with_path_and_trail, after_test, assigns_in, declares_in}
use Rattle.rules.specs.declared.Kind.TheVariants.{Statement as StatementKind, Expression as ExpressionKind}
use Rattle.places.specs.At.{expression_at, statement_at, block_at, StandsAs}
use Rattle.places.proofs.Expressions.{expression_place}
use Rattle.places.proofs.Statements.{ConditionalAt, conditional_opens}
use Rattle.cells.specs.Layout.{trail_of}
use Rattle.cells.specs.Memory.{state_of}
use Rattle.memory.specs.declared.Context.{Context as Here}
use Rattle.memory.specs.Contexts.{context_of}
use Rattle.evaluator.proofs.Operators.{not_boolean}
use Rattle.evaluator.specs.Answers.{refused_by}
use Rattle.evaluator.specs.Known.{Ready, Tells}
use Rattle.branches.specs.Texts.{text_of, both}
use Rattle.branches.proofs.Standing.{has_level, has_header}
use Rattle.branches.proofs.Texts.{conditional_text}
use Rattle.statements.specs.declared.Branch.{Branch}
use Rattle.statements.specs.Answers.{ran_as}
use Rattle.statements.specs.Tests.{Passed, passed, after_text, after_if, decide_if, test_if, test_if_at, tested_as, Decides, Tests}
use Rattle.statements.proofs.Entering.{preserves_same}
use Rattle.std.specs.Prelude.{Result, Ok, Err}

-- ---- The law

pub if_runs : (k : Known) (declare : Declare) (p : ℕ) (e : Expression) (a b : Block) (c : Context) (st : State) → run k declare (conditional p e a b) c st ≡ (test_if p e a b k c st >>= λ x. run_block k declare (pick x.chosen a b) (in_branch x.set c) x.state)
unfolding run test_if decide_if after_if ◌>>=◌ at
if_runs k declare p e a b c st = go (evaluate k c st e)
  where
    after : Labels → Outcome State
    after set = after_test p c (λ n. assigns_in a n || assigns_in b n) (declares_in a || declares_in b) set st

    branch : Bool → Labels → State → Outcome State
    branch t set st' = elim t [ true ↦ run_block k declare a (in_branch set c) st' | false ↦ run_block k declare b (in_branch set c) st' ]

    onward : Passed Bool → Outcome State
    onward x = run_block k declare (pick x.chosen a b) (in_branch x.set c) x.state

    entered : (t : Bool) (set : Labels) (o : Outcome State) → (o >>= λ st'. branch t set st') ≡ ((o >>= λ st'. done (passed t set st')) >>= onward)
    entered t set (refused r q) = refl
    entered true set (done st') = refl
    entered false set (done st') = refl

    decided : (set : Labels) (o : Outcome Bool) → (o >>= λ t. after set >>= λ st'. branch t set st') ≡ ((o >>= λ t. after set >>= λ st'. done (passed t set st')) >>= onward)
    decided set (refused r q) = refl
    decided set (done t) = entered t set (after set)

    go : (o : Outcome Labelled) → (o >>= λ x. at (place_of e) (boolean_in x.value) >>= λ t. after (with_path_and_trail c st x.labels) >>= λ st'. branch t (with_path_and_trail c st x.labels) st') ≡ ((o >>= λ x. at (place_of e) (boolean_in x.value) >>= λ t. after (with_path_and_trail c st x.labels) >>= λ st'. done (passed t (with_path_and_trail c st x.labels) st')) >>= onward)
    go (refused r q) = refl
    go (done x) = decided (with_path_and_trail c st x.labels) (at (place_of e) (boolean_in x.value))

-- ---- The ways of `decide_if`

-- what the marks and the trail come to, by its blocks
pub if_after : {m w w' : List ℕ} {d p : ℕ} {here : Here} {answer : State → Outcome State} (set : Labels) → StandsAs m d StatementKind p → byte m p ≡ 0x22 → Decides m w w' here answer (after_text p (text_of (statement_at m d p)) set) → Decides m w w' here answer (after_if p (block_at m (d - 1) (end_of m (p + 3))) (block_at m (d - 1) (end_of m (end_of m (p + 3)))) set)
unfolding after_text after_if both
if_after set s tag i = rw (conditional_text s refl tag refl) at i

module _ (m : List ℕ) (p l : ℕ) (a b : Block) (w : List ℕ) (here : Here) (x : Labelled) where
  pub if_unlike : {why : Refusal} → (tag_of the_type x.value ≡ 2 → ⊥) → why ≡ refusal_at WrongKind l → Decides m w w here (tested_as (Err why)) (decide_if p l a b x)
  unfolding decide_if tested_as at ◌>>=◌
  if_unlike h is = record { says = λ es n r. rw (is, not_boolean x.value h); keeps = preserves_same w }

  module _ {w' : List ℕ} {chose : Bool} {set : Labels} (entered : Result Unit Refusal) (is : x.value ≡ Boolean chose) (joined : set ≡ (here.path ∪ trail_of w) ∪ x.labels) (enter : Decides m w w' here (ran_as entered) (after_if p a b set)) where
    same_set : (es : List Entry) (n r : ℕ) → set ≡ with_path_and_trail (context_of here) (state_of w es n r) x.labels
    unfolding with_path_and_trail state_of
    same_set es n r = joined

    if_decided : (es : List Entry) (n r : ℕ) → (ran_as entered (state_of w' es n r) >>= λ st'. done (passed chose set st')) ≡ decide_if p l a b x (context_of here) (state_of w es n r)
    unfolding decide_if at boolean_in ◌>>=◌
    if_decided es n r =
        ap (λ (o : Outcome State). o >>= λ st'. done (passed chose set st')) (enter.says es n r)
        ∙ ap (λ (k : Labels). after_if p a b k (context_of here) (state_of w es n r) >>= λ st'. done (passed chose k st')) (same_set es n r)
        ∙ sym (ap (λ (v : Value). at l (boolean_in v) >>= λ t. after_if p a b (with_path_and_trail (context_of here) (state_of w es n r) x.labels) (context_of here) (state_of w es n r) >>= λ st'. done (passed t (with_path_and_trail (context_of here) (state_of w es n r) x.labels) st')) is)

    pub if_stopped : {answer : Result Branch Refusal} (why : Refusal) → answer ≡ Err why → entered ≡ Err why → Decides m w w' here (tested_as answer) (decide_if p l a b x)
    unfolding tested_as ran_as ◌>>=◌
    if_stopped why handed_on h = record {
      says = λ es n r. ap (λ (t : Result Branch Refusal). tested_as t (state_of w' es n r)) handed_on ∙ sym (ap (λ (e : Result Unit Refusal). ran_as e (state_of w' es n r) >>= λ st'. done (passed chose set st')) h) ∙ if_decided es n r;
      keeps = enter.keeps;
    }

    pub if_entered : entered ≡ Ok tt → Decides m w w' here (tested_as (Ok (record { yes = chose; set = set }))) (decide_if p l a b x)
    unfolding tested_as ran_as ◌>>=◌
    if_entered h = record {
      says = λ es n r. sym (ap (λ (e : Result Unit Refusal). ran_as e (state_of w' es n r) >>= λ st'. done (passed chose set st')) h) ∙ if_decided es n r;
      keeps = enter.keeps;
    }

-- ---- The ways of `test_if`

pub conditional_here : {m : List ℕ} {d p : ℕ} → StandsAs m d StatementKind p → byte m p ≡ 0x22 → ConditionalAt m d (d - 1) p
conditional_here s tag = conditional_opens s.stands (has_level s) tag

pub condition_place : {m : List ℕ} {d p : ℕ} → StandsAs m d StatementKind p → length m ≤ 65535 → p + 3 ≤ 65535
condition_place s l = omega (arith, has_header s)

module _ {m w out : List ℕ} {d p fill : ℕ} (here : Here) (s : StandsAs m d StatementKind p) (tag : byte m p ≡ 0x22) {o : Outcome Labelled} (told : StandsAs m (d - 1) ExpressionKind (p + 3) → Tells m w out fill here.scope o (λ k c st. evaluate k c st (expression_at m (d - 1) (p + 3)))) where
  test_run : {o' : Outcome Labelled} → o ≡ o' → (k : Known) (es : List Entry) (n r : ℕ) → Ready m w out fill k es → (o' >>= λ x. decide_if p (p + 3) (block_at m (d - 1) (end_of m (p + 3))) (block_at m (d - 1) (end_of m (end_of m (p + 3)))) x (context_of here) (state_of w es n r)) ≡ test_if_at m (d - 1) p k (context_of here) (state_of w es n r)
  unfolding test_if_at test_if
  test_run h k es n r ready =
      ap₂ (λ (o : Outcome Labelled) (l : ℕ). o >>= λ x. decide_if p l (block_at m (d - 1) (end_of m (p + 3))) (block_at m (d - 1) (end_of m (end_of m (p + 3)))) x (context_of here) (state_of w es n r)) (sym h ∙ (told (conditional_here s tag).condition).says k here.path es n r ready) (sym (expression_place m (d - 1) (p + 3)))

  pub test_refused : {answer : Result Branch Refusal} (why : Refusal) → answer ≡ Err why → o ≡ refused_by why → Tests m w w out fill here (tested_as answer) (test_if_at m (d - 1) p)
  unfolding tested_as ◌>>=◌
  test_refused why handed_on h = record {
    says = λ k es n r ready. ap (λ (t : Result Branch Refusal). tested_as t (state_of w es n r)) handed_on ∙ test_run h k es n r ready;
    keeps = preserves_same w;
  }

  pub test_decided : {w' : List ℕ} (answer : Result Branch Refusal) (x : Labelled) → o ≡ done x → Decides m w w' here (tested_as answer) (decide_if p (p + 3) (block_at m (d - 1) (end_of m (p + 3))) (block_at m (d - 1) (end_of m (end_of m (p + 3)))) x) → Tests m w w' out fill here (tested_as answer) (test_if_at m (d - 1) p)
  unfolding ◌>>=◌
  test_decided answer x h i = record {
    says = λ k es n r ready. i.says es n r ∙ test_run h k es n r ready;
    keeps = i.keeps;
  }
