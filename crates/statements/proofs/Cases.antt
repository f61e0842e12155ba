-- The law of a case, `run` is its test and then the block chosen; and one law for each way through `decide_case` and `test_case`.
use Prim.Native.Nat.{ℕ, ◌+◌, ◌-◌, ◌<◌}
use mathlib.Core.Path.{◌≡◌, refl, sym, ap, ap₂, ◌∙◌}
use mathlib.Core.List.{List, [], ◌∷◌}
use Rattle.labels.specs.declared.Labels.{Labels}
use Rattle.labels.specs.Sets.{◌∪◌}
use Rattle.labels.specs.Words.{labels_in}
use Rattle.values.specs.declared.Labelled.{Labelled}
use Rattle.values.specs.declared.Value.{Value}
use Rattle.values.specs.declared.Refusal.{Refusal}
use Rattle.wire.specs.Bytes.{byte, end_of, fields_in}
use Rattle.rules.specs.Outcome.{Outcome, refused, done, ◌>>=◌}
use Rattle.rules.specs.Patterns.{Patterns, constant_pattern, default_pattern, chosen, tried_labels, tried, labels_of}
use Rattle.rules.specs.Tree.{Expression, Statement, Block, end, Branches, no_branch, branch, default_branch, choice, Constant}
use Rattle.rules.specs.State.{Entry, State, Context, Known}
use Rattle.rules.specs.Evaluate.{evaluate, come_to_all}
use Rattle.rules.specs.Run.{Declare, do_nothing, run, run_block, branch_patterns, in_branch, with_path_and_trail, after_test, assigns_any, declares_any}
use Rattle.rules.proofs.Patterns.{map_patterns, tried_mapped, chosen_mapped, chosen_holds}
use Rattle.rules.specs.declared.Kind.TheVariants.{Statement as StatementKind, Expression as ExpressionKind, Branch as BranchKind}
use Rattle.places.specs.At.{constant_at, expression_at, statement_at, block_at, branch_at, branches_at, StandsAs, Siblings}
use Rattle.places.proofs.Statements.{ChoiceAt, choice_opens}
use Rattle.patterns.specs.Tried.{patterns_at, Matches}
use Rattle.patterns.proofs.Follows.{mapped_first, every_follows}
use Rattle.cells.specs.Layout.{trail_of}
use Rattle.cells.specs.Memory.{state_of}
use Rattle.memory.specs.declared.Context.{Context as Here}
use Rattle.memory.specs.Contexts.{context_of}
use Rattle.evaluator.specs.Answers.{refused_by}
use Rattle.evaluator.specs.Known.{Ready, Tells}
use Rattle.branches.specs.Texts.{text_of}
use Rattle.branches.proofs.Standing.{has_level, branch_block}
use Rattle.branches.proofs.Texts.{choice_text}
use Rattle.statements.specs.Answers.{ran_as}
use Rattle.statements.proofs.Entering.{preserves_same}
use Rattle.statements.specs.declared.CaseBranch.{CaseBranch}
use Rattle.statements.specs.Tests.{Passed, passed, after_text, Decides, Tests, Comes}
use Rattle.statements.specs.Cases.{branches_of, blocks_in, chosen_block, block_for, block_here, block_later, choice_stands, after_case, decide_case, test_case, test_case_at, case_as, block_stands, try_case}
use Rattle.patterns.specs.Struck.{first_struck}
use Rattle.patterns.proofs.Struck.{came_to, come_to_all_lem}
use Rattle.memory.specs.Words.{struck_in}
use Rattle.values.specs.declared.Reason.TheVariants.{Malformed}
use Rattle.values.specs.Refusals.{refusal_at}
use Rattle.std.specs.Prelude.{Option, Some, None, Result, Ok, Err}

-- ---- The law

-- the block chosen, from the state after the test
abbrev pub into_block : Known → Declare → Context → Passed Block → Outcome State
into_block k declare c x = run_block k declare x.chosen (in_branch x.set c) x.state

-- a block, run
abbrev ran_block : Known → Declare → Block → Context → State → Outcome State
ran_block k declare b c st = run_block k declare b c st

branches_run : (k : Known) (declare : Declare) (bs : Branches) → branch_patterns k declare bs ≡ map_patterns (ran_block k declare) (blocks_in bs)
unfolding run blocks_in map_patterns
branches_run k declare no_branch = refl
branches_run k declare (branch v b bs) = ap (constant_pattern v (ran_block k declare b)) (branches_run k declare bs)
branches_run k declare (default_branch b bs) = ap (default_pattern (ran_block k declare b)) (branches_run k declare bs)

branch_tried : (k : Known) (declare : Declare) (bs : Branches) (x : Value) → tried (branch_patterns k declare bs) x ≡ tried (blocks_in bs) x
branch_tried k declare bs x = ap (λ (ps : Patterns (Context → State → Outcome State)). tried ps x) (branches_run k declare bs) ∙ tried_mapped (ran_block k declare) (blocks_in bs) x

branch_runs : (k : Known) (declare : Declare) (bs : Branches) (x : Value) → chosen (branch_patterns k declare bs) x do_nothing ≡ ran_block k declare (chosen_block bs x)
unfolding run do_nothing
branch_runs k declare bs x = ap (λ (ps : Patterns (Context → State → Outcome State)). chosen ps x do_nothing) (branches_run k declare bs) ∙ chosen_mapped (ran_block k declare) (blocks_in bs) x end

pub case_runs : (k : Known) (declare : Declare) (p : ℕ) (e : Expression) (bs : Branches) (c : Context) (st : State) → run k declare (choice p e bs) c st ≡ (test_case p e bs k c st >>= into_block k declare c)
unfolding run test_case try_case decide_case after_case tried_labels ◌>>=◌
case_runs k declare p e bs c st = go (evaluate k c st e)
  where
    after : Labels → Outcome State
    after set = after_test p c (assigns_any bs) (declares_any bs) set st

    -- the set, by the patterns tried
    set_of : Labelled → List Constant → Labels
    set_of x vs = with_path_and_trail c st (x.labels ∪ labels_of vs)

    entered : (b : Block) (set : Labels) (o : Outcome State) → (o >>= λ st'. ran_block k declare b (in_branch set c) st') ≡ ((o >>= λ st'. done (passed b set st')) >>= into_block k declare c)
    entered b set (refused r q) = refl
    entered b set (done st') = refl

    came : (x : Labelled) (vs : List Constant) (b : Block) (o : Outcome (Unit {0}))
        → (o >>= λ _. after (set_of x vs) >>= λ st'. ran_block k declare b (in_branch (set_of x vs) c) st') ≡ ((o >>= λ _. after (set_of x vs) >>= λ st'. done (passed b (set_of x vs) st')) >>= into_block k declare c)
    came x vs b (refused r q) = refl
    came x vs b (done u) = entered b (set_of x vs) (after (set_of x vs))

    decided : (x : Labelled) (vs : List Constant) (then : Context → State → Outcome State) → vs ≡ tried (blocks_in bs) x.value → then ≡ ran_block k declare (chosen_block bs x.value)
        → (come_to_all k vs >>= λ _. after (set_of x vs) >>= λ st'. then (in_branch (set_of x vs) c) st') ≡ (try_case p bs x k c st >>= into_block k declare c)
    decided x vs then e f = rw (e, f) (came x (tried (blocks_in bs) x.value) (chosen_block bs x.value) (come_to_all k (tried (blocks_in bs) x.value)))

    patterns : Patterns (Context → State → Outcome State)
    patterns = branch_patterns k declare bs

    go : (o : Outcome Labelled) → (o >>= λ x. come_to_all k (tried patterns x.value) >>= λ _. after (set_of x (tried patterns x.value)) >>= λ st'. chosen patterns x.value do_nothing (in_branch (set_of x (tried patterns x.value)) c) st') ≡ ((o >>= λ x. try_case p bs x k c st) >>= into_block k declare c)
    go (refused r q) = refl
    go (done x) = decided x _ _ (branch_tried k declare bs x.value) (branch_runs k declare bs x.value)

-- ---- The ways of `decide_case`

-- the branches, where the code found them
pub branches_from_lem : {m : List ℕ} {d f e a b : ℕ} → f ≡ a → e ≡ b → Siblings m d BranchKind a b → Siblings m d BranchKind f e
branches_from_lem found ends i = rw (found, ends) i

-- the blocks at their places
blocks_at : (m : List ℕ) (d : ℕ) (qs : List ℕ) → blocks_in (branches_at m d qs) ≡ map_patterns (block_for m (d - 1)) (patterns_at m qs)
unfolding branches_at branch_at patterns_at blocks_in map_patterns block_for
blocks_at m d [] = refl
blocks_at m d (q ∷ qs) =
    let b : Block = block_at m (d - 1) (end_of m (q + 3)) in
    let after : Branches = branches_at m d qs in
    mapped_first blocks_in (block_for m (d - 1)) m q qs (default_branch b after) (branch (constant_at m (q + 3)) b after) (ap (default_pattern b) (blocks_at m d qs)) (ap (constant_pattern (constant_at m (q + 3)) b) (blocks_at m d qs))

blocks_tried : (m : List ℕ) (d : ℕ) (qs : List ℕ) (x : Value) → tried (blocks_in (branches_at m d qs)) x ≡ tried (patterns_at m qs) x
blocks_tried m d qs x = ap (λ (ps : Patterns Block). tried ps x) (blocks_at m d qs) ∙ tried_mapped (block_for m (d - 1)) (patterns_at m qs) x

module _ {m : List ℕ} {f e : ℕ} {x : Value} {s s' : List ℕ} {r : Option ℕ} (d : ℕ) (i : Matches m f e x s s' r) where
  block_chosen : block_for m (d - 1) r ≡ chosen_block (branches_at m d (fields_in m f e)) x
  unfolding block_for
  block_chosen =
      ap (block_for m (d - 1)) i.at ∙ sym (chosen_mapped (block_for m (d - 1)) (patterns_at m (fields_in m f e)) x None)
      ∙ ap (λ (ps : Patterns Block). chosen ps x end) (sym (blocks_at m d (fields_in m f e)))

  labels_tried : labels_in s' ≡ labels_in s ∪ tried_labels (blocks_in (branches_at m d (fields_in m f e))) x
  unfolding tried_labels
  labels_tried = i.labels.labels ∙ ap (λ (vs : List Constant). labels_in s ∪ labels_of vs) (sym (blocks_tried m d (fields_in m f e) x))

  block_stands_lem : Siblings m d BranchKind f e → choice_stands m (d - 1) f e r
  unfolding choice_stands
  block_stands_lem arms = rw i.at (chosen_holds (choice_stands m (d - 1) f e) (every_follows (λ q y. choice_stands m (d - 1) q e y) here later arms) x tt)
    where
      here : (q : ℕ) → q < e → StandsAs m d BranchKind q → choice_stands m (d - 1) q e (Some (end_of m (q + 3)))
      here q l h = (branch_block h refl, block_here l refl)

      later : (q : ℕ) (y : Option ℕ) → q < e → choice_stands m (d - 1) (end_of m q) e y → choice_stands m (d - 1) q e y
      later q (Some y) l h = (h.0, block_later l h.1)
      later q None l h = tt

-- what the marks and the trail come to, by its branches
pub case_after : {m w w' : List ℕ} {d p f e : ℕ} {here : Here} {answer : State → Outcome State} (set : Labels) → StandsAs m d StatementKind p → byte m p ≡ 0x23 → f ≡ end_of m (p + 3) → e ≡ end_of m p → Decides m w w' here answer (after_text p (text_of (statement_at m d p)) set) → Decides m w w' here answer (after_case p (branches_at m (d - 1) (fields_in m f e)) set)
unfolding after_text after_case
case_after set s tag found ends i = rw (choice_text s refl tag found ends) at i

-- what the test of a case answers
abbrev Case : Type 0
Case = Result CaseBranch Refusal

-- no block stands for a refusal
none_stands : (m : List ℕ) (b p : ℕ) {answer : Case} {why : Refusal} → answer ≡ Err why → block_stands m b p answer
unfolding block_stands
none_stands m b p handed_on = rw handed_on tt

-- a value whose labels are in the set s
abbrev own_in : Value → List ℕ → Labelled
own_in v s = record { value = v; labels = labels_in s }

module _ (m : List ℕ) (d p : ℕ) {f e : ℕ} (w : List ℕ) (here : Here) (v : Value) (s : List ℕ) (found : f ≡ end_of m (p + 3)) (ends : e ≡ end_of m p) where
  module _ {w' s' : List ℕ} {r : Option ℕ} {own set : Labels} (entered : Result Unit Refusal) (matches : Matches m f e v s s' r) (read : own ≡ labels_in s') (joined : set ≡ (here.path ∪ trail_of w) ∪ own) (enter : Decides m w w' here (ran_as entered) (after_case p (branches_at m d (fields_in m f e)) set)) where
    same_set : (es : List Entry) (n i : ℕ) → set ≡ with_path_and_trail (context_of here) (state_of w es n i) (labels_in s ∪ tried_labels (blocks_in (branches_at m d (fields_in m f e))) v)
    unfolding with_path_and_trail state_of
    same_set es n i = joined ∙ ap (λ (k : Labels). (here.path ∪ trail_of w) ∪ k) (read ∙ labels_tried d matches)

    -- what follows the marks and the trail
    abbrev after : Option ℕ → Result Unit Refusal → State → Outcome (Passed Block)
    after y o st = ran_as o st >>= λ st'. done (passed (block_for m (d - 1) y) set st')

    case_decided : (es : List Entry) (n i : ℕ) → after r entered (state_of w' es n i) ≡ decide_case p (branches_of m d p) (own_in v s) (context_of here) (state_of w es n i)
    unfolding decide_case
    case_decided es n i =
        ap₂ (λ (o : Outcome State) (b : Block). o >>= λ st'. done (passed b set st')) (enter.says es n i) (block_chosen d matches)
        ∙ ap (λ (k : Labels). after_case p (branches_at m d (fields_in m f e)) k (context_of here) (state_of w es n i) >>= λ st'. done (passed (chosen_block (branches_at m d (fields_in m f e)) v) k st')) (same_set es n i)
        ∙ ap₂ (λ (a b : ℕ). decide_case p (branches_at m d (fields_in m a b)) (own_in v s) (context_of here) (state_of w es n i)) found ends

    pub case_stopped : {answer : Case} (why : Refusal) → answer ≡ Err why → entered ≡ Err why → Decides m w w' here (case_as m (d - 1) answer) (decide_case p (branches_of m d p) (own_in v s)) × block_stands m (d - 1) p answer
    unfolding case_as ran_as ◌>>=◌
    case_stopped why handed_on h = (
      record {
        says = λ es n i. ap (λ (a : Case). case_as m (d - 1) a (state_of w' es n i)) handed_on ∙ sym (ap (λ (o : Result Unit Refusal). after r o (state_of w' es n i)) h) ∙ case_decided es n i;
        keeps = enter.keeps;
      },
      none_stands m (d - 1) p handed_on,
    )

    pub case_entered : Siblings m d BranchKind f e → entered ≡ Ok tt → Decides m w w' here (case_as m (d - 1) (Ok (record { block = r; set = set }))) (decide_case p (branches_of m d p) (own_in v s)) × block_stands m (d - 1) p (Ok (record { block = r; set = set }))
    unfolding case_as ran_as ◌>>=◌ block_stands
    case_entered arms h = (
      record {
        says = λ es n i. sym (ap (λ (o : Result Unit Refusal). after r o (state_of w' es n i)) h) ∙ case_decided es n i;
        keeps = enter.keeps;
      },
      rw (sym found, sym ends) (block_stands_lem d matches arms),
    )

-- ---- The ways of `try_case`

module _ (m : List ℕ) (d p : ℕ) {f e : ℕ} (w : List ℕ) (here : Here) (x : Labelled) (found : f ≡ end_of m (p + 3)) (ends : e ≡ end_of m p) {s : Option ℕ} (first : s ≡ first_struck w (tried (patterns_at m (fields_in m f e)) x.value)) where
  case_comes : (k : Known) → ((v : Constant) → k.struck_out v ≡ struck_in w v) → (c : Context) (st : State) → (came_to s >>= λ _. decide_case p (branches_of m d p) x c st) ≡ try_case p (branches_of m d p) x k c st
  unfolding try_case
  case_comes k known c st =
      let vs : List Constant = tried (blocks_in (branches_of m d p)) x.value in
      let same : tried (patterns_at m (fields_in m f e)) x.value ≡ vs = (λ j. tried (patterns_at m (fields_in m (found j) (ends j))) x.value) ∙ sym (blocks_tried m d (fields_in m (end_of m (p + 3)) (end_of m p)) x.value) in
      ap (λ (o : Outcome (Unit {0})). o >>= λ _. decide_case p (branches_of m d p) x c st) (ap came_to (first ∙ ap (first_struck w) same) ∙ sym (come_to_all_lem k w known vs))

  pub case_struck : {q : ℕ} {why : Refusal} → s ≡ Some q → why ≡ refusal_at Malformed q → Comes m w w here (case_as m (d - 1) (Err why)) (try_case p (branches_of m d p) x) × block_stands m (d - 1) p (Err why)
  unfolding case_as came_to ◌>>=◌ block_stands
  case_struck is e = (
    record {
      says = λ k known es n r. rw e ((λ j. came_to (sym is j) >>= λ _. decide_case p (branches_of m d p) x (context_of here) (state_of w es n r)) ∙ case_comes k known (context_of here) (state_of w es n r));
      keeps = preserves_same w;
    },
    tt,
  )

  pub case_tried : {w' : List ℕ} (answer : Case) → s ≡ None → Decides m w w' here (case_as m (d - 1) answer) (decide_case p (branches_of m d p) x) × block_stands m (d - 1) p answer → Comes m w w' here (case_as m (d - 1) answer) (try_case p (branches_of m d p) x) × block_stands m (d - 1) p answer
  unfolding came_to ◌>>=◌
  case_tried answer is i = (
    record {
      says = λ k known es n r. i.0.says es n r ∙ (λ j. came_to (sym is j) >>= λ _. decide_case p (branches_of m d p) x (context_of here) (state_of w es n r)) ∙ case_comes k known (context_of here) (state_of w es n r);
      keeps = i.0.keeps;
    },
    i.1,
  )

-- ---- The ways of `test_case`

pub choice_here : {m : List ℕ} {d p : ℕ} → StandsAs m d StatementKind p → byte m p ≡ 0x23 → ChoiceAt m d (d - 1) p
choice_here s tag = choice_opens s.stands (has_level s) tag

module _ {m w out : List ℕ} {d p fill : ℕ} (here : Here) (s : StandsAs m d StatementKind p) (tag : byte m p ≡ 0x23) {o : Outcome Labelled} (told : StandsAs m (d - 1) ExpressionKind (p + 3) → Tells m w out fill here.scope o (λ k c st. evaluate k c st (expression_at m (d - 1) (p + 3)))) where
  test_run : {o' : Outcome Labelled} → o ≡ o' → (k : Known) (es : List Entry) (n r : ℕ) → Ready m w out fill k es → (o' >>= λ x. try_case p (branches_of m (d - 1) p) x k (context_of here) (state_of w es n r)) ≡ test_case_at m (d - 1) p k (context_of here) (state_of w es n r)
  unfolding test_case_at test_case
  test_run h k es n r ready =
      ap (λ (o : Outcome Labelled). o >>= λ x. try_case p (branches_of m (d - 1) p) x k (context_of here) (state_of w es n r)) (sym h ∙ (told (choice_here s tag).scrutinee).says k here.path es n r ready)

  pub test_refused : {answer : Case} (why : Refusal) → answer ≡ Err why → o ≡ refused_by why → Tests m w w out fill here (case_as m (d - 1 - 1) answer) (test_case_at m (d - 1) p) × block_stands m (d - 1 - 1) p answer
  unfolding case_as ◌>>=◌
  test_refused why handed_on h = (
    record {
      says = λ k es n r ready. ap (λ (a : Case). case_as m (d - 1 - 1) a (state_of w es n r)) handed_on ∙ test_run h k es n r ready;
      keeps = preserves_same w;
    },
    none_stands m (d - 1 - 1) p handed_on,
  )

  pub test_decided : {w' : List ℕ} (answer : Case) (x : Labelled) → o ≡ done x → Comes m w w' here (case_as m (d - 1 - 1) answer) (try_case p (branches_of m (d - 1) p) x) × block_stands m (d - 1 - 1) p answer → Tests m w w' out fill here (case_as m (d - 1 - 1) answer) (test_case_at m (d - 1) p) × block_stands m (d - 1 - 1) p answer
  unfolding ◌>>=◌
  test_decided answer x h i = (
    record {
      says = λ k es n r ready. i.0.says k ready.known.struck es n r ∙ test_run h k es n r ready;
      keeps = i.0.keeps;
    },
    i.1,
  )

-- ---- What a tested case comes to, for who runs its block

module _ {m : List ℕ} {d p : ℕ} (s : StandsAs m d StatementKind p) (tag : byte m p ≡ 0x23) (k : Known) (declare : Declare) where
  pub case_at_runs : (c : Context) (st : State) → run k declare (statement_at m d p) c st ≡ (test_case_at m (d - 1) p k c st >>= into_block k declare c)
  unfolding test_case_at
  case_at_runs c st = ap (λ (t : Statement). run k declare t c st) (choice_here s tag).tree ∙ case_runs k declare p (expression_at m (d - 1) (p + 3)) (branches_of m (d - 1) p) c st

  module _ {w w' out : List ℕ} {fill : ℕ} {here : Here} (answer : Case) (tests : Tests m w w' out fill here (case_as m (d - 1 - 1) answer) (test_case_at m (d - 1) p)) (es : List Entry) (n r : ℕ) (ready : Ready m w out fill k es) where
    tested_runs : {a : Case} → answer ≡ a → run k declare (statement_at m d p) (context_of here) (state_of w es n r) ≡ (case_as m (d - 1 - 1) a (state_of w' es n r) >>= into_block k declare (context_of here))
    tested_runs h = case_at_runs (context_of here) (state_of w es n r) ∙ ap (λ (o : Outcome (Passed Block)). o >>= into_block k declare (context_of here)) (sym (tests.says k es n r ready) ∙ ap (λ (a : Case). case_as m (d - 1 - 1) a (state_of w' es n r)) h)

    pub case_refuses : (why : Refusal) → answer ≡ Err why → run k declare (statement_at m d p) (context_of here) (state_of w es n r) ≡ refused_by why
    unfolding case_as ◌>>=◌
    case_refuses why h = tested_runs h

    module _ (x : CaseBranch) (h : answer ≡ Ok x) where
      branch_runs_on : {y : Option ℕ} → x.block ≡ y → run k declare (statement_at m d p) (context_of here) (state_of w es n r) ≡ run_block k declare (block_for m (d - 1 - 1) y) (in_branch x.set (context_of here)) (state_of w' es n r)
      unfolding case_as ◌>>=◌
      branch_runs_on is = tested_runs h ∙ ap (λ (y : Option ℕ). run_block k declare (block_for m (d - 1 - 1) y) (in_branch x.set (context_of here)) (state_of w' es n r)) is

      pub case_goes_on : (q : ℕ) → x.block ≡ Some q → run k declare (statement_at m d p) (context_of here) (state_of w es n r) ≡ run_block k declare (block_at m (d - 1 - 1) q) (in_branch x.set (context_of here)) (state_of w' es n r)
      unfolding block_for
      case_goes_on q is = branch_runs_on is

      pub case_ends : x.block ≡ None → run k declare (statement_at m d p) (context_of here) (state_of w es n r) ≡ done (state_of w' es n r)
      unfolding block_for run
      case_ends is = branch_runs_on is
