-- Statements and blocks: one law for each way through the functions that run them, its premises as the callees ensure them.
use Prim.Native.Nat.{ℕ, suc, ◌+◌, ◌-◌, ◌<◌, ◌≤◌, ◌*◌}
use mathlib.Core.Path.{◌≡◌, refl, sym, ap, ◌∙◌, subst}
use mathlib.Core.Bool.{Bool, true, false}
use mathlib.Core.List.{List, [], ◌∷◌, ◌++◌}
use native.Mathlib.Omega.{arith}
use lib.ListN.{length}
use lib.Seq.{length-take-le}
use Rattle.labels.specs.declared.Labels.{Labels}
use Rattle.labels.specs.Sets.{◌∪◌}
use Rattle.values.specs.declared.Refusal.{Refusal}
use Rattle.values.specs.Refusals.{refusal_at}
use Rattle.values.specs.declared.Reason.TheVariants.{StepLimit}
use Rattle.wire.specs.Bytes.{pick, byte, two, end_of}
use Rattle.rules.specs.Outcome.{Outcome, done, ◌>>=◌}
use Rattle.rules.specs.Tree.{Statement, Block, include}
use Rattle.rules.specs.State.{Entry, State, Context, Known, take_step}
use Rattle.rules.specs.Run.{run, run_block, in_branch, declaration}
use Rattle.rules.specs.Catalog.{catalog_bytes}
use Rattle.rules.specs.Compile.{onto, room_in}
use Rattle.rules.specs.Format.{forms, form_in, form_of, size, head_size}
use Rattle.rules.specs.declared.Kind.{Kind}
use Rattle.rules.specs.declared.Kind.TheVariants.{Statement as StatementKind, Block as BlockKind}
use Rattle.places.specs.At.{expression_at, statement_at, block_at, StandsAs}
use Rattle.places.proofs.Tags.{IsStatementTag, assignment_tag, conditional_tag, choice_tag, resource_tag, defined_tag, class_tag, include_tag, statement_tag_lem}
use Rattle.places.proofs.Open.{opened_leaf}
use Rattle.places.proofs.Statements.{ConditionalAt, conditional_opens, choice_opens, include_opens}
use Rattle.cells.specs.Layout.{words_at}
use Rattle.cells.proofs.Regions.{same_two}
use Rattle.cells.specs.Memory.{built_in_of, state_of, Stays}
use Rattle.memory.specs.declared.Context.{Context as Here}
use Rattle.memory.specs.Contexts.{context_in, context_of}
use Rattle.memory.proofs.Titles.{title_same}
use Rattle.catalog.proofs.Order.{onto_last}
use Rattle.catalog_index.specs.Index.{Indexed, Extended}
use Rattle.catalog_index.proofs.Keeping.{index_same, index_stays, index_words}
use Rattle.summaries.proofs.Summaries.{summarized_same, summarized_before}
use Rattle.evaluator.specs.Answers.{refused_by}
use Rattle.evaluator.specs.Known.{Ready, Sized}
use Rattle.branches.proofs.Standing.{has_level, has_header}
use Rattle.statements.specs.declared.Branch.{Branch}
use Rattle.statements.specs.declared.CaseBranch.{CaseBranch}
use Rattle.statements.specs.Answers.{ran_as, Runs}
use Rattle.statements.specs.Tests.{Passed, test_if_at, tested_as, Testable, Tests}
use Rattle.statements.specs.Cases.{choice_stands, test_case_at, case_as, block_stands}
use Rattle.statements.proofs.Conditions.{if_runs}
use Rattle.statements.proofs.Cases.{case_refuses, case_goes_on, case_ends}
use Rattle.provenance.specs.Notes.{Question, NotesResource}
use Rattle.provenance.proofs.Notes.{noted_same}
use Rattle.resources.specs.Entries.{Within, Means, refused_so as refused_there, done_so as done_there}
use Rattle.resources.specs.Entries as resources
use Rattle.declarations.specs.Standing.{NamesKnown}
use Rattle.declarations.proofs.Laws.{set_kept, known_kept}
use Rattle.execution.specs.Executed.{Able, Stage, state_with, Executes, begun}
use Rattle.execution.proofs.Names.{name_small, small_statement_lem, known_condition, known_branches, known_chosen}
use Rattle.execution.proofs.Ends.{DoneAs, refuses, stops, goes_on, executes_as, stage_preserved, able_preserved, stage_kept, able_kept}
use Rattle.memory.specs.Names.{title_of}
use Rattle.memory.specs.Words.{word_of}
use Rattle.memory.proofs.Words.{word_at}
use Rattle.std.specs.Prelude.{Some, None, Result, Ok, Err}

-- ---- Before a part is evaluated

pub room_within : (n : ℕ) → (room_in n ≤ n) × (room_in n ≤ 65535)
unfolding room_in
room_within n = (omega arith, omega arith)

pub sized : {m w out : List ℕ} {fill d p : ℕ} {k : Kind} → Able m w out fill → StandsAs m d k p → Sized m w out fill p
sized {out = out} a s =
    let room = room_within (length out) in
    let filled = a.filled in
    let manifest = a.set.manifest in
    let header = has_header s in
    record { memory = a.set.memory; filled = omega (arith, room.0); short = omega (arith, room.1); manifest = manifest; place = omega arith }

-- ---- Assignments

module _ {m w w' out : List ℕ} {fill : ℕ} {here : Here} (d p : ℕ) (answer : Result Unit Refusal) (runs : Runs m w w' out fill here answer (statement_at m d p)) (n levels : ℕ) where
  pub assignment_done : Able m w out fill → length w' ≡ length w → answer ≡ Ok tt → Executes m w w' out out fill n n (context_of here) (Ok fill) (λ k. run k (declaration k levels) (statement_at m d p))
  unfolding ran_as
  assignment_done able size e = stops (able_kept runs.keeps size able) (omega arith) λ k ask es s. record {
    entries = es;
    same = sym (runs.says k (declaration k levels) es n _ s.ready) ∙ ap (λ (a : Result Unit Refusal). ran_as a (state_with w' out fill n es)) e;
    stage = stage_kept runs.keeps s;
  }

  pub assignment_refused : (why : Refusal) → answer ≡ Err why → Executes m w w' out out fill n n (context_of here) (Err why) (λ k. run k (declaration k levels) (statement_at m d p))
  unfolding ran_as
  assignment_refused why e = refuses why (omega arith) λ k ask es s. sym (runs.says k (declaration k levels) es n _ s.ready) ∙ ap (λ (a : Result Unit Refusal). ran_as a (state_with w' out fill n es)) e

-- ---- Resources

-- a note leaves what the bytes stand for
module _ {m w v out : List ℕ} {fill d p : ℕ} {here : Here} (notes : NotesResource m w v out fill here d p) where
  words_noted : (i : ℕ) → i < 3 → word_of v i ≡ word_of w i
  words_noted i l = notes.set.others i (omega arith) (λ e. omega arith)

  ready_noted : {k : Known} {es : List Entry} → Ready m w out fill k es → Ready m v out fill k es
  ready_noted {es = es} r = record {
    catalog = r.catalog;
    index = index_same w v (onto es []) (λ p l. same_two w v p (λ j h. notes.set.after (p + j) (omega arith))) r.index;
    unique = r.unique;
    known = known_kept notes.set.names words_noted r.known;
  }

  title_noted : title_of v ≡ title_of w
  title_noted = title_same w v (word_at v 0 ∙ words_noted 0 (omega arith) ∙ sym (word_at w 0))

  pub able_noted : length v ≡ length w → Able m w out fill → Able m v out fill
  able_noted size a = record {
    set = set_kept notes.set.names size (summarized_same (λ k from to. notes.set.after k (omega arith))) a.set;
    fine = notes.set.fine a.fine;
    filled = a.filled;
  }

module _ {m w v out out' : List ℕ} {d p fill room : ℕ} {here : Here} {built : Bool} {name : ℕ} (able : Able m w out fill) (s : StandsAs m d StatementKind p) (tag : byte m p ≡ 0x25) (notes : NotesResource m w v out fill here d p) (size : length v ≡ length w)
    (named : name ≡ two m (p + 3)) (is_built : built ≡ built_in_of v name) (is_room : room ≡ room_in (length out) - fill) {a : Result ℕ Refusal} (runs : resources.Runs m v out out' fill room here d p built a) (n levels : ℕ) where
  abbrev statement_run : Known → Context → State → Outcome State
  statement_run k = run k (declaration k levels) (statement_at m d p)

  meant : (k : Known) (ask : Question) (es : List Entry) → Stage m w out fill k ask es → Means v out' fill room n es (statement_run k (context_of here) (state_with w out fill n es)) a
  meant k ask es stage =
      rw (sym is_room) (subst (λ (st : State). Means v out' fill room n es (statement_run k (context_of here) st) a) (notes.set.state es n room) (runs.says s.stands tag (rw (sym named) is_built) k (declaration k levels) es n (ready_noted notes stage.ready)))

  pub resource_refused : {why : Refusal} → a ≡ Err why → Executes m w v out out' fill n n (context_of here) a statement_run
  resource_refused {why} is = rw is (refuses why (omega arith) λ k ask es stage. refused_so_lem (rw is at (meant k ask es stage)))
    where
      refused_so_lem : {es : List Entry} {o : Outcome State} → Means v out' fill room n es o (Err why) → o ≡ refused_by why
      refused_so_lem (refused_there e) = e

  -- the new fill point is within the output
  pub resource_within : {f : ℕ} → a ≡ Ok f → (f ≤ length out') × (f ≤ 65535)
  unfolding Within
  resource_within {f} is =
      let within : Within fill room (Ok f) = rw is at runs.within in
      let long = runs.kept.long in
      let room-there = room_within (length out) in
      let filled = able.filled in
      (omega (arith, within.1, room-there.0), omega (arith, within.1, room-there.1))

  module _ {f : ℕ} (is : a ≡ Ok f) {w' : List ℕ} (indexed : Extended out' fill f v w') where
    stays : Stays v w'
    stays = index_stays v w' indexed.kept

    words_stay : (i : ℕ) → i < 15 → word_of w' i ≡ word_of v i
    words_stay i l = sym (word_at w' i) ∙ index_words v w' indexed.kept (words_at + 2 * i) (omega arith) ∙ word_at v i

    able_then : Able m w' out' f
    unfolding Within
    able_then =
        let within : Within fill room (Ok f) = rw is at runs.within in
        let here : Able m v out fill = able_noted notes size able in
        record { set = set_kept stays.names indexed.kept.size (summarized_before indexed.kept.before) here.set; fine = stays.fine here.fine; filled = rw runs.kept.long (omega (arith, within.1, is_room, able.filled)) }

    done_so_lem : (k : Known) (ask : Question) (es : List Entry) → Stage m w out fill k ask es → Means v out' fill room n es (statement_run k (context_of here) (state_with w out fill n es)) (Ok f) → DoneAs m w' out' f n k ask (statement_run k (context_of here) (state_with w out fill n es))
    unfolding Within
    done_so_lem k ask es stage (done_there x e written once) =
        let within : Within fill room (Ok f) = rw is at runs.within in
        let long = runs.kept.long in
        let ready : Ready m v out fill k es = ready_noted notes stage.ready in
        let left : room - (f - fill) ≡ room_in (length out') - f = rw long (omega (arith, within.0, is_room)) in
        let filled : fill ≡ length (catalog_bytes (onto es [])) = sym (ap length (sym stage.ready.catalog.bytes) ∙ length-take-le fill out (omega (arith, able.filled, (room_within (length out)).0))) in
        let after : onto (x ∷ es) [] ≡ onto es [] ++ (x ∷ []) = onto_last x es in
        let more : Indexed w' (onto es [] ++ (x ∷ [])) = indexed.more (onto es []) x filled (rw after at written) ready.index in
        let added = notes.says s.stands tag k (declaration k levels) es n (room_in (length out) - fill) _ stage.ready stage.noted x n (room - (f - fill)) (e ∙ ap done (notes.set.state (x ∷ es) n (room - (f - fill)))) in
        record {
          entries = x ∷ es;
          same = e ∙ ap (λ (r : ℕ). done (state_of v (x ∷ es) n r)) left ∙ ap done (sym (stays.state (x ∷ es) n (room_in (length out') - f)));
          stage = record {
            ready = record { catalog = written; index = rw after more; unique = once; known = known_kept stays.names (λ i l. words_stay i (omega arith)) ready.known };
            title = title_same v w' (index_words v w' indexed.kept words_at (omega arith)) ∙ title_noted notes ∙ stage.title;
            noted = noted_same words_stay added;
          };
        }

    pub resource_done : Executes m w w' out out' fill n n (context_of here) (Ok f) statement_run
    resource_done = stops able_then (omega arith) λ k ask es stage. done_so_lem k ask es stage (rw is at (meant k ask es stage))

-- ---- Steps

module _ {m w out : List ℕ} {fill left : ℕ} {c : Context} (levels p : ℕ) (s : Statement) where
  pub no_step : {a : Result ℕ Refusal} → left ≡ 0 → a ≡ Err (refusal_at StepLimit p) → Executes m w w out out fill left left c a (begun levels p s)
  unfolding begun take_step state_of ◌>>=◌
  no_step none e = rw e (refuses (refusal_at StepLimit p) (omega arith) λ k ask es st. rw none refl)

  pub step_taken : {w' out' : List ℕ} {left' : ℕ} {a : Result ℕ Refusal} → (left ≡ 0 → ⊥) → Executes m w w' out out' fill (left - 1) left' c a (λ k. run k (declaration k levels) s) → Executes m w w' out out' fill left left' c a (begun levels p s)
  unfolding begun take_step state_of ◌>>=◌
  step_taken some e =
      let one : left ≡ suc (left - 1) = omega (arith, some) in
      goes_on (omega arith) (λ k ask es st. record { entries = es; stage = st; same = ap (λ (n : ℕ). take_step p (state_with w out fill n es) >>= λ x. run k (declaration k levels) s c x) one }) e

-- ---- Includes

-- a tag that no other statement has
pub is_include : {m : List ℕ} {d p t : ℕ} → StandsAs m d StatementKind p → t ≡ byte m p → (t ≡ 0x21 → ⊥) → (t ≡ 0x22 → ⊥) → (t ≡ 0x23 → ⊥) → (t ≡ 0x25 → ⊥) → (t ≡ 0x27 → ⊥) → (t ≡ 0x28 → ⊥) → byte m p ≡ 0x29
is_include {m} {p = p} s read n21 n22 n23 n25 n27 n28 = go (byte m p) refl (statement_tag_lem (byte m p) s.kind)
  where
    go : (u : ℕ) → byte m p ≡ u → IsStatementTag u → byte m p ≡ 0x29
    go u e assignment_tag = absurd (n21 (read ∙ e))
    go u e conditional_tag = absurd (n22 (read ∙ e))
    go u e choice_tag = absurd (n23 (read ∙ e))
    go u e resource_tag = absurd (n25 (read ∙ e))
    go u e defined_tag = absurd (n27 (read ∙ e))
    go u e class_tag = absurd (n28 (read ∙ e))
    go u e include_tag = e

-- its class
pub include_known : {m w out : List ℕ} {fill d p : ℕ} → Able m w out fill → StandsAs m d StatementKind p → NamesKnown m p → byte m p ≡ 0x29 → (p + 5 ≤ 65535) × (two m (p + 3) < 1024)
unfolding form_of form_in forms head_size size
include_known {m} {p = p} able s k tag =
    let o = opened_leaf {h = 2} s.stands tag (record { head = refl; rest = refl }) in
    (omega (arith, o.ends, s.stands.ends, able.set.manifest), name_small s.stands tag refl able.set.strings k)

pub include_runs_here : {m w w' out out' : List ℕ} {fill left left' d p : ℕ} {c : Context} {a : Result ℕ Refusal} (levels : ℕ) → StandsAs m d StatementKind p → byte m p ≡ 0x29 → Executes m w w' out out' fill left left' c a (λ k. run k (declaration k levels) (include p (two m (p + 3)))) → Executes m w w' out out' fill left left' c a (λ k. run k (declaration k levels) (statement_at m d p))
include_runs_here {c = c} levels s tag e = executes_as (λ k st. ap (λ (x : Statement). run k (declaration k levels) x c st) (include_opens s.stands tag)) e

-- ---- Conditions

pub testable : {m w out : List ℕ} {fill d p : ℕ} → Able m w out fill → StandsAs m d StatementKind p → NamesKnown m p → Testable m w d p
testable able s k = record { manifest = able.set.manifest; memory = able.set.memory; summarized = able.set.summaries; stands = s; small = small_statement_lem able.set.strings s k }

-- ---- Ifs

-- the context of a branch
pub in_branch_lem : (here : Here) (set : Labels) {path : Labels} → path ≡ set ∪ here.path → context_in here.scope path ≡ in_branch set (context_of here)
unfolding in_branch
in_branch_lem here set e = ap (context_in here.scope) e

module _ {m w w' out : List ℕ} {d p fill : ℕ} {here : Here} (levels : ℕ) (s : StandsAs m d StatementKind p) (tag : byte m p ≡ 0x22) (t : Result Branch Refusal) (tests : Tests m w w' out fill here (tested_as t) (test_if_at m (d - 1) p)) where
  -- where the block that runs is
  abbrev pub block_if : Bool → ℕ
  block_if b = pick b (end_of m (p + 3)) (end_of m (end_of m (p + 3)))

  pick_block : (b : Bool) → pick b (block_at m (d - 1) (end_of m (p + 3))) (block_at m (d - 1) (end_of m (end_of m (p + 3)))) ≡ block_at m (d - 1) (block_if b)
  pick_block true = refl
  pick_block false = refl

  into : Known → Passed Bool → Outcome State
  into k x = run_block k (declaration k levels) (pick x.chosen (block_at m (d - 1) (end_of m (p + 3))) (block_at m (d - 1) (end_of m (end_of m (p + 3))))) (in_branch x.set (context_of here)) x.state

  if_tested : {u : Result Branch Refusal} (k : Known) (ask : Question) (es : List Entry) (n : ℕ) → t ≡ u → Stage m w out fill k ask es → run k (declaration k levels) (statement_at m d p) (context_of here) (state_with w out fill n es) ≡ (tested_as u (state_with w' out fill n es) >>= into k)
  unfolding test_if_at into
  if_tested k ask es n e stage =
      ap (λ (x : Statement). run k (declaration k levels) x (context_of here) (state_with w out fill n es)) (conditional_opens s.stands (has_level s) tag).tree
      ∙ if_runs k (declaration k levels) p (expression_at m (d - 1) (p + 3)) (block_at m (d - 1) (end_of m (p + 3))) (block_at m (d - 1) (end_of m (end_of m (p + 3)))) (context_of here) (state_with w out fill n es)
      ∙ ap (λ (o : Outcome (Passed Bool)). o >>= into k) (sym (tests.says k es n _ stage.ready) ∙ ap (λ (u : Result Branch Refusal). tested_as u (state_with w' out fill n es)) e)

  pub if_refused : (why : Refusal) (n : ℕ) → t ≡ Err why → Executes m w w' out out fill n n (context_of here) (Err why) (λ k. run k (declaration k levels) (statement_at m d p))
  unfolding tested_as ◌>>=◌
  if_refused why n e = refuses why (omega arith) λ k ask es stage. if_tested k ask es n e stage

  pub if_goes_on : (branch : Branch) {inside : Context} {q n n' : ℕ} {w'' out' : List ℕ} {a : Result ℕ Refusal} → t ≡ Ok branch → q ≡ block_if branch.yes → inside ≡ in_branch branch.set (context_of here) → Executes m w' w'' out out' fill n n' inside a (λ k. run_block k (declaration k levels) (block_at m (d - 1) q)) → Executes m w w'' out out' fill n n' (context_of here) a (λ k. run k (declaration k levels) (statement_at m d p))
  unfolding tested_as ◌>>=◌ into
  if_goes_on branch {q = q} {n = n} e at joined runs = goes_on (omega arith) (λ k ask es stage. record {
    entries = es;
    stage = stage_preserved tests.keeps stage;
    same = if_tested k ask es n e stage ∙ ap (λ (x : Block). run_block k (declaration k levels) x (in_branch branch.set (context_of here)) (state_with w' out fill n es)) (pick_block branch.yes ∙ ap (block_at m (d - 1)) (sym at)) ∙ ap (λ (h : Context). run_block k (declaration k levels) (block_at m (d - 1) q) h (state_with w' out fill n es)) (sym joined);
  }) runs

-- the blocks of an if
pub if_place : {m w out : List ℕ} {fill d p : ℕ} → Able m w out fill → StandsAs m d StatementKind p → byte m p ≡ 0x22 → (p ≤ 65535) × (end_of m (p + 3) ≤ 65535)
if_place able s tag =
    let o = conditional_opens s.stands (has_level s) tag in
    (omega (arith, has_header s, able.set.manifest), omega (arith, has_header o.if_true, able.set.manifest))

pub if_block : {m : List ℕ} {d p q : ℕ} (b : Bool) → StandsAs m d StatementKind p → NamesKnown m p → byte m p ≡ 0x22 → q ≡ pick b (end_of m (p + 3)) (end_of m (end_of m (p + 3))) → StandsAs m (d - 1) BlockKind q × NamesKnown m q
if_block {m} {d} {p} {q} b s k tag at = go b at
  where
    o : ConditionalAt m d (d - 1) p
    o = conditional_opens s.stands (has_level s) tag

    go : (b : Bool) → q ≡ pick b (end_of m (p + 3)) (end_of m (end_of m (p + 3))) → StandsAs m (d - 1) BlockKind q × NamesKnown m q
    go true h = rw h (o.if_true, (known_condition s tag k).0)
    go false h = rw h (o.if_false, (known_condition s tag k).1)

-- ---- Cases

-- the block chosen
pub case_block : {m : List ℕ} {d p q : ℕ} {t : Result CaseBranch Refusal} (branch : CaseBranch) → StandsAs m d StatementKind p → NamesKnown m p → byte m p ≡ 0x23 → t ≡ Ok branch → branch.block ≡ Some q → block_stands m (d - 1 - 1) p t → (2 ≤ d) × (StandsAs m (d - 2) BlockKind q × NamesKnown m q)
unfolding block_stands choice_stands
case_block {m} {d} {p} {q} branch s k tag e chosen stands =
    let i = subst (choice_stands m (d - 1 - 1) (end_of m (p + 3)) (end_of m p)) chosen (subst (block_stands m (d - 1 - 1) p) e stands) in
    let same : d - 1 - 1 ≡ d - 2 = omega arith in
    (omega (arith, has_level i.0), (subst (λ (b : ℕ). StandsAs m b BlockKind q) same i.0, known_chosen (choice_opens s.stands (has_level s) tag).branches (known_branches s tag k) i.1))

module _ {m w w' out : List ℕ} {d p fill : ℕ} {here : Here} (levels : ℕ) (s : StandsAs m d StatementKind p) (tag : byte m p ≡ 0x23) (t : Result CaseBranch Refusal) (tests : Tests m w w' out fill here (case_as m (d - 1 - 1) t) (test_case_at m (d - 1) p)) where
  pub case_refused : (why : Refusal) (n : ℕ) → t ≡ Err why → Executes m w w' out out fill n n (context_of here) (Err why) (λ k. run k (declaration k levels) (statement_at m d p))
  case_refused why n e = refuses why (omega arith) λ k ask es stage. case_refuses s tag k (declaration k levels) t tests es n _ stage.ready why e

  pub case_passed : (branch : CaseBranch) (n : ℕ) → Able m w out fill → length w' ≡ length w → t ≡ Ok branch → branch.block ≡ None → Executes m w w' out out fill n n (context_of here) (Ok fill) (λ k. run k (declaration k levels) (statement_at m d p))
  case_passed branch n able size e none = stops (able_preserved tests.keeps size able) (omega arith) λ k ask es stage. record {
    entries = es;
    same = case_ends s tag k (declaration k levels) t tests es n _ stage.ready branch e none;
    stage = stage_preserved tests.keeps stage;
  }

  pub case_chosen : (branch : CaseBranch) {inside : Context} {q b n n' : ℕ} {w'' out' : List ℕ} {a : Result ℕ Refusal} → t ≡ Ok branch → branch.block ≡ Some q → b ≡ d - 2 → inside ≡ in_branch branch.set (context_of here) → Executes m w' w'' out out' fill n n' inside a (λ k. run_block k (declaration k levels) (block_at m b q)) → Executes m w w'' out out' fill n n' (context_of here) a (λ k. run k (declaration k levels) (statement_at m d p))
  case_chosen branch {q = q} {b = b} {n = n} e chosen below joined runs =
      let same : d - 1 - 1 ≡ b = omega arith in
      goes_on (omega arith) (λ k ask es stage. record {
        entries = es;
        stage = stage_preserved tests.keeps stage;
        same = case_goes_on s tag k (declaration k levels) t tests es n _ stage.ready branch e q chosen ∙ ap (λ (x : ℕ). run_block k (declaration k levels) (block_at m x q) (in_branch branch.set (context_of here)) (state_with w' out fill n es)) same ∙ ap (λ (h : Context). run_block k (declaration k levels) (block_at m b q) h (state_with w' out fill n es)) (sym joined);
      }) runs
