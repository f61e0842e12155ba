-- Cases up to the block that runs. That `run` is this and then the block is in proofs/Cases.antt.
use Rattle.std.specs.Prelude.{ℕ, ◌+◌, ◌<◌, ◌≡◌, List, Option, Some, None, Result, Ok, Err}
use Rattle.labels.specs.declared.Labels.{Labels}
use Rattle.labels.specs.Sets.{◌∪◌}
use Rattle.values.specs.declared.Value.{Value}
use Rattle.values.specs.declared.Labelled.{Labelled}
use Rattle.wire.specs.Bytes.{end_of, fields_in}
use Rattle.rules.specs.Outcome.{Outcome, done, ◌>>=◌}
use Rattle.rules.specs.Tree.{Expression, Block, end, Branches, no_branch, branch, default_branch}
use Rattle.rules.specs.Patterns.{Patterns, no_pattern, constant_pattern, default_pattern, chosen, tried_labels, tried}
use Rattle.rules.specs.State.{State, Context, Known}
use Rattle.rules.specs.Evaluate.{evaluate, come_to_all}
use Rattle.rules.specs.Run.{assigns_any, declares_any, with_path_and_trail, after_test}
use Rattle.rules.specs.declared.Kind.TheVariants.{Block as BlockKind}
use Rattle.places.specs.At.{expression_at, block_at, branches_at, StandsAs}
use Rattle.evaluator.specs.Answers.{refused_by}
use Rattle.values.specs.declared.Refusal.{Refusal}
use Rattle.statements.specs.declared.CaseBranch.{CaseBranch}
use Rattle.statements.specs.Tests.{Passed, passed}

-- the branches of the case at p, which have b levels left
abbrev pub branches_of : List ℕ → (b p : ℕ) → Branches
branches_of m b p = branches_at m b (fields_in m (end_of m (p + 3)) (end_of m p))

-- the branches of a case, each with its block
unfoldable pub blocks_in : Branches → Patterns Block
blocks_in no_branch = no_pattern
blocks_in (branch v b bs) = constant_pattern v b (blocks_in bs)
blocks_in (default_branch b bs) = default_pattern b (blocks_in bs)

-- the block that runs: "A case without a match does nothing."
abbrev pub chosen_block : Branches → Value → Block
chosen_block bs x = chosen (blocks_in bs) x end

-- the block at the place chosen, with b levels left
unfoldable pub block_for : List ℕ → (b : ℕ) → Option ℕ → Block
block_for m b (Some q) = block_at m b q
block_for m b None = end

-- the block at q is that of a 24 between f and e
pub data BranchBlock (m : List ℕ) (e q : ℕ) : (f : ℕ) → Type 0 where
  block_here : {f : ℕ} → f < e → q ≡ end_of m (f + 3) → BranchBlock m e q f
  block_later : {f : ℕ} → f < e → BranchBlock m e q (end_of m f) → BranchBlock m e q f

unfoldable pub choice_stands : List ℕ → (b f e : ℕ) → Option ℕ → Type 0
choice_stands m b f e (Some q) = StandsAs m b BlockKind q × BranchBlock m e q f
choice_stands m b f e None = Unit {0}

unfoldable pub after_case : (p : ℕ) → Branches → Labels → Context → State → Outcome State
after_case p bs k c st = after_test p c (assigns_any bs) (declares_any bs) k st

unfoldable pub decide_case : (p : ℕ) → Branches → Labelled → Context → State → Outcome (Passed Block)
decide_case p bs x c st = after_case p bs (with_path_and_trail c st (x.labels ∪ tried_labels (blocks_in bs) x.value)) c st >>= λ st'. done (passed (chosen_block bs x.value) (with_path_and_trail c st (x.labels ∪ tried_labels (blocks_in bs) x.value)) st')

-- the patterns tried, then the rest
unfoldable pub try_case : (p : ℕ) → Branches → Labelled → Known → Context → State → Outcome (Passed Block)
try_case p bs x k c st = come_to_all k (tried (blocks_in bs) x.value) >>= λ _. decide_case p bs x c st

unfoldable pub test_case : (p : ℕ) → Expression → Branches → Known → Context → State → Outcome (Passed Block)
test_case p e bs k c st = evaluate k c st e >>= λ x. try_case p bs x k c st

-- the case at p, whose parts have b levels left
unfoldable pub test_case_at : List ℕ → (b p : ℕ) → Known → Context → State → Outcome (Passed Block)
test_case_at m b p = test_case p (expression_at m b (p + 3)) (branches_of m b p)

-- a block has b levels left
unfoldable pub case_as : List ℕ → (b : ℕ) → Result CaseBranch Refusal → State → Outcome (Passed Block)
case_as m b (Ok x) st = done (passed (block_for m b x.block) x.set st)
case_as m b (Err why) st = refused_by why

-- the block that an answer names stands there
unfoldable pub block_stands : List ℕ → (b p : ℕ) → Result CaseBranch Refusal → Type 0
block_stands m b p (Ok x) = choice_stands m b (end_of m (p + 3)) (end_of m p) x.block
block_stands m b p (Err why) = Unit {0}
