-- Blocks: at the head of the loop, what runs the statements that are left runs the whole.
use Prim.Native.Nat.{ℕ, ◌+◌, ◌-◌, ◌<◌, ◌≤◌}
use mathlib.Core.Path.{◌≡◌, refl, sym, ap, ◌∙◌, subst}
use mathlib.Core.Bool.{Bool, true}
use mathlib.Core.List.{List}
use native.Mathlib.Omega.{arith}
use lib.ListN.{length}
use lib.Dec.{leb}
use borrow.Author.Tests.{eqb-true, leb-true}
use Rattle.values.specs.declared.Refusal.{Refusal}
use Rattle.wire.specs.Bytes.{byte, end_of, fields_in}
use Rattle.rules.specs.Outcome.{Outcome, refused, done, ◌>>=◌}
use Rattle.rules.specs.Format.{allowed, forms, form_in, form_of, size, head_size}
use Rattle.rules.specs.Tree.{Block}
use Rattle.rules.specs.State.{State, Context, Known, take_step}
use Rattle.rules.specs.Run.{run, run_block, declaration}
use Rattle.rules.specs.declared.Kind.TheVariants.{Statement as StatementKind, Block as BlockKind}
use Rattle.places.specs.At.{statement_at, block_at, statements_at, StandsAs, Siblings}
use Rattle.places.proofs.Parts.{first_sibling, no_sibling}
use Rattle.places.proofs.Statements.{statement_place_lem, block_opens}
use Rattle.branches.proofs.Standing.{has_level, block_statements, sibling_here, siblings_after}
use Rattle.declarations.specs.Standing.{NamesKnown}
use Rattle.execution.specs.Executed.{Able, state_with, Executes, begun}
use Rattle.execution.proofs.Ends.{stops, executes_as, then_runs, never_runs, able_after}
use Rattle.execution.proofs.Names.{known_in, known_past}
use Rattle.std.specs.Prelude.{Result, Ok, Err}

-- the statements from q to e, with d levels of fields and n of declarations left
abbrev pub run_from : List ℕ → (d n q e : ℕ) → Known → Context → State → Outcome State
run_from m d n q e k = run_block k (declaration k n) (statements_at m d (fields_in m q e))

pub record ToRun (m : List ℕ) (d n q e : ℕ) (w₀ w out₀ out : List ℕ) (fill₀ fill left₀ left : ℕ) (c : Context) (whole : Known → Context → State → Outcome State) : Type 0 where
  pub siblings : Siblings m d StatementKind q e
  pub names : NamesKnown m q
  pub able : Able m w out fill
  pub size : length w ≡ length w₀
  pub long : length out ≡ length out₀
  pub steps : left ≤ left₀
  pub closes : {a : Result ℕ Refusal} {w' out' : List ℕ} {left' : ℕ} → Executes m w w' out out' fill left left' c a (run_from m d n q e) → Executes m w₀ w' out₀ out' fill₀ left₀ left' c a whole

-- the statements of a block
pub block_known : {m : List ℕ} {d p : ℕ} → StandsAs m d BlockKind p → NamesKnown m p → NamesKnown m (p + 3)
unfolding allowed form_of form_in forms head_size size
block_known {m} {p = p} s k =
    let inner : NamesKnown m (p + 3 + 0) = known_in {h = 0} s.stands (eqb-true (byte m p) 0x20 s.kind) (record { head = refl; rest = refl }) k in
    let same : p + 3 + 0 ≡ p + 3 = omega arith in
    subst (NamesKnown m) same inner

pub block_begins : {m w out : List ℕ} {d p e fill left : ℕ} (n : ℕ) (c : Context) → Able m w out fill → StandsAs m d BlockKind p → NamesKnown m p → e ≡ end_of m p → ToRun m (d - 1) n (p + 3) e w w out out fill fill left left c (λ k. run_block k (declaration k n) (block_at m d p))
block_begins {m} {d = d} {p = p} n c able s k ends = record {
  siblings = block_statements s ends;
  names = block_known s k;
  able = able;
  size = refl;
  long = refl;
  steps = omega arith;
  closes = λ x. executes_as (λ k st. ap (λ (b : Block). run_block k (declaration k n) b c st) ((block_opens s (has_level s)).tree ∙ ap (λ (y : ℕ). statements_at m (d - 1) (fields_in m (p + 3) y)) (sym ends))) x;
}

-- the first of the statements, and then those from r on
first_runs : {m : List ℕ} {d q e r : ℕ} (n : ℕ) → Siblings m d StatementKind q e → q < e → r ≡ end_of m q → (k : Known) (c : Context) (st : State) → run_from m d n q e k c st ≡ (begun n q (statement_at m d q) k c st >>= run_from m d n r e k c)
unfolding run statements_at begun ◌>>=◌
first_runs {m} {d} {q} {e} {r} n s l h k c st = ap (λ (ps : List ℕ). run_block k (declaration k n) (statements_at m d ps) c st) (first_sibling s l).places ∙ rw (statement_place_lem m d q, h) (go (take_step q st))
  where
    go : (o : Outcome State) → (o >>= λ x. run k (declaration k n) (statement_at m d q) c x >>= λ y. run_from m d n (end_of m q) e k c y) ≡ ((o >>= λ x. run k (declaration k n) (statement_at m d q) c x) >>= run_from m d n (end_of m q) e k c)
    go (refused x y) = refl
    go (done x) = refl

module _ {m w₀ w out₀ out : List ℕ} {d n q e fill₀ fill left₀ left : ℕ} {c : Context} {whole : Known → Context → State → Outcome State} (i : ToRun m d n q e w₀ w out₀ out fill₀ fill left₀ left c whole) where
  pub block_ends : e ≤ q → Executes m w₀ w out₀ out fill₀ left₀ left c (Ok fill) whole
  unfolding run statements_at
  block_ends l = i.closes (stops i.able (omega arith) λ k ask es s. record { entries = es; same = ap (λ (ps : List ℕ). run_block k (declaration k n) (statements_at m d ps) c (state_with w out fill left es)) (no_sibling i.siblings l).places; stage = s })

  module _ (l : q < e) {a : Result ℕ Refusal} {w' out' : List ℕ} {left' : ℕ} (runs : Executes m w w' out out' fill left left' c a (begun n q (statement_at m d q))) where
    pub block_stops : {why : Refusal} → a ≡ Err why → Executes m w₀ w' out₀ out' fill₀ left₀ left' c a whole
    block_stops e = i.closes (never_runs (run_from m d n (end_of m q) _) (first_runs n i.siblings l refl) runs e)

    pub block_goes_on : {more r : ℕ} → a ≡ Ok more → length w' ≡ length w → length out' ≡ length out → r ≡ end_of m q → ToRun m d n r e w₀ w' out₀ out' fill₀ more left₀ left' c whole
    block_goes_on {more} {r} is size long next =
        let s = sibling_here i.siblings l in
        let fewer = runs.steps in
        let before = i.steps in
        record {
          siblings = siblings_after i.siblings l next;
          names = known_past s.stands next i.names;
          able = able_after is runs.able;
          size = size ∙ i.size;
          long = long ∙ i.long;
          steps = omega arith;
          closes = λ x. i.closes (then_runs (run_from m d n r e) (first_runs n i.siblings l next) runs is x);
        }

-- one without statements
pub block_empty : {m w out : List ℕ} {d p fill left : ℕ} (n : ℕ) (c : Context) → Able m w out fill → StandsAs m d BlockKind p → NamesKnown m p → {b : Bool} → b ≡ leb (end_of m p) (p + 3) → b ≡ true → Executes m w w out out fill left left c (Ok fill) (λ k. run_block k (declaration k n) (block_at m d p))
block_empty {m} {p = p} n c able s k told none = block_ends (block_begins n c able s k refl) (leb-true (end_of m p) (p + 3) (sym told ∙ none))
