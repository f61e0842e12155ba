-- What running the items of a manifest means, one after the other.
use Rattle.std.specs.Prelude.{ℕ, ◌≤◌, ◌≡◌, Bool, false, List, eqb, length, Option as CodeOption, Some, None, Result, Ok, Err}
use Rattle.std.proofs.Math.Option.{Option, none, some}
use Rattle.values.specs.declared.Refusal.{Refusal}
use Rattle.rules.specs.Outcome.{Outcome, done}
use Rattle.rules.specs.State.{Entry, State, Known}
use Rattle.rules.specs.Run.{run_items}
use Rattle.rules.specs.Read.{manifest_of}
use Rattle.rules.specs.Types.{Types}
use Rattle.rules.specs.Compile.{room_in, run_manifest, entries_in_order}
use Rattle.places.specs.At.{items_at}
use Rattle.syntax.specs.Nodes.{running}
use Rattle.catalog.specs.Finding.{Written}
use Rattle.evaluator.specs.Answers.{refused_by}
use Rattle.execution.specs.Executed.{Stage, state_with, AbleAfter}
use Rattle.rules.specs.Tree.{Constant}
use Rattle.memory.specs.Words.{word_of, note_word}
use Rattle.provenance.specs.Notes.{Question, note_for}

-- ---- One item

-- the node that runs, if one does
unfoldable pub chosen_of : CodeOption ℕ → Option ℕ
chosen_of (Some q) = some q
chosen_of None = none

unfoldable pub is_chosen : Option ℕ → (p : ℕ) → Bool
is_chosen none p = false
is_chosen (some q) p = eqb p q

-- ---- Items in order

-- of the items at the places given, those that run, where the node c is chosen
unfoldable pub run_places : List ℕ → (c : Option ℕ) → (places : List ℕ) → Known → State → Outcome State
run_places m c ps k st = run_items k (items_at m (running m c ps)) st

-- the answer means the outcome o: its refusal; or it is what the items at the places given, which are left, make of what the bytes stand for
pub data ItemsEnd (m w out : List ℕ) (left : ℕ) (c : Option ℕ) (ps : List ℕ) (k : Known) (ask : Question) (o : Outcome State) : Result ℕ Refusal → Type 0 where
  refused_so : {why : Refusal} → o ≡ refused_by why → ItemsEnd m w out left c ps k ask o (Err why)
  goes_on : {f : ℕ} (es : List Entry) → o ≡ run_places m c ps k (state_with w out f left es) → Stage m w out f k ask es → ItemsEnd m w out left c ps k ask o (Ok f)

-- of the items at `from` those at `to` are left
pub record RunsTo (m w w' out out' : List ℕ) (fill left left' : ℕ) (c : Option ℕ) (from to : List ℕ) (answer : Result ℕ Refusal) : Type 0 where
  pub able : AbleAfter m w' out' answer
  pub steps : left' ≤ left
  pub says : (k : Known) (ask : Question) (es : List Entry) → Stage m w out fill k ask es → ItemsEnd m w' out' left' c to k ask (run_places m c from k (state_with w out fill left es)) answer

-- ---- The whole run

-- the answer means the outcome o: its refusal; or the output holds its entries, the steps left are its own, and the memory w has the note on what is asked about
pub data RunEnds (w out : List ℕ) (left : ℕ) (ask : Question) (o : Outcome State) : Result ℕ Refusal → Type 0 where
  refused_so : {why : Refusal} → o ≡ refused_by why → RunEnds w out left ask o (Err why)
  done_so : {f : ℕ} (st : State) → o ≡ done st → st.steps_left ≡ left → Written out f (entries_in_order st) → f ≤ room_in (length out) → word_of w note_word ≡ note_for ask st.entries → RunEnds w out left ask o (Ok f)

pub record RunsManifest (types : Types) (struck_out : Constant → Bool) (ask : Question) (m device w' out out' : List ℕ) (left left' : ℕ) (answer : Result ℕ Refusal) : Type 0 where
  pub steps : left' ≤ left
  pub ends : RunEnds w' out' left' ask (run_manifest struck_out types (manifest_of m) device left (length out)) answer
