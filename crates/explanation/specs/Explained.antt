-- What a note says, and what `explain` promises.
use Rattle.std.specs.Prelude.{ℕ, zero, suc, ◌≤◌, ◌≡◌, true, false, List, eqb, length, Result, Ok, Err}
use Rattle.values.specs.declared.Refusal.{Refusal}
use Rattle.values.specs.declared.Reason.TheVariants.{NoSuchAttribute}
use Rattle.values.specs.declared.SetPart.{SetPart}
use Rattle.values.specs.declared.SetPart.TheVariants.{Title, Path, Trail, Marks, Value}
use Rattle.rules.specs.Outcome.{Outcome, done}
use Rattle.rules.specs.State.{State}
use Rattle.rules.specs.Types.{Types, check_types}
use Rattle.type_list.specs.Listed.{chosen}
use Rattle.rules.specs.Check.{check}
use Rattle.rules.specs.Why.{comes_to_one, lowest_place, why}
use Rattle.rules.proofs.Strikes.{labelled_below}
use Rattle.memory.specs.Words.{word_of, note_word}
use Rattle.evaluator.specs.Answers.{refused_by}
use Rattle.provenance.specs.Notes.{Question, note_for}
use Rattle.rules.specs.Verdicts.{no_fault}
use Rattle.values.specs.Answers.{Explanation, among_none, among_part, refused_for}

-- ---- A run that is asked

-- types and a manifest without fault, as before a run
abbrev pub Checked : (types m : List ℕ) → Type 0
Checked types m = (check_types (chosen types) ≡ no_fault) × ((check m ≡ no_fault) × (length m ≤ 65535))

-- the answer means the outcome o: its refusal; or the memory w has the note on what is asked about
pub data AskEnds (w : List ℕ) (ask : Question) (o : Outcome State) : Result ℕ Refusal → Type 0 where
  refused_so : {refusal : Refusal} → o ≡ refused_by refusal → AskEnds w ask o (Err refusal)
  noted_so : {f : ℕ} (st : State) → o ≡ done st → word_of w note_word ≡ note_for ask st.entries → AskEnds w ask o (Ok f)

-- ---- What a note says

-- the part with this number
unfoldable pub part_noted : ℕ → SetPart
part_noted zero = Value
part_noted (suc zero) = Title
part_noted (suc (suc zero)) = Path
part_noted (suc (suc (suc zero))) = Trail
part_noted (suc (suc (suc (suc zero)))) = Marks
part_noted (suc (suc (suc (suc (suc n))))) = Value

-- no such attribute, not among them, or a part
unfoldable pub note_answer : (note place : ℕ) → Explanation
note_answer note place = elim (eqb note 0) [ true ↦ refused_for NoSuchAttribute 0 | false ↦ elim (eqb note 6) [ true ↦ among_none | false ↦ among_part (part_noted note) place ] ]

-- the answer is what the note in the memory w says; the place of a part is the lowest, if there is one
pub record Answers (types : Types) (m device : List ℕ) (label : ℕ) (w : List ℕ) (answer : Explanation) : Type 0 where
  pub says : comes_to_one types m device (labelled_below label 0) ≡ false
      → ((word_of w note_word ≡ 0 → ⊥) → (word_of w note_word ≡ 6 → ⊥) → comes_to_one types m device (labelled_below label (length m)) ≡ true)
      → answer ≡ note_answer (word_of w note_word) (lowest_place types m device label)

-- ---- The promise

-- the answer and all bytes of the memory lent are those of the definition
pub record Explains (types : Types) (manifest device type title attribute : List ℕ) (label : ℕ) (memory_before memory_after : List ℕ) (answer : Explanation) : Type 0 where
  pub told : record { answer = answer; memory_after = memory_after } ≡ why types manifest device type title attribute label (length memory_before)
