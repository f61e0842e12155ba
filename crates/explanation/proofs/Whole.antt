-- The ways of `answer_noted`, `explain_sound` and `explain`. Assumes nothing.
use Prim.Native.Nat.{ℕ, ◌≤◌, ◌<◌}
use mathlib.Core.Path.{◌≡◌, refl, sym, ap, ap₂, ◌∙◌}
use mathlib.Core.Bool.{true, false}
use mathlib.Core.List.{List}
use borrow.Author.Tests.{ne_eqb}
use lib.Dec.{eqb}
use lib.ListN.{length, replicate}
use Rattle.values.specs.declared.Refusal.{Refusal}
use Rattle.values.specs.Refusals.{refusal_at}
use Rattle.values.specs.declared.Reason.TheVariants.{NoSuchAttribute}
use Rattle.values.specs.declared.SetPart.{SetPart}
use Rattle.wire.specs.Runs.{zeros}
use Rattle.rules.specs.Outcome.{Outcome, done, ◌>>=◌}
use Rattle.rules.specs.State.{State}
use Rattle.rules.specs.Read.{manifest_of}
use Rattle.rules.specs.Types.{Types, check_types}
use Rattle.rules.specs.Compile.{none_struck_out, run_manifest, final_state, memory_of}
use Rattle.rules.specs.EditRule.{IsBytes}
use Rattle.rules.specs.Why.{without_limits, comes_to_one, lowest_place, explained, explanation_of, why}
use Rattle.rules.proofs.Strikes.{labelled_below, below_none}
use Rattle.rules.proofs.Lists.{when_false}
use Rattle.syntax.specs.Before.{before}
use Rattle.syntax.specs.Strings.{string_texts}
use Rattle.syntax.proofs.Faults.{before_sound}
use Rattle.syntax.proofs.StringsRead.{strings_read}
use Rattle.memory.specs.Words.{word_of, note_word}
use Rattle.evaluator.specs.Answers.{refused_by}
use Rattle.provenance.specs.Notes.{note_for}
use Rattle.compiler.proofs.Whole.{sound_first}
use Rattle.explanation.specs.declared.Numbers.{Numbers}
use Rattle.explanation.specs.Questions.{numbers_of, question_for}
use Rattle.explanation.specs.Explained.{AskEnds, refused_so, noted_so, part_noted, note_answer, Answers, Explains}
use Rattle.explanation.proofs.Noted.{note_answers, note_comes}
use Rattle.std.specs.Prelude.{Option, Result, Ok, Err}
use Rattle.values.specs.Answers.{Explanation, among_none, among_part, refused_for}
use Rattle.rules.specs.Verdicts.{no_fault}

-- ---- The ways of `answer_noted`

module _ (types : Types) (m device : List ℕ) (label : ℕ) (w : List ℕ) {note : ℕ} (read : note ≡ word_of w note_word) where
  abbrev said_by : ℕ → Explanation
  said_by n = note_answer n (lowest_place types m device label)

  pub answers_none : {refusal : Refusal} {r : Explanation} → note ≡ 0 → refusal ≡ refusal_at NoSuchAttribute 0 → r ≡ refused_for refusal.reason refusal.place → Answers types m device label w r
  unfolding note_answer
  answers_none is told answer = record { says = λ a b. answer ∙ ap (λ (x : Refusal). refused_for x.reason x.place) told ∙ ap said_by (sym is ∙ read) }

  pub answers_not : note ≡ 6 → Answers types m device label w among_none
  unfolding note_answer
  answers_not is = record { says = λ a b. ap said_by (sym is ∙ read) }

  pub answers_part : {part : SetPart} {place : ℕ} → (note ≡ 0 → ⊥) → (note ≡ 6 → ⊥) → part ≡ part_noted note
      → (comes_to_one types m device (labelled_below label 0) ≡ false → comes_to_one types m device (labelled_below label (length m)) ≡ true → place ≡ lowest_place types m device label) → Answers types m device label w (among_part part place)
  unfolding note_answer
  answers_part {part} {place} some-note some-part is found = record {
    says = λ a b.
        let there : place ≡ lowest_place types m device label = found a (b (λ e. some-note (read ∙ e)) (λ e. some-part (read ∙ e))) in
        ap₂ among_part is there ∙ sym (when_false (eqb note 0) (refused_for NoSuchAttribute 0) (elim (eqb note 6) [ true ↦ among_none | false ↦ among_part (part_noted note) (lowest_place types m device label) ]) (ne_eqb note 0 some-note) ∙ when_false (eqb note 6) among_none (among_part (part_noted note) (lowest_place types m device label)) (ne_eqb note 6 some-part)) ∙ ap said_by read;
  }

-- ---- The ways of `explain_sound`

module _ (types : Types) (m device type title attribute : List ℕ) (label memory : ℕ) where
  abbrev answer_here : Explanation
  answer_here = (why types m device type title attribute label memory).answer

  -- a refusal of the compile is told as it is
  pub compile_refuses : {refusal : Refusal} {r : Explanation} → final_state types m device without_limits without_limits memory ≡ refused_by refusal → r ≡ refused_for refusal.reason refusal.place → r ≡ answer_here
  unfolding why explained explanation_of ◌>>=◌
  compile_refuses e answer = answer ∙ sym (rw e refl)

  module _ (room : 65536 ≤ memory) (types-sound : check_types types ≡ no_fault) (sound : before m ≡ no_fault) {numbers : Option Numbers} (known : numbers ≡ numbers_of (string_texts m) type title attribute) {w : List ℕ} {a : Result ℕ Refusal}
      (ran : AskEnds w (question_for numbers label) (run_manifest none_struck_out types (manifest_of m) device without_limits without_limits) a) where
    run_first : final_state types m device without_limits without_limits memory ≡ run_manifest none_struck_out types (manifest_of m) device without_limits without_limits
    run_first = sound_first types m device without_limits without_limits memory room types-sound sound

    pub run_refused : {refusal : Refusal} {r : Explanation} → a ≡ Err refusal → r ≡ refused_for refusal.reason refusal.place → r ≡ answer_here
    run_refused {refusal} is answer = compile_refuses (run_first ∙ go (rw is at ran)) answer
      where
        go : {o : Outcome State} → AskEnds w (question_for numbers label) o (Err refusal) → o ≡ refused_by refusal
        go (refused_so e) = e

    same_numbers : numbers ≡ numbers_of (manifest_of m).strings type title attribute
    same_numbers = known ∙ ap (λ (ss : List (List ℕ)). numbers_of ss type title attribute) (sym (strings_read m (before_sound m sound).sound))

    pub run_answers : {f : ℕ} {r : Explanation} → IsBytes m → label < 256 → a ≡ Ok f → Answers types m device label w r → r ≡ answer_here
    unfolding why
    run_answers {f} {r} bytes small is answers = go (rw is at ran) refl
      where
        go : {o : Outcome State} → AskEnds w (question_for numbers label) o (Ok f) → o ≡ run_manifest none_struck_out types (manifest_of m) device without_limits without_limits → r ≡ answer_here
        go (noted_so st e note) run =
            let ended : final_state types m device without_limits without_limits memory ≡ done st = run_first ∙ sym run ∙ e in
            let noted : word_of w note_word ≡ note_for (question_for (numbers_of (manifest_of m).strings type title attribute) label) st.entries = note ∙ ap (λ (x : Option Numbers). note_for (question_for x label) st.entries) same_numbers in
            answers.says (below_none types m device label (sym run ∙ e)) (λ x y. note_comes types m device type title attribute label memory ended bytes small (λ z. x (noted ∙ z)) (λ z. y (noted ∙ z)))
            ∙ ap (λ (n : ℕ). note_answer n (lowest_place types m device label)) noted
            ∙ sym (note_answers types m device type title attribute label memory ended)

-- ---- The ways of `explain`

module _ (types : Types) (m device type title attribute : List ℕ) (label : ℕ) (work work' : List ℕ) where
  -- the answer and the memory make the whole
  pub explains : {n : ℕ} {r : Explanation} → n ≡ length work → work' ≡ zeros n → r ≡ (why types m device type title attribute label (length work)).answer → Explains types m device type title attribute label work work' r
  unfolding why memory_of zeros
  explains size cleared answer = record { told = λ i. record { answer = answer i; memory_after = (cleared ∙ ap (λ (n : ℕ). replicate n 0) size) i } }

  -- a refusal before the run
  pub explains_refused : {refusal : Refusal} {r : Explanation} → final_state types m device without_limits without_limits (length work) ≡ refused_by refusal → work' ≡ zeros (length work) → r ≡ refused_for refusal.reason refusal.place → Explains types m device type title attribute label work work' r
  explains_refused e cleared answer = explains refl cleared (compile_refuses types m device type title attribute label (length work) e answer)
