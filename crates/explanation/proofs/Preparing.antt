-- The memory before a run that is asked something, or in which constants are struck out: words are stored in it after all else is prepared. Assumes nothing.
use Prim.Native.Nat.{ℕ, suc, ◌+◌, ◌%◌, ◌≤◌, ◌<◌}
use mathlib.Core.Path.{◌≡◌, refl, sym, ap, ◌∙◌, subst}
use mathlib.Core.Bool.{Bool}
use mathlib.Core.List.{List, []}
use native.Mathlib.Omega.{arith}
use lib.ListN.{length}
use Rattle.wire.specs.Bytes.{byte}
use Rattle.rules.specs.Tree.{Constant}
use Rattle.rules.specs.State.{Entry}
use Rattle.rules.specs.Evaluate.{find_type, find_class}
use Rattle.rules.specs.Types.{Types}
use Rattle.rules.specs.Compile.{none_struck_out, known_with}
use Rattle.rules.proofs.Strikes.{labelled_below}
use Rattle.cells.specs.Layout.{words_at}
use Rattle.cells.specs.Memory.{Names, names_of, state_of, Fine}
use Rattle.cells.proofs.Regions.{same_two}
use Rattle.memory.specs.Words.{word_of, WordSet, strike_label, strike_end, asked_type, asked_title, asked_name, asked_label, note_word, struck_at, struck_in}
use Rattle.memory.proofs.Titles.{title_same}
use Rattle.memory.proofs.Words.{word_at, struck_same}
use Rattle.summaries.proofs.Summaries.{summarized_same}
use Rattle.evaluator.specs.Known.{DefinedAt}
use Rattle.declarations.proofs.Laws.{set_kept}
use Rattle.provenance.specs.Notes.{nothing_asked, asked_of, note_for, Noted}
use Rattle.definitions.specs.Prepared.{Prepares, Blank}
use Rattle.compiler.proofs.Items.{blank_noted}
use Rattle.explanation.specs.declared.Numbers.{Numbers}
use Rattle.std.specs.Prelude.{Option, Some, None}
use Rattle.explanation.specs.Questions.{question_for}

-- ---- Words stored one after the other

-- from w to w' nothing changes but words behind the first
pub record WordsStored (w w' : List ℕ) : Type 0 where
  pub size : length w' ≡ length w
  pub title : word_of w' 0 ≡ word_of w 0
  pub state : (es : List Entry) (n r : ℕ) → state_of w' es n r ≡ state_of w es n r
  pub names : names_of w' ≡ names_of w
  pub fine : Fine w → Fine w'
  pub after : (k : ℕ) → words_at + 30 ≤ k → byte w' k ≡ byte w k

pub one_stored : {w w' : List ℕ} {i v : ℕ} → 0 < i → length w' ≡ length w → WordSet w w' i v → WordsStored w w'
one_stored later size s = record { size = size; title = s.others 0 (omega arith) (λ e. omega arith); state = s.state; names = s.names; fine = s.fine; after = s.after }

pub then_stored : {w w' w'' : List ℕ} → WordsStored w w' → WordsStored w' w'' → WordsStored w w''
then_stored a b = record {
  size = b.size ∙ a.size;
  title = b.title ∙ a.title;
  state = λ es n r. b.state es n r ∙ a.state es n r;
  names = b.names ∙ a.names;
  fine = λ f. b.fine (a.fine f);
  after = λ k l. b.after k l ∙ a.after k l;
}

-- all that is prepared stays, but for the constants that the words strike out
pub prepared_stored : {types : Types} {m w w' : List ℕ} {s : Constant → Bool} (s' : Constant → Bool) → WordsStored w w' → ((v : Constant) → s' v ≡ struck_in w' v) → Prepares types m w s → Prepares types m w' s'
unfolding known_with names_of
prepared_stored {m} {w} {w'} {s} s' stored strikes p = record {
  set = set_kept stored.names stored.size (summarized_same (λ k from to. stored.after k (omega arith))) p.set;
  fine = stored.fine p.fine;
  known = record {
    built_ins = λ n. p.known.built_ins n ∙ ap (λ (ns : Names). ns.built_ins n) (sym stored.names);
    definitions = λ n. subst (λ (q : ℕ). DefinedAt m q (find_type n []) (find_class n [])) (ap (λ (ns : Names). ns.definitions n) (sym stored.names)) (p.known.definitions n);
    struck = strikes;
  };
  title = title_same w w' (word_at w' 0 ∙ stored.title ∙ sym (word_at w 0)) ∙ p.title;
  state = λ limit output. stored.state [] limit _ ∙ p.state limit output;
  index = λ q l u. same_two w w' q (λ j h. stored.after (q + j) (omega arith)) ∙ p.index q l u;
}

-- ---- The way of `prepare_struck`

module _ {types : Types} {m w w₁ w₂ : List ℕ} {label end : ℕ} (ready : Prepares types m w none_struck_out × Blank w) (size : length w₁ ≡ length w) (first : WordSet w w₁ strike_label label) (size₂ : length w₂ ≡ length w₁) (second : WordSet w₁ w₂ strike_end end) where
  struck_stored : WordsStored w w₂
  struck_stored = then_stored (one_stored (omega arith) size first) (one_stored (omega arith) size₂ second)

  strikes_below : (v : Constant) → labelled_below label end v ≡ struck_in w₂ v
  unfolding labelled_below struck_in struck_at
  strikes_below v = rw (second.others strike_label (omega arith) (λ e. omega arith) ∙ first.set, second.set) refl

  -- words that are not stored are 0 still
  still_zero : (i : ℕ) → 2 < i → i < 15 → word_of w₂ i ≡ 0
  still_zero i l u = second.others i u (λ e. omega arith) ∙ first.others i u (λ e. omega arith) ∙ ready.1.words i (omega arith) u

  pub struck_prepared : Prepares types m w₂ (labelled_below label end) × Noted w₂ nothing_asked []
  unfolding asked_of nothing_asked note_for
  struck_prepared = (
    prepared_stored (labelled_below label end) struck_stored strikes_below ready.0,
    record {
      asked = λ i. record {
        type = still_zero asked_type (omega arith) (omega arith) i;
        title = still_zero asked_title (omega arith) (omega arith) i;
        name = still_zero asked_name (omega arith) (omega arith) i;
        label = still_zero asked_label (omega arith) (omega arith) i % 256;
      };
      note = still_zero note_word (omega arith) (omega arith);
    },
  )

-- ---- The ways of `prepare_asking`

module _ {types : Types} {m w : List ℕ} (ready : Prepares types m w none_struck_out × Blank w) where
  pub nothing_asked_lem : {numbers : Option Numbers} (label : ℕ) → numbers ≡ None → Prepares types m w none_struck_out × Noted w (question_for numbers label) []
  unfolding question_for
  nothing_asked_lem label is = rw is (ready.0, blank_noted ready.1)

  module _ (q : Numbers) {next label : ℕ} {w₁ w₂ w₃ w₄ : List ℕ} (size₁ : length w₁ ≡ length w) (one : WordSet w w₁ asked_type next) (size₂ : length w₂ ≡ length w₁) (two : WordSet w₁ w₂ asked_title q.title) (size₃ : length w₃ ≡ length w₂) (three : WordSet w₂ w₃ asked_name q.name) (size₄ : length w₄ ≡ length w₃) (four : WordSet w₃ w₄ asked_label label) where
    asked_stored : WordsStored w w₄
    asked_stored = then_stored (one_stored (omega arith) size₁ one) (then_stored (one_stored (omega arith) size₂ two) (then_stored (one_stored (omega arith) size₃ three) (one_stored (omega arith) size₄ four)))

    -- the other words are as they were
    others_stay : (i : ℕ) → i < 15 → (i ≡ asked_type → ⊥) → (i ≡ asked_title → ⊥) → (i ≡ asked_name → ⊥) → (i ≡ asked_label → ⊥) → word_of w₄ i ≡ word_of w i
    others_stay i l a b c d = four.others i l d ∙ three.others i l c ∙ two.others i l b ∙ one.others i l a

    pub question_asked : {numbers : Option Numbers} → numbers ≡ Some q → next ≡ q.kind + 1 → label < 256 → Prepares types m w₄ none_struck_out × Noted w₄ (question_for numbers label) []
    unfolding question_for asked_of note_for none_struck_out known_with
    question_asked is follows small =
        let number : next ≡ suc q.kind = omega arith in
        let byte : label % 256 ≡ label = omega arith in
        rw is (
          prepared_stored none_struck_out asked_stored (λ v. ready.0.known.struck v ∙ sym (struck_same w w₄ (λ i l. others_stay i (omega arith) (λ e. omega arith) (λ e. omega arith) (λ e. omega arith) (λ e. omega arith)) v)) ready.0,
          record {
            asked = λ i. record {
              type = (four.others asked_type (omega arith) (λ e. omega arith) ∙ three.others asked_type (omega arith) (λ e. omega arith) ∙ two.others asked_type (omega arith) (λ e. omega arith) ∙ one.set ∙ number) i;
              title = (four.others asked_title (omega arith) (λ e. omega arith) ∙ three.others asked_title (omega arith) (λ e. omega arith) ∙ two.set) i;
              name = (four.others asked_name (omega arith) (λ e. omega arith) ∙ three.set) i;
              label = (ap (λ (n : ℕ). n % 256) four.set ∙ byte) i;
            };
            note = others_stay note_word (omega arith) (λ e. omega arith) (λ e. omega arith) (λ e. omega arith) (λ e. omega arith) ∙ ready.1.words note_word (omega arith) (omega arith);
          },
        )
