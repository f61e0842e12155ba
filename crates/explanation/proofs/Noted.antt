-- What a note says is what the definition answers, and where the note names a part there is a constant to be told. Assumes nothing.
use Prim.Native.Nat.{ℕ, zero, suc, ◌≤◌, ◌<◌}
use mathlib.Core.Path.{◌≡◌, refl, sym, ap, ◌∙◌, subst}
use mathlib.Core.Bool.{Bool, true, false, ◌&&◌}
use mathlib.Core.List.{List, [], ◌∷◌}
use mathlib.Core.Option.{Option, none, some}
use native.Mathlib.Omega.{arith}
use borrow.Author.Tests.{eqb-true, eqb-false, eq-eqb, ne_eqb}
use lib.Dec.{eqb}
use lib.ListN.{length}
use Rattle.labels.specs.Sets.{has}
use Rattle.values.specs.declared.Reason.TheVariants.{NoSuchAttribute}
use Rattle.values.specs.declared.SetPart.{SetPart}
use Rattle.values.specs.declared.SetPart.TheVariants.{Title, Path, Trail, Marks, Value}
use Rattle.values.specs.Numbers.{part_number}
use Rattle.wire.specs.Bytes.{pick}
use Rattle.rules.specs.Outcome.{Outcome, done, ◌>>=◌, or_refuse}
use Rattle.rules.specs.Read.{manifest_of}
use Rattle.rules.specs.State.{Attribute, SetParts, Entry, State}
use Rattle.rules.specs.Evaluate.{first_with, is_entry, is_attribute}
use Rattle.rules.specs.Types.{Types}
use Rattle.rules.specs.Compile.{string_number, final_state}
use Rattle.rules.specs.EditRule.{IsBytes}
use Rattle.rules.specs.Why.{set_of, first_part, without_limits, comes_to_one, lowest_place, Found, found_in, answer_for, explained, explanation_of}
use Rattle.rules.proofs.Lists.{Perhaps, not_there, there, Each, found}
use Rattle.rules.proofs.Strikes.{labelled_below}
use Rattle.rules.proofs.SetParts.{SameLabels, PartsMakeSet, final_parts}
use Rattle.rules.proofs.LabelsMet.{label_met}
use Rattle.rules.proofs.Outcome.{all_get}
use Rattle.rules.specs.Check.{string_places}
use Rattle.syntax.specs.Strings.{string_texts, found_of}
use Rattle.definitions.proofs.Marking.{found_back, found_nothing, found_below}
use Rattle.provenance.specs.Parts.{held_part}
use Rattle.provenance.specs.Notes.{Question, nothing_asked, is_asked, held_in, note_of, note_for}
use Rattle.explanation.specs.declared.Numbers.{Numbers}
use Rattle.explanation.specs.Questions.{numbers_from, numbers_of, Small, question_for}
use Rattle.explanation.specs.Explained.{part_noted, note_answer}
use Rattle.std.specs.Prelude.{Option as CodeOption, Some, None}
use Rattle.values.specs.Answers.{Explanation, among_none, among_part}

-- ---- The entry asked about

next_same : (a b : ℕ) → eqb (suc a) (suc b) ≡ eqb a b
next_same a b = go (eqb a b) refl
  where
    go : (x : Bool) → eqb a b ≡ x → eqb (suc a) (suc b) ≡ x
    go true e = eq-eqb (suc a) (suc b) (ap suc (eqb-true a b e))
    go false e = ne_eqb (suc a) (suc b) (λ h. eqb-false a b e (let g : suc a ≡ suc b = h in omega arith))

-- the numbers of a type, a title and a name
abbrev asking : (t n a : ℕ) → CodeOption Numbers
asking t n a = Some (record { kind = t; title = n; name = a })

-- the note of what is found
note_found : Question → Option Entry → ℕ
note_found q none = 0
note_found q (some e) = note_of q e

note_first : (t n a l : ℕ) (es : List Entry) → note_for (question_for (asking t n a) l) es ≡ note_found (question_for (asking t n a) l) (first_with (is_entry t n) es)
unfolding note_for is_asked first_with is_entry note_found question_for
note_first t n a l [] = refl
note_first t n a l (e ∷ es) = rw (next_same e.type t, note_for) (go (eqb e.type t && eqb e.title n) (first_with (is_entry t n) es) (note_first t n a l es))
  where
    go : (b : Bool) (o : Option Entry) {r : ℕ} → r ≡ note_found (question_for (asking t n a) l) o → (elim b [ true ↦ note_of (question_for (asking t n a) l) e | false ↦ r ]) ≡ note_found (question_for (asking t n a) l) (elim b [ true ↦ some e | false ↦ o ])
    go true o h = refl
    go false o h = h

-- nothing is asked about: there is nothing to note
note_nothing : (es : List Entry) → note_for nothing_asked es ≡ 0
unfolding note_for is_asked nothing_asked
note_nothing [] = refl
note_nothing (e ∷ es) = rw (ne_eqb (suc e.type) 0 (λ h. omega arith), note_for) (note_nothing es)

-- ---- What a part's number says

part_back : (p : SetPart) → part_noted (part_number p) ≡ p
unfolding part_noted part_number
part_back Title = refl
part_back Path = refl
part_back Trail = refl
part_back Marks = refl
part_back Value = refl

part_answer : (p : SetPart) (place : ℕ) → note_answer (part_number p) place ≡ among_part p place
unfolding note_answer part_number part_noted
part_answer Title place = refl
part_answer Path place = refl
part_answer Trail place = refl
part_answer Marks place = refl
part_answer Value place = refl

-- the way of `part_of` for the last of them
pub part_last : (n : ℕ) → (n ≡ 1 → ⊥) → (n ≡ 2 → ⊥) → (n ≡ 3 → ⊥) → (n ≡ 4 → ⊥) → Value ≡ part_noted n
unfolding part_noted
part_last zero a b c d = refl
part_last (suc zero) a b c d = absurd (a refl)
part_last (suc (suc zero)) a b c d = absurd (b refl)
part_last (suc (suc (suc zero))) a b c d = absurd (c refl)
part_last (suc (suc (suc (suc zero)))) a b c d = absurd (d refl)
part_last (suc (suc (suc (suc (suc n))))) a b c d = refl

-- ---- The numbers of the strings asked about

-- the ways of `numbers_of`
module _ (x y z : Option ℕ) {k : CodeOption ℕ} (first : k ≡ found_of x) where
  pub no_type : k ≡ None → None ≡ numbers_from x y z
  unfolding numbers_from
  no_type is = rw (found_nothing x (sym first ∙ is)) refl

  module _ {t : CodeOption ℕ} {n : ℕ} (type : k ≡ Some n) (second : t ≡ found_of y) where
    pub no_title : t ≡ None → None ≡ numbers_from x y z
    unfolding numbers_from
    no_title is = rw (found_back x (sym first ∙ type), found_nothing y (sym second ∙ is)) refl

    module _ {a : CodeOption ℕ} {i : ℕ} (title : t ≡ Some i) (third : a ≡ found_of z) where
      pub no_name : a ≡ None → None ≡ numbers_from x y z
      unfolding numbers_from
      no_name is = rw (found_back x (sym first ∙ type), found_back y (sym second ∙ title), found_nothing z (sym third ∙ is)) refl

      pub all_known : {j : ℕ} → a ≡ Some j → asking n i j ≡ numbers_from x y z
      unfolding numbers_from
      all_known is = rw (found_back x (sym first ∙ type), found_back y (sym second ∙ title), found_back z (sym third ∙ is)) refl

pub numbers_small : (m type title attribute : List ℕ) {r : CodeOption Numbers} → r ≡ numbers_of (string_texts m) type title attribute → length (string_places m) ≤ 1024 → Small r
unfolding numbers_of numbers_from
numbers_small m type title attribute {r} e few = subst Small (sym e) (go (string_number type (string_texts m) 0) refl (string_number title (string_texts m) 0) (string_number attribute (string_texts m) 0))
  where
    go : (x : Option ℕ) → string_number type (string_texts m) 0 ≡ x → (y z : Option ℕ) → Small (numbers_from x y z)
    go none is y z = tt
    go (some t) is none z = tt
    go (some t) is (some n) none = tt
    go (some t) is (some n) (some a) = omega (arith, found_below m type is few)

-- ---- What the note of an attribute says

module _ (parts : SetParts) (a : Attribute) (label place : ℕ) (union : has (set_of parts) label ≡ has a.content.labels label) where
  held_answer : note_answer (held_part parts label) place ≡ answer_for label place (record { attribute = a; parts = parts })
  unfolding held_part answer_for note_answer
  held_answer = rw union (go (has a.content.labels label))
    where
      go : (b : Bool) → note_answer (pick b (part_number (first_part parts label)) 6) place ≡ elim b [ true ↦ among_part (first_part parts label) place | false ↦ among_none ]
      go true = part_answer (first_part parts label) place
      go false = refl

-- ---- What a note says of a whole compile

module _ (label place : ℕ) where
  -- the definition's answer, from the numbers on
  abbrev answer_by : (entries : List Entry) (type title name : ℕ) → Outcome Explanation
  answer_by entries t n a =
      (or_refuse (first_with (is_entry t n) entries) NoSuchAttribute 0 >>= λ e. or_refuse (first_with (is_attribute a) e.attributes) NoSuchAttribute 0 >>= λ at. done (record { attribute = at; parts = e.parts a }))
      >>= λ (f : Found). done (answer_for label place f)

  attribute_answer : (q : Question) (parts : SetParts) (o : Option Attribute) → q.label ≡ label → Perhaps (λ (at : Attribute). SameLabels (set_of parts) at.content.labels) o
      → explanation_of ((or_refuse o NoSuchAttribute 0 >>= λ at. done (record { attribute = at; parts = parts })) >>= λ (f : Found). done (answer_for label place f)) ≡ note_answer (held_in q parts o) place
  unfolding explanation_of or_refuse ◌>>=◌ held_in note_answer
  attribute_answer q parts none same not_there = refl
  attribute_answer q parts (some at) same (there union) = sym (rw same (held_answer parts at label place (union label)))

  entry_answer : (t n a : ℕ) (o : Option Entry) → Perhaps PartsMakeSet o
      → explanation_of ((or_refuse o NoSuchAttribute 0 >>= λ e. or_refuse (first_with (is_attribute a) e.attributes) NoSuchAttribute 0 >>= λ at. done (record { attribute = at; parts = e.parts a })) >>= λ (f : Found). done (answer_for label place f))
      ≡ note_answer (note_found (question_for (asking t n a) label) o) place
  unfolding explanation_of or_refuse ◌>>=◌ note_found note_of question_for note_answer
  entry_answer t n a none not_there = refl
  entry_answer t n a (some e) (there made) = attribute_answer (question_for (asking t n a) label) (e.parts a) (first_with (is_attribute a) e.attributes) refl (made.same a)

  numbers_answer : (entries : List Entry) → Each PartsMakeSet entries → (x y z : Option ℕ)
      → explanation_of ((or_refuse x NoSuchAttribute 0 >>= λ t. or_refuse y NoSuchAttribute 0 >>= λ n. or_refuse z NoSuchAttribute 0 >>= λ a. or_refuse (first_with (is_entry t n) entries) NoSuchAttribute 0 >>= λ e. or_refuse (first_with (is_attribute a) e.attributes) NoSuchAttribute 0 >>= λ at. done (record { attribute = at; parts = e.parts a })) >>= λ (f : Found). done (answer_for label place f))
      ≡ note_answer (note_for (question_for (numbers_from x y z) label) entries) place
  unfolding explanation_of or_refuse ◌>>=◌ question_for numbers_from note_answer
  numbers_answer entries made none y z = rw (note_nothing entries) refl
  numbers_answer entries made (some t) none z = rw (note_nothing entries) refl
  numbers_answer entries made (some t) (some n) none = rw (note_nothing entries) refl
  numbers_answer entries made (some t) (some n) (some a) = entry_answer t n a (first_with (is_entry t n) entries) (found (is_entry t n) made) ∙ ap (λ (k : ℕ). note_answer k place) (sym (note_first t n a label entries))

module _ (types : Types) (m device type title attribute : List ℕ) (label memory : ℕ) {st : State} (ended : final_state types m device without_limits without_limits memory ≡ done st) where
  abbrev pub question_here : Question
  question_here = question_for (numbers_of (manifest_of m).strings type title attribute) label

  made : Each PartsMakeSet st.entries
  made = all_get (final_parts types m device without_limits without_limits memory) ended

  -- THE FIRST LAW: the note says what the definition answers
  pub note_answers : explanation_of (explained types m device type title attribute label memory) ≡ note_answer (note_for question_here st.entries) (lowest_place types m device label)
  unfolding explained found_in numbers_of ◌>>=◌
  note_answers = rw ended (numbers_answer label (lowest_place types m device label) st.entries made (string_number type (manifest_of m).strings 0) (string_number title (manifest_of m).strings 0) (string_number attribute (manifest_of m).strings 0))

  -- THE SECOND LAW: where the note names a part, the compile comes to a constant with the label
  module _ (bytes : IsBytes m) (small : label < 256) where
    comes_by : (t n a : ℕ) {e : Entry} (o : Option Attribute) → first_with (is_entry t n) st.entries ≡ some e → first_with (is_attribute a) e.attributes ≡ o → Perhaps (λ (at : Attribute). SameLabels (set_of (e.parts a)) at.content.labels) o
        → (held_in (question_for (asking t n a) label) (e.parts a) o ≡ 0 → ⊥) → (held_in (question_for (asking t n a) label) (e.parts a) o ≡ 6 → ⊥) → comes_to_one types m device (labelled_below label (length m)) ≡ true
    unfolding held_in held_part question_for
    comes_by t n a none f g not_there some-note some-part = absurd (some-note refl)
    comes_by t n a {e} (some at) f g (there union) some-note some-part = label_met types m device label bytes small memory ended t n a f g (sym (union label) ∙ go (has (set_of (e.parts a)) label) refl)
      where
        go : (b : Bool) → has (set_of (e.parts a)) label ≡ b → has (set_of (e.parts a)) label ≡ true
        go true is = is
        go false is = absurd (some-part (ap (λ (b : Bool). pick b (part_number (first_part (e.parts a) label)) 6) is))

    entry_comes : (t n a : ℕ) (o : Option Entry) → first_with (is_entry t n) st.entries ≡ o → Perhaps PartsMakeSet o
        → (note_found (question_for (asking t n a) label) o ≡ 0 → ⊥) → (note_found (question_for (asking t n a) label) o ≡ 6 → ⊥) → comes_to_one types m device (labelled_below label (length m)) ≡ true
    unfolding note_found note_of question_for
    entry_comes t n a none f not_there some-note some-part = absurd (some-note refl)
    entry_comes t n a (some e) f (there parts) some-note some-part = comes_by t n a (first_with (is_attribute a) e.attributes) f refl (parts.same a) some-note some-part

    numbers_come : (x y z : Option ℕ) → (note_for (question_for (numbers_from x y z) label) st.entries ≡ 0 → ⊥) → (note_for (question_for (numbers_from x y z) label) st.entries ≡ 6 → ⊥) → comes_to_one types m device (labelled_below label (length m)) ≡ true
    unfolding question_for numbers_from
    numbers_come none y z some-note some-part = absurd (some-note (note_nothing st.entries))
    numbers_come (some t) none z some-note some-part = absurd (some-note (note_nothing st.entries))
    numbers_come (some t) (some n) none some-note some-part = absurd (some-note (note_nothing st.entries))
    numbers_come (some t) (some n) (some a) some-note some-part =
        entry_comes t n a (first_with (is_entry t n) st.entries) refl (found (is_entry t n) made) (λ e. some-note (note_first t n a label st.entries ∙ e)) (λ e. some-part (note_first t n a label st.entries ∙ e))

    pub note_comes : (note_for question_here st.entries ≡ 0 → ⊥) → (note_for question_here st.entries ≡ 6 → ⊥) → comes_to_one types m device (labelled_below label (length m)) ≡ true
    unfolding numbers_of
    note_comes = numbers_come (string_number type (manifest_of m).strings 0) (string_number title (manifest_of m).strings 0) (string_number attribute (manifest_of m).strings 0)
