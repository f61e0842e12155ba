-- What is noted of a resource that is about to be added: one law for each way through the functions that note it. Assumes nothing.
use Prim.Native.Nat.{ℕ, suc, ◌+◌, ◌-◌, ◌%◌, ◌≤◌, ◌<◌}
use mathlib.Core.Path.{◌≡◌, refl, sym, ap, ◌∙◌, subst}
use mathlib.Core.Bool.{Bool, true, false, ◌&&◌, true≢false}
use mathlib.Core.List.{List, [], ◌∷◌, Memᴰ}
use mathlib.Core.Option.{Option, none, some}
use native.Mathlib.Omega.{arith}
use borrow.Author.Tests.{eq-eqb, ne_eqb}
use denote.Enum.Declared.{tag_of}
use lib.Dec.{eqb}
use lib.ListN.{length}
use Rattle.labels.specs.declared.Labels.{Labels}
use Rattle.values.specs.declared.Labelled.{Labelled}
use Rattle.values.specs.declared.Value.{Value}
use Rattle.values.specs.declared.Value.TheVariants.{Integer, String, Boolean}
use Rattle.values.specs.declared.Refusal.{Refusal}
use Rattle.values.specs.contracts.Value.{the_type}
use Rattle.wire.specs.Bytes.{pick, byte, two, end_of, fields_in}
use Rattle.rules.specs.Outcome.{Outcome, refused, done, ◌>>=◌, at}
use Rattle.rules.specs.Arithmetic.{string_in}
use Rattle.rules.specs.Tree.{Expression, AttributeField, Statement, built_in_resource}
use Rattle.rules.specs.State.{Attribute, SetParts, Entry, State, Context, Known, with_entry}
use Rattle.rules.specs.Evaluate.{first_with, is_attribute, evaluate, marks_read}
use Rattle.rules.specs.Run.{Given, is_given, Declare, evaluate_all, marks_for, given_labels, parts_from, attributes_under, entry_from, add_entry, add_resource, run}
use Rattle.rules.specs.Why.{is_refused}
use Rattle.rules.specs.declared.Kind.TheVariants.{Attribute as AttributeKind, Expression as ExpressionKind}
use Rattle.rules.proofs.Lists.{when_true, when_false}
use Rattle.rules.proofs.Outcome.{All, all_refused, all_done, all_bind, all_any, all_get, all_itself}
use Rattle.places.specs.At.{expression_at, attribute_at, attributes_at, statement_at, Stands, StandsAs, Siblings}
use Rattle.places.proofs.Open.{level}
use Rattle.places.proofs.Parts.{each_sibling}
use Rattle.places.proofs.Statements.{attribute_opens, resource_opens}
use Rattle.cells.specs.Layout.{trail_of}
use Rattle.cells.specs.Memory.{state_of}
use Rattle.memory.specs.declared.Context.{Context as Here}
use Rattle.memory.specs.Contexts.{context_of}
use Rattle.memory.specs.Words.{word_of, WordSet, asked_type, asked_title, asked_name, asked_label, note_word}
use Rattle.evaluator.specs.Answers.{refused_by}
use Rattle.evaluator.specs.Known.{Ready, Tells}
use Rattle.evaluator.proofs.Expressions.{Small, operand_at}
use Rattle.attributes.specs.Names.{has_name, named_in}
use Rattle.resources.specs.Entries.{titled_run}
use Rattle.resources.proofs.Whole.{resource_run}
use Rattle.provenance.specs.Parts.{held_part}
use Rattle.provenance.specs.Notes.{Note, Question, asked_of, is_asked, held_in, note_of, note_for, note_after, NotesAttribute, Notes, NotesTitled, NotesRun, Noted, NotesResource}
use Rattle.provenance.proofs.Expressions.{MarksAt, operand_marks}
use Rattle.std.specs.Prelude.{Option as CodeOption, Some, None}

-- ---- Outcomes

refused_done : {A : Type 0} {why : Refusal} {a : A} → refused_by why ≡ done a → ⊥
unfolding is_refused
refused_done e = true≢false (ap is_refused e)

done_same : {a b : Labelled} → done a ≡ done b → a ≡ b
done_same {a} e = ap (λ (o : Outcome Labelled). elim o [ refused r p ↦ a | done x ↦ x ]) e

-- ---- What is given under a name

module _ (m : List ℕ) (d : ℕ) (k : Known) (c : Context) (st : State) (name : ℕ) where
  -- the first of the 26s at these places that has the name, if one has, and what it gives
  data GivenAs (qs : List ℕ) (gs : List Given) : CodeOption ℕ → Type 0 where
    not_given : first_with (is_given name) gs ≡ none → GivenAs qs gs None
    given_as : {q : ℕ} (x : Labelled) → Memᴰ q qs → evaluate k c st (expression_at m (d - 1) (q + 5)) ≡ done x → first_with (is_given name) gs ≡ some (record { place = q; name = two m (q + 3); content = x })
        → marks_for k c st (attributes_at m d qs) name ≡ marks_read k c st (expression_at m (d - 1) (q + 5)) → GivenAs qs gs (Some q)

  abbrev given_by : (q : ℕ) → Labelled → Given
  given_by q x = record { place = q; name = two m (q + 3); content = x }

  -- behind a 26 of another name
  given_further : (q : ℕ) (qs : List ℕ) (x : Labelled) (gs : List Given) → has_name m name q ≡ false → {a : CodeOption ℕ} → GivenAs qs gs a → GivenAs (q ∷ qs) (given_by q x ∷ gs) a
  unfolding first_with is_given marks_for attributes_at attribute_at
  given_further q qs x gs other (not_given e) = not_given (when_false (eqb (two m (q + 3)) name) (some (given_by q x)) (first_with (is_given name) gs) other ∙ e)
  given_further q qs x gs other (given_as y i e g marks) =
      given_as y (Memᴰ.tail i) e (when_false (eqb (two m (q + 3)) name) (some (given_by q x)) (first_with (is_given name) gs) other ∙ g)
      (when_false (eqb (two m (q + 3)) name) (marks_read k c st (expression_at m (d - 1) (q + 5))) (marks_for k c st (attributes_at m d qs) name) other ∙ marks)

  given_first : (q : ℕ) (qs : List ℕ) (x : Labelled) (gs : List Given) → evaluate k c st (expression_at m (d - 1) (q + 5)) ≡ done x → (b : Bool) → has_name m name q ≡ b → {a : CodeOption ℕ} → GivenAs qs gs a → GivenAs (q ∷ qs) (given_by q x ∷ gs) (pick b (Some q) a)
  unfolding first_with is_given marks_for attributes_at attribute_at
  given_first q qs x gs e true this h =
      given_as x (Memᴰ.head refl) e (when_true (eqb (two m (q + 3)) name) (some (given_by q x)) (first_with (is_given name) gs) this)
      (when_true (eqb (two m (q + 3)) name) (marks_read k c st (expression_at m (d - 1) (q + 5))) (marks_for k c st (attributes_at m d qs) name) this)
  given_first q qs x gs e false other h = given_further q qs x gs other h

  given_as_lem : (qs : List ℕ) → All (λ (gs : List Given). GivenAs qs gs (named_in m name qs)) (evaluate_all k c st (attributes_at m d qs))
  unfolding evaluate_all attributes_at attribute_at named_in first_with
  given_as_lem [] = all_done (not_given refl)
  given_as_lem (q ∷ qs) = all_bind (all_itself (evaluate k c st (expression_at m (d - 1) (q + 5)))) λ x e. all_bind (given_as_lem qs) λ gs h. all_done (given_first q qs x gs e (has_name m name q) refl h)

-- ---- The entry that is added

string_at_lem : (p : ℕ) (v : Value) → All (λ (t : ℕ). v ≡ String t) (at p (string_in v))
unfolding at string_in
string_at_lem p (Integer z) = all_refused
string_at_lem p (String t) = all_done refl
string_at_lem p (Boolean b) = all_refused

module _ (m : List ℕ) (d p : ℕ) (x : Labelled) (k : Known) (c : Context) (st : State) where
  abbrev places_here : List ℕ
  places_here = fields_in m (end_of m (p + 5)) (end_of m p)

  abbrev entry_with : (title : ℕ) → List Given → Entry
  entry_with title gs = entry_from (two m (p + 3)) title x.labels (marks_for k c st (attributes_at m d places_here)) c st gs

  -- the entry of a run that adds one, by its title and by what its 26s give
  record Adds (after : State) : Type 0 where
    title : ℕ
    is : x.value ≡ String title
    givens : List Given
    given : evaluate_all k c st (attributes_at m d places_here) ≡ done givens
    entries : after.entries ≡ entry_with title givens ∷ st.entries

  titled_adds : All Adds (titled_run m d p x k c st)
  unfolding add_resource add_entry with_entry
  titled_adds =
      all_bind (string_at_lem (p + 5) x.value) λ t is. all_bind (all_itself (evaluate_all k c st (attributes_at m d places_here))) λ gs given.
      all_any _ λ _. all_any _ λ _. all_any _ λ _. all_any _ λ _. all_done (record { title = t; is = is; givens = gs; given = given; entries = refl })

-- ---- The note of an entry

-- whether there is such an attribute tells what is given
held_given : Question → SetParts → Option Given → ℕ
held_given q parts none = 0
held_given q parts (some g) = held_part parts q.label

held_same : (q : Question) (parts : SetParts) (own : Labels) (c : Context) (st : State) (gs : List Given) → held_in q parts (first_with (is_attribute q.name) (attributes_under own c st gs)) ≡ held_given q parts (first_with (is_given q.name) gs)
unfolding held_in held_given first_with is_attribute is_given attributes_under
held_same q parts own c st [] = refl
held_same q parts own c st (g ∷ gs) = go (eqb g.name q.name) _ _ _ (held_same q parts own c st gs)
  where
    go : (b : Bool) (a : Attribute) (o : Option Attribute) (o' : Option Given) → held_in q parts o ≡ held_given q parts o' → held_in q parts (elim b [ true ↦ some a | false ↦ o ]) ≡ held_given q parts (elim b [ true ↦ some g | false ↦ o' ])
    go true a o o' h = refl
    go false a o o' h = h

asked_entry : (q : Question) (e : Entry) (es : List Entry) → q.type ≡ suc e.type → e.title ≡ q.title → note_for q (e ∷ es) ≡ note_of q e
unfolding note_for is_asked
asked_entry q e es type title = when_true (eqb (suc e.type) q.type && eqb e.title q.title) (note_of q e) (note_for q es) (rw (eq-eqb (suc e.type) q.type (sym type), eq-eqb e.title q.title title) refl)

other_entry : (q : Question) (e : Entry) (es : List Entry) → (e.title ≡ q.title → ⊥) → note_for q (e ∷ es) ≡ note_for q es
unfolding note_for is_asked
other_entry q e es unlike = when_false (eqb (suc e.type) q.type && eqb e.title q.title) (note_of q e) (note_for q es) (rw (ne_eqb e.title q.title unlike) (never (eqb (suc e.type) q.type)))
  where
    never : (b : Bool) → (b && false) ≡ false
    never true = refl
    never false = refl

-- ---- The ways of `attribute_part`

module _ (m w out : List ℕ) (fill : ℕ) (here : Here) (d q : ℕ) (set : Labels) (short : length m ≤ 65535) {a : ℕ} (small : Small a (q + 5)) {e : Outcome Labelled} (told : StandsAs m d ExpressionKind a → Tells m w out fill here.scope e (λ k c st. evaluate k c st (expression_at m d a))) where
  value_told : StandsAs m d ExpressionKind (q + 5) → (k : Known) (es : List Entry) (n r : ℕ) → Ready m w out fill k es → e ≡ evaluate k (context_of here) (state_of w es n r) (expression_at m d (q + 5))
  value_told s k es n r h = (operand_at (λ l. Tells m w out fill here.scope e (λ k c st. evaluate k c st (expression_at m d l))) short s small told).says k here.path es n r h

  -- an expression that is refused gives nothing
  pub part_refused : {why : Refusal} (part : ℕ) → e ≡ refused_by why → NotesAttribute m w out fill here d q set part
  part_refused part is = record { says = λ s k es n r h x got. absurd (refused_done (sym is ∙ value_told s k es n r h ∙ got)) }

  pub part_found : (x : Labelled) {marks trail : Labels} {label part : ℕ} → e ≡ done x → (StandsAs m d ExpressionKind a → MarksAt m w out fill here.scope d a marks) → label ≡ (asked_of w).label → trail ≡ trail_of w
      → part ≡ held_part (record { title = set; path = here.path; trail = trail; marks = marks; value = x.labels }) label → NotesAttribute m w out fill here d q set part
  part_found x {marks} {trail} {label} is read asked trail_is held = record {
    says = λ s k es n r h y got.
        let marked : marks ≡ marks_read k (context_of here) (state_of w es n r) (expression_at m d (q + 5)) = (operand_marks m w out fill here.scope d (q + 5) short s small read).says k here.path es n r h in
        let value : x ≡ y = done_same (sym is ∙ value_told s k es n r h ∙ got) in
        held ∙ (λ i. held_part (record { title = set; path = here.path; trail = trail_is i; marks = marked i; value = (value i).labels }) (asked i));
  }

-- ---- The ways of `titled_note`

-- what is added is the entry of the run, and the note is that of the entries with it
module _ (m w : List ℕ) (d p : ℕ) (x : Labelled) (k : Known) (c : Context) (es : List Entry) (n r : ℕ) (note : Note) where
  pub notes_by : ((title : ℕ) (gs : List Given) → x.value ≡ String title → evaluate_all k c (state_of w es n r) (attributes_at m d (places_here m d p x k c (state_of w es n r))) ≡ done gs → (asked_of w).type ≡ suc (two m (p + 3))
      → note_after note (note_for (asked_of w) es) ≡ note_for (asked_of w) (entry_with m d p x k c (state_of w es n r) title gs ∷ es)) → Notes w note es (two m (p + 3)) (titled_run m d p x k c (state_of w es n r))
  unfolding state_of
  notes_by h = record {
    says = λ type e n' r' ends.
        let a = all_get (titled_adds m d p x k c (state_of w es n r)) ends in
        h a.title a.givens a.is a.given type ∙ ap (note_for (asked_of w)) (sym a.entries);
  }

string_same : {a b : ℕ} → String a ≡ String b → a ≡ b
string_same {a} e = ap (λ (v : Value). elim v [ Integer z ↦ a | String t ↦ t | Boolean b ↦ a ]) e

module _ (m w out : List ℕ) (fill : ℕ) (here : Here) (inner p : ℕ) (x : Labelled) where
  pub title_unlike : (tag_of the_type x.value ≡ 1 → ⊥) → NotesTitled m w out fill here inner p x None
  title_unlike unlike = record { says = λ s l k es n r h. notes_by m w (suc inner) p x k (context_of here) es n r None λ title gs is given type. absurd (unlike (ap (tag_of the_type) is)) }

  module _ {title : ℕ} (is : x.value ≡ String title) where
    pub title_other : {t : ℕ} → t ≡ (asked_of w).title → (title ≡ t → ⊥) → NotesTitled m w out fill here inner p x None
    unfolding note_after entry_from
    title_other asked other = record {
      says = λ s l k es n r h. notes_by m w (suc inner) p x k (context_of here) es n r None λ t gs also given type.
          sym (other_entry (asked_of w) _ es (λ e. other (string_same (sym is ∙ also) ∙ e ∙ sym asked)));
    }

    module _ {t first e end name : ℕ} (asked : t ≡ (asked_of w).title) (this : title ≡ t) (first_is : first ≡ end_of m (p + 5)) (end_is : e ≡ end_of m p) (near : Small end e) (named : name ≡ (asked_of w).name) {found : CodeOption ℕ} (finds : found ≡ named_in m name (fields_in m first end)) where
      found_here : end_of m p ≤ 65535 → found ≡ named_in m (asked_of w).name (fields_in m (end_of m (p + 5)) (end_of m p))
      found_here l = let same : end ≡ end_of m p = near.1 (omega arith) ∙ end_is in finds ∙ (λ i. named_in m (named i) (fields_in m (first_is i) (same i)))

      module _ (l : end_of m p ≤ 65535) (k : Known) (es : List Entry) (n r : ℕ) where
        abbrev state_here : State
        state_here = state_of w es n r

        abbrev list_here : List ℕ
        list_here = fields_in m (end_of m (p + 5)) (end_of m p)

        -- the entry is the one asked about, and its note is that of what is given under the name
        entry_note : (gs : List Given) (v : ℕ) → x.value ≡ String v → (asked_of w).type ≡ suc (two m (p + 3)) → note_for (asked_of w) (entry_with m (suc inner) p x k (context_of here) state_here v gs ∷ es)
            ≡ held_given (asked_of w) (parts_from x.labels (context_of here) state_here (marks_for k (context_of here) state_here (attributes_at m (suc inner) list_here)) gs (asked_of w).name) (first_with (is_given (asked_of w).name) gs)
        unfolding note_of entry_from
        entry_note gs v also type =
            asked_entry (asked_of w) (entry_with m (suc inner) p x k (context_of here) state_here v gs) es type (string_same (sym also ∙ is) ∙ this ∙ asked)
            ∙ held_same (asked_of w) _ _ (context_of here) state_here gs

        given_here : {gs : List Given} {a : CodeOption ℕ} → found ≡ a → evaluate_all k (context_of here) state_here (attributes_at m (suc inner) list_here) ≡ done gs → GivenAs m (suc inner) k (context_of here) state_here (asked_of w).name list_here gs a
        given_here {gs} at given = subst (GivenAs m (suc inner) k (context_of here) state_here (asked_of w).name list_here gs) (sym (found_here l) ∙ at) (all_get (given_as_lem m (suc inner) k (context_of here) state_here (asked_of w).name list_here) given)

      pub no_attribute : {part : ℕ} → found ≡ None → part ≡ 0 → NotesTitled m w out fill here inner p x (Some part)
      unfolding note_after held_given
      no_attribute {part} nowhere zero_is = record {
        says = λ s l k es n r h. notes_by m w (suc inner) p x k (context_of here) es n r (Some part) λ v gs also given type.
            zero_is ∙ sym (entry_note l k es n r gs v also type ∙ ap (held_given (asked_of w) _) (none_given (given_here l k es n r nowhere given)));
      }
        where
          none_given : {k : Known} {st : State} {name : ℕ} {qs : List ℕ} {gs : List Given} → GivenAs m (suc inner) k (context_of here) st name qs gs None → first_with (is_given name) gs ≡ none
          none_given (not_given e) = e

      pub attribute_noted : {q part : ℕ} → found ≡ Some q → NotesAttribute m w out fill here inner q x.labels part → NotesTitled m w out fill here inner p x (Some part)
      unfolding note_after held_given parts_from given_labels state_of
      attribute_noted {q} {part} there notes = record {
        says = λ s l k es n r h. notes_by m w (suc inner) p x k (context_of here) es n r (Some part) λ v gs also given type.
            held_there s k es n r h gs (given_here l k es n r there given) ∙ sym (entry_note l k es n r gs v also type);
      }
        where
          held_there : Siblings m (suc inner) AttributeKind (end_of m (p + 5)) (end_of m p) → (k : Known) (es : List Entry) (n r : ℕ) → Ready m w out fill k es → (gs : List Given) → GivenAs m (suc inner) k (context_of here) (state_of w es n r) (asked_of w).name (fields_in m (end_of m (p + 5)) (end_of m p)) gs (Some q)
              → part ≡ held_given (asked_of w) (parts_from x.labels (context_of here) (state_of w es n r) (marks_for k (context_of here) (state_of w es n r) (attributes_at m (suc inner) (fields_in m (end_of m (p + 5)) (end_of m p)))) gs (asked_of w).name) (first_with (is_given (asked_of w).name) gs)
          held_there s k es n r h gs (given_as y i e g read) =
              let below : suc inner - 1 ≡ inner = omega arith in
              let got : evaluate k (context_of here) (state_of w es n r) (expression_at m inner (q + 5)) ≡ done y = rw below at e in
              let marks : marks_for k (context_of here) (state_of w es n r) (attributes_at m (suc inner) (fields_in m (end_of m (p + 5)) (end_of m p))) (asked_of w).name ≡ marks_read k (context_of here) (state_of w es n r) (expression_at m inner (q + 5)) = rw below at read in
              notes.says (attribute_opens (each_sibling s i) refl).expression k es n r h y got
              ∙ sym (λ j. held_given (asked_of w) (record { title = x.labels; path = here.path; trail = trail_of w; marks = marks j; value = given_labels (g j) }) (g j))

-- ---- The ways of `resource_note`

module _ (m w out : List ℕ) (fill : ℕ) (here : Here) (d p : ℕ) where
  pub resource_flat : d < 2 → NotesRun m w out fill here d p None
  resource_flat flat = record { says = λ s by k declare es n r h. absurd (omega (arith, level s, level (resource_opens s (level s) by).title.stands)) }

  module _ {b : ℕ} (deep : d ≡ suc b) (short : length m ≤ 65535) {q : ℕ} (small : Small q (p + 5)) {e : Outcome Labelled} (told : StandsAs m b ExpressionKind q → Tells m w out fill here.scope e (λ k c st. evaluate k c st (expression_at m b q))) where
    -- the run of the statement, from its title on
    run_titled : {v : Outcome Labelled} → e ≡ v → Stands m d p → byte m p ≡ 0x25 → (k : Known) (declare : Declare) (es : List Entry) (n r : ℕ) → Ready m w out fill k es
        → (v >>= λ x. titled_run m b p x k (context_of here) (state_of w es n r)) ≡ run k declare (statement_at m d p) (context_of here) (state_of w es n r)
    run_titled is s by k declare es n r h = rw is at (resource_run m w out fill r here d p true deep short small told s by k declare es n h)

    pub title_refused : {why : Refusal} → e ≡ refused_by why → NotesRun m w out fill here d p None
    unfolding ◌>>=◌
    title_refused is = record { says = λ s by k declare es n r h. record { says = λ type x n' r' ends. absurd (refused_done (run_titled is s by k declare es n r h ∙ ends)) } }

    pub title_noted : (x : Labelled) {inner : ℕ} {note : Note} → e ≡ done x → b ≡ suc inner → NotesTitled m w out fill here inner p x note → NotesRun m w out fill here d p note
    unfolding ◌>>=◌
    title_noted x {inner} {note} is above notes = record {
      says = λ s by k declare es n r h.
          let o = resource_opens s deep by in
          subst (λ (u : Outcome State). Notes w note es (two m (p + 3)) u) (ap (λ (l : ℕ). titled_run m l p x k (context_of here) (state_of w es n r)) (sym above) ∙ run_titled is s by k declare es n r h)
          (notes.says (rw above at o.attributes) (omega (arith, s.ends)) k es n r h);
    }

-- ---- The ways of `note_resource`

-- the entry that a 25 adds has its type
record AddsType (type : ℕ) (st after : State) : Type 0 where
  entry : Entry
  entries : after.entries ≡ entry ∷ st.entries
  typed : entry.type ≡ type

resource_adds : (k : Known) (declare : Declare) (p type : ℕ) (e : Expression) (ats : List AttributeField) (c : Context) (st : State) → All (AddsType type st) (run k declare (built_in_resource p type e ats) c st)
unfolding run add_resource add_entry with_entry entry_from
resource_adds k declare p type e ats c st =
    all_any _ λ x. all_any _ λ t. all_any _ λ gs. all_any _ λ _. all_any _ λ _. all_any _ λ _. all_any _ λ _.
    all_done (record { entry = entry_from type t x.labels (marks_for k c st ats) c st gs; entries = refl; typed = refl })

other_type : (q : Question) (e : Entry) (es : List Entry) → (suc e.type ≡ q.type → ⊥) → note_for q (e ∷ es) ≡ note_for q es
unfolding note_for is_asked
other_type q e es unlike = when_false (eqb (suc e.type) q.type && eqb e.title q.title) (note_of q e) (note_for q es) (rw (ne_eqb (suc e.type) q.type unlike) refl)

-- a note that is made, or stays
asked_kept : {w w' : List ℕ} {v : ℕ} → WordSet w w' note_word v → asked_of w' ≡ asked_of w
unfolding asked_of
asked_kept set = λ i. record {
  type = set.others asked_type (omega arith) (λ e. omega arith) i;
  title = set.others asked_title (omega arith) (λ e. omega arith) i;
  name = set.others asked_name (omega arith) (λ e. omega arith) i;
  label = set.others asked_label (omega arith) (λ e. omega arith) i % 256;
}

-- THE LAW: words that stay keep question and note
pub noted_same : {w w' : List ℕ} {q : Question} {es : List Entry} → ((i : ℕ) → i < 15 → word_of w' i ≡ word_of w i) → Noted w q es → Noted w' q es
unfolding asked_of
noted_same words noted = record {
  asked = (λ i. record {
    type = words asked_type (omega arith) i;
    title = words asked_title (omega arith) i;
    name = words asked_name (omega arith) i;
    label = words asked_label (omega arith) i % 256;
  }) ∙ noted.asked;
  note = words note_word (omega arith) ∙ noted.note;
}

pub word_stays : (w : List ℕ) (i : ℕ) → WordSet w w i (word_of w i)
word_stays w i = record { set = refl; others = λ j l other. refl; state = λ es n r. refl; names = refl; fine = λ f. f; after = λ k l. refl }

module _ (m w out : List ℕ) (fill : ℕ) (here : Here) (d p : ℕ) {asked kind : ℕ} (Asked-is : asked ≡ word_of w asked_type) (kind_is : kind ≡ two m (p + 3)) where
  -- another type is asked about: a resource that is added has the type of its 25
  pub type_other : (asked ≡ kind + 1 → ⊥) → NotesResource m w w out fill here d p
  unfolding asked_of state_of
  type_other unlike = record {
    note = word_of w note_word;
    set = word_stays w note_word;
    says = λ s by k declare es n r q h noted e n' r' ends.
        let o = resource_opens s (level s) by in
        let a = all_get (resource_adds k declare p (two m (p + 3)) _ _ (context_of here) (state_of w es n r)) (ap (λ (z : Statement). run k declare z (context_of here) (state_of w es n r)) (sym o.tree) ∙ ends) in
        record {
          asked = noted.asked;
          note = noted.note ∙ sym (other_type q a.entry es (λ same. unlike (let number : kind + 1 ≡ suc a.entry.type = omega (arith, kind_is, a.typed) in Asked-is ∙ ap (λ (u : Question). u.type) noted.asked ∙ sym same ∙ sym number))) ∙ ap (note_for q) (sym a.entries);
        };
  }

  module _ (this : asked ≡ kind + 1) {note : Note} (notes : NotesRun m w out fill here d p note) where
    noted_after : {w' : List ℕ} {v : ℕ} → WordSet w w' note_word v → note_after note (word_of w note_word) ≡ v → NotesResource m w w' out fill here d p
    unfolding asked_of
    noted_after {w'} {v} set made = record {
      note = v;
      set = set;
      says = λ s by k declare es n r q h noted e n' r' ends. record {
        asked = asked_kept set ∙ noted.asked;
        note = let one : kind + 1 ≡ suc (two m (p + 3)) = omega (arith, kind_is) in set.set ∙ sym made ∙ ap (note_after note) noted.note ∙ ap (λ (u : Question). note_after note (note_for u es)) (sym noted.asked) ∙ (notes.says s by k declare es n r h).says (sym Asked-is ∙ this ∙ one) e n' r' ends ∙ ap (λ (u : Question). note_for u (e ∷ es)) noted.asked;
      };
    }

    pub note_kept : note ≡ None → NotesResource m w w out fill here d p
    unfolding note_after
    note_kept is = noted_after (word_stays w note_word) (ap (λ (x : Note). note_after x (word_of w note_word)) is)

    pub note_made : {part v : ℕ} {w' : List ℕ} → note ≡ Some part → v ≡ part → WordSet w w' note_word v → NotesResource m w w' out fill here d p
    unfolding note_after
    note_made is same set = noted_after set (ap (λ (x : Note). note_after x (word_of w note_word)) is ∙ sym same)
