-- What is noted about the attribute asked about, while its resource is added: the words of the working memory tell the question and the note.
use Rattle.std.specs.Prelude.{ℕ, suc, ◌+◌, ◌%◌, ◌≤◌, ◌≡◌, Bool, true, false, ◌&&◌, List, [], ◌∷◌, eqb}
use Rattle.std.proofs.Math.Option.{Option, none, some}
use Rattle.labels.specs.declared.Labels.{Labels}
use Rattle.values.specs.declared.Labelled.{Labelled}
use Rattle.wire.specs.Bytes.{byte, two, end_of}
use Rattle.rules.specs.Outcome.{Outcome, done}
use Rattle.rules.specs.State.{Attribute, SetParts, Entry, State, Known}
use Rattle.rules.specs.Evaluate.{first_with, is_attribute, evaluate, marks_read}
use Rattle.rules.specs.Run.{Declare, run}
use Rattle.rules.specs.declared.Kind.TheVariants.{Attribute as AttributeKind, Expression as ExpressionKind}
use Rattle.places.specs.At.{expression_at, statement_at, Stands, StandsAs, Siblings}
use Rattle.cells.specs.Memory.{state_of}
use Rattle.cells.specs.Layout.{trail_of}
use Rattle.memory.specs.declared.Context.{Context as Here}
use Rattle.memory.specs.Contexts.{context_of}
use Rattle.memory.specs.Words.{word_of, WordSet, asked_type, asked_title, asked_name, asked_label, note_word}
use Rattle.evaluator.specs.Known.{Ready}
use Rattle.resources.specs.Entries.{titled_run}
use Rattle.provenance.specs.Parts.{held_part}
use Rattle.std.specs.Prelude.{Option as CodeOption, Some, None}

-- ---- The question and the note

-- an attribute and a label that are asked about, by their numbers
pub record Question : Type 0 where
  pub type : ℕ  -- one more than the number of its resource's type; 0 if nothing is asked about
  pub title : ℕ
  pub name : ℕ
  pub label : ℕ

-- nothing is asked about, as in a compile
unfoldable pub nothing_asked : Question
nothing_asked = record { type = 0; title = 0; name = 0; label = 0 }

unfoldable pub asked_of : (w : List ℕ) → Question
asked_of w = record { type = word_of w asked_type; title = word_of w asked_title; name = word_of w asked_name; label = word_of w asked_label % 256 }

-- whether the attribute asked about is one of this entry's: by its type and title
unfoldable pub is_asked : Question → Entry → Bool
is_asked q e = eqb (suc e.type) q.type && eqb e.title q.title

-- the first part of its set that holds the label asked about, 6 if none does; 0 if there is no such attribute
unfoldable pub held_in : Question → SetParts → Option Attribute → ℕ
held_in q parts none = 0
held_in q parts (some a) = held_part parts q.label

unfoldable pub note_of : Question → Entry → ℕ
note_of q e = held_in q (e.parts q.name) (first_with (is_attribute q.name) e.attributes)

-- of the entries, the latest first
unfoldable pub note_for : Question → List Entry → ℕ
note_for q [] = 0
note_for q (e ∷ es) = elim (is_asked q e) [ true ↦ note_of q e | false ↦ note_for q es ]

-- the memory w asks q, and its note is right of the entries
pub record Noted (w : List ℕ) (q : Question) (es : List Entry) : Type 0 where
  pub asked : asked_of w ≡ q
  pub note : word_of w note_word ≡ note_for q es

-- ---- A resource that is about to be added

-- what is noted of it: the number of a part, or what was noted before stays
abbrev pub Note : Type 0
Note = CodeOption ℕ

-- the note after it, from the note before
unfoldable pub note_after : Note → ℕ → ℕ
note_after (Some n) before = n
note_after None before = before

-- the attribute at q, whose expression has d levels, of a resource whose title has this set: the part that holds the label, if it has a value
pub record NotesAttribute (m w out : List ℕ) (fill : ℕ) (here : Here) (d q : ℕ) (set : Labels) (part : ℕ) : Type 0 where
  pub says : StandsAs m d ExpressionKind (q + 5) → (k : Known) (es : List Entry) (n r : ℕ) → Ready m w out fill k es → (x : Labelled) → evaluate k (context_of here) (state_of w es n r) (expression_at m d (q + 5)) ≡ done x
      → part ≡ held_part (record { title = set; path = here.path; trail = trail_of w; marks = marks_read k (context_of here) (state_of w es n r) (expression_at m d (q + 5)); value = x.labels }) (asked_of w).label

-- a run that adds the entry e to es, after which the note is right again; the type of what is added is asked about
pub record Notes (w : List ℕ) (note : Note) (es : List Entry) (type : ℕ) (o : Outcome State) : Type 0 where
  pub says : (asked_of w).type ≡ suc type → (e : Entry) (n r : ℕ) → o ≡ done (state_of w (e ∷ es) n r) → note_after note (note_for (asked_of w) es) ≡ note_for (asked_of w) (e ∷ es)

pub record NotesTitled (m w out : List ℕ) (fill : ℕ) (here : Here) (inner p : ℕ) (x : Labelled) (note : Note) : Type 0 where
  pub says : Siblings m (suc inner) AttributeKind (end_of m (p + 5)) (end_of m p) → end_of m p ≤ 65535 → (k : Known) (es : List Entry) (n r : ℕ) → Ready m w out fill k es → Notes w note es (two m (p + 3)) (titled_run m (suc inner) p x k (context_of here) (state_of w es n r))

pub record NotesRun (m w out : List ℕ) (fill : ℕ) (here : Here) (d p : ℕ) (note : Note) : Type 0 where
  pub says : Stands m d p → byte m p ≡ 0x25 → (k : Known) (declare : Declare) (es : List Entry) (n r : ℕ) → Ready m w out fill k es → Notes w note es (two m (p + 3)) (run k declare (statement_at m d p) (context_of here) (state_of w es n r))

-- from w to w' the note is made right for the resource at p, and all else stays
pub record NotesResource (m w w' out : List ℕ) (fill : ℕ) (here : Here) (d p : ℕ) : Type 0 where
  pub note : ℕ
  pub set : WordSet w w' note_word note
  pub says : Stands m d p → byte m p ≡ 0x25 → (k : Known) (declare : Declare) (es : List Entry) (n r : ℕ) (q : Question) → Ready m w out fill k es → Noted w q es
      → (e : Entry) (n' r' : ℕ) → run k declare (statement_at m d p) (context_of here) (state_of w es n r) ≡ done (state_of w (e ∷ es) n' r') → Noted w' q (e ∷ es)
