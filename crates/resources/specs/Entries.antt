-- The checks of a resource whose parts are evaluated, its entry, and the whole.
use Rattle.std.specs.Prelude.{ℕ, suc, ◌+◌, ◌-◌, ◌≤◌, ◌≡◌, Bool, true, false, List, [], ◌∷◌, ◌++◌, ltb, length, drop, Result, Ok, Err}
use Rattle.labels.specs.declared.Labels.{Labels}
use Rattle.labels.specs.Sets.{◌∪◌}
use Rattle.values.specs.declared.Labelled.{Labelled}
use Rattle.values.specs.declared.Refusal.{Refusal}
use Rattle.values.specs.Refusals.{refusal_at}
use Rattle.values.specs.declared.Reason.TheVariants.{OutputFull}
use Rattle.wire.specs.Bytes.{byte, two, end_of, fields_in}
use Rattle.rules.specs.Outcome.{Outcome, done, ◌>>=◌, at}
use Rattle.rules.specs.Arithmetic.{string_in}
use Rattle.rules.specs.declared.Kind.TheVariants.{Attribute as AttributeKind}
use Rattle.rules.specs.State.{Entry, State, Context, Known}
use Rattle.rules.specs.Catalog.{entry_bytes}
use Rattle.rules.specs.Run.{Given, Declare, evaluate_all, marks_for, add_resource, run}
use Rattle.rules.specs.Compile.{onto}
use Rattle.rules.specs.Ranges.{Each, FitsAttribute}
use Rattle.rules.specs.Once.{UniqueEntries}
use Rattle.places.specs.At.{attributes_at, statement_at, Stands, Siblings}
use Rattle.cells.specs.Layout.{trail_of}
use Rattle.cells.specs.Memory.{built_in_of, state_of}
use Rattle.memory.specs.declared.Context.{Context as Here}
use Rattle.memory.specs.Contexts.{context_of}
use Rattle.catalog.specs.Making.{Holding}
use Rattle.catalog.specs.Finding.{Written}
use Rattle.catalog_index.specs.Index.{Indexed}
use Rattle.evaluator.specs.Answers.{refused_by}
use Rattle.evaluator.specs.Known.{Ready}
use Rattle.resources.specs.Attributes.{attributes_for, Kept}
use Rattle.attributes.specs.Names.{Alike}

-- a new fill point is within the room
unfoldable pub Within : (fill room : ℕ) → Result ℕ Refusal → Type 0
Within fill room (Ok f) = (fill ≤ f) × (f ≤ fill + room)
Within fill room (Err why) = Unit {0}

-- the entry e goes after the entries es: it is longer than the room, or it stands up to the new fill point
pub data Entered (out' : List ℕ) (fill room p : ℕ) (es : List Entry) (e : Entry) : Result ℕ Refusal → Type 0 where
  full : ltb room (length (entry_bytes e)) ≡ true → Entered out' fill room p es e (Err (refusal_at OutputFull p))
  entered : {f : ℕ} → f ≡ fill + length (entry_bytes e) → ltb room (length (entry_bytes e)) ≡ false → Written out' f (es ++ (e ∷ [])) → Entered out' fill room p es e (Ok f)

-- the answer means the outcome o: a refusal; or one entry more before the new fill point, and so much less room
pub data Means (w out' : List ℕ) (fill room n : ℕ) (es : List Entry) (o : Outcome State) : Result ℕ Refusal → Type 0 where
  refused_so : {why : Refusal} → o ≡ refused_by why → Means w out' fill room n es o (Err why)
  done_so : {f : ℕ} (e : Entry) → o ≡ done (state_of w (e ∷ es) n (room - (f - fill))) → Written out' f (onto (e ∷ es) []) → UniqueEntries (e ∷ es) → Means w out' fill room n es o (Ok f)

-- 9, 20, 21 and 23, for the resource at p whose 26s stand from `first` to `end`: `outer` is path and trail, `own` with the title's set
pub record Checks (m w out out' : List ℕ) (fill size room p first end : ℕ) (built : Bool) (title : ℕ) (own : Labels) (r : Result ℕ Refusal) : Type 0 where
  pub kept : Kept out out' fill
  pub within : Within fill room r
  pub says : (k : Known) (c : Context) (es : List Entry) (n : ℕ) (gs : List Given) (labels outer : Labels) (marks : ℕ → Labels) → k.built_in (two m (p + 3)) ≡ built → Written out fill (onto es []) → Indexed w (onto es []) → UniqueEntries es
      → outer ≡ c.path ∪ trail_of w → own ≡ outer ∪ labels → Holding (drop fill out) size (attributes_for outer own gs) → Each FitsAttribute (attributes_for outer own gs) → Alike m gs (fields_in m first end)
      → Means w out' fill room n es (add_resource k p (two m (p + 3)) title labels marks gs c (state_of w es n room)) r

-- the rest of the 25 at p after its title x was evaluated, where its 26s have d levels
abbrev pub titled_run : List ℕ → (d p : ℕ) → Labelled → Known → Context → State → Outcome State
titled_run m d p x k c st =
    at (p + 5) (string_in x.value)
    >>= λ t. evaluate_all k c st (attributes_at m d (fields_in m (end_of m (p + 5)) (end_of m p)))
    >>= λ gs. add_resource k p (two m (p + 3)) t x.labels (marks_for k c st (attributes_at m d (fields_in m (end_of m (p + 5)) (end_of m p)))) gs c st

-- the same after its title x was evaluated, for expressions with `inner` levels in its 26s
pub record RunsTitled (m w out out' : List ℕ) (fill room : ℕ) (here : Here) (inner p : ℕ) (x : Labelled) (built : Bool) (r : Result ℕ Refusal) : Type 0 where
  pub kept : Kept out out' fill
  pub within : Within fill room r
  pub says : Siblings m (suc inner) AttributeKind (end_of m (p + 5)) (end_of m p) → p + 5 ≤ 65535 → end_of m p ≤ 65535 → built ≡ built_in_of w (two m (p + 3))
      → (k : Known) (es : List Entry) (n : ℕ) → Ready m w out fill k es
      → Means w out' fill room n es (titled_run m (suc inner) p x k (context_of here) (state_of w es n room)) r

-- the 25 at p, with d levels: whatever is known and whatever a declaration does, the answer means what the definition's run gives
pub record Runs (m w out out' : List ℕ) (fill room : ℕ) (here : Here) (d p : ℕ) (built : Bool) (r : Result ℕ Refusal) : Type 0 where
  pub kept : Kept out out' fill
  pub within : Within fill room r
  pub says : Stands m d p → byte m p ≡ 0x25 → built ≡ built_in_of w (two m (p + 3))
      → (k : Known) (declare : Declare) (es : List Entry) (n : ℕ) → Ready m w out fill k es
      → Means w out' fill room n es (run k declare (statement_at m d p) (context_of here) (state_of w es n room)) r
