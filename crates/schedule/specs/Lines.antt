-- The lines of a schedule: what each call answers, and all bytes of the buffer lent to it.
use Rattle.std.specs.Prelude.{ℕ, ◌≡◌, List, [], ◌++◌, take, Option, Some, None, Result, Ok, Err}
use Rattle.wire.specs.Runs.{zeros}
use Rattle.rules.specs.Schedule.{attribute_line, entry_lines_by}
use Rattle.catalog.specs.Making.{Stored, stored}
use Rattle.schedule.specs.declared.Position.{Position}
use Rattle.schedule.specs.declared.Subject.{Subject}
use Rattle.schedule.specs.declared.Subject.TheVariants.{AnAttribute, NoAttributes, End as NoMore, NotACatalog as Unreadable}
use Rattle.schedule.specs.declared.Text.{Text}
use Rattle.schedule.specs.declared.LineError.{LineError}
use Rattle.schedule.specs.declared.LineError.TheVariants.{TooLong, NotACatalog}
use Rattle.schedule.specs.Appending.{fitted}
use Rattle.schedule.specs.Subjects.{subject_at, attribute_at, head_at}

-- ---- What asking for a line answers

abbrev pub Line : Type 0
Line = Result (Option Text) LineError

-- a line that was written: its length, and the position of the next
abbrev pub text : (length : ℕ) → (next : Position) → Line
text n next = Ok (Some (record { length = n; next = next }))

abbrev pub no_more : Line
no_more = Ok None

abbrev pub too_long : Line
too_long = Err TooLong

abbrev pub not_a_catalog : Line
not_a_catalog = Err NotACatalog

-- ---- The lines

-- a line that was written, with the position of the next
unfoldable pub line_of : Position → Option ℕ → Line
line_of next (Some n) = text n next
line_of next None = too_long

unfoldable pub with_next : Position → Stored (Option ℕ) → Stored Line
with_next next (stored w line) = stored (line_of next w) line

-- the line for what stands at a position
unfoldable pub line_for : List (List ℕ) → List ℕ → Position → (room : ℕ) → Subject → Stored Line
line_for ss m at room (AnAttribute next) = with_next next (fitted (attribute_line ss (head_at m at.entry) (attribute_at m at.attribute)) room)
line_for ss m at room (NoAttributes next) = with_next next (fitted (entry_lines_by ss (head_at m at.entry) []) room)
line_for ss m at room NoMore = stored no_more (zeros room)
line_for ss m at room Unreadable = stored not_a_catalog (zeros room)

-- the line at a position of a catalog's bytes, with the strings ss, in a buffer of `room` bytes
unfoldable pub next_line : List (List ℕ) → (catalog : List ℕ) → Position → (room : ℕ) → Stored Line
next_line ss m at room = line_for ss m at room (subject_at m at)

-- who asks for line after line from a position on, until there are no more, and writes each out, writes this text
pub data Prints (ss : List (List ℕ)) (catalog : List ℕ) (room : ℕ) : Position → List ℕ → Type 0 where
  ends : {at : Position} {line : List ℕ} → next_line ss catalog at room ≡ stored no_more line → Prints ss catalog room at []
  more : {at next : Position} {n : ℕ} {line rest : List ℕ} → next_line ss catalog at room ≡ stored (text n next) line → Prints ss catalog room next rest → Prints ss catalog room at (take n line ++ rest)
