-- The lines of a question: device, type, title, attribute and label, each all before the next line feed. After the fifth line feed all is the manifest.
use Rattle.std.specs.Prelude.{ℕ, zero, suc, ◌+◌, ◌-◌, ◌≡◌, List, ltb, length, take, drop}
use Rattle.wire.specs.Bytes.{pick}
use Rattle.rules.specs.Schedule.{before_feed, after_feed}
use Rattle.input.specs.Reading.{has_feed}
use Rattle.question.specs.declared.Lines.{Lines}

-- where the line behind a line feed ends: at the next line feed, or at the end of an input that has no more
unfoldable pub line_after : (given : List ℕ) → (feed : ℕ) → ℕ
line_after given feed = pick (ltb feed (length given)) (feed + 1 + length (before_feed (drop (feed + 1) given))) (length given)

-- where each of the five lines ends
unfoldable pub lines_of : (given : List ℕ) → Lines
lines_of given =
    let device : ℕ = length (before_feed given) in
    let kind : ℕ = line_after given device in
    let title : ℕ = line_after given kind in
    let attribute : ℕ = line_after given title in
    record { device = device; kind = kind; title = title; attribute = attribute; label = line_after given attribute }

-- the line behind a line feed, up to its end
unfoldable pub line_between : (given : List ℕ) → (feed end : ℕ) → List ℕ
line_between given feed end = take (end - (feed + 1)) (drop (feed + 1) given)

-- ---- The lines as bytes

-- what follows so many line feeds
unfoldable pub behind_feeds : ℕ → List ℕ → List ℕ
behind_feeds zero given = given
behind_feeds (suc k) given = after_feed (behind_feeds k given)

-- the line behind so many line feeds
unfoldable pub line_number : ℕ → List ℕ → List ℕ
line_number k given = before_feed (behind_feeds k given)

-- ends of lines that give each line and the manifest, and tell whether there are five line feeds; those of `lines_of` do so, for any input (proofs/Laws.antt)
pub record Parts (given : List ℕ) (lines : Lines) : Type 0 where
  pub device : take lines.device given ≡ line_number 0 given
  pub kind : line_between given lines.device lines.kind ≡ line_number 1 given
  pub title : line_between given lines.kind lines.title ≡ line_number 2 given
  pub attribute : line_between given lines.title lines.attribute ≡ line_number 3 given
  pub label : line_between given lines.attribute lines.label ≡ line_number 4 given
  pub manifest : drop (lines.label + 1) given ≡ behind_feeds 5 given
  pub whole : ltb lines.label (length given) ≡ has_feed (behind_feeds 4 given)
