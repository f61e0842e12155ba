-- What an input asks. Its fifth line is a label, 0 to 255; or a label, a space and the length of a list of types, 0 to 65,535. So many bytes behind that line are
-- the list then, and the manifest follows them; without a length, all behind that line is the manifest.
use Rattle.std.specs.Prelude.{ℕ, ◌+◌, ◌-◌, Bool, List, ltb, length, take, drop, Option, Some, None}
use Rattle.wire.specs.Bytes.{pick}
use Rattle.question.specs.declared.Lines.{Lines}
use Rattle.question.specs.declared.Question.{Question}
use Rattle.input.specs.Places.{place_of}
use Rattle.question.specs.Lines.{lines_of, line_between}
use Rattle.question.specs.Numbers.{number_in}

-- a question, or none
abbrev pub Asked : Type 0
Asked = Option Question

-- without a list of types, and with one of so many bytes
abbrev pub question : Lines → (label : ℕ) → Asked
question lines label = Some (record { lines = lines; label = label; types = None })

abbrev pub with_types : Lines → (label size : ℕ) → Asked
with_types lines label size = Some (record { lines = lines; label = label; types = Some size })

abbrev pub not_a_question : Asked
not_a_question = None

-- ---- The fifth line

-- where its first space stands; its length if it has none
unfoldable pub space_place : (line : List ℕ) → ℕ
space_place line = place_of 32 line

-- the label is all before the space; 256 where that spells none
unfoldable pub label_of : (line : List ℕ) → ℕ
label_of line = number_in 255 (take (space_place line) line)

-- a list is lent if there is a space
unfoldable pub lends_types : (line : List ℕ) → Bool
lends_types line = ltb (space_place line) (length line)

-- and its length is all behind the space; 65,536 where that spells none
unfoldable pub size_of : (line : List ℕ) → ℕ
size_of line = number_in 65535 (drop (space_place line + 1) line)

-- ---- The question

-- so many bytes are there for list and manifest: a list that is longer is not there
unfoldable pub with_size : Lines → (label size there : ℕ) → Asked
with_size lines label size there = pick (ltb 65535 size) not_a_question (pick (ltb there size) not_a_question (with_types lines label size))

unfoldable pub with_line : Lines → (line : List ℕ) → (there : ℕ) → Asked
with_line lines line there = pick (ltb 255 (label_of line)) not_a_question (pick (lends_types line) (with_size lines (label_of line) (size_of line) there) (question lines (label_of line)))

-- Where the fifth line has no line feed behind it the question is wrong: where one is missing earlier, the lines behind it end at the input's end too.
unfoldable pub asked_by : (given : List ℕ) → Lines → Asked
asked_by given lines = pick (ltb lines.label (length given)) (with_line lines (line_between given lines.attribute lines.label) (length given - (lines.label + 1))) not_a_question

unfoldable pub asked : (given : List ℕ) → Asked
asked given = asked_by given (lines_of given)
