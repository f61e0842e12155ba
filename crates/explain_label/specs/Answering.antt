-- What the program writes for an input.
use Rattle.std.specs.Prelude.{ℕ, List, take, drop, Option, Some, None}
use Rattle.rules.specs.Types.{Types, the_eight, lent}
use Rattle.rules.specs.Why.{why}
use Rattle.question.specs.Lines.{behind_feeds, line_number}
use Rattle.question.specs.declared.Question.{Question}
use Rattle.question.specs.Asking.{Asked, asked}
use Rattle.question.specs.Answers.{answer_line, wrong_line}
use Rattle.values.specs.Answers.{Explanation}

-- the first four lines are device, type, title and attribute; the memory lent has 65,536 bytes
unfoldable pub explanation_of : Types → (manifest given : List ℕ) → (label : ℕ) → Explanation
explanation_of types manifest given label = (why types manifest (line_number 0 given) (line_number 1 given) (line_number 2 given) (line_number 3 given) label 65536).answer

-- what follows the first five lines is the manifest; or the list of types, which has so many bytes, and then the manifest
unfoldable pub explained_by : (types : Option ℕ) → (given : List ℕ) → (label : ℕ) → Explanation
explained_by None given label = explanation_of the_eight (behind_feeds 5 given) given label
explained_by (Some size) given label = explanation_of (lent (take size (behind_feeds 5 given))) (drop size (behind_feeds 5 given)) given label

unfoldable pub explained : (given : List ℕ) → Question → Explanation
explained given q = explained_by q.types given q.label

unfoldable pub answer_to : (given : List ℕ) → Asked → List ℕ
answer_to given (Some q) = answer_line (explained given q)
answer_to given None = wrong_line

unfoldable pub answer_text : (given : List ℕ) → List ℕ
answer_text given = answer_to given (asked given)
