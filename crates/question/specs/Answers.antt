-- The line that answers a question, and bytes that are put into a lent buffer.
use Rattle.std.specs.Prelude.{ℕ, ◌+◌, ◌≡◌, List, [], ◌∷◌, ◌++◌, length, Ok, Err, Some, None}
use Rattle.values.specs.Decimal.{decimal}
use Rattle.values.specs.Numbers.{number_of, part_number}
use Rattle.wire.specs.Runs.{over}
use Rattle.rules.specs.Schedule.{refusal_line}
use Rattle.values.specs.Answers.{Explanation}

-- ---- Lines

unfoldable pub among_line : (part place : ℕ) → List ℕ
among_line part place = 97 ∷ 109 ∷ 111 ∷ 110 ∷ 103 ∷ 32 ∷ decimal part ++ (32 ∷ decimal place ++ (10 ∷ []))  -- "among part place"

unfoldable pub not_among_line : List ℕ
not_among_line = 110 ∷ 111 ∷ 116 ∷ 32 ∷ 97 ∷ 109 ∷ 111 ∷ 110 ∷ 103 ∷ 10 ∷ []  -- "not among"

unfoldable pub answer_line : Explanation → List ℕ
answer_line (Ok (Some a)) = among_line (part_number a.part) a.place
answer_line (Ok None) = not_among_line
answer_line (Err f) = refusal_line (number_of f.reason) f.place

-- for a wrong question
unfoldable pub wrong_line : List ℕ
wrong_line = 110 ∷ 111 ∷ 116 ∷ 32 ∷ 97 ∷ 32 ∷ 113 ∷ 117 ∷ 101 ∷ 115 ∷ 116 ∷ 105 ∷ 111 ∷ 110 ∷ 10 ∷ []  -- "not a question"

-- a word, a number, what stands between, another number and the line's end
unfoldable pub numbers_line : (word : List ℕ) → (first : ℕ) → (middle : List ℕ) → (second : ℕ) → List ℕ
numbers_line word first middle second = word ++ (decimal first ++ (middle ++ (decimal second ++ (10 ∷ []))))

-- ---- Bytes in a buffer

-- a text from a place on, or as much of it as there is room for; all other bytes stay, and the end is told as if it fitted
pub record Put (at : ℕ) (text before after : List ℕ) (end : ℕ) : Type 0 where
  pub told : end ≡ at + length text
  pub bytes : after ≡ over before at text
