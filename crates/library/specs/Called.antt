-- What a call from C or Rust tells: an answer in one word.
use Rattle.std.specs.Prelude.{ℕ, ◌+◌, ◌*◌, ◌≡◌, List, Ok, Err, Some, None}
use Rattle.values.specs.Numbers.{Said, accepted, refused, said, number_of, part_number}
use Rattle.rules.specs.Why.{Told}
use Rattle.rules.specs.Types.{Types}
use Rattle.compiler.specs.Compiled.{Compiles}
use Rattle.notation.specs.Convert.{Effect, accepted as written, refusal, said as said_of_text}
use Rattle.notation.specs.Convert as texts
use Rattle.values.specs.Answers.{Answer, Explanation}

-- accepted: the steps in the bits from 16 on, the catalog's length in the lowest 16; refused: the number in the bits from 32 on, the place
-- in the lowest 16. A word below 2^32 is of the first sort, since a refusal's number is at least 1.
unfoldable pub word_of : Said → ℕ
word_of (accepted n s) = s * 65536 + n
word_of (refused k p) = k * 4294967296 + p

-- the word is that of the answer of a compile, and the bytes lent are as the compile leaves them
pub record Calls (types : Types) (manifest device : List ℕ) (limit : ℕ) (output_before output_after memory_before memory_after : List ℕ) (word : ℕ) : Type 0 where
  pub answer : Answer
  pub compiles : Compiles types manifest device limit output_before output_after memory_before memory_after answer
  pub told : word ≡ word_of (said answer)

-- ---- The text tools

-- the length written; refused: as above. A word below 2^32 is of the first sort.
unfoldable pub text_word : texts.Said → ℕ
text_word (written n) = n
text_word (refusal k p) = k * 4294967296 + p

-- the word is that of the answer, and the bytes lent are as they are after it
pub record Tells (effect : Effect) (output_after memory_after : List ℕ) (word : ℕ) : Type 0 where
  pub told : word ≡ text_word (said_of_text effect.answer)
  pub output : output_after ≡ effect.output_after
  pub memory : memory_after ≡ effect.memory_after

-- ---- The why tool

-- the part's number in the bits from 16 on, the place in the lowest 16; 0 for a label that is not among them; refused: as above. A word below 2^32 is no
-- refusal, and one below 2^16 is 0, since a part's number is at least 1.
unfoldable pub explanation_word : Explanation → ℕ
explanation_word (Ok (Some a)) = part_number a.part * 65536 + a.place
explanation_word (Ok None) = 0
explanation_word (Err f) = number_of f.reason * 4294967296 + f.place

-- the word is that of the answer, and the memory lent is as it is after it
pub record Answers (told : Told) (memory_after : List ℕ) (word : ℕ) : Type 0 where
  pub answer : word ≡ explanation_word told.answer
  pub memory : memory_after ≡ told.memory_after
