-- What a call of a text tool leaves.
use Rattle.std.specs.Prelude.{ℕ, ◌-◌, ◌≡◌, List, ◌++◌, length, take, replicate}
use Rattle.rules.specs.Outcome.{Outcome}
use Rattle.notation.specs.Convert.{effect_of}
use Rattle.notation.specs.Answers.{Answer}

-- the answer and all bytes lent are those of the outcome o
pub record Leaves (o : Outcome (List ℕ)) (output_before output_after memory_before memory_after : List ℕ) (answer : Answer) : Type 0 where
  pub effect : record { answer = answer; output_after = output_after; memory_after = memory_after } ≡ effect_of (length output_before) (length memory_before) o

-- the first n bytes of the output stay; all other bytes lent are zero
pub record Clears (n : ℕ) (output_before output_after memory_before memory_after : List ℕ) : Type 0 where
  pub output : output_after ≡ take n output_before ++ replicate (length output_before - n) 0
  pub memory : memory_after ≡ replicate (length memory_before) 0
