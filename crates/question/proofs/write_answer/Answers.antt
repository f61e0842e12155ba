-- `write_answer`: by the kind of the answer.
use Prim.Native.Nat.{ℕ}
use mathlib.Core.Path.{ap}
use borrow.Author.Rules.{rules}
use Rattle.rules.specs.Schedule.{refusal_line}
use Rattle.question.specs.Answers.{among_line, not_among_line, numbers_line, answer_line}
use Rattle.question.proofs.Putting.{put_is}
use Rattle.question.proofs.write_answer.Goals as goal

pub returns-in-Ok-Some : goal.returns-in-Ok-Some
unfolding answer_line among_line numbers_line
returns-in-Ok-Some c =
    let some = rw c.in-Ok-Some.is at c.in-Ok-Some.field-0-is in
    (rw (c.in-Ok-Some.is, some, ← c.part_number.ensures) c.put_numbers.ensures.0, c.put_numbers.ensures.1)

pub returns-in-Ok-None : goal.returns-in-Ok-None
unfolding answer_line not_among_line
returns-in-Ok-None c = search rules

pub returns-in-Err : goal.returns-in-Err
unfolding answer_line refusal_line numbers_line
returns-in-Err c = (rw c.in-Err.is (put_is (ap (λ (n : ℕ). refusal_line n c.in-Err.refusal.place) c.number_of.ensures) c.put_numbers-in-Err.ensures.0), c.put_numbers-in-Err.ensures.1)
