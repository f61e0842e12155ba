-- `put_answer`: a question is explained, and any other input is wrong.
use Rattle.question.proofs.Putting.{put_is}
use Rattle.explain_label.proofs.Answering.{wrong_text, right_text, asked_lines}
use Rattle.explain_label.proofs.put_answer.Goals as goal

pub explain_given-requires : goal.explain_given-requires
explain_given-requires c = asked_lines _ c.split.ensures c.in-Some.is

pub returns-in-Some : goal.returns-in-Some
returns-in-Some c = (put_is (right_text _ c.split.ensures c.in-Some.is c.explain_given.ensures) c.write_answer.ensures.0, c.write_answer.ensures.1)

pub returns-in-None : goal.returns-in-None
returns-in-None c = (put_is (wrong_text _ c.split.ensures c.in-None.is) c.write_wrong.ensures.0, c.write_wrong.ensures.1)
