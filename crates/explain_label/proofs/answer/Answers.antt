-- `answer`: the line is whole.
use mathlib.Core.Path.{refl}
use Rattle.explain_label.proofs.Answering.{line_whole}
use Rattle.explain_label.proofs.answer.Goals as goal

pub write-requires : goal.write-requires
write-requires g c = (line_whole c.put_answer-length.ensures.0 c.put_answer-length.ensures.1 refl c.first.ensures refl, c.requires)
