-- `is_again`: what the marks say, and one mark more.
use Rattle.attributes.proofs.Repeats.{marks_one}
use Rattle.attributes.proofs.is_again.Goals as goal

pub returns : goal.returns
returns c = (c.is_marked-again.ensures, marks_one c.args.seen.now _ _ c.requires.1 c.put_byte.ensures)
