-- `put_end`: nothing, or a line feed.
use Rattle.token_writer.proofs.Writing.{wrote_is, wrote_none}
use Rattle.token_writer.proofs.WhiteSpace.{end_none, end_feed}
use Rattle.token_writer.proofs.put_end.Goals as goal

pub returns-in-None : goal.returns-in-None
returns-in-None c = wrote_is (end_none _ c.in-None.is) (wrote_none _ _)

pub returns-in-Some : goal.returns-in-Some
returns-in-Some c = wrote_is (end_feed _ c.in-Some.is) c.put_run.ensures
