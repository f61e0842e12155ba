-- `finish`: zeros everywhere, or after the line.
use Rattle.schedule.proofs.Appending.{finished_long, finished_whole}
use Rattle.schedule.proofs.pieces.finish.Goals as goal

pub returns-then-line-at : goal.returns-then-line-at
returns-then-line-at c = finished_long _ _ c.if-line-at.true c.clear_rest.ensures

pub returns : goal.returns
returns c = finished_whole _ _ c.if-line-at.false c.clear_rest-2.ensures
