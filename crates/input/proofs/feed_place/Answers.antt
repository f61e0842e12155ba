-- `feed_place`: the place of the line feed.
use mathlib.Core.Path.{◌∙◌}
use Rattle.input.proofs.Places as places
use Rattle.input.proofs.feed_place.Goals as goal

pub returns : goal.returns
returns c = c.place_of.ensures ∙ places.feed_place c.args.piece.now
