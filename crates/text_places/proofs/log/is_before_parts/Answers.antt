-- `is_before_parts`: the two codes.
use Rattle.text_places.proofs.Logging.{before_codes}
use Rattle.text_places.proofs.log.is_before_parts.Goals as goal

pub returns : goal.returns
returns c = before_codes c.args.symbol
