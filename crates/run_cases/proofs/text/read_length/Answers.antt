-- `read_length`: a number up to the room's length counts bytes of the room.
use Rattle.run_cases.proofs.Texts.{counts}
use Rattle.run_cases.proofs.text.read_length.Goals as goal

pub returns : goal.returns
returns c = record { value = c.read_number.ensures.value; prefix_len = counts _ _ c.read_number.ensures.upper_bound }
