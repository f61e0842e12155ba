-- `set_title`: two bytes stored where the names end.
use Rattle.memory.proofs.Titles.{title_way}
use Rattle.memory.proofs.set_title.Goals as goal

pub returns : goal.returns
returns c =
    title_way _ _ _ c.requires.0 c.requires.1 c.put_two.ensures
