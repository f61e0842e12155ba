-- `join_at`: one set joined where it stands.
use Rattle.cells.proofs.Slots.{mark_way}
use Rattle.cells.proofs.join_at.Goals as goal

pub returns : goal.returns
returns c =
    let joined = c.join_within.ensures in
    mark_way _ _ _ c.requires.0 c.requires.1 joined.words joined.stored
