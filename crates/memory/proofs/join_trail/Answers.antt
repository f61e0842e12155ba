-- `join_trail`: one set joined where it stands.
use Rattle.memory.proofs.Trails.{trail_way}
use Rattle.memory.proofs.join_trail.Goals as goal

pub returns : goal.returns
returns c =
    let joined = c.join_within.ensures in
    trail_way _ _ _ c.requires joined.words joined.stored
