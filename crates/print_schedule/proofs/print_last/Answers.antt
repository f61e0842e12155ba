-- `print_last`: the line fits, and is all that is left.
use mathlib.Core.Path.{◌∙◌}
use Rattle.std.proofs.lemmas.Result.{IfOk-equal}
use Rattle.standard_streams.proofs.Sending.{last_bytes, last_next, all_sent}
use Rattle.print_schedule.proofs.print_last.Goals as goal

pub unwrap-requires : goal.unwrap-requires
unwrap-requires g c = rw c.requires.size

pub write-requires : goal.write-requires
write-requires g c =
    rw (c.first.ensures ∙ last_bytes c.requires c.unwrap.ensures) (last_next c.requires)

pub returns : goal.returns
returns g c =
    IfOk-equal _ _ _ _ c.write.ensures (rw (c.first.ensures ∙ last_bytes c.requires c.unwrap.ensures) (all_sent c.requires))
