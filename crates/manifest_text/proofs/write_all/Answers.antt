-- `write_all`: the answer fits its buffer, and is the whole.
use mathlib.Core.Path.{◌∙◌}
use Rattle.standard_streams.proofs.Sending.{last_bytes, last_next, all_sent}
use Rattle.manifest_text.proofs.Answering.{then_so, then_all}
use Rattle.manifest_text.proofs.write_all.Goals as goal

pub unwrap-requires : goal.unwrap-requires
unwrap-requires g c = rw c.requires.so.size

pub write-requires : goal.write-requires
write-requires g c =
    then_so c.requires (λ a l. rw (c.first.ensures ∙ last_bytes l c.unwrap.ensures) (last_next l))

pub returns : goal.returns
returns g c =
    then_all _ _ _ c.requires c.write.ensures (λ a l. rw (c.first.ensures ∙ last_bytes l c.unwrap.ensures) (all_sent l))
