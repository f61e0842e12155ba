-- `write_numbered`: the buffer has room for any result.
use native.Mathlib.Omega.{arith}
use Rattle.standard_streams.proofs.Sending.{last_line}
use Rattle.manifest_text.proofs.Answering.{then_so, numbered_short, numbered_some}
use Rattle.manifest_text.proofs.write_numbered.Goals as goal

pub write_all-requires : goal.write_all-requires
write_all-requires g c =
    then_so c.requires.0 (λ w l. last_line _ _ _ _ l (numbered_some _ _ _) (numbered_short _ _ _ c.requires.1 c.requires.2 (omega (arith, c.ranges.number))) (omega arith) c.numbered_text-written.ensures)
