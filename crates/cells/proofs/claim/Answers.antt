-- `claim`: out of the old chain; in use, with no value and no mark; into the new chain.
use native.Mathlib.Omega.{arith}
use Rattle.cells.proofs.Claims.{claim_out, claim_way}
use Rattle.cells.proofs.claim.Goals as goal

pub put_in-requires : goal.put_in-requires
put_in-requires c = (c.requires.0, (omega arith, claim_out _ _ _ _ c.take_out.ensures c.renew.ensures))

pub returns : goal.returns
returns c = claim_way _ _ _ _ c.take_out.ensures c.renew.ensures _ _ _ c.put_in.ensures
