-- `put_in`: the slot takes over what followed the last one above it, and follows that one.
use native.Mathlib.Omega.{arith}
use Rattle.cells.proofs.SlotReads.{last_small, next_low}
use Rattle.cells.proofs.Claims.{in_way}
use Rattle.cells.proofs.put_in.Goals as goal

pub next_of-next-requires : goal.next_of-next-requires
next_of-next-requires c = (last_small _ _ _ _ c.last_above-p.ensures, (c.chain_of-chain.ensures.1, omega arith))

pub put_link-requires : goal.put_link-requires
put_link-requires c = (omega arith, (c.chain_of-chain.ensures.1, omega (arith, next_low _ _ _ _ c.next_of-next.ensures, last_small _ _ _ _ c.last_above-p.ensures)))

pub put_link-requires-2 : goal.put_link-requires-2
put_link-requires-2 c = (last_small _ _ _ _ c.last_above-p.ensures, (c.chain_of-chain.ensures.1, omega arith))

pub returns : goal.returns
returns c =
    in_way _ _ _ _ _ _ _ c.requires.0 c.requires.1.0 (omega arith) (omega arith) c.chain_of-chain.ensures c.requires.1.1 c.last_above-p.ensures c.next_of-next.ensures c.put_link.ensures c.put_two.ensures c.put_two-2.ensures (omega arith) c.put_link-2.ensures
