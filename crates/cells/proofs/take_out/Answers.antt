-- `take_out`: the slot is in no chain, or what follows it takes its place.
use native.Mathlib.Omega.{arith}
use Rattle.cells.proofs.SlotReads.{last_small, follows_other, follows_it, next_low}
use Rattle.cells.proofs.Claims.{out_absent, out_way}
use Rattle.cells.proofs.take_out.Goals as goal

pub next_of-requires : goal.next_of-requires
next_of-requires c = (last_small _ _ _ _ c.last_above-p.ensures, (c.chain_at-chain.ensures.1, omega arith))

pub returns-then-ne : goal.returns-then-ne
returns-then-ne c = out_absent _ _ _ _ c.requires.0 c.chain_at-chain.ensures.0 c.last_above-p.ensures c.next_of.ensures (follows_other _ _ c.ne.ensures c.if-ne.true)

pub next_of-next-requires : goal.next_of-next-requires
next_of-next-requires c = (omega arith, (c.chain_at-chain.ensures.1, omega arith))

pub put_link-requires : goal.put_link-requires
put_link-requires c = (last_small _ _ _ _ c.last_above-p.ensures, (c.chain_at-chain.ensures.1, omega (arith, next_low _ _ _ _ c.next_of-next.ensures)))

pub returns : goal.returns
returns c =
    out_way _ _ _ _ _ c.requires.0 c.requires.1 c.chain_at-chain.ensures c.last_above-p.ensures c.next_of.ensures (follows_it _ _ c.ne.ensures c.if-ne.false) c.next_of-next.ensures c.put_link.ensures
