-- `last_above`: at the loop's head p is on the chain's way, above j.
use Rattle.cells.proofs.SlotReads.{next_less, walk_start, walk_small, walk_next, walk_last, walk_end}
use Rattle.cells.proofs.last_above.Goals as goal

pub loop-i-init : goal.loop-i-init
loop-i-init c = walk_start _ _ _ c.requires.0

pub next_of-requires : goal.next_of-requires
next_of-requires c = (walk_small _ _ _ _ c.loop-i.invariant, c.requires.1)

pub returns-then-i-j : goal.returns-then-i-j
returns-then-i-j c = walk_last _ _ _ _ c.loop-i.invariant _ c.next_of.ensures c.in-Some.is c.if-i-j.true

pub loop-i-smaller : goal.loop-i-smaller
loop-i-smaller c = next_less _ _ _ _ c.next_of.ensures c.in-Some.is

pub loop-i-preserved : goal.loop-i-preserved
loop-i-preserved c = walk_next _ _ _ _ c.loop-i.invariant _ c.next_of.ensures c.in-Some.is c.if-i-j.false

pub returns : goal.returns
returns c = walk_end _ _ _ _ c.loop-i.invariant _ c.next_of.ensures c.in_default.is
