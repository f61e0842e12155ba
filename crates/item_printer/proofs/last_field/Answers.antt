-- `last_field`: at the loop's head, the fields from q on are the last of those before the block, or it is the block.
use native.Mathlib.Omega.{arith}
use Rattle.item_printer.proofs.PrintedItems.{goes_further, is_last}
use Rattle.item_printer.proofs.last_field.Goals as goal

pub end_of-next-requires : goal.end_of-next-requires
end_of-next-requires c = omega (arith, c.requires.0)

pub loop-next-init : goal.loop-next-init
loop-next-init c = (λ k to s b. s, c.end_of-next.ensures)

pub end_of-next-requires-in-loop-next : goal.end_of-next-requires-in-loop-next
end_of-next-requires-in-loop-next c = omega (arith, c.loop-next-test.true, c.requires.1)

pub loop-next-smaller : goal.loop-next-smaller
loop-next-smaller c = omega (arith, c.end_of-next-in-loop-next.ensures, c.loop-next-test.true)

pub loop-next-preserved : goal.loop-next-preserved
loop-next-preserved c = (goes_further _ _ _ c.loop-next.invariant.1 c.loop-next.invariant.0 c.loop-next-test.true, c.end_of-next-in-loop-next.ensures)

pub returns : goal.returns
returns c = is_last _ _ _ c.loop-next.invariant.1 c.loop-next.invariant.0 c.loop-next-test.false
