-- `find`: at the loop's head the slots below p find what the whole search finds, and `link` is what stands at p.
use native.Mathlib.Omega.{arith}
use Rattle.cells.proofs.SlotReads.{left_start, left_small, left_none_lem, left_below, left_slot, left_found, left_next}
use Rattle.cells.proofs.find.Goals as goal

pub overflow_mul-chain : goal.overflow_mul-chain
overflow_mul-chain c = omega (arith, c.chain_of-chain.ensures.1)

pub overflow_add-chain : goal.overflow_add-chain
overflow_add-chain c = omega (arith, c.chain_of-chain.ensures.1)

pub two_in-link-requires : goal.two_in-link-requires
two_in-link-requires c = omega (arith, c.chain_of-chain.ensures.1)

pub loop-i-init : goal.loop-i-init
loop-i-init c = left_start _ _ _ _ _ c.chain_of-chain.ensures c.two_in-link.ensures

pub counted_link-requires : goal.counted_link-requires
counted_link-requires c = (left_small _ _ _ _ _ c.loop-i.invariant, c.requires)

pub is_for-requires : goal.is_for-requires
is_for-requires c = (left_slot _ _ _ _ _ _ _ c.loop-i.invariant _ c.counted_link.ensures c.in-Some.is, c.requires)

pub returns-then-is_for : goal.returns-then-is_for
returns-then-is_for c = left_found _ _ _ _ _ _ _ c.loop-i.invariant _ c.counted_link.ensures c.in-Some.is c.is_for.ensures c.if-is_for.true

pub overflow_mul-p : goal.overflow_mul-p
overflow_mul-p c = omega (arith, left_slot _ _ _ _ _ _ _ c.loop-i.invariant _ c.counted_link.ensures c.in-Some.is)

pub overflow_add-p : goal.overflow_add-p
overflow_add-p c = omega (arith, left_slot _ _ _ _ _ _ _ c.loop-i.invariant _ c.counted_link.ensures c.in-Some.is)

pub two_in-link-requires-in-Some : goal.two_in-link-requires-in-Some
two_in-link-requires-in-Some c = omega (arith, left_slot _ _ _ _ _ _ _ c.loop-i.invariant _ c.counted_link.ensures c.in-Some.is)

pub loop-i-smaller : goal.loop-i-smaller
loop-i-smaller c = left_below _ _ _ _ _ _ _ c.loop-i.invariant _ c.counted_link.ensures c.in-Some.is

pub loop-i-preserved : goal.loop-i-preserved
loop-i-preserved c = left_next _ _ _ _ _ _ _ c.loop-i.invariant _ c.counted_link.ensures c.in-Some.is c.is_for.ensures c.if-is_for.false c.two_in-link-in-Some.ensures

pub returns : goal.returns
returns c = left_none_lem _ _ _ _ _ _ _ c.loop-i.invariant _ c.counted_link.ensures c.in_default.is
