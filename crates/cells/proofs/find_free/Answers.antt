-- `find_free`: the first of the slots that is not in use, or they all are.
use native.Mathlib.Omega.{arith}
use borrow.Author.Tests.{tests}
use borrow.Author.Rules.{rules}
use Rattle.std.proofs.lemmas.List.{length-take-le}
use lib.ListN.{take}
use Rattle.std.proofs.lemmas.Iterator.{IsFirst-from_position, YieldsList-from_slice}
use Rattle.cells.proofs.SlotReads.{Used, first_free}
use Rattle.cells.proofs.find_free.Goals as goal

pub slice_bounds-iter-end : goal.slice_bounds-iter-end
slice_bounds-iter-end c = omega (arith, length-take-le 512 c.args.work.now)

pub returns : goal.returns
returns c = first_free _ (omega arith) _ (IsFirst-from_position _ _ _ (λ state. Used state → ⊥) Used c.position.ensures.ran (YieldsList-from_slice (take 512 c.args.work.now) cc) (λ x q k. search (rules, tests)) (λ x q k. search (rules, tests)))
