-- `free_scope`: at the loop's head the slots below i are freed, and nothing beside the slots has changed.
use mathlib.Core.Path.{refl, ◌∙◌}
use native.Mathlib.Omega.{arith}
use Rattle.cells.proofs.Free.{freed_none, freed_more, none_past, none_after, free_way}
use Rattle.cells.proofs.free_scope.Goals as goal

pub loop-i-init : goal.loop-i-init
loop-i-init c = (refl, (freed_none _ _, refl))

pub bounds-work-i : goal.bounds-work-i
bounds-work-i c = omega (arith, c.loop-i.invariant.0, c.requires.0)

pub shape_of-work-then-work-i-eq0 : goal.shape_of-work-then-work-i-eq0
shape_of-work-then-work-i-eq0 c = c.loop-i.invariant.0

pub returns-then-work-i-eq0 : goal.returns-then-work-i-eq0
returns-then-work-i-eq0 c =
    let inv = c.loop-i.invariant.1 in
    let fine = c.requires.1 in
    free_way _ _ _ _ fine (none_after _ _ _ _ fine c.loop-i-test.true inv.0 c.if-work-i-eq0.true) inv.0 inv.1

pub free_at-requires : goal.free_at-requires
free_at-requires c = (c.loop-i-test.true, omega (arith, c.requires.0, c.loop-i.invariant.0))

pub loop-i-preserved : goal.loop-i-preserved
loop-i-preserved c =
    let inv = c.loop-i.invariant in
    let free-at = c.free_at in
    let stores = free-at.ensures in
    (free-at.auto.work ∙ inv.0, (freed_more _ _ _ inv.1.0 stores.0, stores.1 ∙ inv.1.1))

pub shape_of-work : goal.shape_of-work
shape_of-work c = c.loop-i.invariant.0

pub returns : goal.returns
returns c =
    let inv = c.loop-i.invariant.1 in
    free_way _ _ _ _ c.requires.1 (λ j l. none_past _ j (omega (arith, c.loop-i-test.false))) inv.0 inv.1
