-- `print_lines`: what is left are the lines from the position on and the last one; positions rise within the catalog.
use mathlib.Core.Path.{refl, sym, ◌∙◌}
use native.Mathlib.Omega.{arith}
use Rattle.schedule.specs.Subjects.{start}
use Rattle.print_schedule.proofs.Printing.{line_next, no_line}
use Rattle.print_schedule.proofs.print_lines.Goals as goal

pub loop-text-init : goal.loop-text-init
unfolding start
loop-text-init g c = (c.requires, refl)

pub write-requires : goal.write-requires
write-requires g c =
    let inv = c.loop-text.invariant in
    let text = c.in-Ok-Some.text in
    let made = rw c.in-Ok-Some.field-0-is at c.in-Ok-Some.ensures in
    rw c.first.ensures (line_next _ _ _ _ _ _ inv.0 text.length text.next inv.1 c.next_line.auto.line made refl).comes

pub loop-text-smaller : goal.loop-text-smaller
loop-text-smaller g c =
    let inv = c.loop-text.invariant in
    let text = c.in-Ok-Some.text in
    let made = rw c.in-Ok-Some.field-0-is at c.in-Ok-Some.ensures in
    let told = (line_next _ _ _ _ _ _ inv.0 text.length text.next inv.1 c.next_line.auto.line made refl).told.told in
    omega (arith, told.attribute, told.rises)

pub loop-text-preserved : goal.loop-text-preserved
loop-text-preserved g c =
    let inv = c.loop-text.invariant in
    let text = c.in-Ok-Some.text in
    let kept = c.next_line.auto.line in
    let made = rw c.in-Ok-Some.field-0-is at c.in-Ok-Some.ensures in
    let then = (line_next _ _ _ _ _ _ inv.0 text.length text.next inv.1 kept made refl).then in
    (rw (c.in_ok-write.ensures, c.first.ensures) then, kept ∙ inv.1)
