-- `print_schedule`: what `compile_schedule` answered is printed.
use mathlib.Core.Path.{sym, ap, ◌∙◌}
use native.Mathlib.Omega.{arith}
use lib.ListN.{length}
use Rattle.print_schedule.proofs.Printing.{is_catalog_lem, refusal_left, output_length}
use Rattle.print_schedule.proofs.print_schedule.Goals as goal

pub slice_bounds-first-end : goal.slice_bounds-first-end
slice_bounds-first-end g c = sym (ap length c.compile_schedule-answer.ensures.1 ∙ output_length _ _)

pub print_catalog-requires : goal.print_catalog-requires
print_catalog-requires g c =
    let called = c.compile_schedule-answer.ensures in
    let known = c.type_inv.manifest in
    let is = is_catalog_lem _ _ called.0 called.1 c.in-Ok.is (record { below = λ i. omega (arith, known i) }) in
    (rw c.first.ensures is, c.requires)

pub print_refusal-requires : goal.print_refusal-requires
print_refusal-requires g c =
    rw c.requires (refusal_left _ _ c.compile_schedule-answer.ensures.0 c.in-Err.is)
