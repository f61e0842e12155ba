-- `ask`: the line begins with no label, or has one alone, or one and the length of a list.
use mathlib.Core.Path.{refl, sym}
use native.Mathlib.Omega.{arith}
use lib.Seq.{length-take-le}
use Rattle.question.specs.Asking.{space_place}
use Rattle.input.proofs.Places.{place_within}
use Rattle.input.proofs.Digits.{some_told, none_told}
use Rattle.question.proofs.Reading.{no_label, label_alone, with_list, size_wrong, list_cut, list_there}
use Rattle.question.proofs.ask.Goals as goal

pub slice_bounds-number_in-end : goal.slice_bounds-number_in-end
slice_bounds-number_in-end c =
    let line = c.args.line.now in
    sym (length-take-le c.place_of-space.result line (omega (arith, c.place_of-space.ensures, place_within 32 line)))

pub returns-in_err-label : goal.returns-in_err-label
unfolding space_place
returns-in_err-label c = rw c.from_residual.ensures (no_label _ _ _ c.place_of-space.ensures refl refl (none_told _ c.in_err-label.ensures))

pub overflow_cast-result : goal.overflow_cast-result
overflow_cast-result c = omega (arith, some_told _ c.in_ok-label.ensures)

pub returns-then-line-space : goal.returns-then-line-space
unfolding space_place
returns-then-line-space c =
    let label = some_told _ c.in_ok-label.ensures in
    label_alone _ _ _ c.place_of-space.ensures refl label.0 (omega (arith, label)) c.if-line-space.true

pub returns-in_err-size : goal.returns-in_err-size
unfolding space_place
returns-in_err-size c =
    let label = some_told _ c.in_ok-label.ensures in
    rw c.from_residual-in_err-size.ensures
    (with_list _ _ _ c.place_of-space.ensures refl label.0 (omega (arith, label)) c.if-line-space.false c.after.ensures refl (size_wrong _ _ _ _ (none_told _ c.in_err-size.ensures)))

pub returns-then-there-size : goal.returns-then-there-size
unfolding space_place
returns-then-there-size c =
    let label = some_told _ c.in_ok-label.ensures in
    let size = some_told _ c.in_ok-size.ensures in
    with_list _ _ _ c.place_of-space.ensures refl label.0 (omega (arith, label)) c.if-line-space.false c.after.ensures size.0 (list_cut _ _ _ _ (omega (arith, size)) c.if-there-size.true)

pub overflow_cast-result-2 : goal.overflow_cast-result-2
overflow_cast-result-2 c = omega (arith, some_told _ c.in_ok-label.ensures)

pub overflow_cast-result-3 : goal.overflow_cast-result-3
overflow_cast-result-3 c = omega (arith, some_told _ c.in_ok-size.ensures)

pub returns : goal.returns
unfolding space_place
returns c =
    let label = some_told _ c.in_ok-label.ensures in
    let size = some_told _ c.in_ok-size.ensures in
    with_list _ _ _ c.place_of-space.ensures refl label.0 (omega (arith, label)) c.if-line-space.false c.after.ensures size.0 (list_there _ _ _ _ (omega (arith, size)) c.if-there-size.false)
