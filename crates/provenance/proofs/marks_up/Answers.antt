-- `marks_up`: the loop keeps this: the marks joined so far, with those of the scopes from here on, are the marks of all.
use Prim.Native.Nat.{◌+◌, ◌-◌, ◌<◌}
use Rattle.provenance.proofs.Variables.{beyond, marks_here_lem, pass_empty, pass_none, marks_end, marks_on, marks_out, marks_begin}
use Rattle.cells.specs.Memory.{cells_of, classes_of, base_for}
use Rattle.cells.specs.Scopes.{scope_of}
use Rattle.cells.proofs.Ways.{in_slots}
use Rattle.rules.specs.Evaluate.{marks_in}
use Rattle.rules.specs.State.{upward}
use Rattle.labels.specs.Sets.{no_labels, ◌∪◌}
use mathlib.Core.Path.{◌≡◌, ◌∙◌}
use Rattle.provenance.proofs.marks_up.Goals.{in-Some+else-has_value, in_default}
use native.Mathlib.Omega.{arith}
use Rattle.provenance.proofs.marks_up.Goals as goal

pub loop-init : goal.loop-init
unfolding no_labels
loop-init c = let all : c.args.tries - 0 ≡ c.args.tries = omega arith in rw all (marks_begin _ _ _ _ _ _)

pub slot_for-requires : goal.slot_for-requires
slot_for-requires c = c.requires

pub mark_at-requires : goal.mark_at-requires
mark_at-requires c = (in_slots _ _ _ _ _ c.slot_for.ensures c.in-Some.is, c.requires)

pub has_value-requires : goal.has_value-requires
has_value-requires c = (in_slots _ _ _ _ _ c.slot_for.ensures c.in-Some.is, c.requires)

pub returns-then-has_value : goal.returns-then-has_value
returns-then-has_value c = marks_here_lem _ _ _ _ _ _ c.loop.invariant (omega (arith, c.loop-test.true)) c.slot_for.ensures _ c.in-Some.is c.mark_at.ensures c.union-marks.ensures c.has_value.ensures c.if-has_value.true

pub parent_of-requires : goal.parent_of-requires
parent_of-requires c = c.requires

pub returns-in_default-parent_of : goal.returns-in_default-parent_of
returns-in_default-parent_of c =
    let so_far = c.loop.invariant in
    let more : 0 < c.args.tries - c.loop.counter = omega (arith, c.loop-test.true) in
    let found = c.slot_for.ensures in
    let base = base_for c.args.scope.base_is_node in
    let work = c.args.work.now in
    let passed : c.match-slot_for.marks ∪ beyond (cells_of work) c.args.name (classes_of work) base (c.args.tries - c.loop.counter) (scope_of c.loop.at) ≡ marks_in (cells_of work) c.args.name (upward c.args.tries (classes_of work) base (scope_of c.args.scope.number)) = elim c.match-slot_for.branch [
      | in-Some+else-has_value w ↦ pass_empty _ _ _ _ _ _ so_far more found _ w.in-Some.is w.mark_at.ensures (w.marks-is ∙ w.union-marks.ensures) w.has_value.ensures w.if-has_value.false
      | in_default w ↦ pass_none _ _ _ _ _ _ so_far more found w.in_default.is w.marks-is
    ] in
    marks_end _ _ _ _ _ _ _ passed c.parent_of.ensures c.in_default-parent_of.is

pub loop-preserved : goal.loop-preserved
loop-preserved c =
    let so_far = c.loop.invariant in
    let more : 0 < c.args.tries - c.loop.counter = omega (arith, c.loop-test.true) in
    let found = c.slot_for.ensures in
    let base = base_for c.args.scope.base_is_node in
    let work = c.args.work.now in
    let passed : c.match-slot_for.marks ∪ beyond (cells_of work) c.args.name (classes_of work) base (c.args.tries - c.loop.counter) (scope_of c.loop.at) ≡ marks_in (cells_of work) c.args.name (upward c.args.tries (classes_of work) base (scope_of c.args.scope.number)) = elim c.match-slot_for.branch [
      | in-Some+else-has_value w ↦ pass_empty _ _ _ _ _ _ so_far more found _ w.in-Some.is w.mark_at.ensures (w.marks-is ∙ w.union-marks.ensures) w.has_value.ensures w.if-has_value.false
      | in_default w ↦ pass_none _ _ _ _ _ _ so_far more found w.in_default.is w.marks-is
    ] in
    let fewer : c.args.tries - c.loop.counter - 1 ≡ c.args.tries - (c.loop.counter + 1) = omega arith in
    rw fewer at (marks_on _ _ _ _ _ _ _ passed c.parent_of.ensures c.in-Some-parent_of.is)

pub returns : goal.returns
returns c = marks_out _ _ _ _ _ _ _ c.loop.invariant (omega (arith, c.loop-test.false))
