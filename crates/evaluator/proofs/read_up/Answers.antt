-- `read_up`: the loop keeps this: with the set as it is, what the scopes from here on give is what all give with the set as it was.
use Rattle.evaluator.proofs.read_up.Goals.{in-Some+else-has_value, in_default}
use Rattle.evaluator.proofs.Outcomes.{refusal_told, value_is}
use Rattle.evaluator.proofs.Reading.{beyond, read_here, pass_empty, pass_none, read_end, read_on, read_out}
use Rattle.evaluator.specs.Known.{variable_in}
use Rattle.cells.specs.Memory.{cells_of, classes_of, base_for}
use Rattle.cells.specs.Scopes.{scope_of}
use Rattle.cells.proofs.Ways.{in_slots}
use Rattle.rules.specs.Outcome.{joining}
use Rattle.labels.specs.Words.{labels_in, Grows}
use Rattle.labels.proofs.Words.{grows_none, grows_joined, grows_on}
use Prim.Native.Nat.{ℕ, ◌+◌, ◌-◌, ◌<◌}
use mathlib.Core.List.{List}
use mathlib.Core.Path.{◌≡◌, refl, sym, ap, ◌∙◌, subst}
use native.Mathlib.Omega.{arith}
use Rattle.evaluator.proofs.read_up.Goals as goal

pub loop-init : goal.loop-init
unfolding variable_in
loop-init c = let all : c.args.variable.tries - 0 ≡ c.args.variable.tries = omega arith in (grows_none (omega arith), rw all refl)

pub slot_for-requires : goal.slot_for-requires
slot_for-requires c = c.requires.0

pub mark_at-requires : goal.mark_at-requires
mark_at-requires c = (in_slots _ _ _ _ _ c.slot_for.ensures c.in-Some.is, c.requires.0)

pub join-requires : goal.join-requires
join-requires c = c.loop.invariant.0.size

pub has_value-requires : goal.has_value-requires
has_value-requires c = (in_slots _ _ _ _ _ c.slot_for.ensures c.in-Some.is, c.requires.0)

pub labels_at-requires : goal.labels_at-requires
labels_at-requires c = (in_slots _ _ _ _ _ c.slot_for.ensures c.in-Some.is, c.requires.0)

pub join-requires-then-has_value : goal.join-requires-then-has_value
join-requires-then-has_value c = c.join.ensures.size

pub value_at-requires : goal.value_at-requires
value_at-requires c = (in_slots _ _ _ _ _ c.slot_for.ensures c.in-Some.is, c.requires.0)

pub returns-then-has_value : goal.returns-then-has_value
returns-then-has_value c = record {
  grows = grows_on c.loop.invariant.0 (grows_on (grows_joined c.join.ensures) (grows_joined c.join-then-has_value.ensures));
  says = read_here _ _ _ _ _ _ _ c.loop.invariant.1 (omega (arith, c.loop-test.true)) c.slot_for.ensures _ c.in-Some.is c.mark_at.ensures c.join.ensures.labels c.has_value.ensures _ c.if-has_value.true c.labels_at.ensures c.join-then-has_value.ensures.labels c.value_at.ensures (value_is _);
}

pub parent_of-requires : goal.parent_of-requires
parent_of-requires c = c.requires.0

pub at-requires : goal.at-requires
at-requires c = c.requires.1

pub returns-in_default-parent_of : goal.returns-in_default-parent_of
returns-in_default-parent_of c =
    let so_far = c.loop.invariant.1 in
    let more : 0 < c.args.variable.tries - c.loop.counter = omega (arith, c.loop-test.true) in
    let found = c.slot_for.ensures in
    let passed : joining (labels_in c.match-slot_for.set) (beyond c.args.p (cells_of c.args.work.now) c.args.variable.name (classes_of c.args.work.now) (base_for c.args.variable.scope.base_is_node) (c.args.variable.tries - c.loop.counter) (scope_of c.loop.at)) ≡ joining (labels_in c.args.set.now) (variable_in c.args.work.now c.args.p c.args.variable) = elim c.match-slot_for.branch [
      | in-Some+else-has_value w ↦ pass_empty _ _ _ _ _ _ _ so_far more found _ w.in-Some.is w.mark_at.ensures (ap labels_in w.set-is ∙ w.join.ensures.labels) w.has_value.ensures w.if-has_value.false
      | in_default w ↦ pass_none _ _ _ _ _ _ _ so_far more found w.in_default.is (ap labels_in w.set-is)
    ] in
    let grown : Grows c.args.set.now c.match-slot_for.set = elim c.match-slot_for.branch [
      | in-Some+else-has_value w ↦ subst (λ (s : List ℕ). Grows c.args.set.now s) (sym w.set-is) (grows_on c.loop.invariant.0 (grows_joined w.join.ensures))
      | in_default w ↦ subst (λ (s : List ℕ). Grows c.args.set.now s) (sym w.set-is) c.loop.invariant.0
    ] in
    record { grows = grown; says = read_end _ _ _ _ _ _ _ _ passed c.parent_of.ensures c.in_default-parent_of.is (refusal_told _ c.at.ensures) }

pub loop-preserved : goal.loop-preserved
loop-preserved c =
    let so_far = c.loop.invariant.1 in
    let more : 0 < c.args.variable.tries - c.loop.counter = omega (arith, c.loop-test.true) in
    let found = c.slot_for.ensures in
    let passed : joining (labels_in c.match-slot_for.set) (beyond c.args.p (cells_of c.args.work.now) c.args.variable.name (classes_of c.args.work.now) (base_for c.args.variable.scope.base_is_node) (c.args.variable.tries - c.loop.counter) (scope_of c.loop.at)) ≡ joining (labels_in c.args.set.now) (variable_in c.args.work.now c.args.p c.args.variable) = elim c.match-slot_for.branch [
      | in-Some+else-has_value w ↦ pass_empty _ _ _ _ _ _ _ so_far more found _ w.in-Some.is w.mark_at.ensures (ap labels_in w.set-is ∙ w.join.ensures.labels) w.has_value.ensures w.if-has_value.false
      | in_default w ↦ pass_none _ _ _ _ _ _ _ so_far more found w.in_default.is (ap labels_in w.set-is)
    ] in
    let grown : Grows c.args.set.now c.match-slot_for.set = elim c.match-slot_for.branch [
      | in-Some+else-has_value w ↦ subst (λ (s : List ℕ). Grows c.args.set.now s) (sym w.set-is) (grows_on c.loop.invariant.0 (grows_joined w.join.ensures))
      | in_default w ↦ subst (λ (s : List ℕ). Grows c.args.set.now s) (sym w.set-is) c.loop.invariant.0
    ] in
    let fewer : c.args.variable.tries - c.loop.counter - 1 ≡ c.args.variable.tries - (c.loop.counter + 1) = omega arith in
    (grown, rw fewer at (read_on _ _ _ _ _ _ _ _ passed c.parent_of.ensures c.in-Some-parent_of.is))

pub at-requires-2 : goal.at-requires-2
at-requires-2 c = c.requires.1

pub returns : goal.returns
returns c = record { grows = c.loop.invariant.0; says = read_out _ _ _ _ _ _ _ _ c.loop.invariant.1 (omega (arith, c.loop-test.false)) (refusal_told _ c.at-2.ensures) }
