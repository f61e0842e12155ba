-- `finish`: longer than the room, or the header in front of the attributes.
use mathlib.Core.Path.{◌≡◌, ap}
use native.Mathlib.Omega.{arith}
use Rattle.resources.proofs.Finishing.{lent_kept, finish_early, finish_full, finish_fits, kept_all, within_refused, within_done}
use borrow.Author.Rules.{rules}
use Rattle.resources.proofs.finish.Goals as goal
use Rattle.std.specs.Prelude.{Some, Err}
use Rattle.values.specs.Refusals.{refusal_at}
use Rattle.values.specs.declared.Reason.TheVariants.{OutputFull}

pub returns-then-room-size : goal.returns-then-room-size
returns-then-room-size c =
    let a = c.args in
    (kept_all _ _, (within_refused _ _ (ap Err c.at.ensures), finish_early a.out.now a.fill a.size a.room a.p a.kind a.title a.own c.requires.0 c.if-room-size.true (ap Err c.at.ensures)))

pub shape_of-out-in_err-ok_or : goal.shape_of-out-in_err-ok_or
shape_of-out-in_err-ok_or c = search rules

pub returns-in_err-ok_or : goal.returns-in_err-ok_or
returns-in_err-ok_or c =
    let a = c.args in
    let told : c.from_residual.result ≡ Err (refusal_at OutputFull a.p) = grind arith in
    (lent_kept a.out.now a.fill a.size a.room a.p a.kind a.title a.own c.requires.0 c.requires.1.1.1.1.0 c.finish_entry-finished.ensures (shape_of-out-in_err-ok_or c), (within_refused _ _ told, finish_full a.out.now a.fill a.size a.room a.p a.kind a.title a.own c.requires.0 c.requires.1.1.1.1.0 c.finish_entry-finished.ensures (shape_of-out-in_err-ok_or c) (grind arith) told))

pub shape_of-out : goal.shape_of-out
shape_of-out c = search rules

pub returns : goal.returns
returns c =
    let a = c.args in
    let there : c.finish_entry-finished.result ≡ Some c.in_ok-ok_or.field-0 = grind arith in
    (lent_kept a.out.now a.fill a.size a.room a.p a.kind a.title a.own c.requires.0 c.requires.1.1.1.1.0 c.finish_entry-finished.ensures (shape_of-out c), (within_done _ _ _ c.if-room-size.false, finish_fits a.out.now a.fill a.size a.room a.p a.kind a.title a.own c.requires.0 c.requires.1.1.1.1.0 c.finish_entry-finished.ensures (shape_of-out c) there (omega (arith, c.ranges.kind)) (omega (arith, c.ranges.title)) (record { small0 = omega arith; small1 = omega arith; small2 = omega arith; small3 = omega arith })))
