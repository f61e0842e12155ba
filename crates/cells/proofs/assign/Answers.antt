-- `assign`: no slot was left, the cell has a value, or the value is stored.
use mathlib.Core.Path.{◌≡◌, ap, ◌∙◌}
use native.Mathlib.Omega.{arith}
use Rattle.std.specs.Prelude.{None, Err}
use Rattle.std.specs.Result.{result_ok}
use Rattle.cells.specs.declared.NotStored.TheVariants.{NoRoom}
use Rattle.cells.proofs.Ways.{ready_at, assign_full, assign_has, assign_done}
use Rattle.cells.proofs.assign.Goals as goal

pub returns-in_err-i : goal.returns-in_err-i
returns-in_err-i c =
    let gone : c.obtain.result ≡ None = c.ok_or.ensures.ok_part ∙ ap result_ok c.in_err-i.was in
    let why : c.ok_or.result ≡ Err NoRoom = c.ok_or.ensures.value ∙ rw gone in
    let same : c.in_err-i.field-0.0 ≡ NoRoom = cc (c.in_err-i.was, why) in
    let refused : c.from_residual.result ≡ Err NoRoom = grind (arith, same) in
    rw refused (assign_full _ _ _ _ c.obtain.ensures c.requires.1 _ gone)

pub has_value-requires : goal.has_value-requires
has_value-requires c =
    let obtain = c.obtain in
    ((ready_at _ _ _ _ obtain.ensures c.requires.1 _ (c.ok_or.ensures.ok_part ∙ ap result_ok c.in_ok-i.was)).below, omega (arith, c.requires.0, obtain.auto.work))

pub returns-then-has_value : goal.returns-then-has_value
returns-then-has_value c = assign_has _ _ _ _ c.obtain.ensures c.requires.1 _ _ (c.ok_or.ensures.ok_part ∙ ap result_ok c.in_ok-i.was) c.has_value.ensures c.if-has_value.true

pub put_value-requires : goal.put_value-requires
put_value-requires c =
    let obtain = c.obtain in
    let slot = ready_at _ _ _ _ obtain.ensures c.requires.1 _ (c.ok_or.ensures.ok_part ∙ ap result_ok c.in_ok-i.was) in
    (slot.below, omega (arith, c.requires.0, obtain.auto.work))

pub returns : goal.returns
returns c = assign_done _ _ _ _ c.obtain.ensures c.requires.1 _ _ _ (c.ok_or.ensures.ok_part ∙ ap result_ok c.in_ok-i.was) c.has_value.ensures c.if-has_value.false c.put_value.ensures
