-- `join_mark`: no slot was left, or the mark is stored.
use mathlib.Core.Path.{◌≡◌, ap, ◌∙◌}
use native.Mathlib.Omega.{arith}
use Rattle.std.specs.Prelude.{None, Err}
use Rattle.std.specs.Result.{result_ok}
use Rattle.cells.specs.declared.NotStored.TheVariants.{NoRoom}
use Rattle.cells.proofs.Ways.{ready_at, mark_full, mark_done}
use Rattle.cells.proofs.join_mark.Goals as goal

pub returns-in_err-i : goal.returns-in_err-i
returns-in_err-i c =
    let gone : c.obtain.result ≡ None = c.ok_or.ensures.ok_part ∙ ap result_ok c.in_err-i.was in
    let why : c.ok_or.result ≡ Err NoRoom = c.ok_or.ensures.value ∙ rw gone in
    let same : c.in_err-i.field-0.0 ≡ NoRoom = cc (c.in_err-i.was, why) in
    let refused : c.from_residual.result ≡ Err NoRoom = grind (arith, same) in
    rw refused (mark_full _ _ _ _ c.obtain.ensures c.requires.1 _ gone)

pub join_at-requires : goal.join_at-requires
join_at-requires c =
    let obtain = c.obtain in
    ((ready_at _ _ _ _ obtain.ensures c.requires.1 _ (c.ok_or.ensures.ok_part ∙ ap result_ok c.in_ok-i.was)).below, omega (arith, c.requires.0, obtain.auto.work))

pub returns : goal.returns
returns c =
    mark_done _ _ _ _ c.obtain.ensures c.requires.1 _ _ _ (c.ok_or.ensures.ok_part ∙ ap result_ok c.in_ok-i.was) c.join_at.ensures
