-- `given`: no row, or the record of the name's row.
use native.Mathlib.Omega.{arith}
use Rattle.attributes.proofs.Table.{given_no_row, given_read}
use Rattle.attributes.proofs.given.Goals as goal

pub returns-then-table-place : goal.returns-then-table-place
returns-then-table-place c = given_no_row _ _ c.if-table-place.true

pub record_at-requires : goal.record_at-requires
record_at-requires c = omega (arith, c.if-table-place.false)

pub returns : goal.returns
returns c = given_read _ _ (omega (arith, c.if-table-place.false)) c.record_at.ensures
