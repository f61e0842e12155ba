-- `fill_scope`: the title, then the parameters.
use mathlib.Core.Path.{◌≡◌}
use Rattle.std.specs.Prelude.{Err}
use native.Mathlib.Omega.{arith}
use Rattle.declarations.proofs.Types.{fill_stopped, fill_stored}
use Rattle.declarations.proofs.fill_scope.Goals as goal

pub store_title-requires : goal.store_title-requires
store_title-requires c = (c.requires.1.0.0, c.requires.0.0)

pub assign_parameters-requires : goal.assign_parameters-requires
assign_parameters-requires c = let pre = c.requires in ((pre.0.1, (omega (arith, pre.1.0.0), pre.1.0.1)), pre.1.1)

pub returns-in_err-store_title : goal.returns-in_err-store_title
returns-in_err-store_title c = let handed_on : c.from_residual.result ≡ Err c.in_err-store_title.field-0.0 = grind arith in rw handed_on (fill_stopped c.store_title.ensures _ c.in_err-store_title.was)

pub returns : goal.returns
returns c = fill_stored c.store_title.ensures _ c.in_ok-store_title.was c.assign_parameters.ensures
