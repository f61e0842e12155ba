-- `compile_chosen`: 2 to 5, then the run.
use Rattle.compiler.proofs.Whole.{fault_first, refuses}
use Rattle.syntax.proofs.Faults.{fault_fits}
use native.Mathlib.Omega.{arith}
use Rattle.rules.specs.Outcome.{refused}
use mathlib.Core.Path.{ap₂, ◌∙◌, refl, sym}
use Rattle.compiler.proofs.compile_chosen.Goals as goal

pub run_checked-requires : goal.run_checked-requires
run_checked-requires c = (c.requires.0, (c.requires.1, sym c.check_all.ensures ∙ c.in-Ok.is))

pub returns-in-Err : goal.returns-in-Err
returns-in-Err c = record {
  bytes = record { below = λ i. omega (arith, c.type_inv.manifest i) };
  leaves = refuses _ _ _ _ _ _ _ _ _ refl refl c.refuse.ensures.1.1 (fault_first _ _ _ _ _ _ c.requires.0 c.requires.1 c.check_all.ensures c.in-Err.is ∙ ap₂ refused (sym c.from.ensures.0) (sym (c.from.ensures.1 (fault_fits _ c.check_all.ensures c.in-Err.is)))) c.refuse.ensures.0 c.refuse.ensures.1.0;
}

pub returns-in-Ok : goal.returns-in-Ok
returns-in-Ok c = record { bytes = record { below = λ i. omega (arith, c.type_inv.manifest i) }; leaves = c.run_checked.ensures }
