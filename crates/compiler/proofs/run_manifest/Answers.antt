-- `run_manifest`: prepared, then run.
use Rattle.rules.specs.Compile.{none_struck_out}
use Rattle.compiler.proofs.Items.{prepared_able, blank_noted}
use Rattle.provenance.specs.Notes.{nothing_asked}
use Rattle.compiler.proofs.run_manifest.Goals as goal

pub run_prepared-requires : goal.run_prepared-requires
run_prepared-requires c = (c.requires.0.1, prepared_able none_struck_out c.prepare.ensures.0)

pub returns : goal.returns
returns c = c.run_prepared.ensures _ none_struck_out nothing_asked c.prepare.ensures.0 (blank_noted c.prepare.ensures.1)
