-- `run_asking`: prepared, then run.
use mathlib.Core.Path.{refl}
use Rattle.explanation.proofs.Searching.{ask_ends}
use Rattle.explanation.proofs.run_asking.Goals as goal

pub returns : goal.returns
returns c = ask_ends (c.run_prepared.ensures _ _ _ c.prepare_asking.ensures.0 c.prepare_asking.ensures.1) refl c.requires.0.1.1
