-- `comes_below`: whether the run is refused.
use mathlib.Core.Path.{refl, ◌∙◌}
use Rattle.provenance.specs.Notes.{nothing_asked}
use Rattle.explanation.proofs.Searching.{comes_so}
use Rattle.explanation.proofs.comes_below.Goals as goal

pub returns : goal.returns
returns c = c.is_err.ensures.value ∙ comes_so (c.run_prepared-r.ensures _ _ nothing_asked c.prepare_struck.ensures.0 c.prepare_struck.ensures.1) refl c.requires.1.1
