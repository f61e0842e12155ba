-- `path_and_trail`: the two sets joined.
use mathlib.Core.Path.{◌≡◌, ap, ◌∙◌}
use Rattle.labels.specs.declared.Labels.{Labels}
use Rattle.labels.specs.Sets.{◌∪◌}
use Rattle.memory.proofs.path_and_trail.Goals as goal

both : {trail t u : Labels} (path : Labels) → t ≡ trail → u ≡ path ∪ t → u ≡ path ∪ trail
both path e f = f ∙ ap (λ (k : Labels). path ∪ k) e

pub returns : goal.returns
returns c = both _ c.trail.ensures c.union.ensures
