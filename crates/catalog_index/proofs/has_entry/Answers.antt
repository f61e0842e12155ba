-- `has_entry`: a place was found, or none.
use mathlib.Core.Path.{◌∙◌}
use Rattle.catalog.proofs.Reading.{has_lem}
use Rattle.catalog_index.proofs.has_entry.Goals as goal

pub returns : goal.returns
returns c = λ es w i.
    let a = c.args in
    c.is_some.ensures ∙ has_lem a.out.now a.fill a.kind a.title c.requires.1.1 c.requires.1.0 es w (c.find_entry.ensures.0 es w i)
