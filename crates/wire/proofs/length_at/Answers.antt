-- `length_at`: two bytes at the place after the tag.
use mathlib.Core.Path.{◌∙◌}
use Rattle.wire.proofs.Laws.{same_rest, two_same}
use Rattle.wire.proofs.length_at.Goals as goal

pub returns : goal.returns
returns c =
    let m = c.args.m.now in
    c.two_at.ensures ∙ two_same m m _ _ (same_rest m m _ _ c.after.ensures 2)
