-- `lift`: three stores one after the other.
use Rattle.wire.specs.Runs.{over}
use Rattle.wire.specs.Numbers.{high_bytes}
use mathlib.Core.Path.{ap, ◌∙◌}
use mathlib.Core.List.{◌∷◌}
use Rattle.tree_builder.proofs.lift.Goals as goal

pub returns : goal.returns
returns c =
    let a = c.args in
    (c.save.ensures, c.put_header.ensures ∙ ap (λ l. over l a.s.last (a.tag ∷ high_bytes 2 0)) c.move_up.ensures)
