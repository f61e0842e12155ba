-- `add_name`: the parts are moved up, and the name comes before them.
use Rattle.tree_builder.proofs.Heading.{name_made}
use Rattle.tree_builder.proofs.add_name.Goals as goal

pub returns : goal.returns
returns c =
    let a = c.args in
    λ m types. name_made types a.s m a.out.now a.name c.move_up.ensures c.put_two.ensures c.raised_by.ensures
