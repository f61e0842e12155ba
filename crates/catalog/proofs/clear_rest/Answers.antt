-- `clear_rest`: zeros up to the end.
use Rattle.catalog.proofs.Stores.{cleared}
use Rattle.catalog.proofs.clear_rest.Goals as goal

pub returns : goal.returns
returns c =
    let a = c.args in
    cleared a.out.now a.from c.clear.ensures
