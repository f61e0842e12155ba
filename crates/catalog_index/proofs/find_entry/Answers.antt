-- `find_entry`: the search in the chain of its title.
use Rattle.catalog_index.proofs.Searching.{entry_found}
use Rattle.catalog_index.proofs.find_entry.Goals as goal

pub returns : goal.returns
returns c =
    let a = c.args in
    (entry_found a.out.now a.fill a.kind a.title c.requires.1.1 c.requires.1.0 a.work.now c.entry_bucket-bucket.ensures.0 c.entry_bucket-bucket.ensures.1 c.find.ensures.0, c.find.ensures.1)
