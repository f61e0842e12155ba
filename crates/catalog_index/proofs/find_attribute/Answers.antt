-- `find_attribute`: the search in the chain of the entry's place and the name, between the entry's header and its end.
use Rattle.catalog_index.proofs.Searching.{attribute_found}
use Rattle.catalog_index.proofs.find_attribute.Goals as goal

pub returns : goal.returns
returns c =
    let a = c.args in
    (attribute_found a.out.now a.fill a.name a.at c.requires.1.1.0 c.requires.1.0 a.work.now c.attribute_bucket-bucket.ensures.0 c.attribute_bucket-bucket.ensures.1 c.end_of-end.ensures c.find.ensures.0, c.find.ensures.1)
