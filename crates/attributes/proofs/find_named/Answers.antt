-- `find_named`: what the chain finds is what the definition says.
use Rattle.std.proofs.Common.{◌≡◌, rules, tests}
use Rattle.std.proofs.lemmas.Iterator.Search.{find_from_yields_List}
use Rattle.wire.specs.Bytes.{fields_in}
use Rattle.wire.proofs.Walks.{YieldsList-from_walk}
use Rattle.attributes.specs.Names.{has_name, named_in}
use Rattle.attributes.proofs.Repeats.{named_found, found_below}
use Rattle.attributes.proofs.find_named.Goals as goal

pub returns : goal.returns
returns c =
    let a = c.args in
    let found : c.find.result ≡ named_in a.m.now a.name (fields_in a.m.now a.first a.end) = named_found _ _ _ (find_from_yields_List (has_name a.m.now a.name) c.find.new.self _ c.find.result c.find.ensures.ran (YieldsList-from_walk (fields_in a.m.now a.first a.end) cc) (λ x b q k. search (rules, tests))) in
    (found, found_below a.m.now a.name a.first a.end found)
