-- `has_name_from`: what the chain finds is what the definition says.
use Rattle.std.proofs.Common.{◌∙◌, rules, tests}
use Rattle.std.proofs.lemmas.Iterator.Search.{any_from_yields_List}
use Rattle.wire.specs.Bytes.{fields_in}
use Rattle.wire.proofs.Walks.{YieldsList-from_walk}
use Rattle.attributes.specs.Names.{name_from}
use Rattle.attributes.proofs.Repeats.{any_is}
use Rattle.attributes.proofs.has_name_from.Goals as goal

pub returns : goal.returns
returns c = any_from_yields_List (name_from c.args.m.now c.args.limit) c.any.new.self _ c.any.result c.any.ensures.ran (YieldsList-from_walk (fields_in c.args.m.now c.args.first c.args.end) cc) (λ x b q k. search (rules, tests)) ∙ any_is _ _
