-- `count_strings`: as many as there are fields, each of three bytes at least.
use Rattle.std.proofs.Common.{arith}
use Rattle.std.proofs.lemmas.Iterator.Consumers.{count_from_yields_List}
use Rattle.wire.specs.Bytes.{fields_in}
use Rattle.wire.proofs.Fields.{few_fields}
use Rattle.wire.proofs.Walks.{YieldsList-from_walk}
use Rattle.syntax.proofs.order.count_strings.Goals as goal

pub overflow_cast-result : goal.overflow_cast-result
overflow_cast-result c =
    let counted = count_from_yields_List _ _ c.count.ensures.ran (YieldsList-from_walk (fields_in c.args.m.now 3 c.args.e) cc) in
    omega (arith, few_fields c.args.m.now 3 c.args.e)

pub returns : goal.returns
returns c = count_from_yields_List _ _ c.count.ensures.ran (YieldsList-from_walk (fields_in c.args.m.now 3 c.args.e) cc)
