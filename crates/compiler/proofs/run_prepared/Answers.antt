-- `run_prepared`: the definitions, then the items from the first state on.
use native.Mathlib.Omega.{arith}
use mathlib.Core.Path.{◌≡◌}
use Rattle.std.specs.Prelude.{Err}
use Rattle.compiler.proofs.Items.{gathered_able, gathering_refused, manifest_runs}
use Rattle.compiler.proofs.run_prepared.Goals as goal

pub gather-requires : goal.gather-requires
gather-requires c = (c.requires.1.set, c.requires.0.0)

pub returns-in_err-gather : goal.returns-in_err-gather
returns-in_err-gather c = λ types s ask ready noted.
    let handed_on : c.from_residual.result ≡ Err c.in_err-gather.field-0.0 = grind arith in
    rw handed_on (gathering_refused types _ _ _ _ _ c.requires.0.0 s ask ready noted _ c.gather.ensures c.in_err-gather.was)

pub run_items-requires : goal.run_items-requires
run_items-requires c = (gathered_able c.requires.1 c.gather.ensures c.in_ok-gather.was, c.requires.0.0)

pub returns : goal.returns
returns c = λ types s ask ready noted. manifest_runs types _ _ _ _ _ c.requires.0.0 s ask ready noted _ c.gather.ensures c.in_ok-gather.was _ _ c.choose_node-node.ensures c.run_items.ensures
