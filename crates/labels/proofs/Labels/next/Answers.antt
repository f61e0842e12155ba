-- `Labels::next`: at the loop's head the search from `at` finds what the whole search finds.
use mathlib.Core.Path.{◌∙◌}
use native.Mathlib.Omega.{arith}
use Rattle.labels.specs.Sets.{Words64}
use Rattle.labels.proofs.Search.{next_skip, next_small, next_found, next_end}
use Rattle.labels.proofs.Labels.next.Goals as goal

pub overflow_cast-result : goal.overflow_cast-result
overflow_cast-result c =
    let w : Words64 c.args.self = record { small0 = omega arith; small1 = omega arith; small2 = omega arith; small3 = omega arith } in
    omega (arith, next_small c.args.self _ _ c.word.ensures (omega arith) w c.if-rest-ne0.true)

pub overflow_add-result : goal.overflow_add-result
overflow_add-result c =
    let w : Words64 c.args.self = record { small0 = omega arith; small1 = omega arith; small2 = omega arith; small3 = omega arith } in
    omega (arith, next_small c.args.self _ _ c.word.ensures (omega arith) w c.if-rest-ne0.true)

pub overflow_cast-result-then-rest-ne0 : goal.overflow_cast-result-then-rest-ne0
overflow_cast-result-then-rest-ne0 c =
    let w : Words64 c.args.self = record { small0 = omega arith; small1 = omega arith; small2 = omega arith; small3 = omega arith } in
    omega (arith, next_small c.args.self _ _ c.word.ensures (omega arith) w c.if-rest-ne0.true)

pub returns-then-rest-ne0 : goal.returns-then-rest-ne0
returns-then-rest-ne0 c =
    let w : Words64 c.args.self = record { small0 = omega arith; small1 = omega arith; small2 = omega arith; small3 = omega arith } in
    next_found c.args.self _ _ c.word.ensures (omega arith) w c.if-rest-ne0.true ∙ c.loop-at.invariant

pub loop-at-preserved : goal.loop-at-preserved
loop-at-preserved c =
    next_skip c.args.self _ _ c.word.ensures (omega arith) c.if-rest-ne0.false
    ∙ c.loop-at.invariant

pub returns : goal.returns
returns c = next_end c.args.self _ (omega arith) ∙ c.loop-at.invariant
