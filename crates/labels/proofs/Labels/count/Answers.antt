-- `Labels::count`: the ones of the four words, at most 64 in each.
use native.Mathlib.Omega.{arith}
use lib.Count.{ones-le}
use Rattle.labels.specs.Sets.{Words64}
use Rattle.labels.proofs.Search.{count_words}
use Rattle.labels.proofs.Labels.count.Goals as goal

pub overflow_add-low : goal.overflow_add-low
overflow_add-low c =
    let w : Words64 c.args.self = record { small0 = omega arith; small1 = omega arith; small2 = omega arith; small3 = omega arith } in
    omega (arith, ones-le 64 _ w.small0, ones-le 64 _ w.small1)

pub overflow_add-high : goal.overflow_add-high
overflow_add-high c =
    let w : Words64 c.args.self = record { small0 = omega arith; small1 = omega arith; small2 = omega arith; small3 = omega arith } in
    omega (arith, ones-le 64 _ w.small2, ones-le 64 _ w.small3)

pub overflow_add-result : goal.overflow_add-result
overflow_add-result c =
    let w : Words64 c.args.self = record { small0 = omega arith; small1 = omega arith; small2 = omega arith; small3 = omega arith } in
    omega (arith, ones-le 64 _ w.small0, ones-le 64 _ w.small1, ones-le 64 _ w.small2, ones-le 64 _ w.small3)

pub overflow_cast-result : goal.overflow_cast-result
overflow_cast-result c =
    let w : Words64 c.args.self = record { small0 = omega arith; small1 = omega arith; small2 = omega arith; small3 = omega arith } in
    omega (arith, ones-le 64 _ w.small0, ones-le 64 _ w.small1, ones-le 64 _ w.small2, ones-le 64 _ w.small3)

pub returns : goal.returns
returns c = count_words _ (record { small0 = omega arith; small1 = omega arith; small2 = omega arith; small3 = omega arith })
