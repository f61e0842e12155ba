-- `append`: one attribute in the part lent from the fill point on.
use native.Mathlib.Omega.{arith}
use Rattle.labels.specs.Sets.{Words64}
use Rattle.resources.proofs.Ranges.{value_fits}
use Rattle.resources.proofs.Gathering.{appended}
use Rattle.resources.proofs.append.Goals as goal

pub returns : goal.returns
returns c =
    let a = c.args in
    let content : Words64 a.x.labels = record { small0 = omega arith; small1 = omega arith; small2 = omega arith; small3 = omega arith } in
    let outer : Words64 a.outer = record { small0 = omega arith; small1 = omega arith; small2 = omega arith; small3 = omega arith } in
    let own : Words64 a.own = record { small0 = omega arith; small1 = omega arith; small2 = omega arith; small3 = omega arith } in
    appended a.out.now a.fill a.size a.name a.x a.outer a.own c.requires.0 c.under.ensures c.under-content.ensures c.add_attribute.ensures (omega (arith, c.ranges.name)) (value_fits _ _ c.well_formed.1.1.1.1.0.1.1.0) content outer own
