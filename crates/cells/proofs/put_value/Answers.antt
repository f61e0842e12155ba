-- `put_value`: the record of the slot's body.
use native.Mathlib.Omega.{arith}
use Rattle.labels.specs.Sets.{Words64}
use Rattle.records.proofs.Ranges.{value_ranged}
use Rattle.cells.proofs.Slots.{value_way}
use Rattle.cells.proofs.put_value.Goals as goal

pub returns : goal.returns
returns c =
    -- each word of the set fits its type
    let words : Words64 c.args.x.labels = record { small0 = omega arith; small1 = omega arith; small2 = omega arith; small3 = omega arith } in
    value_way _ _ _ c.requires.0 c.requires.1 (value_ranged _ _ c.well_formed.1.1.0.1.1.0) words c.put_record.ensures
