-- `put_given`: the record of the name's row.
use native.Mathlib.Omega.{arith}
use Rattle.labels.specs.Sets.{Words64}
use Rattle.records.proofs.Ranges.{value_ranged}
use Rattle.attributes.proofs.Table.{put_way}
use Rattle.attributes.proofs.put_given.Goals as goal

pub returns : goal.returns
returns c =
    let words : Words64 c.args.x.labels = record { small0 = omega arith; small1 = omega arith; small2 = omega arith; small3 = omega arith } in
    put_way _ _ _ c.requires (value_ranged _ _ c.well_formed.1.1.0.1.1.0) words c.put_record.ensures
