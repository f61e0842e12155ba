-- `put_payload`: one way for each kind of value.
use Rattle.records.specs.Record.{payload_of}
use Rattle.records.proofs.Ranges.{value_ranged}
use Rattle.records.proofs.Values.{integer_payload, other_payload}
use Rattle.records.proofs.put_payload.Goals as goal

pub returns-in-Integer : goal.returns-in-Integer
returns-in-Integer c =
    integer_payload _ _ _ (value_ranged _ _ c.well_formed.1.1.0) c.in-Integer.is c.put_signed.ensures

pub returns-in-String : goal.returns-in-String
unfolding payload_of
returns-in-String c = other_payload _ _ _ c.in-String.is c.put_eight.ensures

pub returns-in-Boolean : goal.returns-in-Boolean
unfolding payload_of
returns-in-Boolean c = other_payload _ _ _ c.in-Boolean.is c.put_eight-in-Boolean.ensures
