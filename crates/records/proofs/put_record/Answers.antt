-- `put_record`: payload, kind and set, stored one after the other.
use Rattle.records.proofs.Ways.{record_stored}
use Rattle.records.proofs.put_record.Goals as goal

pub returns : goal.returns
returns c = record_stored _ _ c.args.x c.put_payload.ensures c.kind_of.ensures c.put_middle.ensures c.write_within.ensures
