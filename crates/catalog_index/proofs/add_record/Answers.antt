-- `add_record`: no room, or four stores.
use native.Mathlib.Omega.{arith}
use Rattle.catalog_index.proofs.Storing.{no_room, record_added}
use Rattle.catalog_index.proofs.add_record.Goals as goal

pub returns-then-n-ge-MOST_RECORDS : goal.returns-then-n-ge-MOST_RECORDS
returns-then-n-ge-MOST_RECORDS c = no_room _ _ _ c.two_in-n.ensures c.if-n-ge-MOST_RECORDS.true

pub returns : goal.returns
returns c =
    record_added _ _ _ c.requires.0 c.requires.1 (omega arith) c.two_in-n.ensures c.if-n-ge-MOST_RECORDS.false c.two_in-next.ensures (omega arith) c.put_two.ensures c.put_two-2.ensures c.put_two-3.ensures c.put_two-4.ensures
