-- `finish_entry`: too long, no room, or four stores in front of the attributes.
use Rattle.catalog.proofs.Making.{too_long, no_room, entry_finished}
use Rattle.catalog.proofs.finish_entry.Goals as goal

pub returns-then-rest-size : goal.returns-then-rest-size
returns-then-rest-size c =
    let a = c.args in
    too_long a.rest.now a.size a.room a.kind a.title a.labels c.if-rest-size.true

pub returns-then-room-size : goal.returns-then-room-size
returns-then-room-size c =
    let a = c.args in
    no_room a.rest.now a.size a.room a.kind a.title a.labels c.if-rest-size.false c.if-room-size.true

pub returns : goal.returns
returns c =
    let a = c.args in
    entry_finished a.rest.now a.size a.room a.kind a.title a.labels c.if-rest-size.false c.if-room-size.false c.put_header.ensures c.put_two.ensures c.put_two-2.ensures c.write_at.ensures
