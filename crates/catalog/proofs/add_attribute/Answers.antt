-- `add_attribute`: nothing, or four stores one after the other.
use native.Mathlib.Omega.{arith}
use Rattle.catalog.proofs.Making.{value_most, attribute_left, attribute_added}
use Rattle.catalog.proofs.add_attribute.Goals as goal

pub overflow_add-body : goal.overflow_add-body
overflow_add-body c = omega (arith, c.value_size-body.ensures, value_most c.args.x.value)

pub returns-then-rest-end : goal.returns-then-rest-end
returns-then-rest-end c =
    let a = c.args in
    attribute_left a.rest.now a.size a.name a.x c.value_size-body.ensures c.if-rest-end.true

pub returns : goal.returns
returns c =
    let a = c.args in
    attribute_added a.rest.now a.size a.name a.x c.value_size-body.ensures c.if-rest-end.false c.put_header.ensures c.put_two.ensures c.write_at.ensures c.put_value.ensures
