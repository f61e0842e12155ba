-- `put_field`: the header, then the string.
use Rattle.interner.proofs.Putting.{field_put}
use Rattle.interner.proofs.fields.put_field.Goals as goal

pub returns : goal.returns
returns c =
    let a = c.args in
    field_put 0x02 _ a.out.now a.at c.requires.1 c.string_size-size.ensures.0 c.put_header.ensures c.put_string.ensures
