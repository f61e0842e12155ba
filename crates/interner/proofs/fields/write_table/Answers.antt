-- `write_table`: the fields of the strings, then the header before them.
use Prim.Native.Nat.{ℕ}
use mathlib.Core.Path.{sym, ap, ◌∙◌}
use mathlib.Core.List.{List}
use native.Mathlib.Omega.{arith}
use Rattle.interner.specs.TableField.{at_start}
use Rattle.interner.proofs.Measuring.{whole_field, whole_size}
use Rattle.interner.proofs.Putting.{whole_put}
use Rattle.interner.proofs.fields.write_table.Goals as goal

pub overflow_cast-end : goal.overflow_cast-end
overflow_cast-end c =
    let a = c.args in
    omega (arith, c.put_fields-end.ensures.ends, whole_size a.text.now a.table.now a.count, c.requires.short)

pub returns : goal.returns
returns c =
    let a = c.args in
    let put = c.put_fields-end.ensures in
    let size = whole_size a.text.now a.table.now a.count in
    let whole = whole_field a.text.now a.table.now a.count in
    (omega (arith, put.ends, size), whole_put 0x01 _ a.out.now (omega (arith, size, c.requires.short)) (omega (arith, size, c.requires.fits)) put c.put_header.ensures ∙ ap (λ (b : List ℕ). at_start b a.out.now) (sym whole))
