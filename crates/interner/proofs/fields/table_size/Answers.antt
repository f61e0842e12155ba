-- `table_size`: the fields counted and those left make the whole field.
use mathlib.Core.Path.{◌≡◌, ap, ◌∙◌}
use native.Mathlib.Omega.{arith}
use lib.ListN.{length}
use Rattle.interner.specs.Table.{entry_string}
use Rattle.interner.proofs.Measuring.{whole_length, next_length, no_field, entry_at}
use Rattle.interner.proofs.fields.table_size.Goals as goal

pub loop-i-init : goal.loop-i-init
loop-i-init c =
    let a = c.args in
    (omega (arith, whole_length a.text.now a.table.now a.count), omega arith, omega arith)

pub overflow_mul-i : goal.overflow_mul-i
overflow_mul-i c = omega (arith, c.requires.small)

pub two_in-requires : goal.two_in-requires
two_in-requires c = omega (arith, c.requires.room)

pub overflow_add-size : goal.overflow_add-size
overflow_add-size c = omega (arith, c.string_size.ensures.1, c.requires.short)

pub overflow_add-size-in-loop-i : goal.overflow_add-size-in-loop-i
overflow_add-size-in-loop-i c = omega (arith, c.string_size.ensures.1, c.requires.short, c.requires.small, c.loop-i.invariant.1)

pub loop-i-preserved : goal.loop-i-preserved
loop-i-preserved c =
    let a = c.args in
    let l = c.loop-i in
    let size : c.string_size.result ≡ length (entry_string a.text.now a.table.now l.i) = c.string_size.ensures.0 ∙ ap length (entry_at a.text.now a.table.now _ l.i (c.from-place.ensures ∙ c.two_in.ensures)) in
    (omega (arith, l.invariant.0, size, next_length a.text.now a.table.now a.count l.i c.loop-i-test.true), omega (arith, l.invariant.1, c.string_size.ensures.1, c.requires.short), omega arith)

pub returns : goal.returns
returns c =
    let a = c.args in
    let l = c.loop-i in
    (omega (arith, l.invariant.0, ap length (no_field a.text.now a.table.now a.count l.i c.loop-i-test.false)), omega (arith, l.invariant.1, l.invariant.2, c.requires.small))
