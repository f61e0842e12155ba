-- `finish`: the manifest is too long, or it is written and the rest is cleared.
use mathlib.Core.Path.{refl}
use native.Mathlib.Omega.{arith}
use borrow.Author.Rules.{rules}
use Rattle.text_answers.proofs.Ending.{leaves_as}
use Rattle.converter.proofs.Converting.{too_long_lem, measurable, over_65535, over_output, written, fitting}
use Rattle.converter.proofs.finish.Goals as goal

pub table_size-before-requires : goal.table_size-before-requires
table_size-before-requires c = measurable _ c.requires.1.1

pub overflow_add-size : goal.overflow_add-size
overflow_add-size c = omega (arith, c.table_size-before.ensures.1, c.requires.1.1.low)

pub returns-then-size-gt65535 : goal.returns-then-size-gt65535
returns-then-size-gt65535 c =
    let x = c.requires.1.1 in
    let long = over_65535 _ x c.table_size-before.ensures.0 _ c.if-size-gt65535.true in
    leaves_as (too_long_lem _ _ _ _ c.requires.0 c.requires.1.0.sound x.short x.items x.read x.early long) refl refl c.refuse.ensures

pub returns-then-out-size : goal.returns-then-out-size
returns-then-out-size c =
    let x = c.requires.1.1 in
    let long = over_output _ x c.table_size-before.ensures.0 _ c.if-size-gt65535.false c.if-out-size.true in
    leaves_as (too_long_lem _ _ _ _ c.requires.0 c.requires.1.0.sound x.short x.items x.read x.early long) refl refl c.refuse-then-out-size.ensures

pub write_manifest-requires : goal.write_manifest-requires
write_manifest-requires c =
    (c.requires.1.0, fitting _ c.requires.1.1 c.table_size-before.ensures.0 _ _ c.requires.1.0.sound (record { below = λ i. omega (arith, c.type_inv.text i) }) refl c.if-size-gt65535.false c.if-out-size.false)

pub returns : goal.returns
returns c =
    leaves_as (written _ c.requires.1.1 c.table_size-before.ensures.0 _ _ c.requires.1.0.sound c.requires.0 c.if-size-gt65535.false c.if-out-size.false c.write_manifest.ensures) (search rules) refl c.accept.ensures
