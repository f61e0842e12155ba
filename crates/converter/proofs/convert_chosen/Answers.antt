-- `convert_chosen`: the text's length, what the first pass finds, and the rest.
use mathlib.Core.Path.{refl}
use native.Mathlib.Omega.{arith}
use Rattle.converter.proofs.Converting.{long_text, not_read, late_constant, converts, converts_from}
use Rattle.converter.proofs.TwoPasses.{first_passable, fault_low, fault_first, whole_found, items_read, late_found, late_low, measured_so}
use borrow.Author.Rules.{rules}
use Rattle.converter.proofs.convert_chosen.Goals as goal

pub returns-then-text-gt65535 : goal.returns-then-text-gt65535
returns-then-text-gt65535 c = converts _ _ (long_text _ _ _ _ c.requires.0 c.requires.1 c.if-text-gt65535.true) refl refl c.refuse.ensures

pub index_types-listed-requires : goal.index_types-listed-requires
index_types-listed-requires c = (c.requires.1, omega arith)

pub read_pass-requires : goal.read_pass-requires
read_pass-requires c = (c.index_types-listed.ensures, first_passable _ _ c.if-text-gt65535.false (omega arith))

pub overflow_cast-place : goal.overflow_cast-place
overflow_cast-place c = omega (arith, fault_low _ _ _ _ _ _ c.read_pass.ensures _ c.in-Err.is)

pub overflow_cast-whole : goal.overflow_cast-whole
overflow_cast-whole c =
    omega (arith, late_low _ _ _ _ _ _ c.read_pass.ensures _ c.in-Ok.is (record { below = λ i. omega (arith, c.type_inv.text i) }) c.if-text-gt65535.false c.if-whole-ne0.true)

pub returns-then-whole-ne0 : goal.returns-then-whole-ne0
returns-then-whole-ne0 c =
    let x = c.read_pass.ensures in
    let is = c.in-Ok.is in
    converts _ _ (late_constant _ _ _ _ c.requires.0 c.requires.1 c.if-text-gt65535.false (whole_found _ _ _ _ _ _ x _ is).items (items_read _ _ _ _ _ _ x _ is) (late_found _ _ _ _ _ _ x _ is c.if-whole-ne0.true)) (search rules) refl c.refuse-then-whole-ne0.ensures

pub finish-requires : goal.finish-requires
finish-requires c = (c.requires.0, (c.index_types-listed.ensures, measured_so _ _ _ _ _ _ c.read_pass.ensures _ c.in-Ok.is c.if-text-gt65535.false (search rules) c.if-whole-ne0.false))

pub returns-in-Err : goal.returns-in-Err
returns-in-Err c = converts _ _ (not_read _ _ _ _ c.requires.0 c.requires.1 c.if-text-gt65535.false (fault_first _ _ _ _ _ _ c.read_pass.ensures _ c.in-Err.is)) (search rules) refl c.refuse-in-Err.ensures

pub returns : goal.returns
returns c = converts_from _ _ (search rules) refl c.finish.ensures
