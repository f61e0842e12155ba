-- `prepare`: the marks, and the title's number if there is one.
use native.Mathlib.Omega.{arith}
use Rattle.syntax.proofs.StringsRead.{few_strings_lem}
use Rattle.type_list.proofs.Searching.{no_empty_type}
use Rattle.definitions.proofs.Marking.{title_below, titled, untitled}
use Rattle.definitions.proofs.prepare.Goals as goal

pub mark_types-requires : goal.mark_types-requires
mark_types-requires c = (c.requires.0.0, (omega (arith, c.requires.1, c.begin.auto.work), few_strings_lem _ c.requires.0.1.0))

pub set_title-requires : goal.set_title-requires
set_title-requires c = (omega (arith, c.requires.1, c.begin.auto.work, c.mark_types.auto.work), title_below _ c.title_number.ensures (few_strings_lem _ c.requires.0.1.0) c.in-Some.is)

pub returns-in-Some : goal.returns-in-Some
returns-in-Some c = titled _ _ _ _ (no_empty_type _ c.requires.0.0) c.requires.0.1.0 c.begin.ensures c.mark_types.ensures (omega (arith, c.requires.1, c.begin.auto.work)) c.requires.0.1.1 c.mark_types.auto.work _ c.title_number.ensures c.in-Some.is c.set_title.ensures c.set_title.auto.work

pub returns-in_default : goal.returns-in_default
returns-in_default c = untitled _ _ _ _ (no_empty_type _ c.requires.0.0) c.requires.0.1.0 c.begin.ensures c.mark_types.ensures (omega (arith, c.requires.1, c.begin.auto.work)) c.requires.0.1.1 c.mark_types.auto.work c.title_number.ensures c.in_default.is
