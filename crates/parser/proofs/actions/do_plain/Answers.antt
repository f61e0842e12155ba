-- `do_plain`: each code.
use mathlib.Core.Path.{refl}
use mathlib.Core.List.{[]}
use native.Mathlib.Omega.{arith}
use Rattle.notation.specs.Building.{begin_resource, around, instead, close, read, named, parent_first, enter as enter_action, leave as leave_action}
use Rattle.parse_table.specs.Codes.{action_of}
use Rattle.tree_builder.proofs.Whole.{resource_begins}
use Rattle.parser.specs.Doing.{Suits}
use Rattle.parser.proofs.Doing.{by_constant, by_known, by_other, code_close}
use Rattle.parser.proofs.actions.do_plain.Goals as goal

pub instead-requires : goal.instead-requires
instead-requires c = let p = c.requires.0 in (p.word c.in-9.is, p.slots, p.ready)

pub returns-in-2 : goal.returns-in-2
returns-in-2 c = by_constant _ _ _ _ _ _ _ _ _ c.in-2.is (c.add_constant.ensures.0 _) c.add_constant.ensures.1

pub returns-in-3 : goal.returns-in-3
unfolding Suits
returns-in-3 c = by_known _ _ _ _ _ _ _ _ _ 3 read c.in-3.is (unfold action_of in refl) refl (c.add_variable.ensures _)

pub returns-in-4 : goal.returns-in-4
unfolding Suits
returns-in-4 c = by_known _ _ _ _ _ _ _ _ _ 4 named c.in-4.is (unfold action_of in refl) refl (c.add_name.ensures _)

pub returns-in-5 : goal.returns-in-5
unfolding Suits
returns-in-5 c = by_known _ _ _ _ _ _ _ _ _ 5 parent_first c.in-5.is (unfold action_of in refl) refl (c.parent_first.ensures _)

pub returns-in-6 : goal.returns-in-6
unfolding Suits
returns-in-6 c = by_known _ _ _ _ _ _ _ _ _ 6 enter_action c.in-6.is (unfold action_of in refl) refl (c.enter.ensures _ _)

pub returns-in-7 : goal.returns-in-7
unfolding Suits
returns-in-7 c = by_known _ _ _ _ _ _ _ _ _ 7 leave_action c.in-7.is (unfold action_of in refl) refl (c.leave.ensures _ _)

pub returns-in-8 : goal.returns-in-8
unfolding Suits
returns-in-8 c = by_known _ _ _ _ _ _ _ _ _ 8 begin_resource c.in-8.is (unfold action_of in refl) refl (λ types. resource_begins types _ _ _ _ _ _ _ (c.begin.ensures types))

pub returns-in-9 : goal.returns-in-9
unfolding Suits
returns-in-9 c = by_known _ _ _ _ _ _ _ _ _ 9 (instead 0x18) c.in-9.is (unfold action_of in refl) refl c.instead.ensures

pub returns-in-10 : goal.returns-in-10
unfolding Suits
returns-in-10 c = by_known _ _ _ _ _ _ _ _ _ 10 (around 0x19 []) c.in-10.is (unfold action_of in refl) refl c.around.ensures

pub returns-in_default : goal.returns-in_default
unfolding Suits
returns-in_default c = by_other _ _ _ _ _ _ _ _ _ close (code_close _ c.requires.1 (((((((((tt, λ e. absurd (omega arith)), λ e. absurd (omega arith)), λ e. absurd (omega arith)), λ e. absurd (omega arith)), λ e. absurd (omega arith)), λ e. absurd (omega arith)), λ e. absurd (omega arith)), λ e. absurd (omega arith)), λ e. absurd (omega arith))) refl c.close.ensures
