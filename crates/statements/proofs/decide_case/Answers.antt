-- `decide_case`: marking refuses, a block is chosen, or none.
use native.Mathlib.Omega.{arith}
use Rattle.statements.proofs.Cases.{branches_from_lem, choice_here, case_after, case_stopped, case_entered}
use Rattle.statements.proofs.decide_case.Goals as goal

pub try_patterns-block-requires : goal.try_patterns-block-requires
try_patterns-block-requires c = let pre = c.requires in (omega (arith, c.end_of-end.ensures, pre.0.stands.stands.ends, pre.0.manifest), omega arith)

pub returns-in_err-enter_condition : goal.returns-in_err-enter_condition
returns-in_err-enter_condition c = case_stopped _ _ _ _ _ _ _ c.end_of-from.ensures c.end_of-end.ensures _ c.try_patterns-block.ensures c.in_words.ensures c.condition_set-set.ensures (case_after _ c.requires.0.stands c.requires.1 c.end_of-from.ensures c.end_of-end.ensures c.enter_condition.ensures) _ (grind arith) c.in_err-enter_condition.was

pub returns : goal.returns
returns c = case_entered _ _ _ _ _ _ _ c.end_of-from.ensures c.end_of-end.ensures _ c.try_patterns-block.ensures c.in_words.ensures c.condition_set-set.ensures (case_after _ c.requires.0.stands c.requires.1 c.end_of-from.ensures c.end_of-end.ensures c.enter_condition.ensures) (branches_from_lem c.end_of-from.ensures c.end_of-end.ensures (choice_here c.requires.0.stands c.requires.1).branches) c.in_ok-enter_condition.was
