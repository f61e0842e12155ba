-- `try_case`: refused at a pattern that is struck out, or else decided.
use native.Mathlib.Omega.{arith}
use Rattle.patterns.proofs.Struck.{near_at}
use Rattle.statements.proofs.Cases.{case_struck, case_tried}
use Rattle.statements.proofs.try_case.Goals as goal

pub struck_pattern-requires : goal.struck_pattern-requires
struck_pattern-requires c = let pre = c.requires in (omega (arith, c.end_of-end.ensures, pre.0.stands.stands.ends, pre.0.manifest), pre.0.memory)

pub at-requires : goal.at-requires
at-requires c = near_at c.in-Some.is c.struck_pattern.ensures.1

pub decide_case-requires : goal.decide_case-requires
decide_case-requires c = c.requires

pub returns-in-Some : goal.returns-in-Some
returns-in-Some c = case_struck _ _ _ _ _ _ c.end_of-from.ensures c.end_of-end.ensures c.struck_pattern.ensures.0 c.in-Some.is c.at.ensures

pub returns : goal.returns
returns c = case_tried _ _ _ _ _ _ c.end_of-from.ensures c.end_of-end.ensures c.struck_pattern.ensures.0 _ c.in_default.is c.decide_case.ensures
