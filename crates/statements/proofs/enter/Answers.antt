-- `enter`: the marks are refused, or they are made, and the trail is joined where a branch declares.
use native.Mathlib.Omega.{arith}
use Rattle.statements.proofs.Entering.{marks_refused, marks_only, marks_trail}
use Rattle.statements.proofs.enter.Goals as goal

pub returns-in_err-store_answer : goal.returns-in_err-store_answer
returns-in_err-store_answer c = marks_refused _ _ _ _ _ _ c.mark_names.ensures _ c.store_answer.ensures c.in_err-store_answer.was (grind arith)

pub returns-then-branches : goal.returns-then-branches
returns-then-branches c = marks_trail _ _ _ _ _ _ c.mark_names.ensures _ c.store_answer.ensures c.in_ok-store_answer.was c.if-branches.true c.join_trail.ensures

pub returns-else-branches : goal.returns-else-branches
returns-else-branches c = marks_only _ _ _ _ _ _ c.mark_names.ensures _ c.store_answer.ensures c.in_ok-store_answer.was c.if-branches.false
