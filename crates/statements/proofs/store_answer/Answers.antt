use Rattle.statements.proofs.Assigning.{ran_done, ran_again, ran_full}
use native.Mathlib.Omega.{arith}
use Rattle.statements.proofs.store_answer.Goals as goal

pub returns-in-Ok : goal.returns-in-Ok
returns-in-Ok c = ran_done _ c.in-Ok.is

pub returns-in-Err-HasValue : goal.returns-in-Err-HasValue
returns-in-Err-HasValue c = ran_again _ (grind arith) c.at.ensures

pub returns-in-Err-NoRoom : goal.returns-in-Err-NoRoom
returns-in-Err-NoRoom c = ran_full _ (grind arith) c.at-in-Err-NoRoom.ensures
