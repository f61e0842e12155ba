-- `no_space_before`: by the kind.
use native.Mathlib.Omega.{arith}
use Rattle.token_writer.proofs.WhiteSpace.{close_before, apart_before}
use Rattle.token_writer.proofs.gaps.no_space_before.Goals as goal

pub returns-in-10-to-14 : goal.returns-in-10-to-14
returns-in-10-to-14 c = close_before _ (omega arith) (omega arith)

pub returns-in_default : goal.returns-in_default
returns-in_default c = apart_before _ (λ l h. omega arith)

pub returns-in_default-2 : goal.returns-in_default-2
returns-in_default-2 c = apart_before _ (λ l h. omega arith)
