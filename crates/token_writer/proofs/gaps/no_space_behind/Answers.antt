-- `no_space_behind`: by the kind.
use native.Mathlib.Omega.{arith}
use Rattle.token_writer.proofs.WhiteSpace.{none_behind, close_behind, apart_behind}
use Rattle.token_writer.proofs.gaps.no_space_behind.Goals as goal

pub returns-in-9 : goal.returns-in-9
returns-in-9 c = close_behind _ c.in-Some.is c.in-9.is

pub returns-in_default : goal.returns-in_default
returns-in_default c = none_behind c.in_default.is

pub returns-in_default-kind : goal.returns-in_default-kind
returns-in_default-kind c = apart_behind _ c.in-Some.is (λ h. omega arith)
