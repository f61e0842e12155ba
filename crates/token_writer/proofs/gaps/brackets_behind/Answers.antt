-- `brackets_behind`: by the kind.
use native.Mathlib.Omega.{arith}
use Rattle.token_writer.proofs.WhiteSpace.{opens, closes, stays}
use Rattle.token_writer.proofs.gaps.brackets_behind.Goals as goal

pub returns-then-brackets-eq0 : goal.returns-then-brackets-eq0
returns-then-brackets-eq0 c =
    let a = c.args in
    omega (arith, closes a.kind a.brackets c.in-8.is)

pub returns-in-7 : goal.returns-in-7
returns-in-7 c = opens _ _ c.in-7.is

pub returns-else-brackets-eq0 : goal.returns-else-brackets-eq0
returns-else-brackets-eq0 c = closes _ _ c.in-8.is

pub returns-in_default : goal.returns-in_default
returns-in_default c = stays _ _ (λ h. omega arith) (λ h. omega arith)
