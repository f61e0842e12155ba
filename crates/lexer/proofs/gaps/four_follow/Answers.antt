-- `four_follow`: none of the four is a line feed.
use native.Mathlib.Omega.{arith}
use Rattle.rules.proofs.Within.{false_not_true}
use Rattle.lexer.proofs.Scanning.{four_passed}
use Rattle.lexer.proofs.gaps.four_follow.Goals as goal

pub returns-then-text-at-lt4 : goal.returns-then-text-at-lt4
returns-then-text-at-lt4 c = λ e. absurd (false_not_true e)

pub returns : goal.returns
returns c = four_passed _ _ (omega (arith, c.if-text-at-lt4.false))
