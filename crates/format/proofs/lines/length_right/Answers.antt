-- `length_right`: by what follows the pieces.
use native.Mathlib.Omega.{arith}
use Rattle.format.proofs.Line.{any_length, text_length_lem, one_length}
use Rattle.format.proofs.lines.length_right.Goals as goal

pub returns-in-64 : goal.returns-in-64
returns-in-64 c t e = any_length t e _ c.in-64.is

pub returns-in-32 : goal.returns-in-32
returns-in-32 c t e = text_length_lem t e _ c.in-32.is

pub returns-in_default : goal.returns-in_default
returns-in_default c t e = one_length t e _ (c.head_size.ensures t e) (λ e. absurd (omega arith)) (λ e. absurd (omega arith))
