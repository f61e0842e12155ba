-- `is_quote`: by the two bytes.
use mathlib.Core.Path.{refl}
use Rattle.notation.specs.Lexing.{is_quote}
use Rattle.lexer.proofs.bytes.is_quote.Goals as goal

pub returns : goal.returns
unfolding is_quote
returns c = refl
