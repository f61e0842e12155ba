-- `operand_behind`: the kinds one after the other.
use mathlib.Core.Bool.{Bool, true, false, ◌||◌}
use mathlib.Core.Path.{◌≡◌, refl}
use lib.Dec.{eqb}
use Rattle.notation.specs.Tokens.{operand_behind}
use Rattle.parser.proofs.text.operand_behind.Goals as goal

none_more : (b : Bool) → (b || false) ≡ b
none_more true = refl
none_more false = refl

pub returns : goal.returns
unfolding operand_behind
returns c = rw (none_more (eqb c.args.kind 12))
