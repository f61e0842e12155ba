-- `operation`: by the test of the level.
use mathlib.Core.Path.{sym, ap, ◌∙◌}
use native.Mathlib.Omega.{arith}
use Prim.Native.Nat.{◌+◌, ◌-◌, ◌*◌, ◌/◌, ◌%◌}
use mathlib.Core.List.{List}
use mathlib.Core.Option.{some}
use Rattle.notation.specs.Grammar.{Symbol, row}
use Rattle.parse_table.specs.Codes.{actions_in}
use Rattle.parse_table.proofs.Packed.{right_side, accepted, allowed_level}
use Rattle.parse_table.proofs.expressions.operation.Goals as goal

pub returns : goal.returns
returns c = c.taken.ensures ∙ ap (λ (ss : List Symbol). some (row (actions_in c.args.action) ss)) (right_side c.up_to.result c.args.level (c.up_to.result + 0x313e00 + 0x10000 * c.args.level) c.up_to.ensures.0 (omega (arith, allowed_level (c.args.symbol / 8 - 8) c.args.level (c.args.symbol % 8) c.allows.ensures (c.if-not-allows.false))) (omega arith) c.up_to.ensures.1 c.up_to.ensures.2) ∙ accepted _ (sym c.allows.ensures ∙ c.if-not-allows.false)
