-- `selector`: by the test of the level.
use mathlib.Core.Path.{sym, ◌∙◌}
use native.Mathlib.Omega.{arith}
use Prim.Native.Nat.{◌+◌}
use Rattle.parse_table.specs.Codes.{action_of, actions_from, actions_in, symbol_of, symbols_onto, symbols_in}
use Rattle.parse_table.proofs.Packed.{row_last, accepted}
use Rattle.parse_table.proofs.expressions.selector.Goals as goal

pub returns : goal.returns
unfolding actions_in actions_from action_of symbols_in symbols_onto symbol_of
returns c = c.taken.ensures ∙ row_last 0x0a c.up_to.result 0x073f083e (c.up_to.result + 0x073f083e00) c.up_to.ensures.0 (omega arith) c.up_to.ensures.1 c.up_to.ensures.2 ∙ accepted _ (sym c.allows.ensures ∙ c.if-not-allows.false)
