-- `signed_of`: the word itself below 2⁶³, and −1 − (2⁶⁴ − 1 − n) from there on.
use mathlib.Core.Path.{sym, ◌∙◌}
use native.Mathlib.Omega.{arith}
use mir.Facts.{to_z_pos}
use mir.Syntax.{w64}
use Rattle.wire.proofs.Laws.{signed_low}
use Rattle.wire.proofs.Signed.{from_word, from_word_bits}
use Rattle.wire.proofs.signed_of.Goals as goal

pub returns-then-n-lt9223372036854775808 : goal.returns-then-n-lt9223372036854775808
returns-then-n-lt9223372036854775808 c = to_z_pos w64 c.if-n-lt9223372036854775808.true ∙ sym (signed_low c.args.n c.if-n-lt9223372036854775808.true)

pub overflow_sub-result : goal.overflow_sub-result
overflow_sub-result c = rw (from_word c.args.n c.if-n-lt9223372036854775808.false) (record { sfits = omega arith })

pub returns : goal.returns
returns c = from_word_bits c.args.n c.if-n-lt9223372036854775808.false
