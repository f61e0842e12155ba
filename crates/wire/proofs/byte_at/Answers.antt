-- `byte_at`: past the end a byte reads as 0.
use mathlib.Core.Path.{sym}
use lib.ListN.{get_or-eq_default}
use Rattle.wire.proofs.byte_at.Goals as goal

pub returns-else-i-m : goal.returns-else-i-m
returns-else-i-m c = sym (get_or-eq_default c.args.m.now 0 c.if-i-m.false)
