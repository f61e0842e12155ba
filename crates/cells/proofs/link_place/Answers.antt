-- `link_place`: at a slot, or at the head.
use mathlib.Core.Path.{sym}
use native.Mathlib.Omega.{arith}
use Rattle.cells.proofs.Links.{place_slot, place_head}
use Rattle.cells.proofs.link_place.Goals as goal

pub returns-then-p-lt-SLOTS : goal.returns-then-p-lt-SLOTS
returns-then-p-lt-SLOTS c = (sym (place_slot _ _ c.if-p-lt-SLOTS.true), omega arith)

pub returns : goal.returns
returns c = (sym (place_head _ _ c.if-p-lt-SLOTS.false), omega arith)
