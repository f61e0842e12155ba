-- `put_header`: the tag, then the length.
use mathlib.Core.List.{◌∷◌}
use mathlib.Core.Path.{sym, ◌∙◌}
use borrow.Author.Rules.{rules}
use lib.ListN.{length-set}
use Rattle.wire.specs.Numbers.{high_bytes}
use Rattle.wire.proofs.Laws.{over_length, over_more, over_past}
use Rattle.wire.proofs.put_header.Goals as goal

pub shape_of-out : goal.shape_of-out
shape_of-out c = search (rules, c.put_two.ensures, over_length, length-set)

pub returns-then-at-out : goal.returns-then-at-out
returns-then-at-out c = let a = c.args in c.put_two.ensures ∙ over_more a.out.now a.at a.tag (high_bytes 2 a.size)

pub returns-else-at-out : goal.returns-else-at-out
returns-else-at-out c = let a = c.args in sym (over_past a.out.now a.at (a.tag ∷ high_bytes 2 a.size) (search rules))
