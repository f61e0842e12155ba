-- `go_on_alike`: a text ends, the bytes differ, or they are the same.
use mathlib.Core.Path.{◌∙◌}
use Rattle.interner.proofs.Comparing.{one_past, other_past, bytes_differ, bytes_same}
use Rattle.interner.proofs.go_on_alike.Goals as goal

pub returns-then-text-p : goal.returns-then-text-p
returns-then-text-p c = one_past _ _ _ c.if-text-p.true

pub returns-then-text-q : goal.returns-then-text-q
returns-then-text-q c = other_past _ _ _ c.if-text-p.false c.if-text-q.true

pub returns-then-c-d : goal.returns-then-c-d
returns-then-c-d c = bytes_differ _ _ _ c.if-text-p.false c.if-text-q.false c.if-c-d.true

pub returns : goal.returns
returns c = c.in_word.ensures ∙ bytes_same _ _ _ c.if-text-p.false c.if-text-q.false c.if-c-d.false
