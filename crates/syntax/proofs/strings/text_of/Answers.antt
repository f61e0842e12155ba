-- `text_of`: nothing, the rest of the manifest, or the whole body.
use native.Mathlib.Omega.{arith}
use Rattle.syntax.proofs.Rise.{no_text, text_left, text_whole}
use Rattle.syntax.proofs.strings.text_of.Goals as goal

pub returns-then-m-p : goal.returns-then-m-p
returns-then-m-p c = no_text c.args.m.now c.args.p (omega arith)

pub returns-then-m-p-le3 : goal.returns-then-m-p-le3
returns-then-m-p-le3 c = no_text c.args.m.now c.args.p (omega arith)

pub returns-then-m-from : goal.returns-then-m-from
returns-then-m-from c = text_left _ _ c.length_at-len.ensures c.if-m-from.true

pub returns : goal.returns
returns c = text_whole _ _ c.length_at-len.ensures
