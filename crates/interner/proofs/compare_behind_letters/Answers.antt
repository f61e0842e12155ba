-- `compare_behind_letters`: behind the letters that they share, strings have the order of the whole ones.
use mathlib.Core.Path.{sym, ◌∙◌}
use native.Mathlib.Omega.{arith}
use Rattle.interner.proofs.Comparing.{alike_true, alike_on}
use Rattle.interner.proofs.compare_behind_letters.Goals as goal

pub overflow_add-p : goal.overflow_add-p
overflow_add-p c = let h = alike_true _ _ _ (sym c.loop-p-test.true ∙ c.go_on_alike.ensures) in omega (arith, h.one)

pub overflow_add-q : goal.overflow_add-q
overflow_add-q c = let h = alike_true _ _ _ (sym c.loop-p-test.true ∙ c.go_on_alike.ensures) in omega (arith, h.other)

pub loop-p-smaller : goal.loop-p-smaller
loop-p-smaller c = let h = alike_true _ _ _ (sym c.loop-p-test.true ∙ c.go_on_alike.ensures) in omega (arith, h.one)

pub loop-p-preserved : goal.loop-p-preserved
loop-p-preserved c = alike_on _ _ c.requires.0 c.requires.1 (alike_true _ _ _ (sym c.loop-p-test.true ∙ c.go_on_alike.ensures)) c.loop-p.invariant

pub returns : goal.returns
returns c = c.compare_rests.ensures ∙ c.loop-p.invariant
