-- `mark_names`: an empty set leaves nothing to mark; at the loop's head the names left are those of the words from i on.
use Rattle.std.specs.Prelude.{Err}
use mathlib.Core.Path.{◌≡◌, refl, ◌∙◌}
use native.Mathlib.Omega.{arith}
use Rattle.branches.proofs.Names.{holds_none_lem, all_words, no_words, word_then}
use Rattle.branches.proofs.Marking.{to_mark, all_marked, stops_here, goes_on}
use Rattle.branches.proofs.mark_names.Goals as goal

pub returns-then-is_empty : goal.returns-then-is_empty
returns-then-is_empty c = all_marked (to_mark _ _ _ (λ n. refl)) (holds_none_lem _ c.told-names c.is_empty.ensures c.if-is_empty.true)

pub loop-i-init : goal.loop-i-init
loop-i-init c = to_mark _ _ _ (all_words _)

pub mark_word-requires : goal.mark_word-requires
mark_word-requires c = (omega (arith, c.requires, c.loop-i.invariant.size), omega (arith, c.loop-i-test.true))

pub shape_of-work-in_err-mark_word : goal.shape_of-work-in_err-mark_word
shape_of-work-in_err-mark_word c = c.mark_word.auto.work ∙ c.loop-i.invariant.size

pub returns-in_err-mark_word : goal.returns-in_err-mark_word
returns-in_err-mark_word c = let handed_on : c.from_residual.result ≡ Err c.in_err-mark_word.field-0.0 = grind arith in rw handed_on (stops_here c.loop-i.invariant _ _ (word_then _ _) c.mark_word.ensures c.in_err-mark_word.was)

pub loop-i-preserved : goal.loop-i-preserved
loop-i-preserved c = goes_on c.loop-i.invariant _ _ (word_then _ _) c.mark_word.ensures c.in_ok-mark_word.was c.mark_word.auto.work

pub shape_of-work : goal.shape_of-work
shape_of-work c = c.loop-i.invariant.size

pub returns : goal.returns
returns c = all_marked c.loop-i.invariant (no_words _ c.told-names c.loop-i-test.false)
