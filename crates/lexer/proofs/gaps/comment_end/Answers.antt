-- `comment_end`: no byte passed is a line feed.
use mathlib.Core.Path.{◌≡◌, ◌∙◌}
use native.Mathlib.Omega.{arith}
use borrow.Author.Tests.{ne_eqb}
use lib.ListN.{length, get_or}
use Rattle.lexer.specs.Scanned.{CommentRun}
use Rattle.lexer.proofs.Scanning.{comment_passed, comment_on, comment_ended, comment_finished}
use Rattle.lexer.proofs.gaps.comment_end.Goals as goal

pub loop-i-init : goal.loop-i-init
loop-i-init c = c.pass_fours-i.ensures

pub returns-then-text-i-eq10 : goal.returns-then-text-i-eq10
returns-then-text-i-eq10 c =
    let l = c.loop-i in
    let t = c.args.text.now in
    record { low = l.invariant.low; high = l.invariant.high; same_tokens = λ o line. l.invariant.goes_on o line ∙ comment_ended t l.i o line (omega arith) c.if-text-i-eq10.true }

pub loop-i-preserved : goal.loop-i-preserved
loop-i-preserved c =
    let l = c.loop-i in
    let t = c.args.text.now in
    comment_on l.invariant (record { low = omega arith; high = omega arith; goes_on = λ o line. comment_passed t l.i o line (omega arith) (ne_eqb (get_or t l.i 0) 0x0a c.if-text-i-eq10.false) })

pub returns : goal.returns
returns c =
    let l = c.loop-i in
    let t = c.args.text.now in
    let all : l.i ≡ length t = omega arith in
    let run : CommentRun t c.args.at l.i = record { low = l.invariant.low; high = l.invariant.high; same_tokens = λ o line. l.invariant.goes_on o line ∙ comment_finished t l.i o line (omega arith) } in
    rw all at run
