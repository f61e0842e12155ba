-- `gap_end`: by the byte.
use mathlib.Core.Path.{◌≡◌, sym, ◌∙◌}
use mathlib.Core.Bool.{true}
use native.Mathlib.Omega.{arith}
use borrow.Author.Tests.{ne_eqb}
use lib.ListN.{get_or}
use Rattle.notation.specs.Lexing.{is_space}
use Rattle.lexer.proofs.Scanning.{space_passed, comment_begun, gap_no_comment}
use Rattle.lexer.proofs.gaps.gap_end.Goals as goal

pub returns-then-c-eq35 : goal.returns-then-c-eq35
returns-then-c-eq35 c =
    let t = c.args.text.now in
    let p = c.args.at in
    let here : get_or t p 0 ≡ 0x23 = sym c.requires.1 ∙ c.if-c-eq35.true in
    let run = c.comment_end.ensures in
    record { low = omega (arith, run.low); high = run.high; same_tokens = λ o line. comment_begun t p o line c.requires.0 here ∙ run.same_tokens o line ∙ rw here }

pub returns : goal.returns
returns c =
    let t = c.args.text.now in
    let p = c.args.at in
    let space : is_space (get_or t p 0) ≡ true = rw (sym c.requires.1) (gap_no_comment c.args.c c.requires.2 (ne_eqb c.args.c 0x23 c.if-c-eq35.false)) in
    record { low = omega arith; high = omega arith; same_tokens = λ o line. space_passed t p o line c.requires.0 space }
