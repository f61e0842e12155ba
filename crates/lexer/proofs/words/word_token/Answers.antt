-- `word_token`: by the word's length and the keywords.
use Prim.Native.Nat.{◌+◌}
use mathlib.Core.Path.{refl}
use native.Mathlib.Omega.{arith}
use Rattle.lexer.proofs.Ends.{with_letter}
use Rattle.lexer.proofs.FoundNames.{word_too_long, word_found}
use Rattle.lexer.proofs.words.word_token.Goals as goal

pub returns-then-end-start-gt255 : goal.returns-then-end-start-gt255
returns-then-end-start-gt255 c =
    let a = c.args in
    λ o. rw c.plain.ensures (word_too_long a.text.now a.start a.line o c.word_end-end.result c.requires.2 c.word_end-end.ensures c.requires.1 c.if-end-start-gt255.true)

pub keyword_at-requires : goal.keyword_at-requires
keyword_at-requires c =
    with_letter c.args.text.now c.args.start (c.args.start + 1) c.word_end-end.result refl c.requires.2 c.word_end-end.ensures

pub returns : goal.returns
returns c =
    let a = c.args in
    λ o. rw (c.plain-2.ensures, c.unwrap_or-kind.ensures) (word_found a.text.now a.start a.line o c.word_end-end.result c.requires.2 c.word_end-end.ensures c.requires.1 (omega arith) c.keyword_at.result c.keyword_at.ensures)
