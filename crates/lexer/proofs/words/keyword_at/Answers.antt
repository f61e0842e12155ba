-- `keyword_at`: .
use Prim.Native.Nat.{◌-◌}
use mathlib.Core.Path.{sym, ◌∙◌}
use native.Mathlib.Omega.{arith}
use lib.Seq.{slice, length-slice}
use Rattle.lexer.proofs.WordNumbers.{run_in_word, keyword_by_number, long_no_keyword}
use Rattle.lexer.proofs.words.keyword_at.Goals as goal

pub returns-then-end-start-gt8 : goal.returns-then-end-start-gt8
returns-then-end-start-gt8 c =
    let a = c.args in
    let size = length-slice a.start a.end a.text.now c.requires.high in
    sym (long_no_keyword (slice a.start a.end a.text.now) (omega arith))

pub returns : goal.returns
returns c =
    let a = c.args in
    let run = c.requires in
    c.keyword_kind.ensures ∙ rw c.word_number.ensures
    (sym (keyword_by_number (slice a.start a.end a.text.now) (run_in_word a.text.now a.end (a.end - a.start) a.start (omega (arith, run.low)) run.high run.inside)))
