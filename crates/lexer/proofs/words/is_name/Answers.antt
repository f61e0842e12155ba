-- `is_name`: by the length, and by the keywords.
use mathlib.Core.Path.{sym}
use native.Mathlib.Omega.{arith}
use lib.Seq.{slice, length-slice}
use Rattle.lexer.proofs.FoundNames.{long_no_name, name_by_kind}
use mathlib.Core.Bool.{Bool, true, false}
use mathlib.Core.Path.{◌≡◌, ◌∙◌}
use Rattle.std.specs.Prelude.{not}
use Rattle.lexer.proofs.words.is_name.Goals as goal

-- what is told the other way round
negated : (b n : Bool) → b ≡ not n → n ≡ not b
negated b true e = rw e
negated b false e = rw e

pub returns-then-end-start-gt255 : goal.returns-then-end-start-gt255
returns-then-end-start-gt255 c =
    let a = c.args in
    let size = length-slice a.start a.end a.text.now c.requires.high in
    sym (long_no_name (slice a.start a.end a.text.now) (omega arith))

pub returns : goal.returns
returns c =
    let a = c.args in
    let size = length-slice a.start a.end a.text.now c.requires.high in
    negated _ c.is_none.result c.is_none.ensures ∙ sym (name_by_kind (slice a.start a.end a.text.now) c.keyword_at.result (omega arith) c.keyword_at.ensures)
