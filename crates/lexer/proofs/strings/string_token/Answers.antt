-- `string_token`: by its end and its size.
use native.Mathlib.Omega.{arith}
use Rattle.lexer.proofs.FoundStrings.{string_faulty, string_long, string_found}
use Rattle.lexer.proofs.strings.string_token.Goals as goal

pub returns-in_default : goal.returns-in_default
returns-in_default c =
    let a = c.args in
    let q = c.read_string in
    λ o. rw c.plain.ensures (string_faulty a.text.now a.start a.line o c.requires.0 c.requires.1 c.requires.2 q.result q.ensures c.in_default.is)

pub returns-then-s-gt255 : goal.returns-then-s-gt255
returns-then-s-gt255 c =
    let a = c.args in
    let q = c.read_string in
    λ o. rw c.plain-then-s-gt255.ensures (string_long a.text.now a.start a.line o c.requires.0 c.requires.1 c.requires.2 q.result q.ensures _ c.in-Some.is (omega arith))

pub returns : goal.returns
returns c =
    let a = c.args in
    let q = c.read_string in
    λ o. string_found a.text.now a.start a.line o c.requires.0 c.requires.1 c.requires.2 q.result q.ensures _ c.in-Some.is (omega arith)
