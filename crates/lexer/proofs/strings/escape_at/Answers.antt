-- `escape_at`: by the place and the byte.
use native.Mathlib.Omega.{arith}
use lib.ListN.{length}
use borrow.Author.Tests.{lt-ltb, le-ltb}
use Rattle.lexer.proofs.strings.escape_at.Goals as goal

pub returns-then-at-text : goal.returns-then-at-text
returns-then-at-text c =
    let a = c.args in
    rw (lt-ltb a.at (length a.text.now) (omega arith)) c.is_escape.ensures

pub returns : goal.returns
returns c =
    let a = c.args in
    rw (le-ltb a.at (length a.text.now) (omega arith))
