-- `two_colons`: by the two bytes.
use Prim.Native.Nat.{◌+◌}
use native.Mathlib.Omega.{arith}
use lib.ListN.{length}
use borrow.Author.Tests.{lt-ltb, le-ltb}
use Rattle.lexer.proofs.variables.two_colons.Goals as goal

pub returns-then-text-at-lt2 : goal.returns-then-text-at-lt2
returns-then-text-at-lt2 c =
    let a = c.args in
    rw (le-ltb (a.at + 1) (length a.text.now) (omega arith))

pub returns : goal.returns
returns c =
    let a = c.args in
    rw (lt-ltb (a.at + 1) (length a.text.now) (omega arith))
