-- `sign_token`: by the kind found.
use mathlib.Core.Path.{◌∙◌}
use Rattle.notation.specs.Lexing.{find, signs}
use Rattle.lexer.proofs.FoundSigns.{sign_meant, no_sign_meant}
use Rattle.lexer.proofs.signs.sign_token.Goals as goal

pub returns-in-None : goal.returns-in-None
returns-in-None c =
    let a = c.args in
    c.plain-in-None.ensures ∙ no_sign_meant c.sign_kind.result (find a.c signs) a.start a.line c.sign_kind.ensures c.in-None.is

pub returns-in-Some : goal.returns-in-Some
returns-in-Some c =
    let a = c.args in
    c.plain.ensures ∙ sign_meant c.in-Some.kind c.sign_kind.result (find a.c signs) a.start a.line c.sign_kind.ensures c.in-Some.is
