-- `simple_variable`: by its name.
use Prim.Native.Nat.{◌+◌}
use mathlib.Core.Path.{sym, ◌∙◌}
use native.Mathlib.Omega.{arith}
use Rattle.lexer.proofs.Ends.{with_letter}
use Rattle.lexer.proofs.FoundNames.{variable_faulty, variable_found}
use Rattle.lexer.proofs.variables.simple_variable.Goals as goal

pub is_name-requires : goal.is_name-requires
is_name-requires c =
    with_letter c.args.text.now (c.args.start + 1) (c.args.start + 2) c.word_end-end.result (omega arith) c.requires.3 c.word_end-end.ensures

pub returns-then-not-is_name : goal.returns-then-not-is_name
returns-then-not-is_name c =
    let a = c.args in
    let e = c.word_end-end in
    λ o. rw c.plain.ensures (variable_faulty a.text.now a.start a.line o e.result c.requires.2 c.requires.3 e.ensures c.requires.1 (sym c.is_name.ensures ∙ c.if-not-is_name.true))

pub returns : goal.returns
returns c =
    let a = c.args in
    let e = c.word_end-end in
    λ o. rw c.plain-2.ensures (variable_found a.text.now a.start a.line o e.result c.requires.2 c.requires.3 e.ensures c.requires.1 (sym c.is_name.ensures ∙ c.if-not-is_name.false))
