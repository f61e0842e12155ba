-- `number_token`: by what follows the digits, and by the number's size.
use Prim.Native.Nat.{◌+◌, ◌-◌}
use mathlib.Core.Path.{◌≡◌, sym, ◌∙◌}
use native.Mathlib.Omega.{arith}
use lib.ListN.{get_or}
use mir.Facts.{to_z-of_z}
use mir.Syntax.{w64}
use mir.Val.{SFits, to_z, of_z}
use Rattle.lexer.specs.Numbers.{DigitsRun, signed_of}
use Rattle.lexer.proofs.FoundNumbers.{digit_range, number_faulty, number_large, number_found}
use Rattle.lexer.proofs.numbers.number_token.Goals as goal

pub overflow_sub-text : goal.overflow_sub-text
overflow_sub-text c = (digit_range (get_or c.args.text.now c.args.from 0) c.requires.3).0

pub returns-then-word_at : goal.returns-then-word_at
returns-then-word_at c =
    let a = c.args in
    let d = c.read_digits-d in
    let run : DigitsRun a.text.now (a.from + 1) (get_or a.text.now a.from 0 - 0x30) d.result = rw c.from.ensures at d.ensures in
    λ o begun. rw c.plain.ensures (number_faulty a.text.now a.start a.line o a.from a.negative c.requires.0 c.requires.1 begun d.result run (sym c.word_at.ensures ∙ c.if-word_at.true))

pub returns-then-largest-n : goal.returns-then-largest-n
returns-then-largest-n c =
    let a = c.args in
    let d = c.read_digits-d in
    let run : DigitsRun a.text.now (a.from + 1) (get_or a.text.now a.from 0 - 0x30) d.result = rw c.from.ensures at d.ensures in
    let large = c.largest.ensures in
    λ o begun. rw c.plain-then-largest-n.ensures (number_large a.text.now a.start a.line o a.from a.negative c.requires.0 c.requires.1 begun d.result run (sym c.word_at.ensures ∙ c.if-word_at.false) (omega arith))

pub returns : goal.returns
returns c =
    let a = c.args in
    let d = c.read_digits-d in
    let run : DigitsRun a.text.now (a.from + 1) (get_or a.text.now a.from 0 - 0x30) d.result = rw c.from.ensures at d.ensures in
    let large = c.largest.ensures in
    let fits : SFits w64 c.signed.result = record { sfits = c.signed.type_inv } in
    let same : to_z w64 (of_z w64 c.signed.result) ≡ signed_of a.negative d.result.value = to_z-of_z fits ∙ c.signed.ensures in
    λ o begun. rw same (number_found a.text.now a.start a.line o a.from a.negative c.requires.0 c.requires.1 begun d.result run (sym c.word_at.ensures ∙ c.if-word_at.false) (omega arith))
