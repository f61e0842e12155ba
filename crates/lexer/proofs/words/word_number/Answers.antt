-- `word_number`: from the last byte to the first.
use Prim.Native.Nat.{◌-◌}
use mathlib.Core.Path.{◌≡◌, ◌∙◌}
use native.Mathlib.Omega.{arith}
use lib.Seq.{slice_empty}
use Rattle.wire.proofs.Horner.{room, one_more}
use Rattle.lexer.specs.Words.{little}
use Rattle.lexer.proofs.WordNumbers.{little_more}
use Rattle.lexer.proofs.words.word_number.Goals as goal

pub loop-i-init : goal.loop-i-init
unfolding little
loop-i-init c =
    let a = c.args in
    let none : a.end - a.end ≡ 0 = omega arith in
    (omega arith, omega arith, rw none (omega arith), rw (slice_empty a.end a.text.now))

pub overflow_mul-n : goal.overflow_mul-n
overflow_mul-n c =
    let l = c.loop-i in
    let a = c.args in
    omega (arith, room l.n (8 - (a.end - l.i)) l.invariant.2 (omega arith))

pub overflow_add-n : goal.overflow_add-n
overflow_add-n c =
    let l = c.loop-i in
    let a = c.args in
    omega (arith, c.type_inv.text (l.i - 1), room l.n (8 - (a.end - l.i)) l.invariant.2 (omega arith))

pub loop-i-preserved : goal.loop-i-preserved
loop-i-preserved c =
    let l = c.loop-i in
    let a = c.args in
    let k : 8 - (a.end - l.i) - 1 ≡ 8 - (a.end - (l.i - 1)) = omega arith in
    let fits = one_more l.n c.from.result (8 - (a.end - l.i)) l.invariant.2 (omega arith) (omega arith) (omega (arith, c.type_inv.text (l.i - 1))) in
    (omega arith, omega arith, rw k at fits, rw (c.from.ensures, l.invariant.3) (little_more a.text.now l.i a.end (omega arith) l.invariant.1 (omega arith)))

pub returns : goal.returns
returns c =
    let l = c.loop-i in
    let a = c.args in
    let same : l.i ≡ a.start = omega arith in
    l.invariant.3 ∙ rw same
