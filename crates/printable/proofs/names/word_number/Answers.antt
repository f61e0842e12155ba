-- `word_number`: from the last byte to the first.
use Prim.Native.Nat.{◌-◌}
use mathlib.Core.Path.{◌≡◌, ◌∙◌}
use native.Mathlib.Omega.{arith}
use lib.ListN.{length, drop_of_length-le}
use Rattle.wire.proofs.Horner.{room, one_more}
use Rattle.lexer.specs.Words.{little}
use Rattle.printable.proofs.Spelling.{little_before}
use Rattle.printable.proofs.names.word_number.Goals as goal

pub loop-i-init : goal.loop-i-init
unfolding little
loop-i-init c =
    let w = c.args.bytes.now in
    let none : length w - length w ≡ 0 = omega arith in
    (omega arith, rw none (omega arith), rw (drop_of_length-le w {i = length w} (omega arith)))

pub overflow_mul-n : goal.overflow_mul-n
overflow_mul-n c =
    let l = c.loop-i in
    let w = c.args.bytes.now in
    omega (arith, room l.n (8 - (length w - l.i)) l.invariant.1 (omega arith))

pub overflow_add-n : goal.overflow_add-n
overflow_add-n c =
    let l = c.loop-i in
    let w = c.args.bytes.now in
    omega (arith, c.type_inv.bytes (l.i - 1), room l.n (8 - (length w - l.i)) l.invariant.1 (omega arith))

pub loop-i-preserved : goal.loop-i-preserved
loop-i-preserved c =
    let l = c.loop-i in
    let w = c.args.bytes.now in
    let k : 8 - (length w - l.i) - 1 ≡ 8 - (length w - (l.i - 1)) = omega arith in
    let fits = one_more l.n c.wide.result (8 - (length w - l.i)) l.invariant.1 (omega arith) (omega arith) (omega (arith, c.type_inv.bytes (l.i - 1))) in
    (omega arith, rw k at fits, rw (c.wide.ensures, l.invariant.2) (little_before w l.i (omega arith) l.invariant.0))

pub returns : goal.returns
returns c =
    let l = c.loop-i in
    let start : l.i ≡ 0 = omega arith in
    l.invariant.2 ∙ rw start
