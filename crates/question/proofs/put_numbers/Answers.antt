-- `put_numbers`: five texts.
use Prim.Native.Nat.{◌≤◌}
use native.Mathlib.Omega.{arith}
use Rattle.question.specs.Answers.{numbers_line}
use Rattle.question.proofs.Putting.{number_short, then_put}
use Rattle.question.proofs.Lengths.{numbers_short}
use Rattle.question.proofs.put_numbers.Goals as goal

-- the first number ends early, and so do the texts behind it
pub put_text-other-requires : goal.put_text-other-requires
put_text-other-requires c =
    let number : c.put_number-between.result ≤ 28 = omega (arith, c.requires.0, c.put_text-number.ensures.told, c.put_number-between.ensures.told, number_short c.args.first (omega (arith, c.ranges.first.fits))) in
    (omega (arith, number), omega (arith, c.requires.1))

pub put_number-end-requires : goal.put_number-end-requires
put_number-end-requires c =
    let number : c.put_number-between.result ≤ 28 = omega (arith, c.requires.0, c.put_text-number.ensures.told, c.put_number-between.ensures.told, number_short c.args.first (omega (arith, c.ranges.first.fits))) in
    omega (arith, number, c.put_text-other.ensures.told, c.requires.1)

pub put_text-requires : goal.put_text-requires
put_text-requires c =
    let number : c.put_number-between.result ≤ 28 = omega (arith, c.requires.0, c.put_text-number.ensures.told, c.put_number-between.ensures.told, number_short c.args.first (omega (arith, c.ranges.first.fits))) in
    (omega (arith, number, c.put_text-other.ensures.told, c.requires.1, c.put_number-end.ensures.told, number_short c.args.second (omega (arith, c.ranges.second.fits))), omega arith)

pub returns : goal.returns
unfolding numbers_line
returns c =
    let whole = then_put c.put_text-number.ensures (then_put c.put_number-between.ensures (then_put c.put_text-other.ensures (then_put c.put_number-end.ensures c.put_text.ensures))) in
    (whole, omega (arith, whole.told, numbers_short c.args.word.now c.args.first c.args.middle.now c.args.second c.requires.0 c.requires.1 (omega (arith, c.ranges.first.fits)) (omega (arith, c.ranges.second.fits))))
