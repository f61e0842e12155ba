-- `print_fitting`: too long for anything, too long for the output, or written.
use mathlib.Core.Path.{refl}
use native.Mathlib.Omega.{arith}
use Rattle.text_answers.proofs.Ending.{leaves_as}
use Rattle.printer.proofs.WholeText.{over_limit, over_room, fits}
use Rattle.printer.proofs.print_fitting.Goals as goal

pub returns-in_default : goal.returns-in_default
returns-in_default c = leaves_as (over_limit _ _ c.write_whole.ensures c.in_default.is) c.write_whole.auto.out refl c.refuse.ensures

pub returns-then-out-size : goal.returns-then-out-size
returns-then-out-size c =
    let same = c.write_whole.auto.out in
    leaves_as (over_room _ _ c.write_whole.ensures c.in-Some.is (omega (arith, same, c.if-out-size.true))) same refl c.refuse-then-out-size.ensures

pub returns : goal.returns
returns c =
    let same = c.write_whole.auto.out in
    leaves_as (fits _ _ c.write_whole.ensures c.in-Some.is refl (omega (arith, same, c.if-out-size.false))) same refl c.accept.ensures
