-- `place_asked`: a number of at most five digits, or none.
use mathlib.Core.Path.{refl}
use Rattle.input.proofs.Digits.{some_told, none_told}
use Rattle.manifest_text.proofs.FirstLine.{none_asked, one_asked}
use Rattle.manifest_text.proofs.place_asked.Goals as goal

pub returns-in_err-field : goal.returns-in_err-field
returns-in_err-field c = rw c.from_residual.ensures (none_asked _ refl (none_told _ c.in_err-field.ensures))

pub returns : goal.returns
returns c =
    let told = some_told _ c.in_ok-field.ensures in
    one_asked _ told.0 (rw told.0 told.1)
