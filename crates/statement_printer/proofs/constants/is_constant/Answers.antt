-- `is_constant`: by the two bounds.
use Prim.Native.Nat.{ℕ, ◌≤◌}
use mathlib.Core.Path.{◌≡◌, sym, ap}
use mathlib.Core.Bool.{Bool, ◌&&◌}
use lib.Dec.{leb}
use borrow.Author.Tests.{le-leb}
use Rattle.rules.specs.Format.{is_constant}
use Rattle.printable.proofs.OneField.{below_constants}
use Rattle.statement_printer.proofs.constants.is_constant.Goals as goal

-- not below, so the upper bound decides
by_bound : (t : ℕ) → 0x10 ≤ t → leb t 0x12 ≡ is_constant t
by_bound t l = sym (ap (λ (b : Bool). b && leb t 0x12) (le-leb 0x10 t l))

pub returns-then-tag-lt16 : goal.returns-then-tag-lt16
returns-then-tag-lt16 c = sym (below_constants _ c.if-tag-lt16.true)

pub returns : goal.returns
returns c = by_bound _ c.if-tag-lt16.false
