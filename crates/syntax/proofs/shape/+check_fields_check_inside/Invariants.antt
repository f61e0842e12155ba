-- The walk over the fields: `check_fields` at a level goes into each field by `check_inside`, and this into its fields one level further down.
use Prim.Native.Nat.{◌+◌, ◌-◌, ◌*◌}
use mathlib.Core.Path.{◌≡◌}
use Rattle.rules.specs.Bytes.{fields_in}
use Rattle.rules.specs.Check.{inside}
use Rattle.format.specs.Numbers.{parts_from}
use Rattle.syntax.specs.Walked.{walked}
use Rattle.syntax.proofs.shape.+check_fields_check_inside.Given as goal

abbrev pub decreases-check_fields : goal.decreases-check_fields
decreases-check_fields l = 2 * l.levels + 1

abbrev pub decreases-check_inside : goal.decreases-check_inside
decreases-check_inside l = 2 * l.levels

abbrev pub invariant-check_fields-loop-q : goal.invariant-check_fields-loop-q
invariant-check_fields-loop-q l = walked l.m (inside l.m l.levels) l.p (parts_from l.left) l.e (fields_in l.m l.q l.e) ≡ walked l.m (inside l.m l.levels) l.p (parts_from l.parts) l.e (fields_in l.m l.from l.e)

abbrev pub decreases-check_fields-loop-q : goal.decreases-check_fields-loop-q
decreases-check_fields-loop-q l = l.e - l.q
