-- Which fields may come next, where the parts that are not done are a list. It is what the definition says of them (proofs/Undone.antt).
use Rattle.std.specs.Prelude.{ℕ, Bool, true, ◌&&◌, List, [], ◌∷◌, Option as CodeOption, Some, None}
use Rattle.std.proofs.Math.Option.{Option, none, some}
use Rattle.rules.specs.Format.{take, part_may_end}
use Rattle.rules.specs.declared.Part.{Part}
use Rattle.rules.specs.declared.Took.{Took}
use Rattle.rules.specs.declared.Took.TheVariants.{Takes, Passes, Refuses}
use Rattle.format.specs.Numbers.{push, parts_from}
use Rattle.format.specs.declared.order.Taking.{Taking}
use Rattle.format.specs.declared.order.Taking.TheVariants.{Parts as Taken, Passes as Passed, Refuses as Refused}

-- the first part takes the field, or leaves it to the other parts, or refuses it
abbrev pub onward : Took → (others : List Part) → (without : Option (List Part)) → Option (List Part)
onward (Takes x) ps o = some (push x ps)
onward Passes ps o = o
onward Refuses ps o = none

-- what may come after a field with the tag t, if it may stand here
unfoldable pub comes : List Part → (t : ℕ) → Option (List Part)
comes [] t = none
comes (p ∷ ps) t = onward (take p t) ps (comes ps t)

-- whether the body may end here
unfoldable pub complete : List Part → Bool
complete [] = true
complete (p ∷ ps) = part_may_end p && complete ps

-- the same, as the code answers it
abbrev pub taken_from : Taking → (without : Option (List Part)) → Option (List Part)
taken_from (Taken n) o = some (parts_from n)
taken_from Passed o = o
taken_from Refused o = none

abbrev pub then_from : CodeOption ℕ → Option (List Part)
then_from (Some n) = some (parts_from n)
then_from None = none
