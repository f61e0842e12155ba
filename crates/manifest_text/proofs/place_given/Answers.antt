-- `place_given`: the eight are without fault, and a list that is lent is the one chosen.
use Rattle.type_list.specs.Listed.{chosen}
use Rattle.manifest_text.specs.Answers.{types_given, bytes_given}
use Rattle.manifest_text.proofs.Answering.{lent_place}
use Rattle.manifest_text.proofs.place_given.Goals as goal

pub returns-in-None : goal.returns-in-None
unfolding chosen types_given bytes_given
returns-in-None c = rw c.in-None.is c.field_place.ensures

pub returns-in-Some : goal.returns-in-Some
unfolding types_given bytes_given
returns-in-Some c = rw (c.in-Some.is, ← c.first.ensures, ← c.past.ensures) (lent_place _ c.field_place-in-Some.ensures)
