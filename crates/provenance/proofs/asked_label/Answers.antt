use borrow.Author.Rules.{rules}
use Rattle.provenance.specs.Notes.{asked_of}
use Rattle.provenance.proofs.asked_label.Goals as goal

pub returns : goal.returns
unfolding asked_of
returns c = search rules
