-- `insert` sets the bit of the name in its word.
use mathlib.Core.Path.{refl}
use Rattle.branches.proofs.Texts.{collects_name}
use Rattle.branches.proofs.collected.Collected.insert.Goals as goal

pub returns : goal.returns
returns c = collects_name c.args.self.now c.args.name c.requires refl refl
