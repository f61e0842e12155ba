-- `store_title`: no string "title", or its variable assigned.
use Rattle.declarations.proofs.Types.{number_small, title_nowhere, title_stored}
use Rattle.declarations.proofs.store_title.Goals as goal

pub store-requires : goal.store-requires
store-requires c = (c.requires.0, (number_small _ c.title.ensures c.in-Some.is, c.requires.1))

pub returns-in_default : goal.returns-in_default
returns-in_default c = title_nowhere _ c.title.ensures _ _ c.in_default.is

pub returns : goal.returns
returns c = title_stored _ c.title.ensures _ _ _ c.in-Some.is c.store.ensures
