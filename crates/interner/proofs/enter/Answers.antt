-- `enter`: the string is there, or it is put where it belongs.
use native.Mathlib.Omega.{arith}
use Rattle.interner.proofs.Keeping.{kept_known, kept_new}
use Rattle.interner.proofs.Searching.{stands_there, belongs_there}
use Rattle.interner.proofs.enter.Goals as goal

pub returns-in-Ok : goal.returns-in-Ok
returns-in-Ok c = kept_known _ _ _ _ c.requires (stands_there _ _ _ c.search.result c.search.ensures c.in-Ok.is)

pub overflow_mul-number : goal.overflow_mul-number
overflow_mul-number c = let here = belongs_there _ _ _ c.search.result c.search.ensures c.in-Err.is in omega (arith, here.within, c.requires.small)

pub make_room-requires : goal.make_room-requires
make_room-requires c = let here = belongs_there _ _ _ c.search.result c.search.ensures c.in-Err.is in (omega (arith, here.within), omega (arith, c.requires.room))

pub overflow_mul-number-2 : goal.overflow_mul-number-2
overflow_mul-number-2 c = let here = belongs_there _ _ _ c.search.result c.search.ensures c.in-Err.is in omega (arith, here.within, c.requires.small)

pub returns : goal.returns
returns c = kept_new _ _ _ _ c.requires (belongs_there _ _ _ c.search.result c.search.ensures c.in-Err.is) c.make_room.ensures c.put_two.ensures
