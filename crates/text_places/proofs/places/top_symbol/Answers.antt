-- `top_symbol`: there is none, or it is the last byte.
use native.Mathlib.Omega.{arith}
use Rattle.text_places.proofs.Noting.{no_top, some_top}
use Rattle.text_places.proofs.places.top_symbol.Goals as goal

pub returns-then-top-eq0 : goal.returns-then-top-eq0
returns-then-top-eq0 c = no_top _ _ c.if-top-eq0.true

pub returns : goal.returns
returns c = some_top _ _ (omega (arith, c.if-top-eq0.false))
