-- `comes_before`: `<` on slices is the order of the strings.
use Rattle.syntax.proofs.Rise.{order_of_slices}
use Rattle.syntax.proofs.order.comes_before.Goals as goal

pub returns : goal.returns
returns c = order_of_slices _ _ _ c.lt.ensures
