-- `join_within`: the set read, joined and stored.
use native.Mathlib.Omega.{arith}
use Rattle.labels.proofs.Places.{set_joined}
use Rattle.labels.proofs.join_within.Goals as goal

pub returns : goal.returns
returns c =
    let union = c.union in
    set_joined _ _ _ c.read_within-old.ensures union.ensures (record { small0 = omega (arith, union.type_inv); small1 = omega (arith, union.type_inv); small2 = omega (arith, union.type_inv); small3 = omega (arith, union.type_inv) }) c.write_within.ensures
