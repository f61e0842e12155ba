-- `compile_schedule`: the limits are the definition's.
use Prim.Native.Nat.{ℕ}
use mathlib.Core.Path.{◌≡◌, ap, ◌∙◌}
use native.Mathlib.Omega.{arith}
use lib.ListN.{length}
use Rattle.rules.specs.Types.{the_eight}
use Rattle.rules.specs.Compile.{Effect, compile}
use Rattle.print_schedule.proofs.compile_schedule.Goals as goal

pub returns : goal.returns
returns c =
    let a = c.args in
    let room : length a.out.now ≡ 65535 = omega arith in
    let effect = c.compile.ensures.leaves.effect ∙ ap (λ (n : ℕ). compile the_eight a.manifest.now a.device.now 65535 n 65536) room in
    (ap (λ (e : Effect). e.answer) effect, ap (λ (e : Effect). e.output_after) effect)
