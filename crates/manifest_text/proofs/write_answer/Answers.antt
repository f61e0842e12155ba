-- `write_answer`: the result or the refusal.
use mathlib.Core.Path.{ap}
use native.Mathlib.Omega.{arith}
use lib.ListN.{length, length-take}
use Rattle.manifest_text.specs.Answers.{written_text}
use Rattle.manifest_text.proofs.Answering.{then_so, result_left, refusal_left}
use Rattle.manifest_text.proofs.write_answer.Goals as goal

pub write_numbered-requires : goal.write_numbered-requires
unfolding written_text
write_numbered-requires g c =
    let bytes = c.first-bytes.ensures in
    (then_so c.requires (λ a l. result_left _ l c.in-Ok.is bytes), omega arith, omega (arith, ap length bytes, length-take c.in-Ok.length c.args.out.now))

pub write_refusal-requires : goal.write_refusal-requires
write_refusal-requires g c = then_so c.requires (λ a l. refusal_left _ l c.in-Err.is)
