-- `keep`: the line stays, or it is written anew.
use native.Mathlib.Omega.{arith}
use Rattle.summaries.proofs.Summaries.{line_kept}
use Rattle.summaries.proofs.keep.Goals as goal

pub returns : goal.returns
returns c =
    line_kept _ _ _ _ _ c.requires.1.0 (c.requires.0.0, c.line_for-line.ensures) c.requires.0.1 (omega (arith, c.ranges.depth)) c.args.collected.now.words c.write.ensures.1 c.requires.1.1 c.write.ensures.0
