-- `next`: before the end it passes the field there, and is nearer the end.
use Rattle.std.proofs.Common.{arith}
use Rattle.wire.proofs.Walks.{passed, ended}
use Rattle.wire.proofs.walking.WalkIterator.next.Goals as goal

pub returns-then-self-clause-steps : goal.returns-then-self-clause-steps
returns-then-self-clause-steps c = ended _ _ _ (omega arith)

pub returns-clause-steps : goal.returns-clause-steps
returns-clause-steps c = passed _ _ _ _ (omega arith) c.end_of-self.ensures

pub returns-clause-goes : goal.returns-clause-goes
returns-clause-goes c = record {
  on = λ _. (tt, tt, omega (arith, c.end_of-self.ensures));
  keeps = tt;
  rests = λ _. tt;
}
