-- `put_hex`: what is left to store at the loop's head makes the whole.
use Rattle.run_cases.proofs.Texts.{Writing}
use Rattle.run_cases.proofs.text.put_hex.Given as goal

abbrev pub invariant-loop-n : goal.invariant-loop-n
invariant-loop-n l = Writing l.bytes l.initial.into l.into l.all l.n
