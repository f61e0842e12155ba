-- `follow`: what is left of the log leads from where the offset is now.
use mathlib.Core.Path.{sym, ◌∙◌}
use Prim.Native.Nat.{◌-◌}
use native.Mathlib.Omega.{arith}
use Rattle.text_places.proofs.Logging.{behind_entry, in_entry, before_entry, no_entry}
use Rattle.text_places.proofs.log.follow.Goals as goal

pub loop-n-preserved-then-from-size : goal.loop-n-preserved-then-from-size
loop-n-preserved-then-from-size c =
    let m = c.args.log.now in
    let l = c.loop-n in
    (omega arith, l.invariant.1 ∙ behind_entry m l.n (l.n - 1) l.at c.number_in-entry.result (omega arith) c.number_in-entry.ensures (omega arith))

pub returns-then-from-at : goal.returns-then-from-at
returns-then-from-at c =
    let m = c.args.log.now in
    let l = c.loop-n in
    (sym (l.invariant.1 ∙ in_entry m l.n (l.n - 1) l.at c.number_in-entry.result (omega arith) c.number_in-entry.ensures (omega arith) (omega arith)), omega arith)

pub loop-n-preserved : goal.loop-n-preserved
loop-n-preserved c =
    let m = c.args.log.now in
    let l = c.loop-n in
    (omega arith, l.invariant.1 ∙ before_entry m l.n (l.n - 1) l.at c.number_in-entry.result (omega arith) c.number_in-entry.ensures (omega arith))

pub returns : goal.returns
returns c = let l = c.loop-n in (sym (l.invariant.1 ∙ no_entry c.args.log.now l.n l.at (omega arith)), omega arith)
