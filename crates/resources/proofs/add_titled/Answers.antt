-- `add_titled`: the title is no string, an attribute is refused, the type is not built in, or the other checks follow.
use Rattle.evaluator.proofs.Operators.{unlike_string}
use mathlib.Core.Path.{◌≡◌, ap}
use native.Mathlib.Omega.{arith}
use Rattle.resources.proofs.Whole.{titled_wrong, gathered_kept, gathered_least, titled_stops, titled_goes_on}
use Rattle.resources.proofs.Checking.{check_unknown, check_built}
use Rattle.resources.proofs.add_titled.Goals as goal
use Rattle.std.specs.Prelude.{Err}

pub returns-in_default : goal.returns-in_default
returns-in_default c = titled_wrong _ _ _ _ _ _ _ _ _ _ (unlike_string _ c.in_default.not-String) c.place.ensures (ap Err c.at.ensures)

pub returns-in_err-size : goal.returns-in_err-size
returns-in_err-size c =
    let handed_on : c.from_residual.result ≡ c.gather.result = grind arith in
    rw handed_on (titled_stops _ _ _ _ _ _ _ _ _ _ c.in-String.is c.path_and_trail-outer.ensures c.union-own.ensures c.end_of.ensures c.end_of-2.ensures c.place-2.ensures c.gather.ensures c.in_err-size.was)

pub at-requires-then-not-built_in : goal.at-requires-then-not-built_in
at-requires-then-not-built_in c = c.requires.0.place

pub returns-then-not-built_in : goal.returns-then-not-built_in
returns-then-not-built_in c =
    titled_goes_on _ _ _ _ _ _ _ _ _ _ c.in-String.is c.path_and_trail-outer.ensures c.union-own.ensures c.end_of.ensures c.end_of-2.ensures c.place-2.ensures c.gather.ensures c.in_ok-size.was (check_unknown _ _ _ _ _ _ _ _ _ _ _ _ c.if-not-built_in.true-raw (ap Err c.at-then-not-built_in.ensures))

pub check-requires : goal.check-requires
check-requires c =
    let a = c.args in
    let kept = gathered_kept a.m.now a.work.now a.out.now a.fill a.room a.here a.inner a.p a.x a.built_in c.in-String.is c.path_and_trail-outer.ensures c.union-own.ensures c.end_of.ensures c.end_of-2.ensures c.place-2.ensures c.gather.ensures in
    let least = gathered_least a.m.now a.work.now a.out.now a.fill a.room a.here a.inner a.p a.x a.built_in c.in-String.is c.path_and_trail-outer.ensures c.union-own.ensures c.end_of.ensures c.end_of-2.ensures c.place-2.ensures c.gather.ensures c.in_ok-size.was in
    (c.requires.0.memory, (omega (arith, kept.long, c.requires.0.filled), (c.requires.0.short, (least, (c.requires.1.0, (omega (arith, kept.long, c.requires.1.1), (c.requires.0.place, c.place-2.ensures.0)))))))

pub returns : goal.returns
returns c =
    titled_goes_on _ _ _ _ _ _ _ _ _ _ c.in-String.is c.path_and_trail-outer.ensures c.union-own.ensures c.end_of.ensures c.end_of-2.ensures c.place-2.ensures c.gather.ensures c.in_ok-size.was (check_built _ _ _ _ _ _ _ _ _ _ _ _ c.if-not-built_in.false-raw c.check.ensures)
