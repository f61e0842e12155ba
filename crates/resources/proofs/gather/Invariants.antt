-- `gather`: at the loop's head the attributes up to there are appended.
use Prim.Native.Nat.{ℕ, suc, ◌+◌, ◌*◌, ◌≤◌}
use mathlib.Core.Path.{◌≡◌}
use Rattle.wire.proofs.Walks.{Along}
use Rattle.catalog.specs.Layout.{entry_attributes}
use Rattle.resources.proofs.Gathering.{Gathering}
use Rattle.resources.proofs.gather.Given as goal

abbrev pub invariant-loop-q : goal.invariant-loop-q
invariant-loop-q l = Along l.m l.fn.span.end l.q-iterator.bytes.now l.q-iterator.end × ((d : ℕ) → d ≡ suc l.inner → Gathering l.m l.work l.initial.out l.out l.fill l.scope d l.fn.span.first l.fn.span.end l.outer l.own l.size l.q-iterator.at) × (l.size ≤ entry_attributes + 48 * l.q-iterator.at)
