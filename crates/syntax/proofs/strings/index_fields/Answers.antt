-- `index_fields`: what is left to store at the loop's head makes the whole; those counted and those left are all of them.
use Prim.Native.Nat.{ℕ, ◌+◌}
use mathlib.Core.Path.{◌≡◌, ap, ◌∙◌}
use mathlib.Core.List.{List}
use lib.ListN.{length}
use Rattle.wire.specs.Runs.{over}
use Rattle.wire.proofs.Walks.{left}
use Rattle.rules.specs.Bytes.{fields_in}
use Rattle.syntax.specs.Strings.{place_bytes}
use native.Mathlib.Omega.{arith}
use Rattle.wire.proofs.Laws.{same_over_length}
use Rattle.wire.proofs.Fields.{few_fields}
use Rattle.syntax.proofs.Rise.{one_more, no_more}
use Rattle.syntax.proofs.Index.{low_two, one_placed, all_placed}
use Rattle.syntax.proofs.strings.index_fields.Goals as goal

pub loop-q-init : goal.loop-q-init
loop-q-init c =
    let all : left c.into_iter-q-iterator.result ≡ fields_in c.args.m.now c.args.from c.args.e = cc in
    (ap (λ (qs : List ℕ). over c.args.table.now 0 (place_bytes qs)) all, ap (λ (qs : List ℕ). 0 + length qs) all ∙ (let none_yet : 0 + length (fields_in c.args.m.now c.args.from c.args.e) ≡ length (fields_in c.args.m.now c.args.from c.args.e) = omega arith in none_yet))

pub overflow_add-n : goal.overflow_add-n
overflow_add-n c = omega (arith, one_more _ _ c.loop-q.invariant.1 c.in-Some.ensures.steps.left, few_fields c.args.m.now c.args.from c.args.e, c.requires)

pub loop-q-preserved : goal.loop-q-preserved
loop-q-preserved c = (one_placed _ _ c.loop-q.invariant.0 c.in-Some.ensures.steps.left (rw (low_two c.in-Some.q) at c.put_two.ensures), one_more _ _ c.loop-q.invariant.1 c.in-Some.ensures.steps.left)

pub shape_of-table : goal.shape_of-table
shape_of-table c = same_over_length _ _ _ _ _ _ c.loop-q.invariant.0

pub returns : goal.returns
returns c = (no_more _ _ c.loop-q.invariant.1 c.in-None.ensures.steps.left, all_placed _ _ c.loop-q.invariant.0 c.in-None.ensures.steps.left)
