-- `find`: at the loop's head, what is left of the chain decides the whole answer.
use Prim.Native.Nat.{ℕ}
use mathlib.Core.Path.{ap}
use mathlib.Core.Bool.{Bool}
use native.Mathlib.Omega.{arith}
use Rattle.cells.specs.Layout.{most_records}
use Rattle.catalog.specs.Finding.{Below}
use Rattle.catalog_index.specs.Chains.{follow, last_with}
use Rattle.catalog_index.specs.Index.{places_of, links_of, chain_in, sought_at}
use Rattle.catalog_index.proofs.Chains.{taken, passed_over, below_place, below_same, walk_on, walk_ends, walk_breaks}
use Rattle.catalog_index.proofs.find.Goals as goal
use Rattle.catalog_index.proofs.find.Goals.{then-is_sought, else-is_sought}
use Rattle.std.specs.Prelude.{None}

pub loop-r-init : goal.loop-r-init
unfolding chain_in Below
loop-r-init c = (
  omega arith,
  (ap (λ (r : ℕ). last_with (sought_at c.args.out.now c.args.fill c.args.sought) None (follow (places_of c.args.work.now) (links_of c.args.work.now) most_records r)) c.two_in-r.ensures, tt),
)

pub returns-then-below-r : goal.returns-then-below-r
returns-then-below-r c =
    let a = c.args in
    let l = c.loop-r in
    (walk_breaks (sought_at a.out.now a.fill a.sought) (places_of a.work.now) (links_of a.work.now) l.found l.below l.r l.invariant.1.0 c.if-below-r.true, l.invariant.1.1)

pub overflow_cast-at : goal.overflow_cast-at
overflow_cast-at c = omega (arith, c.loop-r.invariant.0)

pub overflow_mul-at : goal.overflow_mul-at
overflow_mul-at c = omega (arith, c.loop-r.invariant.0)

pub overflow_add-at : goal.overflow_add-at
overflow_add-at c = omega (arith, c.loop-r.invariant.0)

pub two_in-p-requires : goal.two_in-p-requires
two_in-p-requires c = omega (arith, c.loop-r.invariant.0, c.requires.0)

pub overflow_add-at-in-loop-r : goal.overflow_add-at-in-loop-r
overflow_add-at-in-loop-r c = omega (arith, c.loop-r.invariant.0)

pub two_in-r-requires-in-loop-r : goal.two_in-r-requires-in-loop-r
two_in-r-requires-in-loop-r c = omega (arith, c.loop-r.invariant.0, c.requires.0)

pub loop-r-preserved : goal.loop-r-preserved
loop-r-preserved c =
    let a = c.args in
    let l = c.loop-r in
    let f : ℕ → Bool = sought_at a.out.now a.fill a.sought in (
      omega (arith, l.invariant.0),
      (
        walk_on f (places_of a.work.now) (links_of a.work.now) l.found l.below l.r l.invariant.1.0 c.if-is_sought.found c.loop-r-test.true c.if-below-r.false c.two_in-p.ensures c.two_in-r-in-loop-r.ensures
            (elim c.if-is_sought.branch [ then-is_sought w ↦ taken f l.found c.is_sought.ensures w.if-is_sought.true w.found-is | else-is_sought w ↦ passed_over f l.found c.is_sought.ensures w.if-is_sought.false w.found-is ]),
        elim c.if-is_sought.branch [ then-is_sought w ↦ below_place w.found-is (omega arith) | else-is_sought w ↦ below_same 65536 w.found-is l.invariant.1.1 ],
      ),
    )

pub returns : goal.returns
returns c =
    let a = c.args in
    let l = c.loop-r in
    (walk_ends (sought_at a.out.now a.fill a.sought) (places_of a.work.now) (links_of a.work.now) l.found l.below l.r l.invariant.1.0 (omega arith), l.invariant.1.1)
