-- `find`: at the loop's head, what is left of the chain decides the whole answer.
use Prim.Native.Nat.{◌≤◌}
use mathlib.Core.Path.{◌≡◌}
use Rattle.cells.specs.Layout.{most_records}
use Rattle.catalog.specs.Finding.{Below}
use Rattle.catalog_index.specs.Chains.{follow, last_with}
use Rattle.catalog_index.specs.Index.{places_of, links_of, chain_in, sought_at}
use Rattle.catalog_index.proofs.find.Given as goal
use Rattle.std.specs.Prelude.{None}

abbrev pub invariant-loop-r : goal.invariant-loop-r
invariant-loop-r l = (l.below ≤ most_records) × ((last_with (sought_at l.out l.fill l.sought) l.found (follow (places_of l.work) (links_of l.work) l.below l.r) ≡ last_with (sought_at l.out l.fill l.sought) None (chain_in l.work l.bucket)) × Below 65536 l.found)

abbrev pub decreases-loop-r : goal.decreases-loop-r
decreases-loop-r l = l.below
