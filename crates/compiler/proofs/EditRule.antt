-- Demand 3 for the compiler: the edit rule over what two calls of `compile`, or of `compile_with_types` with one list, left in their outputs. Assumes nothing.
use mathlib.Core.Path.{◌≡◌}
use mathlib.Core.Bool.{true}
use mathlib.Core.List.{List}
use Prim.Native.Nat.{ℕ}
use lib.ListN.{length}
use Rattle.rules.specs.Types.{Types}
use Rattle.rules.specs.EditRule.{one_tree, Claim}
use Rattle.rules.proofs.EditRule.{edit_rule_calls}
use Rattle.compiler.specs.Accepted.{Accepted, catalog_left}

-- "For every two manifests with one string table and one tree, differing only in kinds and values of labelled constants, and for every device,
-- whatever step limit and output length each compile is given: if both are accepted", the claim holds of the two catalogs left. "Two manifests are
-- compared under the same list."
pub edit_rule : (types : Types) (m m' device : List ℕ) → one_tree m m' ≡ true → (a : Accepted types m device) (b : Accepted types m' device) → Claim m m' (catalog_left a) (catalog_left b)
edit_rule types m m' device t a b =
    edit_rule_calls types m m' device a.compiles.bytes b.compiles.bytes t a.limit b.limit (length a.output_before) (length b.output_before) (length a.memory_before) (length b.memory_before) a.length b.length a.steps b.steps
    (record { answer = a.answer; output_after = a.output_after; memory_after = a.memory_after }) (record { answer = b.answer; output_after = b.output_after; memory_after = b.memory_after })
    a.compiles.leaves.effect b.compiles.leaves.effect a.accepts b.accepts
