-- `counted_link`: there is no reference, it does not fall, it leads to another chain, or it counts.
use mathlib.Core.Path.{◌≡◌}
use Prim.Native.Nat.{ℕ, suc, ◌-◌}
use native.Mathlib.Omega.{arith}
use Rattle.cells.proofs.SlotReads.{link_none, link_past, link_other, link_some}
use Rattle.cells.proofs.counted_link.Goals as goal

one_more : {r : ℕ} → (r ≡ 0 → ⊥) → r ≡ suc (r - 1)
one_more some = omega arith

pub returns-then-link-eq0 : goal.returns-then-link-eq0
returns-then-link-eq0 c = link_none _ _ _ _ c.if-link-eq0.true

pub returns-then-p-i : goal.returns-then-p-i
returns-then-p-i c = link_past _ _ _ _ (one_more c.if-link-eq0.false) c.if-p-i.true

pub returns-then-chain_at-chain : goal.returns-then-chain_at-chain
returns-then-chain_at-chain c = link_other _ _ _ _ (one_more c.if-link-eq0.false) c.if-p-i.false c.chain_at.ensures.0 c.if-chain_at-chain.true

pub returns : goal.returns
returns c = link_some _ _ _ _ (one_more c.if-link-eq0.false) c.if-p-i.false c.chain_at.ensures.0 c.if-chain_at-chain.false
