-- Chains of slots. A reference is 0 for none, or one more than the number of the slot that it leads to.
use Rattle.std.specs.Prelude.{ℕ, zero, suc, ◌≡◌, Bool, true, false, eqb, ltb, Option, Some, None}
use Rattle.wire.specs.Bytes.{pick}

abbrev pub reference : Option ℕ → ℕ
reference (Some i) = suc i
reference None = 0

-- a reference at slot p counts in chain c where it leads to a smaller number than p, and to a slot of that chain: so every chain ends, whatever the bytes are
unfoldable pub counted : (chains : ℕ → ℕ) → (c p reference : ℕ) → ℕ
counted chains c p zero = 0
counted chains c p (suc i) = pick (ltb i p) (pick (eqb (chains i) c) (suc i) 0) 0

-- whether x is one of the slots below b that a reference r leads to, if `next` tells what follows each slot
unfoldable pub leads_to : (next : ℕ → ℕ) → (b r x : ℕ) → Bool
leads_to next zero r x = false
leads_to next (suc b) r x = pick (eqb r (suc b)) (pick (eqb x b) true (leads_to next b (next b) x)) (leads_to next b r x)

-- the way along a chain: it starts at 512, as if its head were the link of a slot past all others
pub data Way (next : ℕ → ℕ) : ℕ → Type 0 where
  begin : Way next 512
  step : {p i : ℕ} → Way next p → next p ≡ suc i → Way next i
