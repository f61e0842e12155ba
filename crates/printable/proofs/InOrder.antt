-- One law for each way through the walk over the fields in reading order.
use Prim.Native.Nat.{ℕ, ◌+◌, ◌≤◌, ◌<◌}
use mathlib.Core.Path.{◌≡◌, sym, ◌∙◌}
use mathlib.Core.Bool.{Bool, true, false}
use mathlib.Core.List.{List}
use lib.ListN.{length}
use Rattle.rules.specs.Bytes.{pick, byte, two}
use Rattle.rules.specs.Format.{form_of, head_size}
use Rattle.rules.specs.Check.{stride, next_in_order}
use Rattle.rules.specs.Types.{Types}
use Rattle.syntax.proofs.Reading.{no_places, place_first}
use Rattle.notation.specs.Printer.{Gone, stops, past}
use Rattle.printable.specs.Reading.{prints_at, label_behind, gone_over, gone_from}

module _ (types : Types) (m : List ℕ) (ss : List (List ℕ)) (p l : ℕ) where
  -- the field at p, then those from the next one on
  pub gone_first : p < length m → gone_from types m ss p l ≡ pick (prints_at types m ss l p) (gone_from types m ss (next_in_order m p) (label_behind m l p)) (stops p)
  unfolding gone_from gone_over
  gone_first h = rw (place_first m p (length m) h)

  pub gone_end : length m ≤ p → gone_from types m ss p l ≡ past l
  unfolding gone_from gone_over
  gone_end h = rw (no_places m p (length m) h)

  pub goes_on : {b : Bool} {k q : ℕ} {whole : Gone} → p < length m → b ≡ prints_at types m ss l p → b ≡ true → k ≡ label_behind m l p → q ≡ next_in_order m p → gone_from types m ss p l ≡ whole → gone_from types m ss q k ≡ whole
  goes_on h eb t ek eq inv = rw (ek, eq) (sym (gone_first h ∙ rw (← eb, t)) ∙ inv)

  pub stops_here : {b : Bool} {whole : Gone} → p < length m → b ≡ prints_at types m ss l p → b ≡ false → gone_from types m ss p l ≡ whole → stops p ≡ whole
  stops_here h eb t inv = sym (gone_first h ∙ rw (← eb, t)) ∙ inv

-- the next field by the tag and the length of the one at p
pub next_there : (m : List ℕ) (p : ℕ) {t k w : ℕ} → t ≡ byte m p → k ≡ two m (p + 1) → w ≡ stride (form_of t).rest (head_size (form_of t)) k → p + 3 + w ≡ next_in_order m p
next_there m p et ek ew = rw (ew, ek, et)
