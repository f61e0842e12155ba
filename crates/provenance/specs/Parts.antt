-- The part of a set that holds a label.
use Rattle.std.specs.Prelude.{ℕ}
use Rattle.labels.specs.Sets.{has}
use Rattle.values.specs.Numbers.{part_number}
use Rattle.wire.specs.Bytes.{pick}
use Rattle.rules.specs.State.{SetParts}
use Rattle.rules.specs.Why.{set_of, first_part}

-- the number of the first part that has the label, 6 if the set lacks it
unfoldable pub held_part : SetParts → (label : ℕ) → ℕ
held_part parts label = pick (has (set_of parts) label) (part_number (first_part parts label)) 6
