-- How many labels a set has, and which comes next: plain recursions over the labels, in terms of `has`.
use Rattle.std.specs.Prelude.{ℕ, zero, suc, ◌+◌, ◌-◌, Bool, true, false, Option, Some, None}
use Rattle.labels.specs.declared.Labels.{Labels}
use Rattle.labels.specs.Sets.{has}

-- 1 for a label that is in the set
unfoldable pub tally : Bool → ℕ
tally true = 1
tally false = 0

-- how many labels below n are in the set
unfoldable pub count_below : Labels → ℕ → ℕ
count_below s zero = 0
count_below s (suc n) = count_below s n + tally (has s n)

-- how many labels are in the set
unfoldable pub count_of : Labels → ℕ
count_of s = count_below s 256

-- the least label in the set among the k labels from n on
unfoldable pub first_of : Labels → ℕ → ℕ → Option ℕ
first_of s zero n = None
first_of s (suc k) n = elim (has s n) [ true ↦ Some n | false ↦ first_of s k (suc n) ]

-- the least label in the set at or above n
unfoldable pub next_from : Labels → ℕ → Option ℕ
next_from s n = first_of s (256 - n) n
