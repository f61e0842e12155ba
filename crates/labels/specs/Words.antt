-- A set of labels in four words that code can index, and what joining to it does.
use Rattle.std.specs.Prelude.{ℕ, ◌≡◌, List, length, get_or}
use Rattle.labels.specs.declared.Labels.{Labels}
use Rattle.wire.specs.Runs.{over}
use Rattle.labels.specs.Sets.{◌∪◌, Words64}
use Rattle.labels.specs.Bytes.{label_bytes, set_at}

abbrev pub labels_in : List ℕ → Labels
labels_in s = record { w0 = get_or s 0 0; w1 = get_or s 1 0; w2 = get_or s 2 0; w3 = get_or s 3 0 }

-- the set k was joined
pub record Joins (s s' : List ℕ) (k : Labels) : Type 0 where
  pub size : length s' ≡ 4
  pub labels : labels_in s' ≡ labels_in s ∪ k

-- the set k was joined to the one in the 32 bytes from p on
pub record JoinsAt (m m' : List ℕ) (p : ℕ) (k : Labels) : Type 0 where
  pub stored : m' ≡ over m p (label_bytes (k ∪ set_at m p))
  pub words : Words64 (k ∪ set_at m p)

-- what was in the set is in it still
pub record Grows (s s' : List ℕ) : Type 0 where
  pub size : length s' ≡ 4
  pub kept : labels_in s ∪ labels_in s' ≡ labels_in s'
