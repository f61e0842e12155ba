-- The table of places: one law for each way through `index_strings`, and what the table then holds.
use Prim.Native.Nat.{ℕ, ◌+◌, ◌*◌, ◌/◌, ◌%◌}
use mathlib.Core.Path.{◌≡◌, refl, ◌∙◌}
use mathlib.Core.List.{List, [], ◌∷◌}
use native.Mathlib.Omega.{arith}
use lib.ListN.{length}
use Rattle.wire.specs.Numbers.{high_bytes}
use Rattle.wire.specs.Runs.{over}
use Rattle.wire.proofs.Laws.{over_join, high_length}
use Rattle.rules.specs.Bytes.{end_of, fields_in}
use Rattle.rules.specs.Check.{string_places}
use Rattle.syntax.specs.Strings.{place_bytes, indexed}

-- a place as a number of two bytes stands as the place itself
pub low_two : (q : ℕ) → high_bytes 2 (q % 65536) ≡ high_bytes 2 q
unfolding high_bytes
low_two q =
    let high : q % 65536 / 256 % 256 ≡ q / 256 % 256 = omega arith in
    let low : q % 65536 / 1 % 256 ≡ q / 1 % 256 = omega arith in
    rw (high, low) refl

module _ (table : List ℕ) (n : ℕ) {qs whole : List ℕ} (so_far : over table (2 * n) (place_bytes qs) ≡ whole) where
  pub one_placed : {q : ℕ} {rest t : List ℕ} → qs ≡ q ∷ rest → t ≡ over table (2 * n) (high_bytes 2 q) → over t (2 * (n + 1)) (place_bytes rest) ≡ whole
  unfolding place_bytes
  one_placed {q} {rest} {t} next et =
      let there : 2 * (n + 1) ≡ 2 * n + length (high_bytes 2 q) = omega (arith, high_length 2 q) in
      rw (et, there) (over_join table (2 * n) (high_bytes 2 q) (place_bytes rest) ∙ (rw next at so_far))

  pub all_placed : qs ≡ [] → table ≡ whole
  unfolding place_bytes over
  all_placed none = rw none at so_far

-- the loop's end in the words of the contract
pub all_counted : (m : List ℕ) {e n : ℕ} → e ≡ end_of m 0 → n ≡ length (fields_in m 3 e) → n ≡ length (string_places m)
unfolding string_places
all_counted m h n = rw (← h) n

pub all_indexed : (m table : List ℕ) {e : ℕ} {t : List ℕ} → e ≡ end_of m 0 → t ≡ over table 0 (place_bytes (fields_in m 3 e)) → t ≡ indexed m table
unfolding indexed string_places
all_indexed m table h t = rw (← h) t
