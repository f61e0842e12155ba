-- The table of strings: for each the place in the text where it begins, in two bytes, rising by what the strings are.
use Rattle.std.specs.Prelude.{ℕ, zero, suc, ◌+◌, ◌*◌, ◌<◌, ◌≤◌, ◌≡◌, true, List, [], ◌∷◌, length, Result, Ok, Err}
use Rattle.std.proofs.Math.Option.{some}
use Rattle.rules.specs.Bytes.{byte, two}
use Rattle.rules.specs.Check.{ascends}
use Rattle.rules.specs.Compile.{string_at, string_number}
use Rattle.notation.specs.Quoted.{string_from}
use Rattle.notation.specs.Convert.{entered}
use Rattle.notation.proofs.WrittenNames.{Rising}

-- the values of f at i and the next ones, n of them
unfoldable pub listed : {A : Type 0} → (ℕ → A) → (i n : ℕ) → List A
listed f i zero = []
listed f i (suc n) = f i ∷ listed f (suc i) n

-- the string that entry i of the table stands for
unfoldable pub entry_string : (t table : List ℕ) → ℕ → List ℕ
entry_string t table i = string_from t (two table (2 * i))

-- the strings of the first entries
unfoldable pub strings : (t table : List ℕ) → (count : ℕ) → List (List ℕ)
strings t table count = listed (entry_string t table) 0 count

-- where s belongs among the first count values of f: behind all that come before it, before all others
pub record Belongs (s : List ℕ) (f : ℕ → List ℕ) (count i : ℕ) : Type 0 where
  pub within : i ≤ count
  pub behind : (j : ℕ) → j < i → ascends (f j) s ≡ true
  pub before : (j : ℕ) → i ≤ j → j < count → ascends s (f j) ≡ true

-- where s stands
pub record StandsAt (s : List ℕ) (f : ℕ → List ℕ) (count i : ℕ) : Type 0 where
  pub within : i < count
  pub same : f i ≡ s

-- what a search says of the string that begins at `at`: where it stands, or where it belongs if it is not there
unfoldable pub Searched : (t table : List ℕ) → (count at : ℕ) → Result ℕ ℕ → Type 0
Searched t table count at (Ok i) = StandsAt (string_from t at) (entry_string t table) count i
Searched t table count at (Err i) = Belongs (string_from t at) (entry_string t table) count i

-- what a search asks for: a table of the strings that rise, each of which is there
pub record Searchable (t table : List ℕ) (count : ℕ) : Type 0 where
  pub rising : Rising (strings t table count)
  pub small : count ≤ 1025
  pub room : 2 * count ≤ length table

-- the bytes from `from` up to end stand two bytes further; all others are as they were
pub record Moved (m m' : List ℕ) (from end : ℕ) : Type 0 where
  pub size : length m' ≡ length m
  pub moved : (i : ℕ) → from ≤ i → i < end → byte m' (i + 2) ≡ byte m i
  pub below : (i : ℕ) → i < from + 2 → byte m' i ≡ byte m i
  pub above : (i : ℕ) → end + 2 ≤ i → byte m' i ≡ byte m i

-- what entering a string asks for: room for one more, and that its place fits two bytes
pub record Ready (t table : List ℕ) (count at : ℕ) : Type 0 where
  pub rising : Rising (strings t table count)
  pub small : count ≤ 1024
  pub room : 2 * (count + 1) ≤ length table
  pub fits : at < 65536

-- the table m after it was m₀ and the string that begins at `at` was entered
pub record Kept (t m₀ m : List ℕ) (count₀ at number count : ℕ) : Type 0 where
  pub table : strings t m count ≡ entered (string_from t at) (strings t m₀ count₀)
  pub rising : Rising (strings t m count)
  pub found : string_number (string_from t at) (strings t m count) 0 ≡ some number
  pub back : string_at (strings t m count) number ≡ string_from t at
  pub known : number < count
  pub grown : count₀ ≤ count
  pub at_most_one : count ≤ count₀ + 1
  pub unchanged : count ≡ count₀ → m ≡ m₀
  pub size : length m ≡ length m₀
  pub above : (i : ℕ) → 2 * count ≤ i → byte m i ≡ byte m₀ i
