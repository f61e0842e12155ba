-- The stack of symbols in bytes, and what putting a row's symbols on it does.
use Rattle.std.specs.Prelude.{ℕ, zero, suc, ◌+◌, ◌-◌, ◌≤◌, ◌≡◌, List, [], ◌∷◌, ◌++◌, length}
use Rattle.rules.specs.Bytes.{byte}
use Rattle.notation.specs.Grammar.{Symbol}
use Rattle.parse_table.specs.Codes.{symbol_of, symbols_in}

-- n symbols, the one on top first: it is the last byte of them
unfoldable pub stack_of : (bytes : List ℕ) → (n : ℕ) → List Symbol
stack_of m zero = []
stack_of m (suc n) = symbol_of (byte m n) ∷ stack_of m n

-- the symbols of x in the place of the one on top, r symbols in all; the bytes past them are as before
pub record Pushed (old new : List ℕ) (top x r : ℕ) : Type 0 where
  pub symbols : stack_of new r ≡ symbols_in x ++ stack_of old (top - 1)
  pub few : r ≤ top + 7
  pub size : length new ≡ length old
  pub past : (i : ℕ) → r ≤ i → byte new i ≡ byte old i
