-- A line of the summaries: what it says of a condition, and the bytes that say it.
use Rattle.std.specs.Prelude.{ℕ, zero, suc, ◌+◌, Bool, List, [], ◌∷◌, ◌++◌, ◌^◌, ◌<◌, eqb, get_or}
use Rattle.wire.specs.Bytes.{byte}
use Rattle.wire.specs.Numbers.{number, high_bytes}
use Rattle.wire.specs.Runs.{bytes_at}
use Rattle.rules.specs.State.{one_if}
use Rattle.cells.specs.Layout.{summary_at, summary_declares, summary_names, summary_size}
use Rattle.branches.specs.Names.{contains}
use Rattle.branches.specs.Texts.{Text}

-- k numbers of 8 bytes from p on
unfoldable pub numbers_at : List ℕ → (p k : ℕ) → List ℕ
numbers_at l p zero = []
numbers_at l p (suc k) = number (bytes_at l p 8) 0 ∷ numbers_at l (p + 8) k

unfoldable pub number_bytes : (numbers : List ℕ) → List ℕ
number_bytes [] = []
number_bytes (n ∷ ns) = high_bytes 8 n ++ number_bytes ns

-- each of them fits its bytes
abbrev pub Fit : (numbers : List ℕ) → Type 0
Fit s = (i : ℕ) → get_or s i 0 < 256 ^ 8

-- a text that assigns the names of a set
abbrev pub text_with : (names : List ℕ) → (declares : Bool) → Text
text_with s d = record { assigns = contains s; declares = d }

unfoldable pub line_of : List ℕ → (i : ℕ) → List ℕ
line_of w i = bytes_at w (summary_at i) summary_size

unfoldable pub text_in : (line : List ℕ) → Text
text_in l = text_with (numbers_at l summary_names 16) (eqb (byte l summary_declares) 1)

-- the line of the statement at p with d levels left
unfoldable pub line_bytes : (p d : ℕ) → (declares : Bool) → (names : List ℕ) → List ℕ
line_bytes p d b s = high_bytes 2 (p + 1) ++ high_bytes 1 d ++ high_bytes 1 (one_if b) ++ number_bytes s
