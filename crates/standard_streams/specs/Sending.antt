-- A text that is written out part after part.
use Rattle.std.specs.Prelude.{ℕ, ◌+◌, ◌≤◌, ◌<◌, ◌≡◌, List, length, take, drop, Option, Some}

-- a text is what follows after `sent` bytes of the whole, and the count of both fits 64 bits
pub record ComesNext (whole : List ℕ) (sent : ℕ) (text : List ℕ) : Type 0 where
  pub part : take (length text) (drop sent whole) ≡ text
  pub counted : sent + length text < 18446744073709551616

-- a text is all that follows after `sent` bytes of the whole; 2^27 are enough for every part but the last
pub record Left (whole : List ℕ) (sent : ℕ) (text : List ℕ) : Type 0 where
  pub rest : drop sent whole ≡ text
  pub few : sent ≤ 134217728

-- a line that was written into a buffer is the last one
pub record LastLine (whole : List ℕ) (sent : ℕ) (written : Option ℕ) (line : List ℕ) : Type 0 where
  pub text : List ℕ
  pub left : Left whole sent text
  pub size : written ≡ Some (length text)
  pub bytes : take (length text) line ≡ text
  pub some : 1 ≤ length text
  pub short : length text ≤ 131072
