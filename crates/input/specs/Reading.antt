-- The input so far, in a buffer for its first line and one for what follows the line feed.
use Rattle.std.specs.Prelude.{ℕ, ◌+◌, min, ◌≡◌, Bool, true, false, ◌||◌, List, [], ◌∷◌, ◌++◌, eqb, leb, length, take}
use Rattle.wire.specs.Runs.{over}
use Rattle.rules.specs.Schedule.{before_feed, after_feed}
use Rattle.input.specs.declared.Progress.{Progress}

-- how far the input is read, and all bytes of the two buffers
pub data Reading : Type 0 where
  reading : Progress → (line rest : List ℕ) → Reading

-- what the buffers keep, up to the counts
unfoldable pub kept_line : Reading → List ℕ
kept_line (reading p d m) = take p.line d

unfoldable pub kept_rest : Reading → List ℕ
kept_rest (reading p d m) = take p.rest m

unfoldable pub has_feed : List ℕ → Bool
has_feed [] = false
has_feed (x ∷ xs) = eqb x 10 || has_feed xs

-- all of an input, in buffers that held the bytes d and m before: as much of the line and of the rest as fits, from the buffers'
-- starts on; the bytes after it stay
unfoldable pub reading_of : (d m input : List ℕ) → Reading
reading_of d m input =
    reading
    (record { met = has_feed input; line = min (length d) (length (before_feed input)); rest = min (length m) (length (after_feed input)) })
    (over d 0 (before_feed input))
    (over m 0 (after_feed input))

-- one more piece, after any progress: past the line feed all of it is the rest
unfoldable pub fed_by : (met : Bool) → (piece : List ℕ) → Progress → (d m : List ℕ) → Reading
fed_by true piece p d m = reading (record { met = true; line = p.line; rest = min (length m) (p.rest + length piece) }) d (over m p.rest piece)
fed_by false piece p d m =
    reading
    (record { met = has_feed piece; line = min (length d) (p.line + length (before_feed piece)); rest = min (length m) (p.rest + length (after_feed piece)) })
    (over d p.line (before_feed piece))
    (over m p.rest (after_feed piece))

unfoldable pub fed : (piece : List ℕ) → Reading → Reading
fed piece (reading p d m) = fed_by p.met piece p d m

-- what a piece makes of a reading: for any progress and buffers; and for those that hold an input, whatever it is and in however many pieces it
-- came, they hold that input with the piece at its end
pub record Fed (piece : List ℕ) (before after : Reading) : Type 0 where
  pub next : after ≡ fed piece before
  pub more : (d m input : List ℕ) → before ≡ reading_of d m input → after ≡ reading_of d m (input ++ piece)

-- 65,536 bytes of the rest are kept
abbrev pub is_full : Progress → Bool
is_full p = leb 65536 p.rest
