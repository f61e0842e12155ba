-- What reading standard input leaves in the buffers.
use Rattle.std.specs.Prelude.{◌≡◌, List, ℕ}
use Rattle.input.specs.declared.Progress.{Progress}
use Rattle.input.specs.Reading.{reading, reading_of}

-- buffers that held d and m hold all of some input: whatever was read, every piece of it, in order
pub record Holds (d m d' m' : List ℕ) (p : Progress) : Type 0 where
  pub input : List ℕ
  pub held : reading p d' m' ≡ reading_of d m input
