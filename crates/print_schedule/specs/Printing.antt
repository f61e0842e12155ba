-- What is printed: the definition's text, part after part.
use Rattle.std.specs.Prelude.{ℕ, ◌*◌, ◌≤◌, ◌≡◌, Result, OnOk, List, ◌++◌, length}
use Rattle.rules.specs.Read.{manifest_of}
use Rattle.rules.specs.Outcome.{done}
use Rattle.rules.specs.Types.{the_eight}
use Rattle.rules.specs.Compile.{compiled}
use Rattle.rules.specs.EditRule.{IsBytes}
use Rattle.rules.specs.Schedule.{text_of}
use Rattle.schedule.specs.declared.Position.{Position}
use Rattle.schedule.specs.Lines.{Prints}
use Rattle.standard_streams.specs.declared.NotSent.{NotSent}
use Rattle.standard_streams.specs.Sending.{Left}

-- the schedule of a manifest and a device: "with limit 65,535", 65,535 bytes of output and 65,536 of memory
unfoldable pub schedule_text : (manifest device : List ℕ) → List ℕ
schedule_text m device = text_of (manifest_of m).strings (compiled the_eight m device 65535 65535 65536)

-- what is told is that all was sent
abbrev pub AllSent : (manifest device : List ℕ) → (sent : ℕ) → (told : Result Unit NotSent) → Type 0
AllSent m device sent told = OnOk told (sent ≡ length (schedule_text m device))

-- after `sent` bytes of the whole, the lines of a catalog from a position on are left, and then the last one
pub record LinesLeft (whole : List ℕ) (sent : ℕ) (strings : List (List ℕ)) (catalog : List ℕ) (at : Position) (last : List ℕ) : Type 0 where
  pub lines : List ℕ
  pub prints : Prints strings catalog 2048 at lines
  pub left : Left whole sent (lines ++ last)
  pub few : sent ≤ 2048 * at.attribute

-- the catalog and the steps are those that the definition has for a byte string and a device
pub record IsCatalog (manifest device catalog : List ℕ) (steps : ℕ) : Type 0 where
  pub accepted : compiled the_eight manifest device 65535 65535 65536 ≡ done (record { catalog = catalog; steps = steps })
  pub bytes : IsBytes manifest
