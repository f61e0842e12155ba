-- Part after part of a text is written out, up to its end. Assumes nothing.
use Prim.Native.Nat.{ℕ, ◌+◌, ◌-◌, ◌≤◌}
use mathlib.Core.Path.{◌≡◌, sym, ap, ◌∙◌}
use mathlib.Core.List.{List, ◌++◌}
use native.Mathlib.Omega.{arith}
use borrow.Author.Tests.{le-ltb}
use lib.ListN.{length, take, drop, length-drop}
use lib.Seq.{take-append_seam, take-length, drop-append_seam, drop-drop}
use Rattle.wire.specs.Runs.{zeros}
use Rattle.catalog.specs.Making.{stored}
use Rattle.schedule.specs.Appending.{fitted}
use Rattle.standard_streams.specs.Sending.{ComesNext, Left, LastLine}
use Rattle.std.specs.Prelude.{Option, Some}

-- ---- A part, and what follows it

module _ (whole : List ℕ) (sent : ℕ) (text more : List ℕ) (l : Left whole sent (text ++ more)) where
  pub part_next : length text ≤ 2048 → ComesNext whole sent text
  part_next short = record { part = rw l.rest (take-append_seam text more); counted = omega (arith, l.few) }

  pub after_part : drop (sent + length text) whole ≡ more
  after_part = sym (drop-drop (length text) sent whole) ∙ ap (drop (length text)) l.rest ∙ drop-append_seam text more

-- ---- The last line

module _ (whole : List ℕ) (sent : ℕ) (text : List ℕ) (room : ℕ) where
  -- it was written into a buffer with room for it
  pub last_line : {w : Option ℕ} {line : List ℕ} → Left whole sent text → 1 ≤ length text → length text ≤ room → room ≤ 131072 → stored w line ≡ fitted text room → LastLine whole sent w line
  unfolding fitted
  last_line {w} {line} l some fits small e =
      let e' : stored w line ≡ stored (Some (length text)) (text ++ zeros (room - length text)) = e ∙ rw (le-ltb room (length text) fits) in
      let bytes : line ≡ text ++ zeros (room - length text) = cc in
      record { text = text; left = l; size = cc; bytes = rw bytes (take-append_seam text _); some = some; short = omega arith }

module _ {whole : List ℕ} {sent : ℕ} {w : Option ℕ} {line : List ℕ} (l : LastLine whole sent w line) where
  pub last_bytes : {n : ℕ} → w ≡ Some n → take n line ≡ l.text
  last_bytes {n} is = let size = l.size in let same : n ≡ length l.text = cc in rw same l.bytes

  pub last_next : ComesNext whole sent l.text
  last_next = record { part = rw l.left.rest (take-length l.text); counted = omega (arith, l.left.few, l.short) }

  pub all_sent : sent + length l.text ≡ length whole
  all_sent = omega (arith, length-drop sent whole, ap length l.left.rest, l.some)
