-- Part after part of the text is printed, up to its end. Assumes nothing.
use Prim.Native.Nat.{ℕ, ◌+◌, ◌-◌, ◌≤◌}
use mathlib.Core.Path.{◌≡◌, refl, sym, ap, ◌∙◌}
use mathlib.Core.List.{List, ◌++◌, append_assoc}
use native.Mathlib.Omega.{arith}
use lib.ListN.{length, take, replicate, length-append, length-replicate}
use lib.Seq.{length-take-le}
use Rattle.values.specs.declared.Reason.{Reason}
use Rattle.values.specs.Numbers.{number_of}
use Rattle.rules.specs.Check.{string_places}
use Rattle.rules.specs.Read.{manifest_of}
use Rattle.rules.specs.Outcome.{Outcome, refused, done}
use Rattle.rules.specs.Catalog.{read_catalog}
use Rattle.rules.specs.Types.{the_eight}
use Rattle.rules.specs.Compile.{Compiled, compiled, compile, answer_of, output_of}
use Rattle.rules.specs.EditRule.{IsBytes}
use Rattle.rules.specs.Schedule.{entry_lines, steps_line, refusal_line, text_of, schedule}
use Rattle.rules.proofs.Laws.{catalog_within}
use Rattle.syntax.specs.Strings.{indexed}
use Rattle.input.specs.declared.Progress.{Progress}
use Rattle.input.specs.Reading.{reading, reading_of, kept_line, kept_rest}
use Rattle.input.proofs.Kept.{kept_schedule}
use Rattle.catalog.specs.Making.{stored}
use Rattle.schedule.specs.declared.Position.{Position}
use Rattle.schedule.specs.Strings.{strings_by}
use Rattle.schedule.specs.Subjects.{start}
use Rattle.schedule.specs.Lines.{Line, text as line_with, next_line, Prints, ends, more}
use Rattle.schedule.proofs.Asking.{Asked, line_asked}
use Rattle.schedule.proofs.Whole.{catalog_part, schedule_prints, accepted_text, refusal_text}
use Rattle.standard_streams.specs.Sending.{ComesNext, Left}
use Rattle.standard_streams.proofs.Sending.{part_next, after_part}
use Rattle.print_schedule.specs.Printing.{schedule_text, LinesLeft, IsCatalog}
use Rattle.std.specs.Prelude.{Some, None, Ok, Err}
use Rattle.values.specs.Answers.{Answer, catalog_with, refused_for}

-- ---- The lines of a catalog

-- what is told of a line, if there is one
abbrev length_of : Line → ℕ
length_of (Ok (Some t)) = t.length
length_of (Ok None) = 0
length_of (Err e) = 0

abbrev next_of : Position → Line → Position
next_of otherwise (Ok (Some t)) = t.next
next_of otherwise (Ok None) = otherwise
next_of otherwise (Err e) = otherwise

module _ (whole : List ℕ) (sent : ℕ) (ss : List (List ℕ)) (catalog : List ℕ) (at : Position) (last : List ℕ) (l : LinesLeft whole sent ss catalog at last) where
  -- a line comes next, and those after it are left then
  pub record LineNext (n : ℕ) (next : Position) (line : List ℕ) : Type 0 where
    pub comes : ComesNext whole sent (take n line)
    pub then : LinesLeft whole (sent + length (take n line)) ss catalog next last
    pub told : Asked catalog at next n 2048

  pub line_next : {r : Line} {line : List ℕ} {room : ℕ} (n : ℕ) (next : Position) → room ≡ 2048 → length line ≡ room → stored r line ≡ next_line ss catalog at room → r ≡ line_with n next → LineNext n next line
  line_next {r} {line} {room} n next full kept made is = go l.prints l.left
    where
      e : stored r line ≡ next_line ss catalog at 2048
      e = rw full at made

      asked : Asked catalog at next n 2048
      asked = line_asked ss catalog at 2048 n next e is

      go : {lines : List ℕ} → Prints ss catalog 2048 at lines → Left whole sent (lines ++ last) → LineNext n next line
      go (ends d) left = let z : ◌≡◌ {A = ℕ} 0 1 = cc in absurd (omega arith)
      go (more {next = b} {n = j} {line = k} {rest = rest} d p) left =
          let told : line_with j b ≡ line_with n next = cc in
          let there : b ≡ next = ap (next_of at) told in
          let size : j ≡ n = ap length_of told in
          let bytes : k ≡ line = cc in
          let left' : Left whole sent (take n line ++ (rest ++ last)) = record { rest = left.rest ∙ rw (size, bytes) (append_assoc (take n line) rest last); few = left.few } in
          let count : length (take n line) ≡ n = length-take-le n line (omega (arith, asked.within, full, kept)) in
          record {
            comes = part_next whole sent (take n line) (rest ++ last) left' (omega (arith, asked.within));
            then = record {
              lines = rest;
              prints = rw there at p;
              left = record { rest = after_part whole sent (take n line) (rest ++ last) left'; few = omega (arith, l.few, asked.within, asked.told.attribute, asked.told.short) };
              few = omega (arith, l.few, asked.within, asked.told.rises);
            };
            told = asked;
          }

  -- what is no line is the end
  pub no_line : {r : Line} {line : List ℕ} {room : ℕ} → room ≡ 2048 → stored r line ≡ next_line ss catalog at room → ((n : ℕ) (next : Position) → r ≡ line_with n next → ⊥) → Left whole sent last
  no_line {r} {line} full made not = go l.prints l.left
    where
      e : stored r line ≡ next_line ss catalog at 2048
      e = rw full at made

      go : {lines : List ℕ} → Prints ss catalog 2048 at lines → Left whole sent (lines ++ last) → Left whole sent last
      go (ends d) left = left
      go (more {next = b} {n = j} {line = k} d p) left = let is : r ≡ line_with j b = cc in absurd (not j b is)

-- ---- What `compile` left

-- what is told of a catalog, or of a refusal
abbrev size_in : Answer → ℕ
size_in (Ok c) = c.length
size_in (Err f) = 0

abbrev steps_in : Answer → ℕ
steps_in (Ok c) = c.steps
steps_in (Err f) = 0

abbrev reason_in : Reason → Answer → Reason
reason_in otherwise (Ok c) = otherwise
reason_in otherwise (Err f) = f.reason

abbrev place_in : Answer → ℕ
place_in (Ok c) = 0
place_in (Err f) = f.place

module _ (m device : List ℕ) where
  abbrev outcome : Outcome Compiled
  outcome = compiled the_eight m device 65535 65535 65536

  -- a catalog and its steps
  pub is_catalog_lem : {answer : Answer} {out : List ℕ} {n steps : ℕ} → answer ≡ (compile the_eight m device 65535 65535 65536).answer → out ≡ (compile the_eight m device 65535 65535 65536).output_after → answer ≡ catalog_with n steps → IsBytes m → IsCatalog m device (take n out) steps
  unfolding compile answer_of
  is_catalog_lem {answer} {out} {n} {steps} told left is bytes = go outcome refl (sym is ∙ told) left
    where
      go : (o : Outcome Compiled) → outcome ≡ o → catalog_with n steps ≡ answer_of o → out ≡ output_of 65535 o → IsCatalog m device (take n out) steps
      go (refused r p) e told l = let z : ◌≡◌ {A = ℕ} 0 1 = cc in absurd (omega arith)
      go (done c) e told l =
          let size : n ≡ length c.catalog = ap size_in told in
          let count : steps ≡ c.steps = ap steps_in told in
          let part : take n out ≡ c.catalog = rw (l, size) (catalog_part m device 65535 65535 65536 c) in
          record { accepted = e ∙ rw (part, count) refl; bytes = bytes }

  -- whose lines, and then the last one, are the whole
  pub catalog_left_lem : {catalog : List ℕ} {steps : ℕ} → IsCatalog m device catalog steps → (table : List ℕ) → 2048 ≤ length table → LinesLeft (schedule_text m device) 0 (strings_by m (indexed m table) (length (string_places m))) catalog start (steps_line steps)
  unfolding schedule_text
  catalog_left_lem c table long = record {
    lines = entry_lines (manifest_of m).strings (read_catalog _);
    prints = schedule_prints m device 65535 65535 65536 c.accepted 2048 (omega arith) table long c.bytes;
    left = record { rest = sym (accepted_text m device 65535 65535 65536 c.accepted); few = omega arith };
    few = omega arith;
  }

  -- a refusal, whose line is the whole
  pub refusal_left : {answer : Answer} {r : Reason} {p : ℕ} → answer ≡ (compile the_eight m device 65535 65535 65536).answer → answer ≡ refused_for r p → Left (schedule_text m device) 0 (refusal_line (number_of r) p)
  unfolding compile answer_of schedule_text
  refusal_left {answer} {r} {p} told is = go outcome refl (sym is ∙ told)
    where
      go : (o : Outcome Compiled) → outcome ≡ o → refused_for r p ≡ answer_of o → Left (text_of (manifest_of m).strings outcome) 0 (refusal_line (number_of r) p)
      go (done c) e told = let z : ◌≡◌ {A = ℕ} 0 1 = cc in absurd (omega arith)
      go (refused r' p') e told =
          let reason : r ≡ r' = ap (reason_in r) told in
          let place : p ≡ p' = ap place_in told in
          record { rest = sym (refusal_text m device 65535 65535 65536 (e ∙ rw (reason, place) refl)); few = omega arith }

  -- the output keeps its length
  pub output_length : length (compile the_eight m device 65535 65535 65536).output_after ≡ 65535
  unfolding compile output_of
  output_length = go outcome refl
    where
      go : (o : Outcome Compiled) → outcome ≡ o → length (output_of 65535 o) ≡ 65535
      go (refused r p) e = length-replicate {A = ℕ} 65535 0
      go (done c) e = omega (arith, length-append c.catalog (replicate (65535 - length c.catalog) 0), length-replicate {A = ℕ} (65535 - length c.catalog) 0, (catalog_within the_eight m device 65535 65535 65536 e).0)

-- ---- The input that was read

-- what buffers of 256 and 65,536 bytes keep of an input has the schedule of the input
pub read_text_lem : (d m input : List ℕ) (p : Progress) (device manifest : List ℕ) → length d ≡ 256 → length m ≡ 65536 → reading p device manifest ≡ reading_of d m input → schedule_text (take p.rest manifest) (take p.line device) ≡ schedule input
unfolding schedule_text kept_line kept_rest
read_text_lem d m input p device manifest name text e = kept_schedule d m input name text e
