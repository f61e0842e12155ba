-- For who asks for lines: an answer with a text stands within the buffer and leads further on, so that asking ends; and what is printed is
-- determined. Assumes nothing.
use mathlib.Core.Path.{◌≡◌, refl, sym, ap, ◌∙◌}
use mathlib.Core.Bool.{Bool, true, false}
use mathlib.Core.List.{List, [], ◌++◌}
use Prim.Native.Nat.{ℕ, ◌-◌, ◌≤◌}
use native.Mathlib.Omega.{arith}
use borrow.Author.Tests.{ltb-false}
use lib.Dec.{ltb}
use lib.ListN.{length}
use Rattle.wire.specs.Bytes.{pick}
use Rattle.wire.specs.Runs.{zeros}
use Rattle.rules.specs.Schedule.{attribute_line, entry_lines_by}
use Rattle.catalog.specs.Making.{stored}
use Rattle.schedule.specs.declared.Position.{Position}
use Rattle.schedule.specs.declared.Subject.{Subject}
use Rattle.schedule.specs.declared.Subject.TheVariants.{AnAttribute, NoAttributes, End as NoMore, NotACatalog as Unreadable}
use Rattle.schedule.specs.Appending.{fitted}
use Rattle.schedule.specs.Subjects.{subject_at, attribute_at, head_at}
use Rattle.schedule.specs.Lines.{Line, text, line_of, with_next, line_for, next_line, Prints, ends, more}
use Rattle.schedule.proofs.Lines.{Told, attribute_told, none_told}
use Rattle.std.specs.Prelude.{Option, Some, None, Ok, Err}

-- ---- What a line tells, if it was written

abbrev length_of : Line → ℕ
length_of (Ok (Some t)) = t.length
length_of (Ok None) = 0
length_of (Err e) = 0

abbrev next_of : Position → Line → Position
next_of p (Ok (Some t)) = t.next
next_of p (Ok None) = p
next_of p (Err e) = p

-- ---- Asking for lines

-- a text that was written is no longer than the buffer
pub written_within : (text : List ℕ) (room : ℕ) {r : Option ℕ} {b : List ℕ} (n : ℕ) → stored r b ≡ fitted text room → r ≡ Some n → n ≤ room
unfolding fitted
written_within text room {r} {b} n e is = go (ltb room (length text)) refl e
  where
    go : (x : Bool) → ltb room (length text) ≡ x → stored r b ≡ pick x (stored None (zeros room)) (stored (Some (length text)) (text ++ zeros (room - length text))) → n ≤ room
    go true h e = let z : ◌≡◌ {A = ℕ} 0 1 = cc in absurd (omega arith)
    go false h e = let same : n ≡ length text = cc in omega (arith, ltb-false room (length text) h)

-- a line
pub record Asked (m : List ℕ) (at next : Position) (n room : ℕ) : Type 0 where
  pub within : n ≤ room
  pub told : Told m at next

line_with_next : (shown : List ℕ) (room : ℕ) (n : ℕ) (next next' : Position) {b : List ℕ} → stored (text n next) b ≡ with_next next' (fitted shown room) → (n ≤ room) × (next' ≡ next)
unfolding with_next line_of fitted
line_with_next shown room n next next' {b} e = go (ltb room (length shown)) refl e
  where
    go : (x : Bool) → ltb room (length shown) ≡ x → stored (text n next) b ≡ with_next next' (pick x (stored None (zeros room)) (stored (Some (length shown)) (shown ++ zeros (room - length shown)))) → (n ≤ room) × (next' ≡ next)
    go true h e = let z : ◌≡◌ {A = ℕ} 0 1 = cc in absurd (omega arith)
    go false h e =
        let line : text n next ≡ text (length shown) next' = cc in
        (omega (arith, ap length_of line, ltb-false room (length shown) h), sym (ap (next_of next) line))

pub line_asked : (ss : List (List ℕ)) (m : List ℕ) (at : Position) (room : ℕ) {r : Line} {b : List ℕ} (n : ℕ) (next : Position) → stored r b ≡ next_line ss m at room → r ≡ text n next → Asked m at next n room
unfolding next_line line_for
line_asked ss m at room {r} {b} n next e is = go (subject_at m at) refl (ap (λ (x : Line). stored x b) (sym is) ∙ e)
  where
    go : (s : Subject) → subject_at m at ≡ s → stored (text n next) b ≡ line_for ss m at room s → Asked m at next n room
    go (AnAttribute next') h e =
        let t = line_with_next (attribute_line ss (head_at m at.entry) (attribute_at m at.attribute)) room n next next' e in
        record { within = t.0; told = attribute_told m at next (h ∙ ap AnAttribute t.1) }
    go (NoAttributes next') h e =
        let t = line_with_next (entry_lines_by ss (head_at m at.entry) []) room n next next' e in
        record { within = t.0; told = none_told m at next (h ∙ ap NoAttributes t.1) }
    go NoMore h e = let z : ◌≡◌ {A = ℕ} 0 1 = cc in absurd (omega arith)
    go Unreadable h e = let z : ◌≡◌ {A = ℕ} 0 1 = cc in absurd (omega arith)

-- what is printed from a position on is one text
pub prints_same : {ss : List (List ℕ)} {m : List ℕ} {room : ℕ} {at : Position} {t u : List ℕ} → Prints ss m room at t → Prints ss m room at u → t ≡ u
prints_same (ends e) (ends d) = refl
prints_same (ends e) (more d q) = let z : ◌≡◌ {A = ℕ} 0 1 = cc in absurd (omega arith)
prints_same (more e p) (ends d) = let z : ◌≡◌ {A = ℕ} 0 1 = cc in absurd (omega arith)
prints_same {ss} {m} {room} (more {next = a} {n = i} {line = l} {rest = t} e p) (more {next = b} {n = j} {line = k} {rest = u} d q) =
    let same : text i a ≡ text j b = cc in
    let next : a ≡ b = ap (next_of a) same in
    let size : i ≡ j = ap length_of same in
    let line : l ≡ k = cc in
    let rest : t ≡ u = prints_same p (rw next q) in
    rw (size, line, rest)
