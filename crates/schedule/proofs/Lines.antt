-- The ways through `next_line` and the lines that it writes, and that positions rise. Assumes nothing.
use mathlib.Core.Path.{◌≡◌, refl, sym, ap, ◌∙◌}
use mathlib.Core.Bool.{Bool, true, false, ◌&&◌}
use mathlib.Core.List.{List, [], ◌∷◌, ◌++◌, append_assoc}
use Prim.Native.Nat.{ℕ, ◌+◌, ◌≤◌, ◌<◌}
use native.Mathlib.Omega.{arith}
use borrow.Author.Tests.{ltb-true, ltb-false, leb-false, eqb-true}
use lib.Dec.{eqb, ltb, leb}
use lib.ListN.{length}
use Rattle.labels.specs.declared.Labels.{Labels}
use Rattle.values.specs.declared.Labelled.{Labelled}
use Rattle.wire.specs.Bytes.{pick, two, end_of}
use Rattle.wire.specs.Runs.{zeros}
use Rattle.rules.specs.Compile.{string_at}
use Rattle.rules.specs.Schedule.{value_text, labels_text, line_start, attribute_line, entry_lines_by}
use Rattle.rules.proofs.Lists.{both_right}
use Rattle.labels.specs.Bytes.{set_at}
use Rattle.catalog.specs.Layout.{entry_type, entry_title, entry_labels, entry_attributes}
use Rattle.catalog.specs.Finding.{content_at}
use Rattle.catalog.specs.Making.{stored, cleared_from}
use Rattle.schedule.specs.declared.Position.{Position}
use Rattle.schedule.specs.declared.Subject.{Subject}
use Rattle.schedule.specs.declared.Subject.TheVariants.{AnAttribute, NoAttributes, End as NoMore, NotACatalog as Unreadable}
use Rattle.schedule.specs.declared.LineError.{LineError}
use Rattle.schedule.specs.declared.LineError.TheVariants.{TooLong}
use Rattle.schedule.specs.Appending.{fitted}
use Rattle.schedule.specs.Subjects.{entry_position, position, entry_stands, attribute_stands, next_in, subject_in, subject_at, attribute_at, head_at}
use Rattle.schedule.specs.Lines.{Line, text, no_more, not_a_catalog, line_of, with_next, line_for, next_line}
use Rattle.schedule.proofs.Appending.{cleared_all}
use Rattle.schedule.proofs.Tests.{stands_within, stands_sized, attribute_within}
use Rattle.std.specs.Prelude.{Option, Some, None, Result, Ok, Err, ok_or}

-- ---- The texts, piece by piece

module _ (ss : List (List ℕ)) (m : List ℕ) (p : ℕ) where
  pub start_pieces : {t u : ℕ} → t ≡ two m (p + entry_type) → u ≡ two m (p + entry_title) → (string_at ss t ++ (32 ∷ [])) ++ (string_at ss u ++ (32 ∷ [])) ≡ line_start ss (head_at m p)
  unfolding line_start head_at
  start_pieces type title = rw (type, title) (simp append_assoc)

  pub attribute_pieces : (q : ℕ) {n : ℕ} {x : Labelled} → n ≡ two m (q + 3) → x ≡ content_at m q
      → line_start ss (head_at m p) ++ ((string_at ss n ++ (32 ∷ [])) ++ (value_text ss x.value ++ labels_text x.labels)) ≡ attribute_line ss (head_at m p) (attribute_at m q)
  unfolding attribute_line attribute_at
  attribute_pieces q name content = rw (name, content) (simp append_assoc)

  pub resource_pieces : {k : Labels} → k ≡ set_at m (p + entry_labels) → line_start ss (head_at m p) ++ ((45 ∷ 32 ∷ 45 ∷ []) ++ labels_text k) ≡ entry_lines_by ss (head_at m p) []
  unfolding entry_lines_by head_at
  resource_pieces labels = rw labels

-- ---- The ways of `next_line`

-- a line that was written, or that did not fit
pub line_written : (next : Position) (w : Option ℕ) {a : Result ℕ LineError} {n : ℕ} → a ≡ ok_or w TooLong → a ≡ Ok n → text n next ≡ line_of next w
unfolding line_of
line_written next (Some m) {a} {n} asked is = let same : n ≡ m = cc in rw same
line_written next None asked is = let z : ◌≡◌ {A = ℕ} 0 1 = cc in absurd (omega arith)

pub line_too_long : (next : Position) (w : Option ℕ) {a : Result ℕ LineError} {e : LineError} → a ≡ ok_or w TooLong → a ≡ Err e → ◌≡◌ {A = Line} (Err e) (line_of next w)
unfolding line_of
line_too_long next (Some m) asked is = let z : ◌≡◌ {A = ℕ} 0 1 = cc in absurd (omega arith)
line_too_long next None {a} {e} asked is = let same : e ≡ TooLong = cc in rw same

module _ (ss : List (List ℕ)) (m : List ℕ) (at : Position) (room : ℕ) {s : Subject} (found : s ≡ subject_at m at) where
  by_subject : {t : Subject} → s ≡ t → line_for ss m at room t ≡ next_line ss m at room
  unfolding next_line
  by_subject is = ap (line_for ss m at room) (sym is ∙ found)

  module _ (next : Position) {w : Option ℕ} {r : Line} {b : List ℕ} (joined : r ≡ line_of next w) where
    pub attribute_shown : s ≡ AnAttribute next → stored w b ≡ fitted (attribute_line ss (head_at m at.entry) (attribute_at m at.attribute)) room → stored r b ≡ next_line ss m at room
    unfolding line_for with_next
    attribute_shown is line = ap (λ (x : Line). stored x b) joined ∙ ap (with_next next) line ∙ by_subject is

    pub resource_shown : s ≡ NoAttributes next → stored w b ≡ fitted (entry_lines_by ss (head_at m at.entry) []) room → stored r b ≡ next_line ss m at room
    unfolding line_for with_next
    resource_shown is line = ap (λ (x : Line). stored x b) joined ∙ ap (with_next next) line ∙ by_subject is

  module _ (line : List ℕ) {b : List ℕ} (cleared : b ≡ cleared_from 0 line) (same : length line ≡ room) where
    no_line : b ≡ zeros room
    no_line = cleared ∙ cleared_all line ∙ ap zeros same

    pub end_shown : s ≡ NoMore → stored no_more b ≡ next_line ss m at room
    unfolding line_for
    end_shown is = ap (stored no_more) no_line ∙ by_subject is

    pub unreadable_shown : s ≡ Unreadable → stored not_a_catalog b ≡ next_line ss m at room
    unfolding line_for
    unreadable_shown is = ap (stored not_a_catalog) no_line ∙ by_subject is

-- ---- A line stands within the bytes, and the next position is further on

pub record Told (m : List ℕ) (at next : Position) : Type 0 where
  pub short : length m ≤ 65535
  pub entry : at.entry < length m
  pub attribute : at.attribute ≤ length m
  pub rises : at.attribute < next.attribute

record Inside (m : List ℕ) (at : Position) (s : Subject) : Type 0 where
  short : length m ≤ 65535
  entry : at.entry < length m
  stands : entry_stands m at.entry ≡ true
  is : subject_in m at.entry at.attribute (end_of m at.entry) ≡ s

inside : (m : List ℕ) (at : Position) (s : Subject) → subject_at m at ≡ s → (s ≡ NoMore → ⊥) → (s ≡ Unreadable → ⊥) → Inside m at s
unfolding subject_at
inside m at s told some good = go (ltb 65535 (length m)) refl (leb (length m) at.entry) refl (entry_stands m at.entry) refl told
  where
    go : (x : Bool) → ltb 65535 (length m) ≡ x → (y : Bool) → leb (length m) at.entry ≡ y → (z : Bool) → entry_stands m at.entry ≡ z
        → pick x Unreadable (pick y NoMore (pick z (subject_in m at.entry at.attribute (end_of m at.entry)) Unreadable)) ≡ s → Inside m at s
    go true hx y hy z hz e = absurd (good (sym e))
    go false hx true hy z hz e = absurd (some (sym e))
    go false hx false hy false hz e = absurd (good (sym e))
    go false hx false hy true hz e = record { short = ltb-false 65535 (length m) hx; entry = leb-false (length m) at.entry hy; stands = hz; is = e }

module _ (m : List ℕ) (p q e : ℕ) (next : Position) where
  in_attribute : subject_in m p q e ≡ AnAttribute next → (q < e) × (attribute_stands m q e ≡ true) × (next ≡ next_in p (end_of m q) e)
  unfolding subject_in
  in_attribute h = go (ltb q e) refl (leb (p + entry_attributes) q && attribute_stands m q e) refl (eqb q (p + entry_attributes)) h
    where
      go : (x : Bool) → ltb q e ≡ x → (y : Bool) → (leb (p + entry_attributes) q && attribute_stands m q e) ≡ y → (z : Bool)
          → pick x (pick y (AnAttribute (next_in p (end_of m q) e)) Unreadable) (pick z (NoAttributes (entry_position e)) Unreadable) ≡ AnAttribute next
          → (q < e) × (attribute_stands m q e ≡ true) × (next ≡ next_in p (end_of m q) e)
      go true hx true hy z h = (ltb-true q e hx, both_right (leb (p + entry_attributes) q) (attribute_stands m q e) hy, cc)
      go true hx false hy z h = let n : ◌≡◌ {A = ℕ} 0 1 = cc in absurd (omega arith)
      go false hx y hy true h = let n : ◌≡◌ {A = ℕ} 0 1 = cc in absurd (omega arith)
      go false hx y hy false h = let n : ◌≡◌ {A = ℕ} 0 1 = cc in absurd (omega arith)

  in_header_only : subject_in m p q e ≡ NoAttributes next → (e ≤ q) × (q ≡ p + entry_attributes) × (next ≡ entry_position e)
  unfolding subject_in
  in_header_only h = go (ltb q e) refl (leb (p + entry_attributes) q && attribute_stands m q e) (eqb q (p + entry_attributes)) refl h
    where
      go : (x : Bool) → ltb q e ≡ x → (y : Bool) → (z : Bool) → eqb q (p + entry_attributes) ≡ z
          → pick x (pick y (AnAttribute (next_in p (end_of m q) e)) Unreadable) (pick z (NoAttributes (entry_position e)) Unreadable) ≡ NoAttributes next
          → (e ≤ q) × (q ≡ p + entry_attributes) × (next ≡ entry_position e)
      go true hx true z hz h = let n : ◌≡◌ {A = ℕ} 0 1 = cc in absurd (omega arith)
      go true hx false z hz h = let n : ◌≡◌ {A = ℕ} 0 1 = cc in absurd (omega arith)
      go false hx y true hz h = (ltb-false q e hx, eqb-true q (p + entry_attributes) hz, cc)
      go false hx y false hz h = let n : ◌≡◌ {A = ℕ} 0 1 = cc in absurd (omega arith)

next_further : (m : List ℕ) (p q e : ℕ) → end_of m q ≤ e → q < (next_in p (end_of m q) e).attribute
unfolding next_in
next_further m p q e h = go (eqb (end_of m q) e)
  where
    go : (b : Bool) → q < (pick b (entry_position e) (position p (end_of m q))).attribute
    go true = omega arith
    go false = omega arith

module _ (m : List ℕ) (at next : Position) where
  pub attribute_told : subject_at m at ≡ AnAttribute next → Told m at next
  attribute_told told =
      let i = inside m at (AnAttribute next) told (λ e. let n : ◌≡◌ {A = ℕ} 0 1 = cc in omega arith) (λ e. let n : ◌≡◌ {A = ℕ} 0 1 = cc in omega arith) in
      let t = in_attribute m at.entry at.attribute (end_of m at.entry) next i.is in
      let ends : end_of m at.entry ≤ length m = stands_within m at.entry refl i.stands in
      let before : at.attribute < end_of m at.entry = t.0 in
      let further : at.attribute < (next_in at.entry (end_of m at.attribute) (end_of m at.entry)).attribute =
      next_further m at.entry at.attribute (end_of m at.entry) (attribute_within m at.attribute (end_of m at.entry) t.1) in
      record { short = i.short; entry = i.entry; attribute = omega arith; rises = rw t.2 further }

  pub none_told : subject_at m at ≡ NoAttributes next → Told m at next
  none_told told =
      let i = inside m at (NoAttributes next) told (λ e. let n : ◌≡◌ {A = ℕ} 0 1 = cc in omega arith) (λ e. let n : ◌≡◌ {A = ℕ} 0 1 = cc in omega arith) in
      let t = in_header_only m at.entry at.attribute (end_of m at.entry) next i.is in
      let ends : end_of m at.entry ≤ length m = stands_within m at.entry refl i.stands in
      let wide : at.entry + entry_attributes ≤ end_of m at.entry = stands_sized m at.entry i.stands in
      let here : at.attribute ≡ at.entry + entry_attributes = t.1 in
      record { short = i.short; entry = i.entry; attribute = omega arith; rises = rw t.2 (omega arith) }
