-- What stands at a position of a catalog: one law for each way through the tests. Assumes nothing.
use mathlib.Core.Path.{◌≡◌, refl, sym, ap, ◌∙◌}
use mathlib.Core.Bool.{Bool, true, false, ◌&&◌}
use mathlib.Core.List.{List}
use Prim.Native.Nat.{ℕ, ◌+◌, ◌≤◌, ◌<◌}
use native.Mathlib.Omega.{arith}
use borrow.Author.Tests.{lt-ltb, le-ltb, le-leb, lt-leb, leb-true, eq-eqb, ne_eqb}
use lib.Dec.{eqb, leb}
use lib.ListN.{length}
use Rattle.wire.specs.Bytes.{byte, two, end_of}
use Rattle.rules.proofs.Lists.{both_left, both_right}
use Rattle.schedule.specs.declared.Position.{Position}
use Rattle.schedule.specs.declared.Subject.{Subject}
use Rattle.schedule.specs.declared.Subject.TheVariants.{AnAttribute, NoAttributes, End, NotACatalog}
use Rattle.schedule.specs.Subjects.{position, entry_position, value_right, entry_stands, attribute_stands, next_in, subject_in, subject_at}
use Rattle.catalog.specs.Layout.{entry_attributes, before_attributes, attribute_value}

-- ---- The value's field

module _ (t n : ℕ) where
  pub integer_size : t ≡ 0x42 → eqb n 8 ≡ value_right t n
  unfolding value_right
  integer_size e = rw e

  pub string_size : t ≡ 0x43 → eqb n 2 ≡ value_right t n
  unfolding value_right
  string_size e = rw e

  pub boolean_size : t ≡ 0x44 → eqb n 1 ≡ value_right t n
  unfolding value_right
  boolean_size e = rw e

  pub no_value : (t ≡ 0x42 → ⊥) → (t ≡ 0x43 → ⊥) → (t ≡ 0x44 → ⊥) → false ≡ value_right t n
  unfolding value_right
  no_value a b c = rw (ne_eqb t 0x42 a, ne_eqb t 0x43 b, ne_eqb t 0x44 c)

-- ---- An entry

module _ (m : List ℕ) (p : ℕ) {tag : ℕ} (is : tag ≡ byte m p) where
  pub no_entry : (tag ≡ 0x40 → ⊥) → false ≡ entry_stands m p
  unfolding entry_stands
  no_entry h = rw (ne_eqb (byte m p) 0x40 (λ e. h (is ∙ e)))

  module _ (entry : tag ≡ 0x40) {size : ℕ} (sized : size ≡ two m (p + 1)) where
    pub short_entry : size < before_attributes → false ≡ entry_stands m p
    unfolding entry_stands
    short_entry h = rw (eq-eqb (byte m p) 0x40 (sym is ∙ entry), lt-leb before_attributes (two m (p + 1)) (omega arith))

    pub entry_end : {end : ℕ} → before_attributes ≤ size → end ≡ end_of m p → leb end (length m) ≡ entry_stands m p
    unfolding entry_stands
    entry_end h e = rw (eq-eqb (byte m p) 0x40 (sym is ∙ entry), le-leb before_attributes (two m (p + 1)) (omega arith), e)

-- ---- An attribute

module _ (m : List ℕ) (q e : ℕ) {tag : ℕ} (is : tag ≡ byte m q) where
  pub no_attribute : (tag ≡ 0x41 → ⊥) → false ≡ attribute_stands m q e
  unfolding attribute_stands
  no_attribute h = rw (ne_eqb (byte m q) 0x41 (λ x. h (is ∙ x)))

  module _ (attribute : tag ≡ 0x41) {end : ℕ} (ends : end ≡ end_of m q) where
    pub past_entry : e < end → false ≡ attribute_stands m q e
    unfolding attribute_stands
    past_entry h = rw (eq-eqb (byte m q) 0x41 (sym is ∙ attribute), lt-leb (end_of m q) e (omega arith))

    module _ (within : end ≤ e) {last : ℕ} (value : last ≡ end_of m (q + attribute_value)) where
      pub other_end : (last ≡ end → ⊥) → false ≡ attribute_stands m q e
      unfolding attribute_stands
      other_end h =
          rw (eq-eqb (byte m q) 0x41 (sym is ∙ attribute), le-leb (end_of m q) e (omega arith), ne_eqb (end_of m (q + attribute_value)) (end_of m q) (λ x. h (value ∙ x ∙ sym ends)))

      pub value_tested : {kind size : ℕ} {r : Bool} → last ≡ end → kind ≡ byte m (q + attribute_value) → size ≡ two m (q + attribute_value + 1) → r ≡ value_right kind size → r ≡ attribute_stands m q e
      unfolding attribute_stands
      value_tested h k n r =
          rw (eq-eqb (byte m q) 0x41 (sym is ∙ attribute), le-leb (end_of m q) e (omega arith), eq-eqb (end_of m (q + attribute_value)) (end_of m q) (sym value ∙ h ∙ ends))
          (rw (k, n) at r)

-- ---- A position

module _ (p q e : ℕ) where
  pub next_entry : q ≡ e → entry_position e ≡ next_in p q e
  unfolding next_in
  next_entry h = rw (eq-eqb q e h)

  pub next_attribute : (q ≡ e → ⊥) → position p q ≡ next_in p q e
  unfolding next_in
  next_attribute h = rw (ne_eqb q e h)

module _ (m : List ℕ) (p q e : ℕ) where
  module _ (past : e ≤ q) where
    pub no_attributes : {next : Position} → q ≡ p + entry_attributes → next ≡ next_in p e e → NoAttributes next ≡ subject_in m p q e
    unfolding subject_in
    no_attributes h n = rw (le-ltb q e past, eq-eqb q (p + entry_attributes) h, n) (ap NoAttributes (sym (next_entry p e e refl)))

    pub past_attributes : (q ≡ p + entry_attributes → ⊥) → NotACatalog ≡ subject_in m p q e
    unfolding subject_in
    past_attributes h = rw (le-ltb q e past, ne_eqb q (p + entry_attributes) h)

  module _ (before : q < e) where
    pub in_header : q < p + entry_attributes → NotACatalog ≡ subject_in m p q e
    unfolding subject_in
    in_header h = rw (lt-ltb q e before, lt-leb (p + entry_attributes) q h)

    module _ (after : p + entry_attributes ≤ q) {b : Bool} (tested : b ≡ attribute_stands m q e) where
      pub an_attribute : {end : ℕ} {next : Position} → b ≡ true → end ≡ end_of m q → next ≡ next_in p end e → AnAttribute next ≡ subject_in m p q e
      unfolding subject_in
      an_attribute h end n = rw (lt-ltb q e before, le-leb (p + entry_attributes) q after, ← tested, h, n, end)

      pub broken_attribute : b ≡ false → NotACatalog ≡ subject_in m p q e
      unfolding subject_in
      broken_attribute h = rw (lt-ltb q e before, le-leb (p + entry_attributes) q after, ← tested, h)

module _ (m : List ℕ) (at : Position) where
  pub too_long : 65535 < length m → NotACatalog ≡ subject_at m at
  unfolding subject_at
  too_long h = rw (lt-ltb 65535 (length m) h)

  module _ (short : length m ≤ 65535) where
    pub at_end_lem : length m ≤ at.entry → End ≡ subject_at m at
    unfolding subject_at
    at_end_lem h = rw (le-ltb 65535 (length m) short, le-leb (length m) at.entry h)

    module _ (before : at.entry < length m) {b : Bool} (tested : b ≡ entry_stands m at.entry) where
      pub broken_entry : b ≡ false → NotACatalog ≡ subject_at m at
      unfolding subject_at
      broken_entry h = rw (le-ltb 65535 (length m) short, lt-leb (length m) at.entry before, ← tested, h)

      pub in_entry : {end : ℕ} {s : Subject} → b ≡ true → end ≡ end_of m at.entry → s ≡ subject_in m at.entry at.attribute end → s ≡ subject_at m at
      unfolding subject_at
      in_entry h e s = rw (le-ltb 65535 (length m) short, lt-leb (length m) at.entry before, ← tested, h) (rw e at s)

-- ---- What stands

module _ (m : List ℕ) (p : ℕ) where
  -- an entry ends within the bytes, after its header
  pub stands_within : {b : Bool} → b ≡ entry_stands m p → b ≡ true → end_of m p ≤ length m
  unfolding entry_stands
  stands_within is h =
      let sized : Bool = leb before_attributes (two m (p + 1)) in
      let ends : Bool = leb (end_of m p) (length m) in
      leb-true (end_of m p) (length m) (both_right sized ends (both_right (eqb (byte m p) 0x40) (sized && ends) (sym is ∙ h)))

  pub stands_sized : entry_stands m p ≡ true → p + entry_attributes ≤ end_of m p
  unfolding entry_stands
  stands_sized h =
      let sized : Bool = leb before_attributes (two m (p + 1)) in
      let ends : Bool = leb (end_of m p) (length m) in
      omega (arith, leb-true before_attributes (two m (p + 1)) (both_left sized ends (both_right (eqb (byte m p) 0x40) (sized && ends) h)))

-- an attribute ends within its entry
pub attribute_within : (m : List ℕ) (q e : ℕ) → attribute_stands m q e ≡ true → end_of m q ≤ e
unfolding attribute_stands
attribute_within m q e h =
    let ends : Bool = leb (end_of m q) e in
    let value : Bool = eqb (end_of m (q + attribute_value)) (end_of m q) && value_right (byte m (q + attribute_value)) (two m (q + attribute_value + 1)) in
    leb-true (end_of m q) e (both_left ends value (both_right (eqb (byte m q) 0x41) (ends && value) h))
