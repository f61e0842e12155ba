-- Names in the working memory: the four reads that are the crate `memory`'s (with its laws), and which names are types and classes. Assumes nothing.
use Prim.Native.Nat.{ℕ, ◌≤◌}
use mathlib.Core.Path.{◌≡◌, refl, sym, ap, ◌∙◌}
use mathlib.Core.Bool.{Bool, true, false, ◌||◌}
use mathlib.Core.List.{List, []}
use mathlib.Core.Option.{Option}
use native.Mathlib.Omega.{arith}
use borrow.Author.Tests.{ne_eqb, le-ltb}
use lib.Dec.{eqb}
use Rattle.wire.specs.Bytes.{pick, byte}
use Rattle.rules.specs.Tree.{TypeDefinition, ClassDefinition, Constant}
use Rattle.rules.specs.State.{Known, is_some}
use Rattle.rules.specs.Evaluate.{find_type, find_class, is_type, is_class}
use Rattle.rules.specs.Compile.{onto}
use Rattle.rules.specs.Catalog.{catalog_bytes}
use Rattle.rules.proofs.Lists.{none_left}
use Rattle.rules.proofs.Unique.{unique_none}
use Rattle.cells.specs.Layout.{table, blank_record, records_of}
use Rattle.cells.specs.Memory.{definition_in, built_in_in, definition_of, built_in_of}
use Rattle.catalog_index.specs.Index.{Indexed}
use Rattle.evaluator.specs.Known.{DefinedAt, undefined, type_at, class_at, KnownIn, Ready, defined_tag}
use Rattle.memory.specs.Words.{struck_in}

-- ---- A name's record

-- past the last name nothing is said
record_out : (w : List ℕ) (k : ℕ) → 1024 ≤ k → records_of w k ≡ blank_record
unfolding records_of table
record_out w k h = simp (le-ltb k 1024 h)

-- ---- The ways of `defined_tag`

pub tag_none : (m w : List ℕ) (n : ℕ) {q : ℕ} → q ≡ definition_of w n → q ≡ 0 → 0 ≡ defined_tag m w n
unfolding defined_tag
tag_none m w n {q} e z = rw (sym e, z)

pub tag_there : (m w : List ℕ) (n : ℕ) {q t : ℕ} → q ≡ definition_of w n → (q ≡ 0 → ⊥) → t ≡ byte m q → t ≡ defined_tag m w n
unfolding defined_tag
tag_there m w n {q} e z b = rw (sym e, ne_eqb q 0 z) b

-- ---- Types and classes, by the tags of their definitions

defined_class : (m : List ℕ) (p : ℕ) {o : Option TypeDefinition} {q : Option ClassDefinition} → DefinedAt m p o q → eqb (pick (eqb p 0) 0 (byte m p)) 0x34 ≡ is_some q
unfolding is_some
defined_class m p (undefined z) = rw z
defined_class m p (type_at l s t i) = rw (ne_eqb p 0 (λ e. omega arith), t)
defined_class m p (class_at l s t i) = rw (ne_eqb p 0 (λ e. omega arith), t)

defined_type : (m : List ℕ) (p : ℕ) {o : Option TypeDefinition} {q : Option ClassDefinition} → DefinedAt m p o q → eqb (pick (eqb p 0) 0 (byte m p)) 0x32 ≡ is_some o
unfolding is_some
defined_type m p (undefined z) = rw z
defined_type m p (type_at l s t i) = rw (ne_eqb p 0 (λ e. omega arith), t)
defined_type m p (class_at l s t i) = rw (ne_eqb p 0 (λ e. omega arith), t)

module _ (m w : List ℕ) (n : ℕ) where
  no_definition : 1024 ≤ n → defined_tag m w n ≡ 0
  unfolding defined_tag definition_of definition_in blank_record
  no_definition h = rw (record_out w n h)

  no_built_in : 1024 ≤ n → built_in_of w n ≡ false
  unfolding built_in_of built_in_in blank_record
  no_built_in h = rw (record_out w n h)

  class_tag_lem : (k : Known) → KnownIn m w k → eqb (defined_tag m w n) 0x34 ≡ is_class k n
  unfolding defined_tag is_class
  class_tag_lem k h = defined_class m (definition_of w n) (h.definitions n)

  type_tag : (k : Known) → KnownIn m w k → (built_in_of w n || eqb (defined_tag m w n) 0x32) ≡ is_type k n
  unfolding defined_tag is_type
  type_tag k h = rw (h.built_ins n, defined_type m (definition_of w n) (h.definitions n))

  pub class_past : 1024 ≤ n → (k : Known) → KnownIn m w k → false ≡ is_class k n
  class_past l k h = sym (ap (λ (t : ℕ). eqb t 0x34) (no_definition l)) ∙ class_tag_lem k h

  pub class_told : {t : ℕ} → t ≡ defined_tag m w n → (k : Known) → KnownIn m w k → eqb t 0x34 ≡ is_class k n
  class_told e k h = ap (λ (t : ℕ). eqb t 0x34) e ∙ class_tag_lem k h

  pub type_past : 1024 ≤ n → (k : Known) → KnownIn m w k → false ≡ is_type k n
  type_past l k h = sym (λ i. no_built_in l i || eqb (no_definition l i) 0x32) ∙ type_tag k h

  pub type_built_in : {b : Bool} → b ≡ built_in_of w n → b ≡ true → (k : Known) → KnownIn m w k → true ≡ is_type k n
  type_built_in e t k h = rw (sym e ∙ t) at (type_tag k h)

  pub type_told : {b : Bool} {t : ℕ} → b ≡ built_in_of w n → b ≡ false → t ≡ defined_tag m w n → (k : Known) → KnownIn m w k → eqb t 0x32 ≡ is_type k n
  type_told e f d k h = rw (sym e ∙ f, sym d) at (type_tag k h)

-- ---- Before the first item runs

pub known_first : (m w : List ℕ) (k : Known) → k.definitions ≡ [] → ((n : ℕ) → k.built_in n ≡ built_in_of w n) → ((n : ℕ) → definition_of w n ≡ 0) → ((v : Constant) → k.struck_out v ≡ struck_in w v) → KnownIn m w k
unfolding find_type find_class
known_first m w k none_yet built_ins none_there struck = record { built_ins = built_ins; definitions = λ n. rw none_yet (undefined (none_there n)); struck = struck }

-- with no entry yet
pub ready_first : (m w out : List ℕ) {k : Known} → KnownIn m w k → Indexed w [] → Ready m w out 0 k []
unfolding onto catalog_bytes
ready_first m w out h i = record { catalog = record { bytes = refl; fits = none_left }; index = i; unique = unique_none; known = h }
