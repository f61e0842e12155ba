-- Definitions: one law for each way through `is_taken` and `define`, and a definition at its place. Assumes nothing.
use Prim.Native.Nat.{ℕ, ◌+◌, ◌<◌}
use mathlib.Core.Path.{◌≡◌, refl, sym, ap, ◌∙◌}
use mathlib.Core.Logic.{inl, inr}
use mathlib.Core.Bool.{Bool, true, false, ◌||◌, not}
use mathlib.Core.List.{List, ◌∷◌}
use mathlib.Core.Option.{Option, none, some}
use native.Mathlib.Omega.{arith}
use lib.Dec.{eqb}
use lib.ListN.{length}
use borrow.Author.Tests.{eqb-true, eqb-false, eq-eqb, ne_eqb}
use Rattle.wire.specs.Bytes.{pick, byte, two}
use Rattle.rules.specs.Format.{forms, form_in, form_of}
use Rattle.rules.specs.Tree.{Definition, TypeDefinition, ClassDefinition, type_definition, class_definition, Item, definition}
use Rattle.rules.specs.State.{Known, is_some}
use Rattle.rules.specs.Evaluate.{any, find_type, find_class}
use Rattle.rules.specs.Run.{defined_name, defined_place, is_definition, is_taken}
use Rattle.rules.specs.declared.Piece.TheVariants.{Name}
use Rattle.rules.proofs.Within.{false_not_true}
use Rattle.rules.proofs.Lists.{either_right, when_true}
use Rattle.rules.proofs.Gathering.{any_found, type_other, class_other}
use Rattle.places.specs.At.{item_at}
use Rattle.places.proofs.Items.{type_definition_opens, class_definition_opens}
use Rattle.cells.specs.Layout.{put_at}
use Rattle.cells.specs.Memory.{definition_of, built_in_of, Names, names_of, Becomes}
use Rattle.memory.specs.Names.{with_definition as defined_as}
use Rattle.summaries.proofs.Summaries.{summarized_still}
use Rattle.evaluator.specs.Known.{DefinedAt, undefined, type_at, class_at, KnownIn}
use Rattle.declarations.specs.Standing.{Set, Defined, defined}
use Rattle.declarations.proofs.Standing.{name_small as begins-small}
use Rattle.definitions.specs.Defined.{ItemStands, IsDefinition, with_definitions, Defines}
use Rattle.memory.proofs.Words.{words_kept, struck_same}

-- ---- A definition at its place

module _ (m : List ℕ) (p : ℕ) (s : ItemStands m p) (i : IsDefinition m p) where
  name_first : (form_of (byte m p)).one ≡ Name
  unfolding form_of form_in forms
  name_first = go i
    where
      go : IsDefinition m p → (form_of (byte m p)).one ≡ Name
      go (inl e) = ap (λ (t : ℕ). (form_of t).one) e
      go (inr e) = ap (λ (t : ℕ). (form_of t).one) e

  -- its name is one of the manifest's strings
  pub name_small : (w : List ℕ) → Set m w → two m (p + 3) < 1024
  name_small w set =
      let ends = s.stands.stands.ends in
      begins-small set.strings p (byte m p) refl name_first (omega arith) s.names

-- the definition read at p
pub record DefinitionAt (m : List ℕ) (p : ℕ) : Type 0 where
  pub read : Definition
  pub tree : item_at m p ≡ definition read
  pub name : defined_name read ≡ two m (p + 3)
  pub place : defined_place read ≡ p

pub definition_there : (m : List ℕ) (p : ℕ) → ItemStands m p → IsDefinition m p → DefinitionAt m p
unfolding defined_name defined_place
definition_there m p s (inl e) = let o = type_definition_opens s.stands.stands e in record { read = type_definition _; tree = o.tree; name = refl; place = refl }
definition_there m p s (inr e) = let o = class_definition_opens s.stands.stands e in record { read = class_definition _; tree = o.tree; name = refl; place = refl }

-- ---- is_taken

defined_some : {m : List ℕ} {p : ℕ} {o : Option TypeDefinition} {q : Option ClassDefinition} → DefinedAt m p o q → not (eqb p 0) ≡ (is_some o || is_some q)
unfolding is_some
defined_some {p = p} (undefined z) = rw z refl
defined_some {p = p} (type_at l s t i) = rw (ne_eqb p 0 (λ e. omega arith)) refl
defined_some {p = p} (class_at l s t i) = rw (ne_eqb p 0 (λ e. omega arith)) refl

module _ (m w : List ℕ) (n : ℕ) where
  pub taken_built_in : {x : ℕ} {b : Bool} → x ≡ n → b ≡ built_in_of w x → b ≡ true → (k : Known) → KnownIn m w k → b ≡ is_taken k.built_in k.definitions n
  unfolding is_taken
  taken_built_in named told h k known = h ∙ rw (known.built_ins n, sym (told ∙ ap (built_in_of w) named), h) refl

  pub taken_defined : {x : ℕ} {b : Bool} {p : ℕ} → x ≡ n → b ≡ built_in_of w x → b ≡ false → p ≡ definition_of w x → (k : Known) → KnownIn m w k → not (eqb p 0) ≡ is_taken k.built_in k.definitions n
  unfolding is_taken
  taken_defined {x} {b} {p} named told h there k known =
      let here : p ≡ definition_of w n = there ∙ ap (definition_of w) named in
      rw (known.built_ins n, sym (told ∙ ap (built_in_of w) named), h, here) (defined_some (known.definitions n) ∙ sym (any_found n k.definitions))

-- ---- define

none_of : {A B : Type 0} (o : Option A) (q : Option B) → (is_some o || is_some q) ≡ false → (o ≡ none) × (q ≡ none)
unfolding is_some
none_of none none e = (refl, refl)
none_of none (some y) e = false_not_true (sym e)
none_of (some x) q e = false_not_true (sym e)

-- a name that is not taken has no definition yet
not_taken : (built_in : ℕ → Bool) (ds : List Definition) (n : ℕ) → is_taken built_in ds n ≡ false → (find_type n ds ≡ none) × (find_class n ds ≡ none)
unfolding is_taken
not_taken built_in ds n e = none_of (find_type n ds) (find_class n ds) (sym (any_found n ds) ∙ either_right (built_in n) (any (is_definition n) ds) e)

same_definition : {i : Item} {d e : Definition} → i ≡ definition d → i ≡ definition e → d ≡ e
same_definition a b = cc

-- the name looked for is the definition's, or another
type_here : (n : ℕ) (d : TypeDefinition) (ds : List Definition) → d.name ≡ n → find_type n (type_definition d ∷ ds) ≡ some d
unfolding find_type
type_here n d ds e = when_true (eqb d.name n) (some d) (find_type n ds) (eq-eqb d.name n e)

class_here : (n : ℕ) (d : ClassDefinition) (ds : List Definition) → d.name ≡ n → find_class n (class_definition d ∷ ds) ≡ some d
unfolding find_class
class_here n d ds e = when_true (eqb d.name n) (some d) (find_class n ds) (eq-eqb d.name n e)

module _ (n : ℕ) (ds : List Definition) where
  class_past_type : (d : TypeDefinition) → find_class n (type_definition d ∷ ds) ≡ find_class n ds
  unfolding find_class
  class_past_type d = refl

  type_past_class : (d : ClassDefinition) → find_type n (class_definition d ∷ ds) ≡ find_type n ds
  unfolding find_type
  type_past_class d = refl

-- the name of a definition finds it, and nothing of the other sort
module _ (m : List ℕ) (p : ℕ) (s : ItemStands m p) (n : ℕ) (ds : List Definition) (no_type : find_type n ds ≡ none) (no_class : find_class n ds ≡ none) where
  found_here : (d : Definition) → IsDefinition m p → item_at m p ≡ definition d → defined_name d ≡ n → DefinedAt m p (find_type n (d ∷ ds)) (find_class n (d ∷ ds))
  unfolding defined_name
  found_here (type_definition d) (inl e) tree h = rw (type_here n d ds h, class_past_type n ds d, no_class) (type_at s.after s.stands e tree)
  found_here (type_definition d) (inr e) tree h = let o = same_definition tree (class_definition_opens s.stands.stands e).tree in let z : ◌≡◌ {A = ℕ} 0 1 = cc in absurd (omega arith)
  found_here (class_definition d) (inl e) tree h = let o = same_definition tree (type_definition_opens s.stands.stands e).tree in let z : ◌≡◌ {A = ℕ} 0 1 = cc in absurd (omega arith)
  found_here (class_definition d) (inr e) tree h = rw (class_here n d ds h, type_past_class n ds d, no_type) (class_at s.after s.stands e tree)

module _ (m w w' : List ℕ) (p : ℕ) (set : Set m w) (s : ItemStands m p) (i : IsDefinition m p) {x y : ℕ} (named : x ≡ two m (p + 3)) (at_p : y ≡ p) (size : length w' ≡ length w) (become : Becomes w w' (λ st. st) (defined_as x y)) where
  built_ins_kept : (n : ℕ) → built_in_of w' n ≡ built_in_of w n
  unfolding names_of defined_as
  built_ins_kept n = ap (λ (ns : Names). ns.built_ins n) become.names

  definition_put : (n : ℕ) → definition_of w' n ≡ pick (eqb n x) y (definition_of w n)
  unfolding names_of defined_as put_at
  definition_put n = ap (λ (ns : Names). ns.definitions n) become.names

  definition_here : (n : ℕ) → eqb n x ≡ true → definition_of w' n ≡ p
  definition_here n h = definition_put n ∙ ap (λ (b : Bool). pick b y (definition_of w n)) h ∙ at_p

  definition_kept : (n : ℕ) → eqb n x ≡ false → definition_of w' n ≡ definition_of w n
  definition_kept n h = definition_put n ∙ ap (λ (b : Bool). pick b y (definition_of w n)) h

  still_set : Set m w'
  still_set = record { memory = let room = set.memory in omega arith; manifest = set.manifest; strings = set.strings; definitions = λ n. go n (eqb n x) refl; summaries = summarized_still become.rest set.summaries }
    where
      go : (n : ℕ) (b : Bool) → eqb n x ≡ b → Defined m (definition_of w' n)
      go n true h = rw (definition_here n h) (defined s.after s.stands s.names)
      go n false h = rw (definition_kept n h) (set.definitions n)

  now_known : (k : Known) (d : Definition) → item_at m p ≡ definition d → is_taken k.built_in k.definitions (defined_name d) ≡ false → KnownIn m w k → KnownIn m w' (with_definitions (d ∷ k.definitions) k)
  unfolding with_definitions
  now_known k d tree free known = record { built_ins = λ n. known.built_ins n ∙ sym (built_ins_kept n); definitions = λ n. go n (eqb n x) refl; struck = λ v. known.struck v ∙ sym (struck_same w w' (λ j l. words_kept w w' become.rest j) v) }
    where
      its_name : defined_name d ≡ x
      its_name = let t = definition_there m p s i in ap defined_name (same_definition tree t.tree) ∙ t.name ∙ sym named

      go : (n : ℕ) (b : Bool) → eqb n x ≡ b → DefinedAt m (definition_of w' n) (find_type n (d ∷ k.definitions)) (find_class n (d ∷ k.definitions))
      go n true h =
          let same : defined_name d ≡ n = its_name ∙ sym (eqb-true n x h) in
          let none_yet = not_taken k.built_in k.definitions n (ap (is_taken k.built_in k.definitions) (sym same) ∙ free) in
          rw (definition_here n h) (found_here m p s n k.definitions none_yet.0 none_yet.1 d i tree same)
      go n false h =
          let other : defined_name d ≡ n → ⊥ = λ e. eqb-false n x h (sym e ∙ its_name) in
          rw (definition_kept n h, type_other n k.definitions d other, class_other n k.definitions d other) (known.definitions n)

  pub now_defined : Defines m p w w'
  now_defined = record { only = record { set = still_set; fine = become.fine; rest = become.rest; state = become.state }; known = now_known }
