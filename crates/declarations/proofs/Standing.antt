-- What stands at a definition: its parameters with their names, its block, its parent.
use Prim.Native.Nat.{ℕ, ◌+◌, ◌≤◌, ◌<◌}
use mathlib.Core.Path.{◌≡◌, refl, sym, ap, ◌∙◌, subst}
use mathlib.Core.Bool.{Bool, true, false}
use mathlib.Core.List.{List}
use native.Mathlib.Omega.{arith}
use lib.Dec.{eqb}
use lib.ListN.{length}
use borrow.Author.Tests.{eqb-true, eqb-false, eq-eqb, ne_eqb}
use Rattle.wire.specs.Bytes.{pick, byte, two, end_of, fields_in}
use Rattle.wire.proofs.Fields.{no_fields, field_first}
use Rattle.rules.specs.Format.{allowed, forms, form_in, form_of, size, head_size}
use Rattle.rules.specs.Check.{string_places}
use Rattle.rules.specs.Tree.{TypeDefinition, ClassDefinition, Definition, type_definition, class_definition, definition}
use Rattle.rules.specs.declared.Kind.TheVariants.{Parameter, Item}
use Rattle.rules.specs.declared.Piece.TheVariants.{Name}
use Rattle.rules.specs.declared.Rest.TheVariants.{Fields}
use Rattle.rules.specs.declared.Parts.{Parts}
use Rattle.rules.proofs.Lists.{none_left, also}
use Rattle.places.specs.At.{parent_at, after_parent_at, block_at, item_at, parameters_at, Stands, StandsAs, Siblings, ended, sibling}
use Rattle.places.proofs.Parts.{siblings_rise}
use Rattle.places.proofs.Items.{BlockEnds, TypeDefinitionAt, ClassDefinitionAt, type_definition_opens, class_definition_opens, after_given, after_none}
use Rattle.syntax.proofs.NamesKnown.{its_names, known_inside, known_after, first_name_lem}
use Rattle.cells.specs.Memory.{definition_of}
use Rattle.parameters.specs.Checked.{SmallNames}
use Rattle.declarations.specs.Standing.{NamesKnown, Defined, undefined, defined, Set, definition_with}
use Rattle.declarations.specs.Classes.{ClassStands, ParentSmall}
use Rattle.std.specs.Prelude.{Option, Some, None}

-- ---- Names

module _ {m : List ℕ} (few : length (string_places m) ≤ 1024) where
  -- the name that the field at p begins with
  pub name_small : (p t : ℕ) → byte m p ≡ t → (form_of t).one ≡ Name → p < length m → NamesKnown m p → two m (p + 3) < 1024
  name_small p t tag begins within known =
      let n : ℕ = length (string_places m) in
      let below : two m (p + 3) < n = first_name_lem m n p (form_of (byte m p)) (its_names m n (length m) p within known) (ap (λ (t : ℕ). (form_of t).one) tag ∙ begins) in
      omega arith

  -- the 33s from q on
  pub parameters_small : {q to : ℕ} → Siblings m 31 Parameter q to → NamesKnown m q → SmallNames m (fields_in m q to)
  unfolding allowed form_of form_in forms
  parameters_small {q} {to} ended known = rw (no_fields m q q (omega arith)) none_left
  parameters_small {q} {to} (sibling l s more) known =
      let ends = s.stands.ends in
      rw (field_first m q to l) (also (name_small q 0x33 (eqb-true (byte m q) 0x33 s.kind) refl (omega arith) known)
      (parameters_small more (known_after m (length (string_places m)) (length m) 31 q s.stands.sound ends known)))

pub parameters_known_lem : {m : List ℕ} {q to : ℕ} → Siblings m 31 Parameter q to → NamesKnown m q → NamesKnown m to
parameters_known_lem ended known = known
parameters_known_lem {m} {q} (sibling l s more) known = parameters_known_lem more (known_after m (length (string_places m)) (length m) 31 q s.stands.sound s.stands.ends known)

-- from the first of the fields in a field on
pub inside_known : {m : List ℕ} {p : ℕ} (t h : ℕ) (ps : Parts) → byte m p ≡ t → (form_of t).rest ≡ Fields ps → head_size (form_of t) ≡ h → p < length m → NamesKnown m p → NamesKnown m (p + 3 + h)
inside_known {m} {p} t h ps tag rest head within known =
    subst (λ (n : ℕ). NamesKnown m (p + 3 + n)) (ap (λ (u : ℕ). head_size (form_of u)) tag ∙ head) (known_inside m (length (string_places m)) (length m) p ps within (ap (λ (u : ℕ). (form_of u).rest) tag ∙ rest) known)

-- what follows the name of a definition
after_name_lem : {m : List ℕ} {p : ℕ} (t : ℕ) (ps : Parts) → byte m p ≡ t → (form_of t).rest ≡ Fields ps → head_size (form_of t) ≡ 2 → p < length m → NamesKnown m p → NamesKnown m (p + 5)
after_name_lem {m} {p} t ps tag rest head within known =
    let place : p + 3 + 2 ≡ p + 5 = omega arith in
    subst (NamesKnown m) place (inside_known t 2 ps tag rest head within known)

-- ---- Definitions

-- the definition at p: its parameters begin at `from`, its block is at `to`
pub record Laid (m : List ℕ) (p from to : ℕ) : Type 0 where
  pub parameters : Siblings m 31 Parameter from to
  pub body : BlockEnds m 31 to (end_of m p)
  pub small : SmallNames m (fields_in m from to)
  pub known : NamesKnown m to
  pub rises : from ≤ to
  pub within : to ≤ length m

module _ {m : List ℕ} {p : ℕ} (few : length (string_places m) ≤ 1024) where
  laid : {from to : ℕ} → Stands m 32 p → Siblings m 31 Parameter from to → BlockEnds m 31 to (end_of m p) → NamesKnown m from → Laid m p from to
  laid stands parameters body known =
      let ends = stands.ends in
      let before = body.before in
      record { parameters = parameters; body = body; small = parameters_small few parameters known; known = parameters_known_lem parameters known; rises = siblings_rise parameters; within = omega arith }

  pub type_laid : Stands m 32 p → byte m p ≡ 0x32 → NamesKnown m p → (o : TypeDefinitionAt m p) → Laid m p (p + 5) o.block
  unfolding form_of form_in forms head_size size
  type_laid stands tag known o = let ends = stands.ends in laid stands o.parameters o.body (after_name_lem 0x32 _ tag refl refl (omega arith) known)

module _ {m : List ℕ} {p : ℕ} (few : length (string_places m) ≤ 1024) (s : ClassStands m p) where
  pub class_opened : ClassDefinitionAt m p
  class_opened = class_definition_opens s.stands.stands s.tag

  inside_class : NamesKnown m (p + 5)
  unfolding form_of form_in forms head_size size
  inside_class = let ends = s.stands.stands.ends in after_name_lem 0x34 _ s.tag refl refl (omega arith) s.names

  after_parent_lem : NamesKnown m (after_parent_at m (p + 5))
  after_parent_lem = go (eqb (byte m (p + 5)) 0x35) refl
    where
      go : (b : Bool) → eqb (byte m (p + 5)) 0x35 ≡ b → NamesKnown m (after_parent_at m (p + 5))
      go true e = rw (after_given m (p + 5) e) (known_after m (length (string_places m)) (length m) 31 (p + 5) class_opened.first.sound class_opened.first.ends inside_class)
      go false e = rw (after_none m (p + 5) e) inside_class

  pub class_laid : Laid m p (after_parent_at m (p + 5)) class_opened.block
  class_laid = laid few s.stands.stands class_opened.parameters class_opened.body after_parent_lem

  pub class_small : two m (p + 3) < 1024
  unfolding form_of form_in forms
  class_small = let ends = s.stands.stands.ends in name_small few p 0x34 s.tag refl (omega arith) s.names

  pub parent_small : ParentSmall m (p + 5)
  unfolding form_of form_in forms
  parent_small tag = let ends = class_opened.first.ends in name_small few (p + 5) 0x35 tag refl (omega arith) inside_class

-- ---- The ways of `find_definition`

module _ (m w : List ℕ) (n t : ℕ) {d : ℕ} (read : d ≡ definition_of w n) where
  pub found_none : d ≡ 0 → None ≡ definition_with m w n t
  unfolding definition_with
  found_none z = rw (sym read, z) refl

  pub found_other : {b : ℕ} → (d ≡ 0 → ⊥) → b ≡ byte m d → (b ≡ t → ⊥) → None ≡ definition_with m w n t
  unfolding definition_with
  found_other ne e other = rw (sym read, ne_eqb d 0 ne, sym e, ne_eqb _ t other) refl

  pub found_there : {b : ℕ} → (d ≡ 0 → ⊥) → b ≡ byte m d → b ≡ t → Some d ≡ definition_with m w n t
  unfolding definition_with
  found_there ne e same = rw (sym read, ne_eqb d 0 ne, sym e, eq-eqb _ t same) refl

-- ---- A definition that is found

pub record FoundAt (m w : List ℕ) (n t p : ℕ) : Type 0 where
  pub place : p ≡ definition_of w n
  pub positive : 0 < p
  pub stands : StandsAs m 32 Item p
  pub tag : byte m p ≡ t
  pub names : NamesKnown m p

pub found_at : {m w : List ℕ} {n t p : ℕ} {f : Option ℕ} → Set m w → f ≡ definition_with m w n t → f ≡ Some p → FoundAt m w n t p
unfolding definition_with
found_at {m} {w} {n} {t} {p} {f} s told is = go (eqb q 0) refl (eqb (byte m q) t) refl (sym told ∙ is)
  where
    q : ℕ
    q = definition_of w n

    there : (q ≡ 0 → ⊥) → byte m q ≡ t → Defined m q → FoundAt m w n t q
    there ne same (undefined z) = absurd (ne z)
    there ne same (defined l st known) = record { place = refl; positive = l; stands = st; tag = same; names = known }

    go : (a : Bool) → eqb q 0 ≡ a → (b : Bool) → eqb (byte m q) t ≡ b → pick a None (pick b (Some q) None) ≡ Some p → FoundAt m w n t p
    go true z b e h = absurd (let z : ◌≡◌ {A = ℕ} 0 1 = cc in omega arith)
    go false z false e h = absurd (let z : ◌≡◌ {A = ℕ} 0 1 = cc in omega arith)
    go false z true e h = let same : q ≡ p = cc in subst (FoundAt m w n t) same (there (eqb-false q 0 z) (eqb-true (byte m q) t e) (s.definitions n))

pub class_stands : {m w : List ℕ} {n p : ℕ} → FoundAt m w n 0x34 p → ClassStands m p
class_stands f = record { stands = f.stands; tag = f.tag; names = f.names }

-- ---- The parts of a definition at the places that the code finds

abbrev pub type_from : List ℕ → (p to : ℕ) → TypeDefinition
type_from m p to = record { place = p; name = two m (p + 3); parameters = parameters_at m (fields_in m (p + 5) to); body = block_at m 31 to }

abbrev pub class_from : List ℕ → (p to : ℕ) → ClassDefinition
class_from m p to = record { place = p; name = two m (p + 3); parent = parent_at m (p + 5); parameters = parameters_at m (fields_in m (after_parent_at m (p + 5)) to); body = block_at m 31 to }

-- `to` is where the code found the block of the definition d at p
pub record PartsAt (m : List ℕ) (p from to : ℕ) (d : Definition) : Type 0 where
  pub laid : Laid m p from to
  pub tree : item_at m p ≡ definition d

-- what the end of the parameters says
abbrev pub Ends : List ℕ → (from to : ℕ) → Type 0
Ends m from to = (t e : ℕ) → Siblings m 31 Parameter from t → BlockEnds m 31 t e → to ≡ t

pub type_parts : {m w : List ℕ} {n p to : ℕ} → Set m w → FoundAt m w n 0x32 p → Ends m (p + 5) to → PartsAt m p (p + 5) to (type_definition (type_from m p to))
type_parts {m} {p = p} s f ends =
    let o = type_definition_opens f.stands.stands f.tag in
    let l = type_laid s.strings f.stands.stands f.tag f.names o in
    rw (ends o.block (end_of m p) l.parameters l.body) (record { laid = l; tree = o.tree })

pub class_parts : {m w : List ℕ} {p from to : ℕ} → Set m w → ClassStands m p → from ≡ after_parent_at m (p + 5) → Ends m from to → PartsAt m p from to (class_definition (class_from m p to))
class_parts {m} {p = p} {from = from} s c start ends =
    let o = class_opened s.strings c in
    let l : Laid m p from o.block = rw start (class_laid s.strings c) in
    rw (ends o.block (end_of m p) l.parameters l.body) (record { laid = l; tree = o.tree })

-- ---- Places that fit

pub class_place : {m w : List ℕ} {p : ℕ} → Set m w → ClassStands m p → p ≤ 65535
class_place s c = let short = s.manifest in let ends = c.stands.stands.ends in omega arith

pub type_start : {m w : List ℕ} {n p : ℕ} → Set m w → FoundAt m w n 0x32 p → p + 5 ≤ 65535
type_start s f =
    let l = type_laid s.strings f.stands.stands f.tag f.names (type_definition_opens f.stands.stands f.tag) in
    let short = s.manifest in
    let rises = l.rises in
    let within = l.within in
    omega arith

pub class_start : {m w : List ℕ} {p from : ℕ} → Set m w → ClassStands m p → from ≡ after_parent_at m (p + 5) → from ≤ 65535
class_start s c start = let l = class_laid s.strings c in let short = s.manifest in let rises = l.rises in let within = l.within in omega arith

pub block_place : {m w : List ℕ} {p from to : ℕ} {d : Definition} → Set m w → PartsAt m p from to d → to ≤ 65535
block_place s i = let short = s.manifest in let within = i.laid.within in omega arith
