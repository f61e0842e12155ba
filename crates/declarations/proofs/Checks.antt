-- What the answers of callees say: a definition that is found or not, and parameters that are checked.
use Prim.Native.Nat.{ℕ, ◌<◌}
use mathlib.Core.Path.{◌≡◌, refl}
use mathlib.Core.List.{List}
use mathlib.Core.Option.{Option, none, some}
use native.Mathlib.Omega.{arith}
use borrow.Author.Tests.{ne_eqb, eq-eqb}
use Rattle.values.specs.declared.Refusal.{Refusal}
use Rattle.wire.specs.Bytes.{byte, fields_in}
use Rattle.rules.specs.Outcome.{done}
use Rattle.rules.specs.Tree.{Parameter, TypeDefinition, ClassDefinition, type_definition, class_definition, definition}
use Rattle.rules.specs.Run.{Given}
use Rattle.rules.specs.declared.Kind.TheVariants.{Parameter as ParameterKind}
use Rattle.places.specs.At.{item_at, parameters_at, Siblings}
use Rattle.cells.specs.Memory.{definition_of}
use Rattle.evaluator.specs.Known.{DefinedAt, undefined, type_at, class_at}
use Rattle.evaluator.specs.Answers.{refused_by}
use Rattle.attributes.specs.Names.{Alike}
use Rattle.attributes.specs.Table.{Gives}
use Rattle.parameters.specs.Checked.{check_given, Checked, refused_so, checked_so, SmallNames}
use Rattle.declarations.specs.Standing.{definition_with}
use Rattle.std.specs.Prelude.{Option as CodeOption, Some, None, Result, Ok, Err}

-- ---- Definitions

-- the definition of n, if it has the tag t
with_tag : (m w : List ℕ) (n t : ℕ) → 0 < definition_of w n → byte m (definition_of w n) ≡ t → definition_with m w n t ≡ Some (definition_of w n)
unfolding definition_with
with_tag m w n t l e = rw (ne_eqb (definition_of w n) 0 (λ z. omega arith), eq-eqb (byte m (definition_of w n)) t e) refl

module _ (m w : List ℕ) (n : ℕ) {f : CodeOption ℕ} where
  pub type_missing : {o : Option TypeDefinition} {q : Option ClassDefinition} → f ≡ definition_with m w n 0x32 → f ≡ None → DefinedAt m (definition_of w n) o q → o ≡ none
  type_missing told is (undefined z) = refl
  type_missing told is (type_at l s t i) = absurd (let h = with_tag m w n 0x32 l t in let z : ◌≡◌ {A = ℕ} 0 1 = cc in omega arith)
  type_missing told is (class_at l s t i) = refl

  pub class_missing : {o : Option TypeDefinition} {q : Option ClassDefinition} → f ≡ definition_with m w n 0x34 → f ≡ None → DefinedAt m (definition_of w n) o q → q ≡ none
  class_missing told is (undefined z) = refl
  class_missing told is (type_at l s t i) = refl
  class_missing told is (class_at l s t i) = absurd (let h = with_tag m w n 0x34 l t in let z : ◌≡◌ {A = ℕ} 0 1 = cc in omega arith)

module _ {m : List ℕ} {p : ℕ} (l : 0 < p) where
  pub type_there : {d : TypeDefinition} {o : Option TypeDefinition} {q : Option ClassDefinition} → byte m p ≡ 0x32 → item_at m p ≡ definition (type_definition d) → DefinedAt m p o q → o ≡ some d
  type_there tag tree (undefined z) = absurd (omega arith)
  type_there tag tree (type_at a s t i) = cc
  type_there tag tree (class_at a s t i) = absurd (omega arith)

  pub class_there : {d : ClassDefinition} {o : Option TypeDefinition} {q : Option ClassDefinition} → byte m p ≡ 0x34 → item_at m p ≡ definition (class_definition d) → DefinedAt m p o q → q ≡ some d
  class_there tag tree (undefined z) = absurd (omega arith)
  class_there tag tree (type_at a s t i) = absurd (omega arith)
  class_there tag tree (class_at a s t i) = cc

-- ---- Parameters

-- what the check of the parameters from `from` to `to` says
abbrev pub ChecksGiven : (m t : List ℕ) → (first end from to : ℕ) → Result Unit Refusal → Type 0
ChecksGiven m t first end from to c = (gs : List Given) → Gives t gs → Alike m gs (fields_in m first end) → Siblings m 31 ParameterKind from to → SmallNames m (fields_in m from to) → Checked (parameters_at m (fields_in m from to)) gs c

pub record Values (ps : List Parameter) (gs : List Given) : Type 0 where
  pub values : List Given
  pub are : check_given ps gs ≡ done values

pub checked_done : {ps : List Parameter} {gs : List Given} {c : Result Unit Refusal} → Checked ps gs c → c ≡ Ok tt → Values ps gs
checked_done (refused_so e) is = absurd (let z : ◌≡◌ {A = ℕ} 0 1 = cc in omega arith)
checked_done (checked_so vs e) is = record { values = vs; are = e }

pub checked_refused : {ps : List Parameter} {gs : List Given} {c : Result Unit Refusal} {why : Refusal} → Checked ps gs c → c ≡ Err why → check_given ps gs ≡ refused_by why
checked_refused (refused_so e) is = cc
checked_refused (checked_so vs e) is = absurd (let z : ◌≡◌ {A = ℕ} 0 1 = cc in omega arith)
