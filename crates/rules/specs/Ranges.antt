-- No rule, but words that contracts use: what holds of each element of a list, and values, attributes and entries that fit their bytes.
use Rattle.std.specs.Prelude.{ℕ, ◌<◌, ◌≡◌, Bool, true, List, [], ◌∷◌, ℤ}
use Rattle.labels.specs.Sets.{Words64}
use Rattle.values.specs.declared.Value.{Value}
use Rattle.values.specs.declared.Value.TheVariants.{Integer, String, Boolean}
use Rattle.values.specs.declared.Labelled.{Labelled}
use Rattle.rules.specs.Arithmetic.{fits64}
use Rattle.rules.specs.State.{Attribute, Entry}

pub data Each {A : Type 0} (P : A → Type 0) : List A → Type 0 where
  none_left : Each P []
  also : {x : A} {xs : List A} → P x → Each P xs → Each P (x ∷ xs)

-- an integer in 64 bits, a string's number in two bytes
pub data FitsValue : Value → Type 0 where
  fits_integer : {z : ℤ} → fits64 z ≡ true → FitsValue (Integer z)
  fits_string : {n : ℕ} → n < 65536 → FitsValue (String n)
  fits_boolean : {b : Bool} → FitsValue (Boolean b)

pub record FitsLabelled (x : Labelled) : Type 0 where
  pub value : FitsValue x.value
  pub labels : Words64 x.labels

pub record FitsAttribute (a : Attribute) : Type 0 where
  pub name : a.name < 65536
  pub content : FitsLabelled a.content

pub record FitsEntry (e : Entry) : Type 0 where
  pub type : e.type < 65536
  pub title : e.title < 65536
  pub labels : Words64 e.labels
  pub attributes : Each FitsAttribute e.attributes
