-- No rule, but words that contracts use: keys that stand once in a list, of entries type and title, of attributes the name.
use Rattle.std.specs.Prelude.{ℕ, ◌≡◌, Bool, false, List, [], ◌∷◌}
use Rattle.rules.specs.State.{Attribute, Entry}
use Rattle.rules.specs.Evaluate.{any, is_entry, is_attribute}

-- `keyed k e` says whether e has the key k
pub data Unique {A K : Type 0} (key : A → K) (keyed : K → A → Bool) : List A → Type 0 where
  unique_none : Unique key keyed []
  unique : {e : A} {c : List A} → any (keyed (key e)) c ≡ false → Unique key keyed c → Unique key keyed (e ∷ c)

pub record Key : Type 0 where
  pub type : ℕ
  pub title : ℕ

abbrev pub key_of : Entry → Key
key_of e = record { type = e.type; title = e.title }

abbrev pub has_key : Key → Entry → Bool
has_key k e = is_entry k.type k.title e

abbrev pub name_of : Attribute → ℕ
name_of a = a.name

abbrev pub UniqueEntries : List Entry → Type 0
UniqueEntries c = Unique key_of has_key c

abbrev pub UniqueNames : List Attribute → Type 0
UniqueNames l = Unique name_of is_attribute l
