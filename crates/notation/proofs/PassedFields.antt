-- What check 26 finds in one field: a name that can be spelled, a type of the right sort, a label that does not fall. Each lemma takes what is done behind
-- the field, g, as the check goes over the fields.
use Prim.Native.Nat.{ℕ, ◌≤◌, ◌<◌, ◌+◌}
use mathlib.Core.Path.{◌≡◌, refl, sym, ◌∙◌, subst}
use mathlib.Core.Bool.{Bool, true, false, ◌&&◌}
use mathlib.Core.List.{List, [], ◌∷◌, ◌++◌}
use native.Mathlib.Omega.{arith}
use lib.Dec.{leb}
use borrow.Author.Tests.{leb-true}
use Rattle.values.specs.declared.Value.{Value}
use Rattle.values.specs.declared.Value.TheVariants.{Integer, String, Boolean}
use Rattle.rules.specs.Bytes.{pick, two}
use Rattle.rules.specs.Format.{forms, form_in, form_of, size, is_constant}
use Rattle.rules.specs.Catalog.{high_bytes}
use Rattle.rules.specs.Compile.{string_at}
use Rattle.rules.specs.Fields.{Field, field, Fields, none as fields_end, more}
use Rattle.rules.specs.Tree.{Constant}
use Rattle.rules.specs.Tree
use Rattle.rules.specs.Ranges.{FitsValue, fits_integer}
use Rattle.rules.proofs.ReadBack.{two_back}
use Rattle.rules.proofs.Listed.{both_left, both_right}
use Rattle.rules.proofs.Fits.{ConstantInRange}
use Rattle.rules.proofs.TypedBack.{value_field, constant_field}
use Rattle.rules.specs.Types.{Types}
use Rattle.notation.specs.Printer.{is_name, spellable, names_spellable, type_right, label_right, Gone, stops, past, going, over, over_all}
use Rattle.notation.proofs.Spelled.{ValueFits, Rises, last_label, last_append, rises_append}

-- a test that the check passed, and what it went on with
passed_test : (b : Bool) (x : Gone) (p z : ℕ) (g : ℕ → Gone) → going (pick b x (stops p)) g ≡ past z → (b ≡ true) × (going x g ≡ past z)
passed_test true x p z g e = (refl, e)
passed_test false x p z g e = absurd (let y : ◌≡◌ {A = ℕ} 0 1 = cc in omega arith)

-- a name behind another one
two_second : (c n : ℕ) (rest : List ℕ) → n < 65536 → two (high_bytes 2 c ++ (high_bytes 2 n ++ rest)) 2 ≡ n
unfolding two high_bytes
two_second c n rest h = omega arith

-- what was found of a form whose constants are cs: P, and g goes on behind it
pub record Passes (P : Type 0) (cs : List Constant) (l : ℕ) (g : ℕ → Gone) (z : ℕ) : Type 0 where
  pub found : P
  pub rises : Rises l cs
  pub onward : g (last_label cs l) ≡ past z

-- two forms one behind the other
pub both_pass : {P Q R : Type 0} {xs ys : List Constant} {l z : ℕ} {g : ℕ → Gone} (f : ℕ → Gone) → (P → Q → R) → Passes P xs l f z → (f (last_label xs l) ≡ past z → Passes Q ys (last_label xs l) g z) → Passes R (xs ++ ys) l g z
both_pass {xs = xs} {ys} {l} {z} {g} f join a b =
    let c = b a.onward in
    record { found = join a.found c.found; rises = rises_append xs ys l a.rises c.rises; onward = rw (last_append xs ys l) c.onward }

-- ---- One field

-- tags of forms without a name, with a name, and with two; none of a constant
pub record NoName (types : Types) (t : ℕ) : Type 0 where
  pub spellable : (strings : List (List ℕ)) (h : List ℕ) → names_spellable strings t h ≡ true
  pub type : (strings : List (List ℕ)) (h : List ℕ) → type_right types strings t h ≡ true
  pub other : is_constant t ≡ false

pub record OneName (t : ℕ) : Type 0 where
  pub spellable : (strings : List (List ℕ)) (h : List ℕ) → names_spellable strings t h ≡ (is_name (string_at strings (two h 0)) && true)
  pub other : is_constant t ≡ false

pub record TwoNames (t : ℕ) : Type 0 where
  pub spellable : (strings : List (List ℕ)) (h : List ℕ) → names_spellable strings t h ≡ (is_name (string_at strings (two h 0)) && is_name (string_at strings (two h 2)))
  pub other : is_constant t ≡ false

-- the tags of each sort
pub sixteen : (types : Types) → (NoName types) 0x16
unfolding names_spellable spellable type_right form_of form_in forms size
sixteen types = record { spellable = λ s h. refl; type = λ s h. refl; other = refl }

pub seventeen : (types : Types) → (NoName types) 0x17
unfolding names_spellable spellable type_right form_of form_in forms size
seventeen types = record { spellable = λ s h. refl; type = λ s h. refl; other = refl }

pub nineteen : (types : Types) → (NoName types) 0x19
unfolding names_spellable spellable type_right form_of form_in forms size
nineteen types = record { spellable = λ s h. refl; type = λ s h. refl; other = refl }

pub arm_tag : (types : Types) → (NoName types) 0x1a
unfolding names_spellable spellable type_right form_of form_in forms size
arm_tag types = record { spellable = λ s h. refl; type = λ s h. refl; other = refl }

pub default_tag : (types : Types) → (NoName types) 0x1b
unfolding names_spellable spellable type_right form_of form_in forms size
default_tag types = record { spellable = λ s h. refl; type = λ s h. refl; other = refl }

pub block_tag : (types : Types) → (NoName types) 0x20
unfolding names_spellable spellable type_right form_of form_in forms size
block_tag types = record { spellable = λ s h. refl; type = λ s h. refl; other = refl }

pub if_tag : (types : Types) → (NoName types) 0x22
unfolding names_spellable spellable type_right form_of form_in forms size
if_tag types = record { spellable = λ s h. refl; type = λ s h. refl; other = refl }

pub case_tag : (types : Types) → (NoName types) 0x23
unfolding names_spellable spellable type_right form_of form_in forms size
case_tag types = record { spellable = λ s h. refl; type = λ s h. refl; other = refl }

pub branch_tag : (types : Types) → (NoName types) 0x24
unfolding names_spellable spellable type_right form_of form_in forms size
branch_tag types = record { spellable = λ s h. refl; type = λ s h. refl; other = refl }

pub device_tag : (types : Types) → (NoName types) 0x31
unfolding names_spellable spellable type_right form_of form_in forms size
device_tag types = record { spellable = λ s h. refl; type = λ s h. refl; other = refl }

pub node_tag_lem : (types : Types) → (NoName types) 0x30
unfolding names_spellable spellable type_right form_of form_in forms size
node_tag_lem types = record { spellable = λ s h. refl; type = λ s h. refl; other = refl }

pub zero_tag : (types : Types) → (NoName types) 0
unfolding names_spellable spellable type_right form_of form_in forms size
zero_tag types = record { spellable = λ s h. refl; type = λ s h. refl; other = refl }

pub thirteen : OneName 0x13
unfolding names_spellable spellable type_right form_of form_in forms size
thirteen = record { spellable = λ s h. refl; other = refl }

pub fourteen : OneName 0x14
unfolding names_spellable spellable type_right form_of form_in forms size
fourteen = record { spellable = λ s h. refl; other = refl }

pub assignment_tag_lem : OneName 0x21
unfolding names_spellable spellable type_right form_of form_in forms size
assignment_tag_lem = record { spellable = λ s h. refl; other = refl }

pub built_in_tag : OneName 0x25
unfolding names_spellable spellable type_right form_of form_in forms size
built_in_tag = record { spellable = λ s h. refl; other = refl }

pub attribute_tag : OneName 0x26
unfolding names_spellable spellable type_right form_of form_in forms size
attribute_tag = record { spellable = λ s h. refl; other = refl }

pub defined_tag_lem : OneName 0x27
unfolding names_spellable spellable type_right form_of form_in forms size
defined_tag_lem = record { spellable = λ s h. refl; other = refl }

pub class_tag_lem : OneName 0x28
unfolding names_spellable spellable type_right form_of form_in forms size
class_tag_lem = record { spellable = λ s h. refl; other = refl }

pub include_tag_lem : OneName 0x29
unfolding names_spellable spellable type_right form_of form_in forms size
include_tag_lem = record { spellable = λ s h. refl; other = refl }

pub type_tag : OneName 0x32
unfolding names_spellable spellable type_right form_of form_in forms size
type_tag = record { spellable = λ s h. refl; other = refl }

pub parameter_tag : OneName 0x33
unfolding names_spellable spellable type_right form_of form_in forms size
parameter_tag = record { spellable = λ s h. refl; other = refl }

pub definition_tag : OneName 0x34
unfolding names_spellable spellable type_right form_of form_in forms size
definition_tag = record { spellable = λ s h. refl; other = refl }

pub parent_tag : OneName 0x35
unfolding names_spellable spellable type_right form_of form_in forms size
parent_tag = record { spellable = λ s h. refl; other = refl }

pub fifteen : TwoNames 0x15
unfolding names_spellable spellable type_right form_of form_in forms size
fifteen = record { spellable = λ s h. refl; other = refl }

pub eighteen : TwoNames 0x18
unfolding names_spellable spellable type_right form_of form_in forms size
eighteen = record { spellable = λ s h. refl; other = refl }

module _ (types : Types) (strings : List (List ℕ)) where
  over_other : (t : ℕ) (h : List ℕ) (ks : Fields) (l : ℕ) → is_constant t ≡ false → over types strings (field 0 t h ks) l ≡ pick (names_spellable strings t h && type_right types strings t h) (over_all types strings ks l) (stops 0)
  unfolding over label_right
  over_other t h ks l e = rw (over, e)

  -- the first of some fields, and then the others
  abbrev pub then_all : Fields → (ℕ → Gone) → ℕ → Gone
  then_all ks g u = going (over_all types strings ks u) g

  pub first_passed : (k : Field) (ks : Fields) (l z : ℕ) (g : ℕ → Gone) → going (over_all types strings (more k ks) l) g ≡ past z → going (over types strings k l) (then_all ks g) ≡ past z
  unfolding over
  first_passed k ks l z g e = go (over types strings k l) e
    where
      go : (x : Gone) → going (going x (over_all types strings ks)) g ≡ past z → going x (then_all ks g) ≡ past z
      go (stops p) e = e
      go (past u) e = e

  pub bare_passed : (t : ℕ) → NoName types t → (h : List ℕ) (ks : Fields) (l z : ℕ) (g : ℕ → Gone) → going (over types strings (field 0 t h ks) l) g ≡ past z → going (over_all types strings ks l) g ≡ past z
  bare_passed t b h ks l z g e =
      let same : over types strings (field 0 t h ks) l ≡ over_all types strings ks l = over_other t h ks l b.other ∙ rw (b.spellable strings h, b.type strings h) in
      subst (λ (x : Gone). going x g ≡ past z) same e

  -- what was found of a field with a name
  pub record NamePassed (t n : ℕ) (h : List ℕ) (ks : Fields) (l z : ℕ) (g : ℕ → Gone) : Type 0 where
    pub name : is_name (string_at strings n) ≡ true
    pub type : type_right types strings t h ≡ true
    pub inside : going (over_all types strings ks l) g ≡ past z

  pub name_passed : (t : ℕ) → OneName t → (n : ℕ) → n < 65536 → (ks : Fields) (l z : ℕ) (g : ℕ → Gone) → going (over types strings (field 0 t (high_bytes 2 n) ks) l) g ≡ past z → NamePassed t n (high_bytes 2 n) ks l z g
  unfolding high_bytes
  name_passed t b n m ks l z g e =
      let test = passed_test (names_spellable strings t (high_bytes 2 n) && type_right types strings t (high_bytes 2 n)) (over_all types strings ks l) 0 z g (subst (λ (x : Gone). going x g ≡ past z) (over_other t (high_bytes 2 n) ks l b.other) e) in
      let spelled = sym (b.spellable strings (high_bytes 2 n)) ∙ both_left (names_spellable strings t (high_bytes 2 n)) (type_right types strings t (high_bytes 2 n)) test.0 in
      let first = both_left (is_name (string_at strings (two (high_bytes 2 n) 0))) true spelled in
      record {
        name = subst (λ (x : ℕ). is_name (string_at strings x) ≡ true) (two_back n [] m) first;
        type = both_right (names_spellable strings t (high_bytes 2 n)) (type_right types strings t (high_bytes 2 n)) test.0;
        inside = test.1;
      }

  pub record NamesPassed (c n : ℕ) (ks : Fields) (l z : ℕ) (g : ℕ → Gone) : Type 0 where
    pub first : is_name (string_at strings c) ≡ true
    pub second : is_name (string_at strings n) ≡ true
    pub inside : going (over_all types strings ks l) g ≡ past z

  pub names_passed : (t : ℕ) → TwoNames t → (c n : ℕ) → c < 65536 → n < 65536 → (ks : Fields) (l z : ℕ) (g : ℕ → Gone) → going (over types strings (field 0 t (high_bytes 2 c ++ high_bytes 2 n) ks) l) g ≡ past z → NamesPassed c n ks l z g
  unfolding high_bytes
  names_passed t b c n m o ks l z g e =
      let h : List ℕ = high_bytes 2 c ++ high_bytes 2 n in
      let test = passed_test (names_spellable strings t h && type_right types strings t h) (over_all types strings ks l) 0 z g (subst (λ (x : Gone). going x g ≡ past z) (over_other t h ks l b.other) e) in
      let spelled = sym (b.spellable strings h) ∙ both_left (names_spellable strings t h) (type_right types strings t h) test.0 in
      record {
        first = subst (λ (x : ℕ). is_name (string_at strings x) ≡ true) (two_back c (high_bytes 2 n) m) (both_left (is_name (string_at strings (two h 0))) (is_name (string_at strings (two h 2))) spelled);
        second = subst (λ (x : ℕ). is_name (string_at strings x) ≡ true) (two_second c n [] o) (both_right (is_name (string_at strings (two h 0))) (is_name (string_at strings (two h 2))) spelled);
        inside = test.1;
      }

  -- ---- Constants

  value_fits : (x : Value) → FitsValue x → ValueFits x
  value_fits (Integer z) (fits_integer e) = e
  value_fits (String n) f = tt
  value_fits (Boolean b) f = tt

  label_passed : (t l k : ℕ) (h : List ℕ) (z : ℕ) (g : ℕ → Gone) → is_constant t ≡ true → names_spellable strings t (k ∷ h) ≡ true → type_right types strings t (k ∷ h) ≡ true → going (over types strings (field 0 t (k ∷ h) fields_end) l) g ≡ past z → (l ≤ k) × (g k ≡ past z)
  unfolding over label_right
  label_passed t l k h z g c n y e =
      let test = passed_test (leb l k && true) (past k) 0 z g (rw (over, c, n, y) at e) in
      (leb-true l k (both_left (leb l k) true test.0), test.1)

  pub constant_passed : (c : Constant) → ConstantInRange c → (l z : ℕ) (g : ℕ → Gone) → going (over types strings (constant_field c) l) g ≡ past z → Passes (Unit {0}) (c ∷ []) l g z
  unfolding constant_field value_field names_spellable spellable type_right form_of form_in forms size
  constant_passed c f l z g e =
      let p = go c.value e in
      record { found = tt; rises = (p.0, value_fits c.value f.value, tt); onward = p.1 }
    where
      go : (x : Value) → going (over types strings (value_field c.label x) l) g ≡ past z → (l ≤ c.label) × (g c.label ≡ past z)
      go (Integer y) e = label_passed 0x10 l c.label _ z g refl refl refl e
      go (String n) e = label_passed 0x11 l c.label _ z g refl refl refl e
      go (Boolean b) e = label_passed 0x12 l c.label _ z g refl refl refl e
