-- One law for each way through the functions that test a field.
use Prim.Native.Nat.{ℕ, ◌+◌, ◌*◌, ◌≤◌, ◌<◌}
use mathlib.Core.Path.{◌≡◌, refl, sym, ap, ap₂, ◌∙◌}
use mathlib.Core.Bool.{Bool, true, false, not, ◌&&◌, ◌||◌}
use mathlib.Core.List.{List}
use native.Mathlib.Omega.{arith}
use lib.Dec.{leb}
use lib.ListN.{drop}
use lib.Seq.{get_or-drop}
use borrow.Author.Tests.{le-leb, lt-leb, eq-eqb, ne_eqb}
use Rattle.rules.specs.Bytes.{pick, byte, two}
use Rattle.rules.specs.Format.{form_of, size, is_constant}
use Rattle.rules.specs.Evaluate.{any}
use Rattle.rules.specs.Types.{Types, built_in_types}
use Rattle.rules.specs.Compile.{same_bytes, string_at, is_built_in}
use Rattle.rules.specs.declared.Piece.{Piece}
use Rattle.rules.specs.declared.Piece.TheVariants.{Nothing, Label, Integer, Boolean, Operator, Name}
use Rattle.format.specs.Numbers.{name_number}
use Rattle.syntax.specs.Strings.{is_built_in_text}
use Rattle.notation.specs.Printer.{is_name, spellable, label_right, names_spellable, type_right}
use Rattle.printable.specs.Reading.{prints_at, label_behind}

-- ---- What stands from a place on

module _ (m : List ℕ) (a : ℕ) where
  pub two_from : (i : ℕ) → two (drop a m) i ≡ two m (a + i)
  unfolding two
  two_from i =
      let next : a + (i + 1) ≡ a + i + 1 = omega arith in
      ap₂ (λ (x y : ℕ). x * 256 + y) (get_or-drop a m i 0) (get_or-drop a m (i + 1) 0 ∙ ap (byte m) next)

  pub first_byte : byte (drop a m) 0 ≡ byte m a
  first_byte = let same : a + 0 ≡ a = omega arith in get_or-drop a m 0 0 ∙ ap (byte m) same

  first_two : two (drop a m) 0 ≡ two m a
  first_two = let same : a + 0 ≡ a = omega arith in two_from 0 ∙ ap (two m) same

-- a piece is spelled by its two bytes alone
pub spelled_so : (ss : List (List ℕ)) (g h : List ℕ) (i j : ℕ) (x : Piece) → (1 < size x → two g i ≡ two h j) → spellable ss g i x ≡ spellable ss h j x
unfolding spellable size
spelled_so ss g h i j Nothing e = refl
spelled_so ss g h i j Label e = refl
spelled_so ss g h i j Integer e = refl
spelled_so ss g h i j Boolean e = refl
spelled_so ss g h i j Operator e = refl
spelled_so ss g h i j Name e = ap (λ (n : ℕ). is_name (string_at ss n)) (e (omega arith))

-- ---- Names

module _ (ss : List (List ℕ)) (m : List ℕ) (q : ℕ) where
  pub a_name_there : {c n : ℕ} {xs : List ℕ} {b : Bool} → c ≡ 1 → n ≡ two m q → xs ≡ string_at ss n → b ≡ is_name xs → (x : Piece) → c ≡ name_number x → b ≡ spellable ss m q x
  unfolding name_number spellable
  a_name_there h en ex eb Name e = eb ∙ ap is_name (ex ∙ ap (string_at ss) en)
  a_name_there h en ex eb Nothing e = absurd (omega arith)
  a_name_there h en ex eb Label e = absurd (omega arith)
  a_name_there h en ex eb Integer e = absurd (omega arith)
  a_name_there h en ex eb Boolean e = absurd (omega arith)
  a_name_there h en ex eb Operator e = absurd (omega arith)

  pub no_name_there : {c : ℕ} → (c ≡ 1 → ⊥) → (x : Piece) → c ≡ name_number x → true ≡ spellable ss m q x
  unfolding name_number spellable
  no_name_there h Nothing e = refl
  no_name_there h Label e = refl
  no_name_there h Integer e = refl
  no_name_there h Boolean e = refl
  no_name_there h Operator e = refl
  no_name_there h Name e = absurd (h e)

module _ (ss : List (List ℕ)) (m : List ℕ) (p t : ℕ) where
  pub text_spelled : t ≡ 0x11 → true ≡ names_spellable ss t (drop (p + 3) m)
  unfolding names_spellable
  text_spelled e = rw (eq-eqb t 0x11 e)

  pub device_spelled : (t ≡ 0x11 → ⊥) → t ≡ 0x31 → true ≡ names_spellable ss t (drop (p + 3) m)
  unfolding names_spellable
  device_spelled n e = rw (ne_eqb t 0x11 n, eq-eqb t 0x31 e)

  pub pieces_decide : {b : Bool} → (t ≡ 0x11 → ⊥) → (t ≡ 0x31 → ⊥) → b ≡ (spellable ss m (p + 3) (form_of t).one && spellable ss m (p + 3 + size (form_of t).one) (form_of t).two) → b ≡ names_spellable ss t (drop (p + 3) m)
  unfolding names_spellable
  pieces_decide n k e =
      let one = spelled_so ss (drop (p + 3) m) m 0 (p + 3) (form_of t).one (λ z. first_two m (p + 3)) in
      let other = spelled_so ss (drop (p + 3) m) m (size (form_of t).one) (p + 3 + size (form_of t).one) (form_of t).two (λ z. two_from m (p + 3) (size (form_of t).one)) in
      rw (ne_eqb t 0x11 n, ne_eqb t 0x31 k, one, other) e

-- ---- Types

pub built_in_named : (types : Types) (ss : List (List ℕ)) (n : ℕ) {x : List ℕ} {b : Bool} → x ≡ string_at ss n → b ≡ is_built_in_text types x → b ≡ is_built_in types ss n
unfolding is_built_in is_built_in_text
built_in_named types ss n named told = told ∙ ap (λ (x : List ℕ). any (same_bytes x) (built_in_types types)) named

module _ (types : Types) (ss : List (List ℕ)) (m : List ℕ) (p t : ℕ) where
  pub type_built_in : {n : ℕ} {b : Bool} → t ≡ 0x25 → n ≡ two m (p + 3) → b ≡ is_built_in types ss n → b ≡ type_right types ss t (drop (p + 3) m)
  unfolding type_right
  type_built_in e en eb = rw (eq-eqb t 0x25 e, first_two m (p + 3), ← en) eb

  pub type_defined : {n : ℕ} {b : Bool} → t ≡ 0x27 → n ≡ two m (p + 3) → b ≡ is_built_in types ss n → not b ≡ type_right types ss t (drop (p + 3) m)
  unfolding type_right
  type_defined e en eb = rw (ne_eqb t 0x25 (λ z. omega arith), eq-eqb t 0x27 e, first_two m (p + 3), ← en) (ap not eb)

  pub no_type : (t ≡ 0x25 → ⊥) → (t ≡ 0x27 → ⊥) → true ≡ type_right types ss t (drop (p + 3) m)
  unfolding type_right
  no_type n k = rw (ne_eqb t 0x25 n, ne_eqb t 0x27 k)

-- ---- Labels

pub below_constants : (t : ℕ) → t < 0x10 → is_constant t ≡ false
below_constants t h = rw (lt-leb 0x10 t h)

pub above_constants : (t : ℕ) → 0x12 < t → is_constant t ≡ false
above_constants t h = rw (lt-leb t 0x12 h) (and_false (leb 0x10 t))
  where
    and_false : (b : Bool) → (b && false) ≡ false
    and_false true = refl
    and_false false = refl

pub among_constants : (t : ℕ) → 0x10 ≤ t → t ≤ 0x12 → is_constant t ≡ true
among_constants t l h = rw (le-leb 0x10 t l, le-leb t 0x12 h)

module _ (m : List ℕ) (l p t : ℕ) where
  pub label_kept : t ≡ byte m p → is_constant t ≡ false → l ≡ label_behind m l p
  unfolding label_behind
  label_kept et e = sym (ap (λ (c : Bool). pick c (byte m (p + 3)) l) (ap is_constant (sym et) ∙ e))

  pub label_new : {b : ℕ} → t ≡ byte m p → is_constant t ≡ true → b ≡ byte m (p + 3) → b ≡ label_behind m l p
  unfolding label_behind
  label_new et e eb = eb ∙ sym (ap (λ (c : Bool). pick c (byte m (p + 3)) l) (ap is_constant (sym et) ∙ e))

-- a constant's label is not below that of the one before it where the last label does not fall
module _ (ss : List (List ℕ)) (m : List ℕ) (l p : ℕ) {t k : ℕ} (et : t ≡ byte m p) (ek : k ≡ label_behind m l p) where
  pub label_falls : k < l → label_right ss l t (drop (p + 3) m) ≡ false
  unfolding label_right label_behind
  label_falls h = rw et (go (is_constant (byte m p)) ek)
    where
      go : (c : Bool) → k ≡ pick c (byte m (p + 3)) l → (not c || leb l (byte (drop (p + 3) m) 0)) ≡ false
      go true e = ap (leb l) (first_byte m (p + 3)) ∙ lt-leb l (byte m (p + 3)) (omega arith)
      go false e = absurd (omega arith)

  pub label_rises : l ≤ k → label_right ss l t (drop (p + 3) m) ≡ true
  unfolding label_right label_behind
  label_rises h = rw et (go (is_constant (byte m p)) ek)
    where
      go : (c : Bool) → k ≡ pick c (byte m (p + 3)) l → (not c || leb l (byte (drop (p + 3) m) 0)) ≡ true
      go true e = ap (leb l) (first_byte m (p + 3)) ∙ le-leb l (byte m (p + 3)) (omega arith)
      go false e = refl

-- ---- The field

module _ (types : Types) (ss : List (List ℕ)) (m : List ℕ) (l p : ℕ) {t : ℕ} {a : Bool} (et : t ≡ byte m p) (ea : a ≡ label_right ss l t (drop (p + 3) m)) where
  by_tests : prints_at types m ss l p ≡ (a && (names_spellable ss t (drop (p + 3) m) && type_right types ss t (drop (p + 3) m)))
  unfolding prints_at
  by_tests = rw (← et, ← ea)

  pub label_wrong : a ≡ false → false ≡ prints_at types m ss l p
  label_wrong h = sym (by_tests ∙ rw h)

  pub names_wrong : {b : Bool} → a ≡ true → b ≡ names_spellable ss t (drop (p + 3) m) → b ≡ false → false ≡ prints_at types m ss l p
  names_wrong h eb k = sym (by_tests ∙ rw (h, ← eb, k))

  pub type_decides : {b c : Bool} → a ≡ true → b ≡ names_spellable ss t (drop (p + 3) m) → b ≡ true → c ≡ type_right types ss t (drop (p + 3) m) → c ≡ prints_at types m ss l p
  type_decides h eb k ec = ec ∙ sym (by_tests ∙ rw (h, ← eb, k))
