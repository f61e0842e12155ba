-- What the bound of the stack counts: fields and brackets that the symbols will close, and those that the actions open and close.
use Prim.Native.Nat.{ℕ, zero, suc, ◌+◌, ◌≤◌}
use mathlib.Core.Path.{◌≡◌, refl, subst}
use mathlib.Core.Bool.{Bool, true, false}
use mathlib.Core.List.{List, [], ◌∷◌, ◌++◌}
use mathlib.Core.Option.{Option, none, some}
use native.Mathlib.Omega.{arith}
use lib.Dec.{leb, ltb, eqb}
use lib.ListN.{length}
use borrow.Author.Tests.{leb-true, ltb-true}
use Rattle.rules.specs.Bytes.{pick}
use Rattle.rules.specs.Types.{Types}
use Rattle.notation.specs.Tokens.{Lexeme, place_of, token_of}
use Rattle.notation.specs.Building.{name, Piece, Node, node, Nodes, empty, ◌▸◌, height, Frame, frame, leaf, spelled, in_front, Build, build, Action, begin, begin_resource, around, instead, close, constant, read, named, parent_first, void, enter, leave, added, added_first, begun, act, acts}
use Rattle.notation.specs.Grammar.{Symbol, sign, a_name, expression, operators, read_or_word, close_bracket, one, maybe, further, statements, block, otherwise, branches, items, class_rest, parameters, default_value, a_constant, inherits, parent, devices, device, more_devices, ends}
use Rattle.notation.proofs.NeedsKept.{none_not_some, same_result}

-- how many entries of a list have the number m
abbrev pub count : {A : Type 0} → (A → ℕ) → ℕ → List A → ℕ
count f m [] = 0
count f m (x ∷ xs) = pick (eqb (f x) m) 1 0 + count f m xs

-- of two lists, one after the other
pub count_append : {A : Type 0} (f : A → ℕ) (m : ℕ) (xs ys : List A) → count f m (xs ++ ys) ≡ count f m xs + count f m ys
count_append f m [] ys = omega arith
count_append f m (x ∷ xs) ys = let others = count_append f m xs ys in omega arith

-- ---- Symbols

-- 0 ends a field, 1 a bracket, 2 are the items. Any other number is 2 more than the symbol's weight: at least that of what its rows leave behind the
-- last field or bracket that they close
abbrev pub rank : Symbol → ℕ
rank (sign s) = 3
rank a_name = 3
rank (expression l) = 4
rank (operators l m) = 3
rank read_or_word = 3
rank close_bracket = 1
rank (one e) = 3
rank (maybe e) = 3
rank (further e) = 3
rank statements = 3
rank block = 3
rank otherwise = 3
rank branches = 3
rank items = 2
rank class_rest = 3
rank parameters = 4
rank default_value = 3
rank a_constant = 3
rank inherits = 3
rank parent = 3
rank devices = 4
rank device = 3
rank more_devices = 3
rank ends = 0

-- ---- Actions

-- 1 opens a field, 2 closes one, 3 opens a bracket, 4 closes one; any other changes neither
abbrev pub effect : Action → ℕ
effect (begin t) = 1
effect begin_resource = 1
effect (around t h) = 1
effect (instead t) = 1
effect close = 2
effect constant = 0
effect read = 0
effect named = 0
effect parent_first = 0
effect (void t) = 0
effect enter = 3
effect leave = 4

-- the fields around the one being read, and the brackets that are open
abbrev pub fields_open : Build → ℕ
fields_open (build b f fs) = length fs

abbrev pub brackets_open : Build → ℕ
brackets_open (build b f fs) = b

-- at most 32 brackets are open, and at most 32 fields are around the one being read, which is one of them where it has a part
abbrev part_level : Nodes → ℕ
part_level empty = 0
part_level (ks ▸ k) = 1

abbrev pub Low : Build → Type 0
Low (build b (frame p t h ks) fs) = (b ≤ 32) × (length fs + part_level ks ≤ 32)

-- from f to g, fields and brackets are opened and closed as the actions say, and g is low if f is
pub record Changed (ds : List Action) (f g : Build) : Type 0 where
  pub fields : fields_open g + count effect 2 ds ≡ fields_open f + count effect 1 ds
  pub brackets : brackets_open g + count effect 4 ds ≡ brackets_open f + count effect 3 ds
  pub low : Low f → Low g

-- what passes a test is what was tested
passed : (b : Bool) (f g : Build) → ◌≡◌ {A = Option Build} (pick b (some f) none) (some g) → (f ≡ g) × (b ≡ true)
passed true f g e = (same_result f g e, refl)
passed false f g e = none_not_some e

-- a part in front is a part
front_part : (k : Node) (ks : Nodes) → part_level (in_front k ks) ≡ 1
unfolding in_front
front_part k empty = refl
front_part k (ks ▸ j) = refl

module _ (types : Types) (x : Lexeme) where
  -- by a test, by that of the levels, and without one
  tested : (a : Action) (b : Bool) (f h g : Build) → (b ≡ true → Changed (a ∷ []) f h) → ◌≡◌ {A = Option Build} (pick b (some h) none) (some g) → Changed (a ∷ []) f g
  tested a b f h g c e = let p = passed b h g e in subst (Changed (a ∷ []) f) p.0 (c p.1)

  fitting_in : (a : Action) (n : ℕ) (f h g : Build) → (n ≤ 32 → Changed (a ∷ []) f h) → ◌≡◌ {A = Option Build} (pick (leb n 32) (some h) none) (some g) → Changed (a ∷ []) f g
  fitting_in a n f h g c e = tested a (leb n 32) f h g (λ l. c (leb-true n 32 l)) e

  plainly : (a : Action) (f h g : Build) → Changed (a ∷ []) f h → ◌≡◌ {A = Option Build} (some h) (some g) → Changed (a ∷ []) f g
  plainly a f h g c e = subst (Changed (a ∷ []) f) (same_result h g e) c

  -- a field begins; a part is added
  begins : (a : Action) → effect a ≡ 1 → (p t b : ℕ) (f : Frame) (fs : List Frame) (g : Build) → begun p t (build b f fs) ≡ some g → Changed (a ∷ []) (build b f fs) g
  unfolding begun
  begins a i p t b (frame q u h ks) fs g e = fitting_in a (length fs + 1) _ _ g (λ l. record { fields = rw i (omega arith); brackets = rw i; low = λ w. (w.0, omega arith) }) e

  adds : (a : Action) → effect a ≡ 0 → (b q u : ℕ) (h : List Piece) (ks js : Nodes) (fs : List Frame) (g : Build) → part_level js ≤ 1 → ◌≡◌ {A = Option Build} (pick (leb (length fs + 1) 32) (some (build b (frame q u h js) fs)) none) (some g) → Changed (a ∷ []) (build b (frame q u h ks) fs) g
  adds a i b q u h ks js fs g m e = fitting_in a (length fs + 1) _ _ g (λ l. record { fields = rw i; brackets = rw i; low = λ w. (w.0, omega arith) }) e

  -- one action
  act_changed : (a : Action) (f g : Build) → act types a x f ≡ some g → Changed (a ∷ []) f g
  unfolding act added added_first height
  act_changed (begin t) (build b f fs) g e = begins (begin t) refl _ _ b f fs g e
  act_changed begin_resource (build b f fs) g e = begins begin_resource refl _ _ b f fs g e
  act_changed (around t h) (build b (frame q u i empty) fs) g e = none_not_some e
  act_changed (around t h) (build b (frame q u i (ks ▸ node p v j js)) fs) g e = fitting_in (around t h) (suc (length fs) + height (node p v j js)) _ _ g (λ l. record { fields = omega arith; brackets = refl; low = λ w. (w.0, omega arith) }) e
  act_changed (instead t) (build b (frame q u i empty) fs) g e = none_not_some e
  act_changed (instead t) (build b (frame q u i (ks ▸ node p v h js)) fs) g e = plainly (instead t) _ _ g (record { fields = omega arith; brackets = refl; low = λ w. (w.0, omega (arith, w.1)) }) e
  act_changed close (build b (frame q u i ks) []) g e = none_not_some e
  act_changed close (build b (frame p t h ks) (frame q u i js ∷ fs)) g e = plainly close _ _ g (record { fields = omega arith; brackets = refl; low = λ w. (w.0, omega (arith, w.1)) }) e
  act_changed constant (build b (frame q u i ks) fs) g e = adds constant refl b q u i ks _ fs g (omega arith) e
  act_changed read (build b (frame q u i ks) fs) g e = adds read refl b q u i ks _ fs g (omega arith) e
  act_changed named (build b (frame q u i ks) fs) g e = plainly named _ _ g (record { fields = refl; brackets = refl; low = λ w. w }) e
  act_changed parent_first (build b (frame q u i ks) fs) g e = adds parent_first refl b q u i ks _ fs g (omega (arith, front_part (leaf (place_of x) 0x35 (name (spelled (token_of x)) ∷ [])) ks)) e
  act_changed (void t) (build b (frame q u i ks) fs) g e = adds (void t) refl b q u i ks _ fs g (omega arith) e
  act_changed enter (build b (frame q u i ks) fs) g e = tested enter (ltb b 32) _ _ g (λ l. record { fields = refl; brackets = omega arith; low = λ w. (omega (arith, ltb-true b 32 l), w.1) }) e
  act_changed leave (build zero (frame q u i ks) fs) g e = none_not_some e
  act_changed leave (build (suc b) (frame q u i ks) fs) g e = plainly leave _ _ g (record { fields = refl; brackets = omega arith; low = λ w. (omega (arith, w.0), w.1) }) e

  -- some actions
  pub acts_changed : (ds : List Action) (f g : Build) → acts types ds x f ≡ some g → Changed ds f g
  unfolding acts
  acts_changed [] f g e = subst (Changed [] f) (same_result f g e) (record { fields = refl; brackets = refl; low = λ w. w })
  acts_changed (a ∷ ds) f g e = go (act types a x f) refl (λ h i. acts_changed ds h g i) e
    where
      go : (o : Option Build) → act types a x f ≡ o → ((h : Build) → acts types ds x h ≡ some g → Changed ds h g) → ◌≡◌ {A = Option Build} (elim o as (λ q. Option Build) [ none ↦ none | some h ↦ acts types ds x h ]) (some g) → Changed (a ∷ ds) f g
      go none h others e = none_not_some e
      go (some i) h others e =
          let first = act_changed a f i h in
          let rest = others i e in
          record { fields = omega (arith, first.fields, rest.fields); brackets = omega (arith, first.brackets, rest.brackets); low = λ w. rest.low (first.low w) }

-- how many fields and brackets are open where a build is low
pub low_fields : (f : Build) → Low f → fields_open f ≤ 32
low_fields (build b (frame p t h ks) fs) w = omega (arith, w.1)

-- and brackets
pub low_brackets : (f : Build) → Low f → brackets_open f ≤ 32
low_brackets (build b (frame p t h ks) fs) w = w.0
