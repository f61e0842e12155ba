-- No field of a tree that a text builds is deeper than 32 levels: each action that begins or adds a field asks for it.
use Prim.Native.Nat.{ℕ, zero, suc, ◌+◌, ◌≤◌, max}
use mathlib.Core.Path.{◌≡◌, refl, subst}
use mathlib.Core.Bool.{Bool, true, false}
use mathlib.Core.List.{List, [], ◌∷◌}
use mathlib.Core.Option.{Option, none, some}
use native.Mathlib.Omega.{arith}
use lib.Dec.{leb, ltb}
use lib.ListN.{length}
use borrow.Author.Tests.{leb-true}
use Rattle.rules.specs.Bytes.{pick}
use Rattle.rules.specs.Types.{Types}
use Rattle.notation.specs.Tokens.{Lexeme, lexeme, word, number, text, variable, top_variable, class_variable, mark, token_of, place_of}
use Rattle.notation.specs.Building.{name, Node, node, Nodes, empty, ◌▸◌, height, tallest, Frame, frame, Build, build, Action, begin, begin_resource, around, instead, close, constant, read, named, parent_first, void, enter, leave, leaf, spelled, constant_node, variable_node, added, added_first, in_front, begun, act, acts, start}
use Rattle.notation.specs.Grammar.{Symbol, Reads, done, takes, leaves, manifest, built, reading}
use Rattle.notation.proofs.Machine.{sound}
use Rattle.notation.proofs.NeedsKept.{none_not_some, same_result}

-- the fields that are read have room: those of the field being read, and those of the ones around it
abbrev pub Room : List Frame → Type 0
Room [] = Unit {0}
Room (frame p t h ks ∷ fs) = (length fs + tallest ks ≤ 32) × Room fs

-- all of what is built has room
abbrev pub InRoom : Build → Type 0
InRoom (build b f fs) = Room (f ∷ fs)

-- what fits has room
room_picked : (b : Bool) (f g : Build) → (b ≡ true → InRoom f) → ◌≡◌ {A = Option Build} (pick b (some f) none) (some g) → InRoom g
room_picked true f g r e = subst InRoom (same_result f g e) (r refl)
room_picked false f g r e = none_not_some e

-- what is within the levels has room
room_fitted : (n : ℕ) (f g : Build) → (n ≤ 32 → InRoom f) → ◌≡◌ {A = Option Build} (pick (leb n 32) (some f) none) (some g) → InRoom g
room_fitted n f g r e = room_picked (leb n 32) f g (λ t. r (leb-true n 32 t)) e

-- fields of one token have one level
constant_height : (x : Lexeme) → height (constant_node x) ≡ 1
unfolding constant_node height
constant_height (lexeme p l (word w)) = refl
constant_height (lexeme p l (number z)) = refl
constant_height (lexeme p l (text s)) = refl
constant_height (lexeme p l (variable n)) = refl
constant_height (lexeme p l (top_variable n)) = refl
constant_height (lexeme p l (class_variable c n)) = refl
constant_height (lexeme p l (mark k)) = refl

-- so have variables
variable_height : (x : Lexeme) → height (variable_node x) ≡ 1
unfolding variable_node height
variable_height (lexeme p l (word w)) = refl
variable_height (lexeme p l (number z)) = refl
variable_height (lexeme p l (text s)) = refl
variable_height (lexeme p l (variable n)) = refl
variable_height (lexeme p l (top_variable n)) = refl
variable_height (lexeme p l (class_variable c n)) = refl
variable_height (lexeme p l (mark k)) = refl

-- a field in front counts as one behind
front_tallest : (k : Node) (ks : Nodes) → tallest (in_front k ks) ≡ max (tallest ks) (height k)
unfolding in_front height
front_tallest k empty = refl
front_tallest k (ks ▸ j) = let others = front_tallest k ks in omega arith

module _ (types : Types) (x : Lexeme) where
  -- one action keeps room
  room_act : (a : Action) (f g : Build) → act types a x f ≡ some g → InRoom f → InRoom g
  unfolding act added added_first begun height
  room_act (begin t) (build b (frame q u i ks) fs) g e w = room_fitted (length fs + 1) _ g (λ l. (omega arith, w)) e
  room_act begin_resource (build b (frame q u i ks) fs) g e w = room_fitted (length fs + 1) _ g (λ l. (omega arith, w)) e
  room_act (around t h) (build b (frame q u i empty) fs) g e w = none_not_some e
  room_act (around t h) (build b (frame q u i (ks ▸ k)) fs) g e w = let here = w.0 in room_fitted (suc (length fs) + height k) _ g (λ l. (omega arith, (omega arith, w.1))) e
  room_act (instead t) (build b (frame q u i empty) fs) g e w = none_not_some e
  room_act (instead t) (build b (frame q u i (ks ▸ node p v h js)) fs) g e w = let here = w.0 in subst InRoom (same_result _ g e) (omega arith, (omega arith, w.1))
  room_act close (build b (frame q u i ks) []) g e w = none_not_some e
  room_act close (build b (frame p t h ks) (frame q u i js ∷ fs)) g e w = let here = w.0 in let around-it = w.1.0 in subst InRoom (same_result _ g e) (omega arith, w.1.1)
  room_act constant (build b (frame q u i ks) fs) g e w = let here = w.0 in room_fitted (length fs + 1) _ g (λ l. (omega (arith, constant_height x), w.1)) e
  room_act read (build b (frame q u i ks) fs) g e w = let here = w.0 in room_fitted (length fs + 1) _ g (λ l. (omega (arith, variable_height x), w.1)) e
  room_act named (build b (frame q u i ks) fs) g e w = subst InRoom (same_result _ g e) w
  room_act parent_first (build b (frame q u i ks) fs) g e w = let here = w.0 in room_fitted (length fs + 1) _ g (λ l. (omega (arith, front_tallest (leaf (place_of x) 0x35 (name (spelled (token_of x)) ∷ [])) ks), w.1)) e
  room_act (void t) (build b (frame q u i ks) fs) g e w = let here = w.0 in room_fitted (length fs + 1) _ g (λ l. (omega arith, w.1)) e
  room_act enter (build b (frame q u i ks) fs) g e w = room_picked (ltb b 32) _ g (λ l. w) e
  room_act leave (build zero (frame q u i ks) fs) g e w = none_not_some e
  room_act leave (build (suc b) (frame q u i ks) fs) g e w = subst InRoom (same_result _ g e) w

  -- some actions
  room_acts : (ds : List Action) (f g : Build) → acts types ds x f ≡ some g → InRoom f → InRoom g
  unfolding acts
  room_acts [] f g e w = subst InRoom (same_result f g e) w
  room_acts (a ∷ ds) f g e w = go (act types a x f) refl (λ h i v. room_acts ds h g i v) e
    where
      go : (o : Option Build) → act types a x f ≡ o → ((h : Build) → acts types ds x h ≡ some g → InRoom h → InRoom g) → ◌≡◌ {A = Option Build} (elim o as (λ q. Option Build) [ none ↦ none | some h ↦ acts types ds x h ]) (some g) → InRoom g
      go none h others e = none_not_some e
      go (some i) h others e = others i e (room_act a f i h w)

-- a reading keeps room
room_read : (types : Types) {k : List Symbol} {xs : List Lexeme} {f g : Build} → Reads types k xs f g → InRoom f → InRoom g
room_read types done w = w
room_read types (takes {ds = ds} {x = x} {f = f} {f' = h} e i r) w = room_read types r (room_acts types x ds f h i w)
room_read types (leaves {ds = ds} {x = x} {f = f} {f' = h} e i r) w = room_read types r (room_acts types x ds f h i w)

-- the tree that a text builds has at most 32 levels
pub tree_depth : (types : Types) (xs : List Lexeme) (g : Build) → reading types xs ≡ built g → InRoom g
unfolding reading height
tree_depth types xs g e = room_read types (sound types xs manifest start g e) (omega arith, tt)
