-- The labels of the constants in a tree that a text builds rise in the order of the tree, where the lines of its tokens do.
use Prim.Native.Nat.{ℕ, zero, suc, ◌+◌, ◌≤◌}
use mathlib.Core.Path.{◌≡◌, refl, subst}
use mathlib.Core.Bool.{Bool, true, false, not}
use mathlib.Core.List.{List, [], ◌∷◌}
use mathlib.Core.Option.{Option, none, some}
use native.Mathlib.Omega.{arith}
use lib.Dec.{leb, ltb}
use lib.ListN.{length}
use Rattle.rules.specs.Bytes.{pick}
use Rattle.rules.specs.Format.{is_constant}
use Rattle.rules.specs.Evaluate.{any}
use Rattle.rules.specs.Types.{Types, built_in_types}
use Rattle.rules.specs.Compile.{same_bytes}
use Rattle.rules.proofs.Lists.{both_left, both_right}
use Rattle.rules.proofs.Within.{false_not_true}
use Rattle.notation.specs.Tokens.{word, number, text, variable, top_variable, class_variable, mark, Lexeme, lexeme, kind, token_of, line_of}
use Rattle.notation.specs.Building.{Piece, Node, node, Nodes, empty, ◌▸◌, height, Frame, frame, Build, build, Action, begin, begin_resource, around, instead, close, constant, read, named, parent_first, void, enter, leave, leaf, spelled, constant_node, variable_node, resource_tag, added, added_first, in_front, begun, act, acts, start}
use Rattle.notation.specs.Grammar.{Symbol, Reads, done, takes, leaves, manifest, built, reading}
use Rattle.notation.specs.Convert.{label_in}
use Rattle.notation.proofs.Machine.{sound}
use Rattle.notation.proofs.NeedsKept.{none_not_some, same_result}
use Rattle.notation.proofs.PlainActions.{plain_action, plain_actions, row_plain, left_out_plain}

-- ---- Labels that rise

-- behind the label i a field's constants rise up to the label j; and those of fields
mutual
  pub data Rises : ℕ → Node → ℕ → Type 0 where
    rises_plain : {i j p t : ℕ} {h : List Piece} {ks : Nodes} → is_constant t ≡ false → AllRise i ks j → Rises i (node p t h ks) j
    rises_constant : {i j p t : ℕ} {h : List Piece} → is_constant t ≡ true → label_in h ≡ j → i ≤ j → Rises i (leaf p t h) j

  pub data AllRise : ℕ → Nodes → ℕ → Type 0 where
    none_rise : {i : ℕ} → AllRise i empty i
    also_rise : {i j l : ℕ} {ks : Nodes} {k : Node} → AllRise i ks j → Rises j k l → AllRise i (ks ▸ k) l

-- so do those of the fields being read, from the outermost one on
data FramesRise : List Frame → ℕ → Type 0 where
  no_frame : FramesRise [] 0
  in_frame : {p t i j : ℕ} {h : List Piece} {ks : Nodes} {fs : List Frame} → is_constant t ≡ false → FramesRise fs i → AllRise i ks j → FramesRise (frame p t h ks ∷ fs) j

-- labels do not fall
mutual
  not_fallen : {i j : ℕ} {k : Node} → Rises i k j → i ≤ j
  not_fallen (rises_plain c r) = none_fallen r
  not_fallen (rises_constant c e l) = l

  none_fallen : {i j : ℕ} {ks : Nodes} → AllRise i ks j → i ≤ j
  none_fallen none_rise = omega arith
  none_fallen (also_rise r l) = omega (arith, none_fallen r, not_fallen l)

-- what is read rises up to a label that is at most n
record UpTo (n : ℕ) (f : List Frame) : Type 0 where
  last : ℕ
  rise : FramesRise f last
  below : last ≤ n

-- a field rises from the label i up to one that is at most n
data UpToNode (n i : ℕ) (k : Node) : Type 0 where
  up_to_node : {j : ℕ} → Rises i k j → j ≤ n → UpToNode n i k

-- the same of all that is built
abbrev BuiltUpTo : ℕ → Build → Type 0
BuiltUpTo n (build b f fs) = UpTo n (f ∷ fs)

-- ---- Actions

-- a field without constants leaves the label as it is
plain_leaf : {i p t : ℕ} {h : List Piece} → is_constant t ≡ false → Rises i (leaf p t h) i
plain_leaf c = rises_plain c none_rise

-- such a field in front leaves the others as they are
rise_front : {i j : ℕ} {ks : Nodes} {k : Node} → ((l : ℕ) → Rises l k l) → AllRise i ks j → AllRise i (in_front k ks) j
unfolding in_front
rise_front f (none_rise {i = i}) = also_rise none_rise (f i)
rise_front f (also_rise r l) = also_rise (rise_front f r) l

module _ {p t : ℕ} {h : List Piece} {ks : Nodes} {fs : List Frame} where
  -- one field more
  frame_more : {j l : ℕ} {k : Node} → FramesRise (frame p t h ks ∷ fs) j → Rises j k l → FramesRise (frame p t h (ks ▸ k) ∷ fs) l
  frame_more (in_frame c r i) a = in_frame c r (also_rise i a)

  -- a field without constants in front
  frame_front : {j : ℕ} {k : Node} → FramesRise (frame p t h ks ∷ fs) j → ((l : ℕ) → Rises l k l) → FramesRise (frame p t h (in_front k ks) ∷ fs) j
  frame_front (in_frame c r i) f = in_frame c r (rise_front f i)

  -- another head
  frame_head : {j : ℕ} {g : List Piece} → FramesRise (frame p t h ks ∷ fs) j → FramesRise (frame p t g ks ∷ fs) j
  frame_head (in_frame c r i) = in_frame c r i

  -- a field around the last one
  frame_around : {j q u : ℕ} {g : List Piece} {k : Node} → is_constant u ≡ false → FramesRise (frame p t h (ks ▸ k) ∷ fs) j → FramesRise (frame q u g (empty ▸ k) ∷ frame p t h ks ∷ fs) j
  frame_around d (in_frame c r (also_rise i a)) = in_frame d (in_frame c r i) (also_rise none_rise a)

  -- a field instead of the last one
  frame_instead : {n j q u : ℕ} {g : List Piece} {k : Node} → is_constant u ≡ false → j ≤ n → FramesRise (frame p t h (ks ▸ k) ∷ fs) j → UpTo n (frame q u g empty ∷ frame p t h ks ∷ fs)
  frame_instead d l (in_frame {j = j} c r (also_rise {j = i} a x)) = record { last = i; rise = in_frame d (in_frame c r a) none_rise; below = omega (arith, not_fallen x) }

  -- a field ends
  frame_closed : {j q u : ℕ} {g : List Piece} {js : Nodes} → FramesRise (frame q u g js ∷ frame p t h ks ∷ fs) j → FramesRise (frame p t h (ks ▸ node q u g js) ∷ fs) j
  frame_closed (in_frame d (in_frame c r i) a) = in_frame c r (also_rise i (rises_plain d a))

-- no tag of a constant
pub plain_tag : (t : ℕ) → not (is_constant t) ≡ true → is_constant t ≡ false
plain_tag t e = go (is_constant t) e
  where
    go : (b : Bool) → not b ≡ true → b ≡ false
    go true e = false_not_true e
    go false e = refl

-- no resource has the tag of a constant
pub resource_plain : (types : Types) (w : List ℕ) → is_constant (resource_tag types w) ≡ false
unfolding resource_tag
resource_plain types w = go (any (same_bytes w) (built_in_types types))
  where
    go : (b : Bool) → is_constant (pick b 0x25 0x27) ≡ false
    go true = refl
    go false = refl

-- the token's constant has its line for a label
constant_rises : (x : Lexeme) (i : ℕ) → i ≤ line_of x → UpToNode (line_of x) i (constant_node x)
unfolding constant_node
constant_rises (lexeme p l (word w)) i e = up_to_node (rises_constant refl refl e) (omega arith)
constant_rises (lexeme p l (number z)) i e = up_to_node (rises_constant refl refl e) (omega arith)
constant_rises (lexeme p l (text s)) i e = up_to_node (rises_constant refl refl e) (omega arith)
constant_rises (lexeme p l (variable n)) i e = up_to_node (plain_leaf refl) e
constant_rises (lexeme p l (top_variable n)) i e = up_to_node (plain_leaf refl) e
constant_rises (lexeme p l (class_variable c n)) i e = up_to_node (plain_leaf refl) e
constant_rises (lexeme p l (mark k)) i e = up_to_node (rises_constant refl refl e) (omega arith)

-- a variable has none
variable_rises : (x : Lexeme) (i : ℕ) → Rises i (variable_node x) i
unfolding variable_node
variable_rises (lexeme p l (word w)) i = plain_leaf refl
variable_rises (lexeme p l (number z)) i = plain_leaf refl
variable_rises (lexeme p l (text s)) i = plain_leaf refl
variable_rises (lexeme p l (variable n)) i = plain_leaf refl
variable_rises (lexeme p l (top_variable n)) i = plain_leaf refl
variable_rises (lexeme p l (class_variable c n)) i = plain_leaf refl
variable_rises (lexeme p l (mark k)) i = plain_leaf refl

-- what fits rises
up_to_fitted : (n : ℕ) (c : Bool) (f g : Build) → BuiltUpTo n f → ◌≡◌ {A = Option Build} (pick c (some f) none) (some g) → BuiltUpTo n g
up_to_fitted n true f g u e = subst (BuiltUpTo n) (same_result f g e) u
up_to_fitted n false f g u e = none_not_some e

-- behind a constant
up_to_constant : {n i p t : ℕ} {h : List Piece} {ks : Nodes} {k : Node} {fs : List Frame} → FramesRise (frame p t h ks ∷ fs) i → UpToNode n i k → UpTo n (frame p t h (ks ▸ k) ∷ fs)
up_to_constant r (up_to_node {j = j} a l) = record { last = j; rise = frame_more r a; below = l }

module _ (types : Types) (x : Lexeme) where
  -- the line of the token
  abbrev Line : ℕ
  Line = line_of x

  -- one action keeps labels rising up to it
  up_to_act : (a : Action) (f g : Build) → plain_action a ≡ true → act types a x f ≡ some g → BuiltUpTo Line f → BuiltUpTo Line g
  unfolding act added added_first begun
  up_to_act (begin t) (build b f fs) g c e u = up_to_fitted Line (leb (length fs + 1) 32) _ g (record { last = u.last; rise = in_frame (plain_tag t c) u.rise none_rise; below = u.below }) e
  up_to_act begin_resource (build b f fs) g c e u = up_to_fitted Line (leb (length fs + 1) 32) _ g (record { last = u.last; rise = in_frame (resource_plain types (spelled (token_of x))) u.rise none_rise; below = u.below }) e
  up_to_act (around t h) (build b (frame q v i empty) fs) g c e u = none_not_some e
  up_to_act (around t h) (build b (frame q v i (ks ▸ k)) fs) g c e u = up_to_fitted Line (leb (suc (length fs) + height k) 32) _ g (record { last = u.last; rise = frame_around (plain_tag t c) u.rise; below = u.below }) e
  up_to_act (instead t) (build b (frame q v i empty) fs) g c e u = none_not_some e
  up_to_act (instead t) (build b (frame q v i (ks ▸ node p w h js)) fs) g c e u = subst (BuiltUpTo Line) (same_result _ g e) (frame_instead (plain_tag t c) u.below u.rise)
  up_to_act close (build b (frame q v i ks) []) g c e u = none_not_some e
  up_to_act close (build b (frame p t h ks) (frame q v i js ∷ fs)) g c e u = subst (BuiltUpTo Line) (same_result _ g e) (record { last = u.last; rise = frame_closed u.rise; below = u.below })
  up_to_act constant (build b (frame q v i ks) fs) g c e u = up_to_fitted Line (leb (length fs + 1) 32) _ g (up_to_constant u.rise (constant_rises x u.last u.below)) e
  up_to_act read (build b (frame q v i ks) fs) g c e u = up_to_fitted Line (leb (length fs + 1) 32) _ g (record { last = u.last; rise = frame_more u.rise (variable_rises x u.last); below = u.below }) e
  up_to_act named (build b (frame q v i ks) fs) g c e u = subst (BuiltUpTo Line) (same_result _ g e) (record { last = u.last; rise = frame_head u.rise; below = u.below })
  up_to_act parent_first (build b (frame q v i ks) fs) g c e u = up_to_fitted Line (leb (length fs + 1) 32) _ g (record { last = u.last; rise = frame_front u.rise (λ l. plain_leaf refl); below = u.below }) e
  up_to_act (void t) (build b (frame q v i ks) fs) g c e u = up_to_fitted Line (leb (length fs + 1) 32) _ g (record { last = u.last; rise = frame_more u.rise (plain_leaf (plain_tag t c)); below = u.below }) e
  up_to_act enter (build b f fs) g c e u = up_to_fitted Line (ltb b 32) _ g u e
  up_to_act leave (build zero f fs) g c e u = none_not_some e
  up_to_act leave (build (suc b) f fs) g c e u = subst (BuiltUpTo Line) (same_result _ g e) u

  -- some actions
  up_to_acts : (ds : List Action) (f g : Build) → plain_actions ds ≡ true → acts types ds x f ≡ some g → BuiltUpTo Line f → BuiltUpTo Line g
  unfolding acts
  up_to_acts [] f g c e u = subst (BuiltUpTo Line) (same_result f g e) u
  up_to_acts (a ∷ ds) f g c e u = go (act types a x f) refl (λ h i v. up_to_acts ds h g (both_right (plain_action a) (plain_actions ds) c) i v) e
    where
      go : (o : Option Build) → act types a x f ≡ o → ((h : Build) → acts types ds x h ≡ some g → BuiltUpTo Line h → BuiltUpTo Line g) → ◌≡◌ {A = Option Build} (elim o as (λ q. Option Build) [ none ↦ none | some h ↦ acts types ds x h ]) (some g) → BuiltUpTo Line g
      go none h others e = none_not_some e
      go (some i) h others e = others i e (up_to_act a f i (both_left (plain_action a) (plain_actions ds) c) h u)

-- ---- The whole

-- the lines of tokens rise from n on
pub data Lines : ℕ → List Lexeme → Type 0 where
  no_line : {n : ℕ} → Lines n []
  next_line : {n : ℕ} {x : Lexeme} {xs : List Lexeme} → n ≤ line_of x → Lines (line_of x) xs → Lines n (x ∷ xs)

-- a higher line
up_to_line : {n m : ℕ} (f : Build) → n ≤ m → BuiltUpTo n f → BuiltUpTo m f
up_to_line (build b f fs) l u = let below = u.below in record { last = u.last; rise = u.rise; below = omega arith }

-- of what is built all labels rise
record BuiltRise (g : Build) : Type 0 where
  line : ℕ
  up : BuiltUpTo line g

-- a reading
rise_read : (types : Types) {k : List Symbol} {xs : List Lexeme} {f g : Build} {n : ℕ} → Reads types k xs f g → Lines n xs → BuiltUpTo n f → BuiltRise g
rise_read types {n = n} done l u = record { line = n; up = u }
rise_read types (takes {s = s} {ss = ss} {ds = ds} {x = x} {f = f} {f' = h} e i r) (next_line l ls) u = rise_read types r ls (up_to_acts types x ds f h (row_plain s (kind (token_of x)) ds ss e) i (up_to_line f l u))
rise_read types (leaves {s = s} {ds = ds} {x = x} {f = f} {f' = h} e i r) (next_line l ls) u = rise_read types r (next_line (omega arith) ls) (up_to_acts types x ds f h (left_out_plain s ds e) i (up_to_line f l u))

-- the labels of the items of a text rise
pub record ItemsRise (ks : Nodes) : Type 0 where
  pub last : ℕ
  pub rise : AllRise 0 ks last

-- those of the outermost field
items_rise : {p t j : ℕ} {h : List Piece} {ks : Nodes} → FramesRise (frame p t h ks ∷ []) j → ItemsRise ks
items_rise (in_frame {j = j} c no_frame r) = record { last = j; rise = r }

-- the labels of the tree that a text builds rise
pub tree_rises : (types : Types) (xs : List Lexeme) (ks : Nodes) → Lines 0 xs → reading types xs ≡ built (build 0 (frame 0 0 [] ks) []) → ItemsRise ks
unfolding reading
tree_rises types xs ks l e =
    let begun : UpTo 0 (frame 0 0 [] empty ∷ []) = record { last = 0; rise = in_frame refl no_frame none_rise; below = omega arith } in
    items_rise (rise_read types (sound types xs manifest start (build 0 (frame 0 0 [] ks) []) e) l begun).up.rise
