-- A constant's label is its line: each constant in the tree that a text builds comes from a token with its place and its label, and a token has the line of its first byte.
use Prim.Native.Nat.{ℕ, zero, suc, ◌+◌}
use mathlib.Core.Path.{◌≡◌, refl, subst}
use mathlib.Core.Bool.{Bool, true, false}
use mathlib.Core.List.{List, [], ◌∷◌}
use mathlib.Core.Option.{Option, none, some}
use lib.Dec.{leb, ltb}
use lib.ListN.{length}
use Rattle.rules.specs.Bytes.{pick}
use Rattle.rules.specs.Format.{is_constant}
use Rattle.rules.specs.Ranges.{Each, also}
use Rattle.rules.proofs.Lists.{both_left, both_right}
use Rattle.rules.specs.Types.{Types}
use Rattle.notation.specs.Tokens.{word, number, text, variable, top_variable, class_variable, mark, Lexeme, lexeme, kind, token_of}
use Rattle.notation.specs.Lexing.{tokens}
use Rattle.notation.specs.Building.{Piece, Node, node, Nodes, empty, ◌▸◌, height, Frame, frame, Build, build, Action, begin, begin_resource, around, instead, close, constant, read, named, parent_first, void, enter, leave, leaf, spelled, constant_node, variable_node, added, added_first, in_front, begun, act, acts, start}
use Rattle.notation.specs.Grammar.{Symbol, Reads, done, takes, leaves, manifest, built, reading}
use Rattle.notation.proofs.Machine.{sound}
use Rattle.notation.proofs.NeedsKept.{none_not_some, same_result}
use Rattle.notation.proofs.PlainActions.{plain_action, plain_actions, row_plain, left_out_plain}
use Rattle.notation.proofs.LabelsRise.{plain_tag, resource_plain}
use Rattle.notation.proofs.ConstantLines.{line_at, IsLine, ConstantsIn, a_constant, no_constant, EachConstant, no_field, also_field, At, tokens_lined}

-- ---- What is being read

-- P holds of each constant in the fields that are being read, and none of these is a constant
data InFrames (P : (place label : ℕ) → Type 0) : List Frame → Type 0 where
  no_frame : InFrames P []
  in_frame : {p t : ℕ} {h : List Piece} {ks : Nodes} {fs : List Frame} → is_constant t ≡ false → EachConstant P ks → InFrames P fs → InFrames P (frame p t h ks ∷ fs)

module _ (types : Types) (P : (place label : ℕ) → Type 0) where
  -- P holds of each constant in all that is built
  abbrev InBuild : Build → Type 0
  InBuild (build b f fs) = InFrames P (f ∷ fs)

  -- a field of one token that is no constant
  plain_leaf : {p t : ℕ} {h : List Piece} → is_constant t ≡ false → ConstantsIn P (leaf p t h)
  plain_leaf c = no_constant c no_field

  -- a token's constant has the token's place, and its line for a label
  constant_in_lem : (x : Lexeme) → At P x → ConstantsIn P (constant_node x)
  unfolding constant_node
  constant_in_lem (lexeme p l (word w)) g = a_constant refl g no_field
  constant_in_lem (lexeme p l (number z)) g = a_constant refl g no_field
  constant_in_lem (lexeme p l (text s)) g = a_constant refl g no_field
  constant_in_lem (lexeme p l (variable n)) g = plain_leaf refl
  constant_in_lem (lexeme p l (top_variable n)) g = plain_leaf refl
  constant_in_lem (lexeme p l (class_variable c n)) g = plain_leaf refl
  constant_in_lem (lexeme p l (mark k)) g = a_constant refl g no_field

  -- a variable is no constant
  variable_in_lem : (x : Lexeme) → ConstantsIn P (variable_node x)
  unfolding variable_node
  variable_in_lem (lexeme p l (word w)) = plain_leaf refl
  variable_in_lem (lexeme p l (number z)) = plain_leaf refl
  variable_in_lem (lexeme p l (text s)) = plain_leaf refl
  variable_in_lem (lexeme p l (variable n)) = plain_leaf refl
  variable_in_lem (lexeme p l (top_variable n)) = plain_leaf refl
  variable_in_lem (lexeme p l (class_variable c n)) = plain_leaf refl
  variable_in_lem (lexeme p l (mark k)) = plain_leaf refl

  -- a field in front of others
  in_front_lem : {ks : Nodes} {k : Node} → ConstantsIn P k → EachConstant P ks → EachConstant P (in_front k ks)
  unfolding in_front
  in_front_lem a no_field = also_field no_field a
  in_front_lem a (also_field r i) = also_field (in_front_lem a r) i

  module _ {p t : ℕ} {h : List Piece} {ks : Nodes} {fs : List Frame} where
    -- one field more
    frame_more : {k : Node} → InFrames P (frame p t h ks ∷ fs) → ConstantsIn P k → InFrames P (frame p t h (ks ▸ k) ∷ fs)
    frame_more (in_frame c r i) a = in_frame c (also_field r a) i

    -- one field more in front
    frame_front : {k : Node} → InFrames P (frame p t h ks ∷ fs) → ConstantsIn P k → InFrames P (frame p t h (in_front k ks) ∷ fs)
    frame_front (in_frame c r i) a = in_frame c (in_front_lem a r) i

    -- another head
    frame_head : {g : List Piece} → InFrames P (frame p t h ks ∷ fs) → InFrames P (frame p t g ks ∷ fs)
    frame_head (in_frame c r i) = in_frame c r i

    -- a field around the last one
    frame_around : {q u : ℕ} {g : List Piece} {k : Node} → is_constant u ≡ false → InFrames P (frame p t h (ks ▸ k) ∷ fs) → InFrames P (frame q u g (empty ▸ k) ∷ frame p t h ks ∷ fs)
    frame_around d (in_frame c (also_field r a) i) = in_frame d (also_field no_field a) (in_frame c r i)

    -- a field instead of the last one
    frame_instead : {q u : ℕ} {g : List Piece} {k : Node} → is_constant u ≡ false → InFrames P (frame p t h (ks ▸ k) ∷ fs) → InFrames P (frame q u g empty ∷ frame p t h ks ∷ fs)
    frame_instead d (in_frame c (also_field r a) i) = in_frame d no_field (in_frame c r i)

    -- a field ends
    frame_closed : {q u : ℕ} {g : List Piece} {js : Nodes} → InFrames P (frame q u g js ∷ frame p t h ks ∷ fs) → InFrames P (frame p t h (ks ▸ node q u g js) ∷ fs)
    frame_closed (in_frame d r (in_frame c i j)) = in_frame c (also_field i (no_constant d r)) j

  -- ---- Actions

  -- what fits
  in_fitted : (c : Bool) (f g : Build) → InBuild f → ◌≡◌ {A = Option Build} (pick c (some f) none) (some g) → InBuild g
  in_fitted true f g u e = subst InBuild (same_result f g e) u
  in_fitted false f g u e = none_not_some e

  module _ (x : Lexeme) (here : At P x) where
    -- one action
    in_act : (a : Action) (f g : Build) → plain_action a ≡ true → act types a x f ≡ some g → InBuild f → InBuild g
    unfolding act added added_first begun
    in_act (begin t) (build b f fs) g c e u = in_fitted (leb (length fs + 1) 32) _ g (in_frame (plain_tag t c) no_field u) e
    in_act begin_resource (build b f fs) g c e u = in_fitted (leb (length fs + 1) 32) _ g (in_frame (resource_plain types (spelled (token_of x))) no_field u) e
    in_act (around t h) (build b (frame q v i empty) fs) g c e u = none_not_some e
    in_act (around t h) (build b (frame q v i (ks ▸ k)) fs) g c e u = in_fitted (leb (suc (length fs) + height k) 32) _ g (frame_around (plain_tag t c) u) e
    in_act (instead t) (build b (frame q v i empty) fs) g c e u = none_not_some e
    in_act (instead t) (build b (frame q v i (ks ▸ node p w h js)) fs) g c e u = subst InBuild (same_result _ g e) (frame_instead (plain_tag t c) u)
    in_act close (build b (frame q v i ks) []) g c e u = none_not_some e
    in_act close (build b (frame p t h ks) (frame q v i js ∷ fs)) g c e u = subst InBuild (same_result _ g e) (frame_closed u)
    in_act constant (build b (frame q v i ks) fs) g c e u = in_fitted (leb (length fs + 1) 32) _ g (frame_more u (constant_in_lem x here)) e
    in_act read (build b (frame q v i ks) fs) g c e u = in_fitted (leb (length fs + 1) 32) _ g (frame_more u (variable_in_lem x)) e
    in_act named (build b (frame q v i ks) fs) g c e u = subst InBuild (same_result _ g e) (frame_head u)
    in_act parent_first (build b (frame q v i ks) fs) g c e u = in_fitted (leb (length fs + 1) 32) _ g (frame_front u (plain_leaf refl)) e
    in_act (void t) (build b (frame q v i ks) fs) g c e u = in_fitted (leb (length fs + 1) 32) _ g (frame_more u (plain_leaf (plain_tag t c))) e
    in_act enter (build b f fs) g c e u = in_fitted (ltb b 32) _ g u e
    in_act leave (build zero f fs) g c e u = none_not_some e
    in_act leave (build (suc b) f fs) g c e u = subst InBuild (same_result _ g e) u

    -- some actions
    in_acts : (ds : List Action) (f g : Build) → plain_actions ds ≡ true → acts types ds x f ≡ some g → InBuild f → InBuild g
    unfolding acts
    in_acts [] f g c e u = subst InBuild (same_result f g e) u
    in_acts (a ∷ ds) f g c e u = go (act types a x f) refl (λ h i v. in_acts ds h g (both_right (plain_action a) (plain_actions ds) c) i v) e
      where
        go : (o : Option Build) → act types a x f ≡ o → ((h : Build) → acts types ds x h ≡ some g → InBuild h → InBuild g) → ◌≡◌ {A = Option Build} (elim o as (λ q. Option Build) [ none ↦ none | some h ↦ acts types ds x h ]) (some g) → InBuild g
        go none h others e = none_not_some e
        go (some i) h others e = others i e (in_act a f i (both_left (plain_action a) (plain_actions ds) c) h u)

  -- ---- The whole

  -- a reading
  in_read : {k : List Symbol} {xs : List Lexeme} {f g : Build} → Reads types k xs f g → Each (At P) xs → InBuild f → InBuild g
  in_read done all u = u
  in_read (takes {s = s} {ss = ss} {ds = ds} {x = x} {f = f} {f' = h} e i r) (also a all) u = in_read r all (in_acts x a ds f h (row_plain s (kind (token_of x)) ds ss e) i u)
  in_read (leaves {s = s} {ds = ds} {x = x} {f = f} {f' = h} e i r) (also a all) u = in_read r (also a all) (in_acts x a ds f h (left_out_plain s ds e) i u)

  -- the outermost field
  outermost : {p t : ℕ} {h : List Piece} {ks : Nodes} → InFrames P (frame p t h ks ∷ []) → EachConstant P ks
  outermost (in_frame c r no_frame) = r

  -- what holds of the place and the line of each token holds of the place and the label of each constant in the tree that they build
  pub tokens_give_constants : (xs : List Lexeme) (ks : Nodes) → Each (At P) xs → reading types xs ≡ built (build 0 (frame 0 0 [] ks) []) → EachConstant P ks
  unfolding reading
  tokens_give_constants xs ks all e = outermost (in_read (sound types xs manifest start (build 0 (frame 0 0 [] ks) []) e) all (in_frame refl no_field no_frame))

-- "A constant's label is its line, the first being 0": each constant in the tree of a text has the line of the byte at its place as its label
pub label_is_line : (types : Types) (given : List ℕ) (ks : Nodes) → reading types (tokens given) ≡ built (build 0 (frame 0 0 [] ks) []) → EachConstant (λ p l. l ≡ line_at given p) ks
label_is_line types given ks e = tokens_give_constants types (IsLine given) (tokens given) ks (tokens_lined given) e
