-- What must hold before symbols are read is kept by each action and each row, so the claim holds at the end.
use Prim.Native.Nat.{ℕ, zero, suc, ◌+◌}
use mathlib.Core.Path.{◌≡◌, refl, subst}
use mathlib.Core.Bool.{Bool, true, false}
use mathlib.Core.List.{List, [], ◌∷◌}
use mathlib.Core.Option.{Option, none, some}
use native.Mathlib.Omega.{arith}
use lib.Dec.{leb, ltb}
use lib.ListN.{length}
use Rattle.rules.specs.Bytes.{pick}
use Rattle.rules.specs.Types.{Types}
use Rattle.notation.specs.Tokens.{Lexeme}
use Rattle.notation.specs.Building.{node, empty, ◌▸◌, height, frame, Build, build, Action, begin, begin_resource, around, instead, close, constant, read, named, parent_first, void, enter, leave, added, added_first, begun, act, acts}
use Rattle.notation.proofs.Needs.{Doing, DoingAll}

-- nothing is no result
pub none_not_some : {A B : Type 0} {x : A} → ◌≡◌ {A = Option A} none (some x) → B
none_not_some e = let z : ◌≡◌ {A = ℕ} 0 1 = cc in absurd (omega arith)

-- there is one result
pub same_result : {A : Type 0} (x y : A) → ◌≡◌ {A = Option A} (some x) (some y) → x ≡ y
same_result x y e = cc

-- what fits is what was to be fitted
fitted : (b : Bool) (f g : Build) → ◌≡◌ {A = Option Build} (pick b (some f) none) (some g) → f ≡ g
fitted true f g e = cc
fitted false f g e = none_not_some e

module _ (types : Types) (S : List ℕ → Type 0) (x : Lexeme) where
  -- one action
  doing_kept : (Q : Build → Type 0) (a : Action) (f g : Build) → act types a x f ≡ some g → Doing types S a x Q f → Q g
  unfolding act added added_first begun
  doing_kept Q (begin t) (build b f fs) g e w = subst Q (fitted (leb (length fs + 1) 32) _ g e) w
  doing_kept Q begin_resource (build b f fs) g e w = subst Q (fitted (leb (length fs + 1) 32) _ g e) w
  doing_kept Q (around t h) (build b (frame q u i empty) fs) g e w = none_not_some e
  doing_kept Q (around t h) (build b (frame q u i (ks ▸ k)) fs) g e w = subst Q (fitted (leb (suc (length fs) + height k) 32) _ g e) w
  doing_kept Q (instead t) (build b (frame q u i empty) fs) g e w = none_not_some e
  doing_kept Q (instead t) (build b (frame q u i (ks ▸ node p v h js)) fs) g e w = subst Q (same_result _ g e) w
  doing_kept Q close (build b (frame q u i ks) []) g e w = none_not_some e
  doing_kept Q close (build b (frame p t h ks) (frame q u i js ∷ fs)) g e w = subst Q (same_result _ g e) w
  doing_kept Q constant (build b (frame q u i ks) fs) g e w = subst Q (fitted (leb (length fs + 1) 32) _ g e) w
  doing_kept Q read (build b (frame q u i ks) fs) g e w = subst Q (fitted (leb (length fs + 1) 32) _ g e) w
  doing_kept Q named (build b (frame q u i ks) fs) g e w = subst Q (same_result _ g e) w
  doing_kept Q parent_first (build b (frame q u i ks) fs) g e w = subst Q (fitted (leb (length fs + 1) 32) _ g e) w
  doing_kept Q (void t) (build b (frame q u i ks) fs) g e w = subst Q (fitted (leb (length fs + 1) 32) _ g e) w
  doing_kept Q enter (build b f fs) g e w = subst Q (fitted (ltb b 32) _ g e) w
  doing_kept Q leave (build zero f fs) g e w = none_not_some e
  doing_kept Q leave (build (suc b) f fs) g e w = subst Q (same_result _ g e) w

  -- some actions
  pub doing_all_kept : (Q : Build → Type 0) (ds : List Action) (f g : Build) → acts types ds x f ≡ some g → DoingAll types S ds x Q f → Q g
  unfolding acts
  doing_all_kept Q [] f g e w = subst Q (same_result _ g e) w
  doing_all_kept Q (a ∷ ds) f g e w = go (act types a x f) refl (λ h i v. doing_all_kept Q ds h g i v) e
    where
      go : (o : Option Build) → act types a x f ≡ o → ((h : Build) → acts types ds x h ≡ some g → DoingAll types S ds x Q h → Q g) → ◌≡◌ {A = Option Build} (elim o as (λ q. Option Build) [ none ↦ none | some h ↦ acts types ds x h ]) (some g) → Q g
      go none h others e = none_not_some e
      go (some i) h others e = others i e (doing_kept (DoingAll types S ds x Q) a f i h w)
