-- Steps of reading that a printed text takes: a token taken whose action depends on the depth, operators that do not follow, the end of a field.
use Prim.Native.Nat.{ℕ, suc, ◌+◌, ◌≤◌, ◌<◌}
use mathlib.Core.Path.{◌≡◌, refl, ◌∙◌}
use mathlib.Core.List.{List, [], ◌∷◌, ◌++◌}
use mathlib.Core.Option.{Option, none, some}
use native.Mathlib.Omega.{arith}
use lib.ListN.{length}
use borrow.Author.Tests.{le-leb, lt-ltb, lt-leb}
use Rattle.notation.specs.Tokens.{Lexeme, kind, token_of, place_of}
use Rattle.notation.specs.Building.{Piece, Node, node, Nodes, empty, ◌▸◌, height, Frame, frame, Build, build, Action, around, acts, act, added, begun}
use Rattle.notation.specs.Grammar.{Symbol, operators, ends, row, row_of, left_out, binds}
use Rattle.notation.proofs.Machine.{state, ◌⇒◌, take, leave}
use Rattle.rules.specs.Types.{Types}

-- ---- Behind an operand

-- a token that is no operator of level l or tighter
abbrev pub Below : ℕ → Option ℕ → Type 0
Below l none = Unit {0}
Below l (some n) = n < l

abbrev pub Calm : ℕ → Lexeme → Type 0
Calm l x = Below l (binds (kind (token_of x)))

pub calmer : {l m : ℕ} (o : Option ℕ) → l ≤ m → Below l o → Below m o
calmer none h c = tt
calmer (some n) h c = omega arith

-- behind an operand, a token that is no operator of these levels
not_taken : (l m : ℕ) (x : Lexeme) (o : Option ℕ) → binds (kind (token_of x)) ≡ o → Below l o → row_of (operators l m) (kind (token_of x)) ≡ none
unfolding row_of
not_taken l m x none e c = rw (row_of, e)
not_taken l m x (some n) e c = rw (row_of, e, lt-leb l n c)

pub operators_pass : (types : Types) {l m : ℕ} {k : List Symbol} {x : Lexeme} {xs : List Lexeme} {f : Build} → Calm l x → state types (x ∷ xs) (operators l m ∷ k) f ⇒ (state types) (x ∷ xs) k f
unfolding left_out acts
operators_pass types {l} {m} {x = x} c = leave types (not_taken l m x (binds (kind (token_of x))) refl c) refl refl

-- ---- Steps whose actions depend on the depth, and the end of a field

pub height_positive : (k : Node) → 1 ≤ height k
unfolding height
height_positive (node p t h ks) = omega arith

pub added_fits : (n : Node) (b q t : ℕ) (h : List Piece) (ks : Nodes) (fs : List Frame) → length fs + 1 ≤ 32 → added n (build b (frame q t h ks) fs) ≡ some (build b (frame q t h (ks ▸ n)) fs)
unfolding added
added_fits n b q t h ks fs d = rw (added, le-leb (length fs + 1) 32 d)

pub acts_first : (types : Types) (d : Action) (ds : List Action) (x : Lexeme) (f g : Build) → act types d x f ≡ some g → acts types (d ∷ ds) x f ≡ acts types ds x g
unfolding acts
acts_first types d ds x f g h = rw (acts, h)

begun_fits : (p u b : ℕ) (f : Frame) (fs : List Frame) → length fs + 1 ≤ 32 → begun p u (build b f fs) ≡ some (build b (frame p u [] empty) (f ∷ fs))
unfolding begun
begun_fits p u b f fs d = rw (begun, le-leb (length fs + 1) 32 d)

around_fits : (types : Types) (u : ℕ) (g : List Piece) (x : Lexeme) (b q t : ℕ) (h : List Piece) (ks : Nodes) (n : Node) (fs : List Frame) → suc (length fs) + height n ≤ 32 →
    act types (around u g) x (build b (frame q t h (ks ▸ n)) fs) ≡ some (build b (frame (place_of x) u g (empty ▸ n)) (frame q t h ks ∷ fs))
unfolding act
around_fits types u g x b q t h ks n fs d = rw (le-leb (suc (length fs) + height n) 32 d)

enter_fits : (types : Types) (x : Lexeme) (b : ℕ) (f : Frame) (fs : List Frame) → b < 32 → act types Action.enter x (build b f fs) ≡ some (build (suc b) f fs)
unfolding act
enter_fits types x b f fs d = rw (lt-ltb b 32 d)

module _ (types : Types) {s : Symbol} {k ss : List Symbol} {x : Lexeme} {xs : List Lexeme} {b : ℕ} {fs : List Frame} where
  -- a field begins by an action that only begins it, and the other actions go on in it
  pub take_begun : {d : Action} (u : ℕ) {ds : List Action} {f : Frame} {g : Build} → row_of s (kind (token_of x)) ≡ some (row (d ∷ ds) ss) → act types d x (build b f fs) ≡ begun (place_of x) u (build b f fs) → length fs + 1 ≤ 32 →
      acts types ds x (build b (frame (place_of x) u [] empty) (f ∷ fs)) ≡ some g → state types (x ∷ xs) (s ∷ k) (build b f fs) ⇒ (state types) xs (ss ++ k) g
  take_begun {d} u {ds} {f} {g} h a i e = take types h (acts_first types d ds x _ _ (a ∙ begun_fits (place_of x) u b f fs i) ∙ e)

  pub take_begin : {u : ℕ} {ds : List Action} {f : Frame} {g : Build} → row_of s (kind (token_of x)) ≡ some (row (Action.begin u ∷ ds) ss) → length fs + 1 ≤ 32 →
      acts types ds x (build b (frame (place_of x) u [] empty) (f ∷ fs)) ≡ some g → state types (x ∷ xs) (s ∷ k) (build b f fs) ⇒ (state types) xs (ss ++ k) g
  unfolding act
  take_begin {u} h i e = take_begun u h refl i e

  -- a field without parts is added
  pub take_adding : {d : Action} (n : Node) {q t : ℕ} {h : List Piece} {ks : Nodes} → row_of s (kind (token_of x)) ≡ some (row (d ∷ []) ss) → act types d x (build b (frame q t h ks) fs) ≡ added n (build b (frame q t h ks) fs) → length fs + 1 ≤ 32 →
      state types (x ∷ xs) (s ∷ k) (build b (frame q t h ks) fs) ⇒ (state types) xs (ss ++ k) (build b (frame q t h (ks ▸ n)) fs)
  unfolding acts
  take_adding {d} n {q} {t} {h} {ks} r e i = take types r (acts_first types d [] x _ _ (e ∙ added_fits n b q t h ks fs i))

  pub take_around : {u : ℕ} {g : List Piece} {n : Node} {q t : ℕ} {h : List Piece} {ks : Nodes} → row_of s (kind (token_of x)) ≡ some (row (around u g ∷ []) ss) → suc (length fs) + height n ≤ 32 →
      state types (x ∷ xs) (s ∷ k) (build b (frame q t h (ks ▸ n)) fs) ⇒ (state types) xs (ss ++ k) (build b (frame (place_of x) u g (empty ▸ n)) (frame q t h ks ∷ fs))
  unfolding acts
  take_around {u} {g} {n} {q} {t} {h} {ks} r d = take types r (acts_first types (around u g) [] x _ _ (around_fits types u g x b q t h ks n fs d))

  pub take_enter : {f : Frame} → row_of s (kind (token_of x)) ≡ some (row (Action.enter ∷ []) ss) → b < 32 → state types (x ∷ xs) (s ∷ k) (build b f fs) ⇒ (state types) xs (ss ++ k) (build (suc b) f fs)
  unfolding acts
  take_enter {f} r d = take types r (acts_first types Action.enter [] x _ _ (enter_fits types x b f fs d))

-- the field being read ends
pub ends_here : (types : Types) {x : Lexeme} {xs : List Lexeme} {k : List Symbol} {b p u : ℕ} {g : List Piece} {js : Nodes} {q t : ℕ} {h : List Piece} {ks : Nodes} {fs : List Frame} →
    state types (x ∷ xs) (ends ∷ k) (build b (frame p u g js) (frame q t h ks ∷ fs)) ⇒ (state types) (x ∷ xs) k (build b (frame q t h (ks ▸ node p u g js)) fs)
unfolding row_of left_out acts act
ends_here types = leave types refl refl refl
