-- The first constant on a line past 255. Assumes nothing.
use mathlib.Core.Path.{◌≡◌, refl, sym, ap, ◌∙◌}
use mathlib.Core.Bool.{Bool, true, false, ◌&&◌}
use mathlib.Core.List.{List, ◌∷◌}
use mathlib.Core.Option.{Option, none, some}
use Prim.Native.Nat.{ℕ, ◌+◌, ◌≤◌, ◌<◌}
use native.Mathlib.Omega.{arith}
use borrow.Author.Tests.{ne_eqb, le-ltb, lt-ltb}
use lib.Dec.{ltb, eqb}
use Rattle.wire.specs.Bytes.{pick}
use Rattle.rules.specs.Format.{is_constant}
use Rattle.notation.specs.Building.{Piece, Node, node, Nodes, empty, ◌▸◌, leaf, Frame, frame}
use Rattle.notation.specs.Convert.{label_in, or_later, late_in, late_among}
use Rattle.tree_builder.specs.Open.{late_around, late_open, late_number}
use Rattle.tree_builder.specs.State.{late_with}

or_none : (o : Option ℕ) → or_later o none ≡ o
or_none none = refl
or_none (some p) = refl

or_or : (o q r : Option ℕ) → or_later o (or_later q r) ≡ or_later (or_later o q) r
or_or none q r = refl
or_or (some p) q r = refl

-- a field begins
pub late_begun : (p t : ℕ) (h : List Piece) (ks : Nodes) (fs : List Frame) → late_open empty (frame p t h ks ∷ fs) ≡ late_open ks fs
unfolding late_open late_around late_among
late_begun p t h ks fs = or_none (or_later (late_around fs) (late_among ks))

-- a field begins around the last part
pub late_around_lem : (p t : ℕ) (h : List Piece) (ks : Nodes) (k : Node) (fs : List Frame) → late_open (empty ▸ k) (frame p t h ks ∷ fs) ≡ late_open (ks ▸ k) fs
unfolding late_open late_around late_among
late_around_lem p t h ks k fs = sym (or_or (late_around fs) (late_among ks) (late_in k))

-- one part more
pub late_more : (ks : Nodes) (k : Node) (fs : List Frame) → late_open (ks ▸ k) fs ≡ or_later (late_open ks fs) (late_in k)
unfolding late_open late_among
late_more ks k fs = or_or (late_around fs) (late_among ks) (late_in k)

-- a field whose head holds no late label is as late as its parts
pub late_inner : (p t : ℕ) (h : List Piece) (ks : Nodes) → label_in h ≤ 255 → late_in (node p t h ks) ≡ late_among ks
unfolding late_in
late_inner p t h ks low = rw (le-ltb 255 (label_in h) low) (go (is_constant t))
  where
    go : (b : Bool) → pick (b && false) (some p) (late_among ks) ≡ late_among ks
    go true = refl
    go false = refl

-- the field ends
pub late_closed : (p t : ℕ) (h : List Piece) (ks : Nodes) (q u : ℕ) (g : List Piece) (js : Nodes) (fs : List Frame) → label_in h ≤ 255 → late_open (js ▸ node p t h ks) fs ≡ late_open ks (frame q u g js ∷ fs)
unfolding late_open late_around
late_closed p t h ks q u g js fs low = late_more js (node p t h ks) fs ∙ ap (or_later (late_open js fs)) (late_inner p t h ks low)

-- a leaf that is no constant
pub late_plain : (p t : ℕ) (h : List Piece) (o : Option ℕ) → label_in h ≤ 255 → or_later o (late_in (leaf p t h)) ≡ o
unfolding late_among
late_plain p t h o low = ap (or_later o) (late_inner p t h empty low) ∙ or_none o

-- a constant
pub late_constant : (o : Option ℕ) (n l p : ℕ) → n ≡ late_number o → late_with n l p ≡ late_number (or_later o (pick (ltb 255 l) (some p) none))
unfolding late_number late_with
late_constant none n l p e = rw e (go (ltb 255 l))
  where
    go : (b : Bool) → pick (true && b) (p + 1) 0 ≡ late_number (pick b (some p) none)
    go true = omega arith
    go false = refl
late_constant (some q) n l p e = let ne : eqb n 0 ≡ false = ne_eqb n 0 (λ z. omega arith) in rw ne e

-- the ways of `late_with`
module _ (n l p : ℕ) where
  pub late_already : 0 < n → n ≡ late_with n l p
  unfolding late_with
  late_already before = let ne : eqb n 0 ≡ false = ne_eqb n 0 (λ z. omega arith) in rw ne

  pub not_late : n ≡ 0 → l ≤ 255 → 0 ≡ late_with n l p
  unfolding late_with
  not_late e low = rw (e, le-ltb 255 l low)

  pub first_late : n ≡ 0 → 255 < l → p + 1 ≡ late_with n l p
  unfolding late_with
  first_late e high = rw (e, lt-ltb 255 l high)
