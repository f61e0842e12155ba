-- The bytes of open fields, as parts, heads and headers come. Assumes nothing.
use mathlib.Core.Path.{◌≡◌, refl, sym, ap, ◌∙◌}
use mathlib.Core.List.{List, [], ◌∷◌, ◌++◌, append_assoc, append-nil}
use Prim.Native.Nat.{ℕ, zero, suc, ◌%◌, ◌/◌, ◌^◌, ◌<◌}
use native.Mathlib.Omega.{arith}
use lib.ListN.{length}
use Rattle.wire.specs.Numbers.{high_bytes}
use Rattle.rules.specs.Fields.{Fields, none as fields_end, more, wrap, write, write_all}
use Rattle.notation.specs.Building.{Piece, Node, Nodes, empty, ◌▸◌, leaf, Frame, frame}
use Rattle.notation.specs.Convert.{head_bytes, numbered, numbered_onto}
use Rattle.tree_builder.specs.Open.{low, opening, parts_bytes, around_bytes, head_end, open_bytes}
use Rattle.tree_builder.proofs.Stores.{low_append}

-- ---- As a slice holds them

-- bytes of a number are bytes
pub low_high : (k n : ℕ) → low (high_bytes k n) ≡ high_bytes k n
unfolding low high_bytes
low_high zero n = refl
low_high (suc k) n =
    let first : n / 256 ^ k % 256 % 256 ≡ n / 256 ^ k % 256 = omega arith in
    rw (first, low_high k n)

-- two bytes of a length, the high one taken as far as it fits
pub low_two : (n : ℕ) → low (n / 256 ∷ n % 256 ∷ []) ≡ high_bytes 2 (n % 65536)
unfolding low high_bytes
low_two n =
    let high : n / 256 % 256 ≡ n % 65536 / 256 ^ 1 % 256 = omega arith in
    let last : n % 256 % 256 ≡ n % 65536 / 256 ^ 0 % 256 = omega arith in
    rw (high, last)

-- the header of a field that begins
pub low_header : (t : ℕ) → t < 256 → low (t ∷ 0 ∷ 0 ∷ []) ≡ t ∷ high_bytes 2 0
unfolding low high_bytes
low_header t h = let tag : t % 256 ≡ t = omega arith in rw tag

low_size : (n : ℕ) → low (n / 256 ∷ n % 256 ∷ []) ≡ high_bytes 2 n
unfolding low high_bytes
low_size n =
    let high : n / 256 % 256 ≡ n / 256 ^ 1 % 256 = omega arith in
    let last : n % 256 % 256 ≡ n / 256 ^ 0 % 256 = omega arith in
    rw (high, last)

low_wrap : (t : ℕ) (b : List ℕ) → t < 256 → low (wrap t b) ≡ t ∷ high_bytes 2 (length b) ++ low b
unfolding wrap low
low_wrap t b h =
    let tag : t % 256 ≡ t = omega arith in
    ap (λ (x : ℕ). x ∷ low (length b / 256 ∷ length b % 256 ∷ b)) tag
    ∙ ap (λ (l : List ℕ). t ∷ l) (low_append (length b / 256 ∷ length b % 256 ∷ []) b ∙ ap (λ (l : List ℕ). l ++ low b) (low_size (length b)))

module _ (table : List (List ℕ)) where
  -- a field of no parts
  pub low_leaf : (p t : ℕ) (h : List Piece) → t < 256 → low (write (numbered table (leaf p t h))) ≡ t ∷ high_bytes 2 (length (head_bytes table h)) ++ low (head_bytes table h)
  unfolding write numbered
  low_leaf p t h small =
      ap (λ (b : List ℕ). low (wrap t b)) (append-nil (head_bytes table h)) ∙ low_wrap t (head_bytes table h) small

  -- ---- One part more

  write_onto : (ks : Nodes) (rest : Fields) → write_all (numbered_onto table ks rest) ≡ parts_bytes table ks ++ write_all rest
  unfolding write numbered parts_bytes
  write_onto empty rest = refl
  write_onto (ks ▸ k) rest =
      write_onto ks (more (numbered table k) rest)
      ∙ ap (λ (l : List ℕ). parts_bytes table ks ++ (l ++ write_all rest)) (sym (append-nil (write (numbered table k))))
      ∙ sym (append_assoc (parts_bytes table ks) (write (numbered table k) ++ []) (write_all rest))
      ∙ ap (λ (l : List ℕ). l ++ write_all rest) (sym (write_onto ks (more (numbered table k) fields_end)))

  pub parts_more : (ks : Nodes) (k : Node) → parts_bytes table (ks ▸ k) ≡ parts_bytes table ks ++ write (numbered table k)
  unfolding write numbered parts_bytes
  parts_more ks k = write_onto ks (more (numbered table k) fields_end) ∙ ap (λ (l : List ℕ). parts_bytes table ks ++ l) (append-nil (write (numbered table k)))

  pub open_more : (t : ℕ) (h : List Piece) (ks : Nodes) (k : Node) (fs : List Frame) → open_bytes table t h (ks ▸ k) fs ≡ open_bytes table t h ks fs ++ write (numbered table k)
  unfolding open_bytes
  open_more t h ks k fs =
      ap (λ (l : List ℕ). head_end table t h fs ++ l) (parts_more ks k) ∙ sym (append_assoc (head_end table t h fs) (parts_bytes table ks) (write (numbered table k)))

  -- no part yet
  pub open_none : (t : ℕ) (h : List Piece) (fs : List Frame) → open_bytes table t h empty fs ≡ head_end table t h fs
  unfolding open_bytes parts_bytes numbered write
  open_none t h fs = append-nil (head_end table t h fs)

  -- ---- A field in another

  module _ (t : ℕ) (h : List Piece) (p u : ℕ) (g : List Piece) (js : Nodes) (fs : List Frame) where
    pub around_open : around_bytes table (frame p u g js ∷ fs) ≡ open_bytes table u g js fs
    unfolding around_bytes open_bytes head_end
    around_open = refl

    -- behind what is open around it: its header and its head
    pub head_end_lem : head_end table t h (frame p u g js ∷ fs) ≡ open_bytes table u g js fs ++ (t ∷ 0 ∷ 0 ∷ head_bytes table h)
    unfolding around_bytes open_bytes head_end opening
    head_end_lem = append_assoc (open_bytes table u g js fs) (t ∷ 0 ∷ 0 ∷ []) (head_bytes table h)

    -- and its parts
    pub inner_open : (ks : Nodes) → open_bytes table t h ks (frame p u g js ∷ fs) ≡ open_bytes table u g js fs ++ (t ∷ 0 ∷ 0 ∷ head_bytes table h ++ parts_bytes table ks)
    unfolding open_bytes
    inner_open ks =
        ap (λ (l : List ℕ). l ++ parts_bytes table ks) head_end_lem
        ∙ append_assoc (open_bytes table u g js fs) (t ∷ 0 ∷ 0 ∷ head_bytes table h) (parts_bytes table ks)
