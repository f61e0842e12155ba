-- A state that shows something is ready for every action, as long as the fill is low. Assumes nothing.
use mathlib.Core.Path.{ap}
use mathlib.Core.List.{List, [], ◌∷◌, ◌++◌}
use Prim.Native.Nat.{ℕ, ◌+◌, ◌≤◌, ◌<◌}
use native.Mathlib.Omega.{arith}
use lib.ListN.{length, length-append}
use Rattle.notation.specs.Building.{Piece, Nodes, Frame, frame, Build, build}
use Rattle.notation.specs.Convert.{head_bytes}
use Rattle.tree_builder.specs.declared.Building.{Building}
use Rattle.tree_builder.specs.Open.{parts_bytes, around_bytes, opening, head_end, open_bytes}
use Rattle.tree_builder.specs.Shows.{Shows, Ready}
use Rattle.tree_builder.proofs.Bytes.{around_open, inner_open}

module _ (table : List (List ℕ)) where
  pub body_short : (t : ℕ) (h : List Piece) (ks : Nodes) (fs : List Frame) → length (head_end table t h fs) ≤ length (open_bytes table t h ks fs)
  unfolding open_bytes
  body_short t h ks fs = omega (arith, length-append (head_end table t h fs) (parts_bytes table ks))

  start_short : (t : ℕ) (h : List Piece) (fs : List Frame) → length (around_bytes table fs) ≤ length (head_end table t h fs)
  unfolding head_end
  start_short t h fs = omega (arith, length-append (around_bytes table fs ++ opening t fs) (head_bytes table h), length-append (around_bytes table fs) (opening t fs))

  header_short : (t : ℕ) (h : List Piece) (ks : Nodes) (fs : List Frame) → 0 < length fs → length (around_bytes table fs) + 3 ≤ length (open_bytes table t h ks fs)
  header_short t h ks [] some = absurd (omega arith)
  header_short t h ks (frame q u g js ∷ fs) some =
      omega (arith, ap length (inner_open table t h q u g js fs ks), ap length (around_open table t h q u g js fs), length-append (open_bytes table u g js fs) (t ∷ 0 ∷ 0 ∷ head_bytes table h ++ parts_bytes table ks))

  pub ready : (s : Building) (m out : List ℕ) (f : Build) → s.fill ≤ 1048576 → Shows table s m out f → Ready s
  unfolding Shows
  ready s m out (build b (frame p t h ks) fs) low x =
      record {
        fill = low;
        depth = omega (arith, x.deep);
        tall = omega (arith, x.deep);
        start = omega (arith, x.start, x.fill, start_short t h fs, body_short t h ks fs);
        header = λ some. omega (arith, x.start, x.fill, header_short t h ks fs (omega (arith, x.depth)));
        body = omega (arith, x.body, x.fill, body_short t h ks fs);
        last = x.within;
        height = x.high;
      }
