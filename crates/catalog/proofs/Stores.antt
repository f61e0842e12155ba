-- Stores one after the other as one, and stores into a part of a slice that is lent from a place on. Assumes nothing.
use mathlib.Core.Path.{◌≡◌, refl, sym, ap, ◌∙◌}
use mathlib.Core.Bool.{Bool, true, false}
use mathlib.Core.List.{List, [], ◌++◌, append-nil}
use Prim.Native.Nat.{ℕ, ◌+◌, ◌-◌, ◌≤◌, ◌<◌}
use native.Mathlib.Omega.{arith}
use borrow.Author.Tests.{ltb-true, ltb-false}
use borrow.Rule.Slice.PartMut.{mid_of, put_mid}
use lib.Dec.{ltb}
use lib.ListN.{length, take, drop, length-drop, drop_of_length-le}
use lib.Seq.{take_all, take-add, length-take-le, drop_at}
use Rattle.wire.specs.Runs.{over, zeros}
use Rattle.wire.proofs.Laws.{over_parts, over_past, zeros_length}
use Rattle.catalog.specs.Making.{cleared_from}

-- a store at the start
pub over_start : (m bs : List ℕ) → length bs ≤ length m → over m 0 bs ≡ bs ++ drop (length bs) m
over_start m bs room = let none : 0 + length bs ≡ length bs = omega arith in over_parts m 0 bs (omega arith) ∙ ap (λ (k : ℕ). bs ++ drop k m) none

-- what is taken after a place, and what is dropped of what is taken
pub drop_take : (k n : ℕ) (m : List ℕ) → k ≤ n → k ≤ length m → drop k (take n m) ≡ take (n - k) (drop k m)
drop_take k n m h l =
    let parts : k + (n - k) ≡ n = omega arith in
    ap (λ (j : ℕ). drop k (take j m)) (sym parts) ∙ ap (drop k) (take-add k (n - k) m) ∙ drop_at (take k m) (take (n - k) (drop k m)) k (length-take-le k m l)

-- what is lent from a place on, and what is put back
module _ (out : List ℕ) (fill : ℕ) where
  pub part_lent : mid_of fill (length out - fill) out ≡ drop fill out
  part_lent = take_all (length out - fill) (drop fill out) (omega (arith, length-drop fill out))

  pub part_back : (rest : List ℕ) → put_mid fill (length out - fill) out rest ≡ take fill out ++ rest
  part_back rest =
      let all : length (drop fill out) ≤ length out - fill = omega (arith, length-drop fill out) in
      let none : drop (length out - fill) (drop fill out) ≡ [] = drop_of_length-le (drop fill out) all in
      ap (λ (l : List ℕ). take fill out ++ (rest ++ l)) none ∙ ap (λ (l : List ℕ). take fill out ++ l) (append-nil rest)

-- zeros up to the end
pub cleared : (m : List ℕ) (p : ℕ) {m' : List ℕ} → m' ≡ over m p (zeros (length m - p)) → m' ≡ cleared_from p m
unfolding cleared_from zeros
cleared m p {m'} e = e ∙ go (ltb (length m) p) refl
  where
    go : (b : Bool) → ltb (length m) p ≡ b → over m p (zeros (length m - p)) ≡ take p m ++ zeros (length m - p)
    go true q =
        let past : length m < p = ltb-true (length m) p q in
        let none : length m - p ≡ 0 = omega arith in
        over_past m p (zeros (length m - p)) (omega arith) ∙ sym (rw none (append-nil (take p m) ∙ take_all p m (omega arith)))
    go false q =
        let within : p ≤ length m = ltb-false (length m) p q in
        let size : length (zeros (length m - p)) ≡ length m - p = zeros_length (length m - p) in
        let all : length m ≤ p + length (zeros (length m - p)) = omega arith in
        over_parts m p (zeros (length m - p)) (omega arith)
        ∙ ap (λ (l : List ℕ). take p m ++ zeros (length m - p) ++ l) (drop_of_length-le m all) ∙ append-nil (take p m ++ zeros (length m - p))
