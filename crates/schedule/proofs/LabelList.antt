-- The list of labels: what is left of it after the label that a search found. Assumes nothing.
use mathlib.Core.Path.{◌≡◌, refl, sym, ap, ◌∙◌}
use mathlib.Core.Bool.{Bool, true, false}
use mathlib.Core.List.{List, [], ◌∷◌, ◌++◌, append-nil}
use Prim.Native.Nat.{ℕ, zero, suc, ◌+◌, ◌-◌, ◌≤◌, ◌<◌}
use native.Mathlib.Numerals.{add-one}
use native.Mathlib.Omega.{arith}
use borrow.Author.Tests.{ne_eqb}
use lib.Dec.{eqb}
use Rattle.labels.specs.declared.Labels.{Labels}
use Rattle.labels.specs.Sets.{has}
use Rattle.labels.specs.Search.{first_of, next_from}
use Rattle.wire.specs.Bytes.{pick}
use Rattle.rules.specs.Schedule.{decimal, labels_up, with_commas}
use Rattle.catalog.specs.Making.{Stored, stored}
use Rattle.schedule.specs.Appending.{appended, one_label_text}
use Rattle.schedule.proofs.Appending.{pieces_join, no_piece_lem}
use Rattle.std.specs.Prelude.{Option, Some, None}

-- ---- The label found

-- the first of the k labels from n on, and the labels after it
record FirstUp (s : Labels) (k n j : ℕ) : Type 0 where
  from : n ≤ j
  below : j < n + k
  up : labels_up s k n ≡ j ∷ labels_up s (n + k - suc j) (suc j)

first_up : (s : Labels) (k n j : ℕ) → first_of s k n ≡ Some j → FirstUp s k n j
unfolding first_of labels_up
first_up s zero n j e = let z : ◌≡◌ {A = ℕ} 0 1 = cc in absurd (omega arith)
first_up s (suc k) n j e = go (λ h. first_up s k (suc n) j h) (has s n) refl e
  where
    go : (first_of s k (suc n) ≡ Some j → FirstUp s k (suc n) j) → (b : Bool) → has s n ≡ b → elim b [ true ↦ Some n | false ↦ first_of s k (suc n) ] ≡ Some j → FirstUp s (suc k) n j
    go later true h e =
        let same : n ≡ j = cc in
        let left : k ≡ n + suc k - suc n = omega arith in
        record {
          from = omega arith;
          below = omega arith;
          up = ap (λ (b : Bool). elim b [ true ↦ n ∷ labels_up s k (suc n) | false ↦ labels_up s k (suc n) ]) h ∙ ap (λ (i : ℕ). n ∷ labels_up s i (suc n)) left ∙ ap (λ (i : ℕ). i ∷ labels_up s (n + suc k - suc i) (suc i)) same;
        }
    go later false h e =
        let f = later e in
        let l = f.from in
        let u = f.below in
        let left : suc n + k - suc j ≡ n + suc k - suc j = omega arith in
        record {
          from = omega arith;
          below = omega arith;
          up = ap (λ (b : Bool). elim b [ true ↦ n ∷ labels_up s k (suc n) | false ↦ labels_up s k (suc n) ]) h ∙ f.up ∙ ap (λ (i : ℕ). j ∷ labels_up s i (suc j)) left;
        }

none_up : (s : Labels) (k n : ℕ) → first_of s k n ≡ None → labels_up s k n ≡ []
unfolding first_of labels_up
none_up s zero n e = refl
none_up s (suc k) n e = go (none_up s k (suc n)) (has s n) e
  where
    go : (first_of s k (suc n) ≡ None → labels_up s k (suc n) ≡ []) → (b : Bool) → ◌≡◌ {A = Option ℕ} (elim b [ true ↦ Some n | false ↦ first_of s k (suc n) ]) None → ◌≡◌ {A = List ℕ} (elim b [ true ↦ n ∷ labels_up s k (suc n) | false ↦ labels_up s k (suc n) ]) []
    go later true e = let z : ◌≡◌ {A = ℕ} 0 1 = cc in absurd (omega arith)
    go later false e = later e

-- ---- What is left of the list

-- labels after the first one
unfoldable pub each_with_comma : List ℕ → List ℕ
each_with_comma [] = []
each_with_comma (n ∷ ns) = (44 ∷ decimal n) ++ each_with_comma ns

pub with_commas_lem : (n : ℕ) (ns : List ℕ) → with_commas (n ∷ ns) ≡ decimal n ++ each_with_comma ns
unfolding with_commas each_with_comma
with_commas_lem n [] = sym (append-nil (decimal n))
with_commas_lem n (m ∷ ns) = ap (λ (t : List ℕ). decimal n ++ (44 ∷ t)) (with_commas_lem m ns)

-- the list from a label on; from 0 on it is all of it
unfoldable pub list_from : Labels → ℕ → List ℕ
list_from s from = pick (eqb from 0) (with_commas (labels_up s (256 - from) from)) (each_with_comma (labels_up s (256 - from) from))

pub list_whole : (s : Labels) → list_from s 0 ≡ with_commas (labels_up s 256 0)
unfolding list_from
list_whole s = refl

module _ (s : Labels) (from : ℕ) {r : Option ℕ} (found : r ≡ next_from s from) where
  module _ (n : ℕ) (is : r ≡ Some n) where
    its_first : FirstUp s (256 - from) from n
    unfolding next_from
    its_first = first_up s (256 - from) from n (sym found ∙ is)

    -- a label that is found is one of those asked for
    pub label_from : from ≤ n
    label_from = its_first.from

    list_more : list_from s from ≡ one_label_text (eqb from 0) n ++ list_from s (n + 1)
    unfolding list_from one_label_text each_with_comma
    list_more =
        let u = its_first.below in
        let left : from + (256 - from) - suc n ≡ 256 - (n + 1) = omega (arith, label_from) in
        let up : labels_up s (256 - from) from ≡ n ∷ labels_up s (256 - (n + 1)) (n + 1) =
        its_first.up ∙ ap (λ (i : ℕ). n ∷ labels_up s i (suc n)) left ∙ ap (λ (i : ℕ). n ∷ labels_up s (256 - (n + 1)) i) (sym (add-one n)) in
        rw (up, ne_eqb (n + 1) 0 (λ e. omega arith)) (go (eqb from 0) (labels_up s (256 - (n + 1)) (n + 1)))
      where
        go : (b : Bool) (ns : List ℕ) → pick b (with_commas (n ∷ ns)) (each_with_comma (n ∷ ns)) ≡ one_label_text b n ++ each_with_comma ns
        go true ns = with_commas_lem n ns
        go false ns = refl

    -- a turn of the loop
    pub label_put : {whole : Stored ℕ} (at : ℕ) (line : List ℕ) {end : ℕ} {b : List ℕ} → stored end b ≡ appended (one_label_text (eqb from 0) n) at line → appended (list_from s from) at line ≡ whole → appended (list_from s (n + 1)) end b ≡ whole
    label_put at line put inv =
        pieces_join (one_label_text (eqb from 0) n) (list_from s (n + 1)) at line put ∙ ap (λ (t : List ℕ). appended t at line) (sym list_more) ∙ inv

  -- and its end
  pub labels_done : {whole : Stored ℕ} (at : ℕ) (line : List ℕ) → r ≡ None → appended (list_from s from) at line ≡ whole → stored at line ≡ whole
  unfolding list_from next_from each_with_comma with_commas
  labels_done {whole} at line is inv =
      let none : labels_up s (256 - from) from ≡ [] = none_up s (256 - from) from (sym found ∙ is) in
      no_piece_lem at line ∙ ap (λ (t : List ℕ). appended t at line) (sym (rw none (empty (eqb from 0)))) ∙ inv
    where
      empty : (b : Bool) → pick b (with_commas []) (each_with_comma []) ≡ []
      empty true = refl
      empty false = refl
