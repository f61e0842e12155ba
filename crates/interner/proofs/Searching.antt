-- One law for each way through a search among strings that rise.
use Prim.Native.Nat.{ℕ, zero, suc, ◌+◌, ◌*◌, ◌<◌, ◌≤◌}
use mathlib.Core.Path.{◌≡◌, refl, sym, ◌∙◌, subst}
use mathlib.Core.Bool.{Bool, true, false}
use mathlib.Core.List.{List}
use native.Mathlib.Omega.{arith}
use lib.Dec.{eqb}
use borrow.Author.Tests.{eqb-true, eqb-false}
use Rattle.rules.specs.Bytes.{two}
use Rattle.rules.specs.Check.{ascends}
use Rattle.std.specs.Prelude.{Result, Ok, Err}
use Rattle.rules.proofs.Ascending.{before_both, all_rise}
use Rattle.notation.specs.Quoted.{string_from}
use Rattle.notation.proofs.WrittenNames.{Rising, next_string}
use Rattle.interner.specs.Strings.{order_of}
use Rattle.interner.specs.Table.{listed, entry_string, strings, StandsAt, Belongs, Searched}
use Rattle.interner.proofs.Told.{told_before, told_after, told_same}
use Rattle.std.specs.declared.cmp.Ordering.TheVariants.{Less, Equal, Greater}

-- ---- Strings that rise

-- the first count values of f rise
abbrev pub Rises : (ℕ → List ℕ) → ℕ → Type 0
Rises f count = (i j : ℕ) → i < j → j < count → ascends (f i) (f j) ≡ true

-- each comes before the next
next_rises : (f : ℕ → List ℕ) (k n : ℕ) → Rising (listed f k n) → (i : ℕ) → k ≤ i → i + 1 < k + n → ascends (f i) (f (suc i)) ≡ true
unfolding listed
next_rises f k zero up i l h = absurd (omega arith)
next_rises f k (suc zero) up i l h = absurd (omega arith)
next_rises f k (suc (suc n)) (next_string e up) i l h = go (eqb i k) refl (λ m. next_rises f (suc k) (suc n) up i m (omega arith))
  where
    go : (b : Bool) → eqb i k ≡ b → (suc k ≤ i → ascends (f i) (f (suc i)) ≡ true) → ascends (f i) (f (suc i)) ≡ true
    go true x others = let same : i ≡ k = eqb-true i k x in rw same e
    go false x others = let other = eqb-false i k x in others (omega (arith, other))

-- each comes before all behind it
pub rises : (t table : List ℕ) (count : ℕ) → Rising (strings t table count) → Rises (entry_string t table) count
unfolding strings
rises t table count up = all_rise (entry_string t table) count λ i l. next_rises (entry_string t table) 0 count up i (omega arith) (omega arith)

-- ---- A search

-- s belongs between low and high, if it is not between them
pub record Narrowed (s : List ℕ) (f : ℕ → List ℕ) (count low high : ℕ) : Type 0 where
  pub ordered : low ≤ high
  pub within : high ≤ count
  pub behind : (j : ℕ) → j < low → ascends (f j) s ≡ true
  pub before : (j : ℕ) → high ≤ j → j < count → ascends s (f j) ≡ true

-- at first nothing is known
pub not_narrowed : (s : List ℕ) (f : ℕ → List ℕ) (count : ℕ) → Narrowed s f count 0 count
not_narrowed s f count = record { ordered = omega arith; within = omega arith; behind = λ j l. absurd (omega arith); before = λ j l h. absurd (omega arith) }

-- where low meets high, the string is not there
pub narrow_enough : (t table : List ℕ) {count : ℕ} (at : ℕ) {low high : ℕ} → Narrowed (string_from t at) (entry_string t table) count low high → high ≤ low → Searched t table count at (Err low)
unfolding Searched
narrow_enough t table at n l = record { within = omega (arith, n.ordered, n.within); behind = n.behind; before = λ j a b. n.before j (omega (arith, n.ordered)) b }

-- where it stands, and where it belongs
module _ (t table : List ℕ) {count i : ℕ} (at : ℕ) (r : Result ℕ ℕ) (searched : Searched t table count at r) where
  pub stands_there : r ≡ Ok i → StandsAt (string_from t at) (entry_string t table) count i
  unfolding Searched
  stands_there e = subst (Searched t table count at) e searched

  pub belongs_there : r ≡ Err i → Belongs (string_from t at) (entry_string t table) count i
  unfolding Searched
  belongs_there e = subst (Searched t table count at) e searched

module _ (t table : List ℕ) {count : ℕ} (at : ℕ) {low high : ℕ} (place middle : ℕ) (up : Rising (strings t table count)) (is : place ≡ two table (2 * middle)) (n : Narrowed (string_from t at) (entry_string t table) count low high) (above : low ≤ middle) (below : middle < high) where
  entry_is : string_from t place ≡ entry_string t table middle
  unfolding entry_string
  entry_is = rw is

  -- it stands in the middle
  pub found_here : Equal ≡ order_of (string_from t place) (string_from t at) → Searched t table count at (Ok middle)
  unfolding Searched
  found_here h = record { within = omega (arith, n.within); same = sym entry_is ∙ told_same (string_from t place) (string_from t at) h }

  -- it is behind the middle
  pub narrow_up : Less ≡ order_of (string_from t place) (string_from t at) → Narrowed (string_from t at) (entry_string t table) count (middle + 1) high
  narrow_up h = record { ordered = omega arith; within = n.within; behind = λ j l. go j l (eqb j middle) refl; before = n.before }
    where
      here : ascends (entry_string t table middle) (string_from t at) ≡ true
      here = rw entry_is at (told_before (string_from t place) (string_from t at) h)

      go : (j : ℕ) → j < middle + 1 → (b : Bool) → eqb j middle ≡ b → ascends (entry_string t table j) (string_from t at) ≡ true
      go j l true x = let same : j ≡ middle = eqb-true j middle x in rw same here
      go j l false x =
          let other = eqb-false j middle x in
          before_both (entry_string t table j) (entry_string t table middle) (string_from t at) (rises t table count up j middle (omega (arith, other)) (omega (arith, n.within))) here

  -- it is before the middle
  pub narrow_down : Greater ≡ order_of (string_from t place) (string_from t at) → Narrowed (string_from t at) (entry_string t table) count low middle
  narrow_down h = record { ordered = above; within = omega (arith, n.within); behind = n.behind; before = λ j l k. go j l k (eqb j middle) refl }
    where
      here : ascends (string_from t at) (entry_string t table middle) ≡ true
      here = rw entry_is at (told_after (string_from t place) (string_from t at) h)

      go : (j : ℕ) → middle ≤ j → j < count → (b : Bool) → eqb j middle ≡ b → ascends (string_from t at) (entry_string t table j) ≡ true
      go j l k true x = let same : j ≡ middle = eqb-true j middle x in rw same here
      go j l k false x =
          let other = eqb-false j middle x in
          before_both (string_from t at) (entry_string t table middle) (entry_string t table j) here (rises t table count up middle j (omega (arith, other)) k)
