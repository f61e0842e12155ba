-- The stack while a row's symbols are put on it.
use Prim.Native.Nat.{ℕ, zero, suc, ◌+◌, ◌-◌, ◌*◌, ◌/◌, ◌%◌, ◌^◌, ◌≤◌, ◌<◌}
use mathlib.Core.Path.{◌≡◌, refl, ◌∙◌}
use mathlib.Core.Bool.{Bool, true, false}
use mathlib.Core.List.{List, [], ◌∷◌, ◌++◌}
use native.Mathlib.Omega.{arith}
use lib.Dec.{eqb}
use lib.ListN.{length, set, length-set}
use lib.Seq.{get_or-set_same, get_or-set_other}
use borrow.Author.Tests.{ne_eqb}
use Rattle.rules.specs.Bytes.{pick, byte}
use Rattle.notation.specs.Grammar.{Symbol}
use Rattle.parse_table.specs.Codes.{symbol_of, symbols_onto, symbols_in}
use Rattle.parse_table.specs.Stack.{stack_of, Pushed}

-- a number of n bytes is less
abbrev pub limit : ℕ → ℕ
limit zero = 1
limit (suc n) = 256 * limit n

-- a store at the top or above does not change the symbols
stored_above : (m : List ℕ) (n i b : ℕ) → n ≤ i → stack_of (set m i b) n ≡ stack_of m n
unfolding stack_of
stored_above m zero i b h = refl
stored_above m (suc n) i b h = rw (get_or-set_other m i n b 0 (λ e. omega arith), stored_above m n i b (omega arith))

-- a store at the top puts a symbol on it
stored_on : (m : List ℕ) (n b : ℕ) → n < length m → stack_of (set m n b) (suc n) ≡ symbol_of b ∷ stack_of m n
unfolding stack_of
stored_on m n b h = rw (get_or-set_same m n b 0 h, stored_above m n n b (omega arith))

-- symbols come before those that are there
onto_append : (n x : ℕ) (j k : List Symbol) → symbols_onto n x (j ++ k) ≡ symbols_onto n x j ++ k
unfolding symbols_onto
onto_append zero x j k = refl
onto_append (suc n) x j k = go (eqb x 0) (onto_append n (x / 256) (symbol_of (x % 256) ∷ j) k)
  where
    go : (b : Bool) → symbols_onto n (x / 256) (symbol_of (x % 256) ∷ (j ++ k)) ≡ symbols_onto n (x / 256) (symbol_of (x % 256) ∷ j) ++ k → pick b (j ++ k) (symbols_onto n (x / 256) (symbol_of (x % 256) ∷ (j ++ k))) ≡ pick b j (symbols_onto n (x / 256) (symbol_of (x % 256) ∷ j)) ++ k
    go true e = refl
    go false e = e

-- where nothing is left, nothing comes before
nothing_left : (n x : ℕ) (k : List Symbol) → x ≡ 0 → k ≡ symbols_onto n x k
unfolding symbols_onto
nothing_left zero x k e = refl
nothing_left (suc n) x k e = rw e

-- n bytes of the number may still be left
pub record Left (old : List ℕ) (top x : ℕ) (m : List ℕ) (next left n : ℕ) : Type 0 where
  pub symbols : symbols_onto n left (stack_of m next) ≡ symbols_onto 8 x (stack_of old (top - 1))
  pub room : next + n ≡ top + 7
  pub within : left < limit n
  pub size : length m ≡ length old
  pub past : (i : ℕ) → next ≤ i → byte m i ≡ byte old i

abbrev pub Going : (old : List ℕ) (top x : ℕ) (m : List ℕ) (next left : ℕ) → Type 0
Going old top x m next left = (n : ℕ) × Left old top x m next left n

-- before the first one
pub none_put : (m : List ℕ) (top x : ℕ) → 0 < top → x < 2 ^ 64 → Going m top x m (top - 1) x
none_put m top x p h = (8, record { symbols = refl; room = omega arith; within = omega arith; size = refl; past = λ i l. refl })

module _ (old : List ℕ) (top x : ℕ) (m : List ℕ) (next left : ℕ) where
  -- there is room for one more
  pub room_for : Going old top x m next left → (left ≡ 0 → ⊥) → next < top + 7
  room_for (zero, g) h = absurd (h (let w = g.within in omega arith))
  room_for (suc n, g) h = let r = g.room in omega arith

  -- one more
  pub one_put : Going old top x m next left → (left ≡ 0 → ⊥) → next < length m → Going old top x (set m next (left % 256)) (next + 1) (left / 256)
  unfolding symbols_onto
  one_put (zero, g) h l = absurd (h (let w = g.within in omega arith))
  one_put (suc n, g) h l =
      let w = g.within in
      let r = g.room in
      let one_more : next + 1 ≡ suc next = omega arith in (
        n,
        record {
          symbols = rw (one_more, stored_on m next (left % 256) l) (rw (ne_eqb left 0 h) at g.symbols);
          room = omega arith;
          within = omega arith;
          size = length-set m next (left % 256) ∙ g.size;
          past = λ i j. get_or-set_other m next i (left % 256) 0 (λ e. omega arith) ∙ g.past i (omega arith);
        },
      )

  -- all are put
  pub all_put : Going old top x m next left → left ≡ 0 → Pushed old m top x next
  unfolding symbols_in
  all_put (n, g) e =
      let r = g.room in
      record { symbols = nothing_left n left (stack_of m next) e ∙ g.symbols ∙ onto_append 8 x [] (stack_of old (top - 1)); few = omega arith; size = g.size; past = g.past }
