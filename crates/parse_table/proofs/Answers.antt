-- What the answers of the table say of the grammar, for a caller: rows, what is left out, actions one by one, the symbol on top, and the room of the stack.
use Prim.Native.Nat.{ℕ, zero, suc, ◌+◌, ◌-◌, ◌/◌, ◌%◌, ◌^◌, ◌≤◌, ◌<◌}
use mathlib.Core.Path.{◌≡◌, refl, sym, ap, ◌∙◌}
use mathlib.Core.Bool.{Bool, true, false}
use mathlib.Core.List.{List, [], ◌∷◌}
use mathlib.Core.Option.{Option, none, some}
use Rattle.std.specs.Prelude.{Option as CodeOption, Some, None}
use native.Mathlib.Omega.{arith}
use lib.Dec.{eqb}
use lib.ListN.{length}
use borrow.Author.Tests.{ne_eqb}
use Rattle.rules.specs.Bytes.{pick, byte}
use Rattle.notation.specs.Building.{Build, Action}
use Rattle.notation.specs.Grammar.{Row, row, manifest}
use Rattle.parse_table.specs.Codes.{symbol_of, symbols_onto, symbols_in, action_of, actions_from, actions_in, row_in, left_out_in}
use Rattle.parse_table.specs.Stack.{stack_of}
use Rattle.parse_table.specs.declared.rows.Row.{Row as CodedRow}
use Rattle.parse_table.proofs.Pushing.{limit}
use Rattle.parse_table.proofs.Bound.{Kept, stack_bound}

-- ---- Rows, and what is left out

module _ (r : CodeOption CodedRow) {o : Option Row} (e : row_in r ≡ o) where
  -- the token is taken
  pub row_taken : (w : CodedRow) → r ≡ Some w → o ≡ some (row (actions_in w.actions) (symbols_in w.symbols))
  row_taken w t = sym e ∙ rw t

  -- the token is not taken
  pub row_not_taken : r ≡ None → o ≡ none
  row_not_taken t = sym e ∙ rw t

module _ (r : CodeOption ℕ) {o : Option (List Action)} (e : left_out_in r ≡ o) where
  -- the symbol may be left out
  pub out_allowed : (actions : ℕ) → r ≡ Some actions → o ≡ some (actions_in actions)
  out_allowed actions t = sym e ∙ rw t

  -- the symbol is needed
  pub out_needed : r ≡ None → o ≡ none
  out_needed t = sym e ∙ rw t

-- ---- Actions

-- one more byte changes nothing where there are no more
one_byte_more : (n x : ℕ) → x < limit n → actions_from n x ≡ actions_from (suc n) x
unfolding actions_from
one_byte_more zero x h = let nothing : x ≡ 0 = omega arith in rw nothing
one_byte_more (suc n) x h = go (eqb x 0) (one_byte_more n (x / 256) (omega arith))
  where
    go : (b : Bool) → actions_from n (x / 256) ≡ actions_from (suc n) (x / 256) → pick b [] (action_of (x % 256) ∷ actions_from n (x / 256)) ≡ pick b [] (action_of (x % 256) ∷ actions_from (suc n) (x / 256))
    go true e = refl
    go false e = ap (λ (ds : List Action). action_of (x % 256) ∷ ds) e

-- the first action, and the others
pub first_action : (x : ℕ) → x < 2 ^ 32 → (x ≡ 0 → ⊥) → actions_in x ≡ action_of (x % 256) ∷ actions_in (x / 256)
unfolding actions_in actions_from
first_action x h n = rw (ne_eqb x 0 n) (ap (λ (ds : List Action). action_of (x % 256) ∷ ds) (one_byte_more 3 (x / 256) (omega arith)))

-- no action is left
pub no_action_lem : actions_in 0 ≡ []
unfolding actions_in actions_from
no_action_lem = refl

-- ---- The stack

-- what a new stack begins with
pub manifest_coded : symbols_in 0x2c05 ≡ manifest
unfolding symbols_in symbols_onto symbol_of
manifest_coded = refl

-- the symbol on top, and those below
pub on_top : (m : List ℕ) (n : ℕ) → 0 < n → stack_of m n ≡ symbol_of (byte m (n - 1)) ∷ stack_of m (n - 1)
unfolding stack_of
on_top m zero h = absurd (omega arith)
on_top m (suc n) h = let below : suc n - 1 ≡ n = omega arith in rw below

-- as many symbols as bytes
pub stack_length : (m : List ℕ) (n : ℕ) → length (stack_of m n) ≡ n
unfolding stack_of
stack_length m zero = refl
stack_length m (suc n) = ap suc (stack_length m n)

-- there is room to push
pub push_room : (m : List ℕ) (n : ℕ) (f : Build) → Kept (stack_of m n) f → 468 ≤ length m → n + 7 ≤ length m
push_room m n f h l = omega (arith, stack_bound (stack_of m n) f h, stack_length m n)
