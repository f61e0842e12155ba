-- A row's symbols and actions in one number, the symbols that a code stands for, and the kinds that a symbol does not take.
use Prim.Native.Nat.{ℕ, suc, ◌+◌, ◌-◌, ◌*◌, ◌/◌, ◌%◌, ◌≤◌, ◌<◌}
use mathlib.Core.Path.{◌≡◌, refl, sym, ap, ◌∙◌}
use mathlib.Core.Bool.{Bool, true, false, ◌&&◌, ◌||◌}
use mathlib.Core.List.{List, [], ◌∷◌}
use mathlib.Core.Option.{Option, none, some}
use native.Mathlib.Omega.{arith}
use lib.Dec.{leb, eqb}
use borrow.Author.Tests.{eqb-true, ne_eqb, leb-true, le-leb, lt-leb, lt-ltb, le-ltb}
use Rattle.rules.specs.Bytes.{pick}
use Rattle.rules.proofs.Listed.{both_left, both_right}
use Rattle.rules.proofs.Within.{false_not_true}
use Rattle.format.proofs.Table.{unlike}
use Rattle.notation.specs.Tokens.{is_among}
use Rattle.notation.specs.Lexing.{find}
use Rattle.notation.specs.Grammar.{Symbol, sign, expression, operators, ends, Row, row}
use Rattle.parse_table.specs.Codes.{symbol_of, symbols_onto, symbols_in, actions_in}

-- ---- The lowest symbol of a number

-- it comes before those that are there
pub lowest_next : (n a y x : ℕ) (k : List Symbol) → x ≡ a + 256 * y → 0 < a → a < 256 → symbols_onto (suc n) x k ≡ symbols_onto n y (symbol_of a ∷ k)
unfolding symbols_onto
lowest_next n a y x k e l h =
    let low : x % 256 ≡ a = omega arith in
    let high : x / 256 ≡ y = omega arith in
    let some_left : eqb x 0 ≡ false = ne_eqb x 0 (λ z. omega arith) in
    rw (some_left, low, high)

-- a row whose last symbol is known by its code
pub row_last : (actions a y x : ℕ) {s : Symbol} → symbol_of a ≡ s → x ≡ a + 256 * y → 0 < a → a < 256 → ◌≡◌ {A = Option Row} (some (row (actions_in actions) (symbols_in x))) (some (row (actions_in actions) (symbols_onto 7 y (s ∷ []))))
unfolding symbols_in
row_last b a y x {s} k e l h = ap (λ (ss : List Symbol). some (row (actions_in b) ss)) (lowest_next 7 a y x [] e l h ∙ ap (λ (z : Symbol). symbols_onto 7 y (z ∷ [])) k)

-- ---- What codes stand for

-- a kind stands for its sign
pub code_sign : (n : ℕ) → n < 0x25 → symbol_of n ≡ sign n
unfolding symbol_of
code_sign n h = rw (lt-ltb n 0x25 h)

-- operators with their levels
pub code_operators : (n : ℕ) → 0x48 ≤ n → symbol_of n ≡ operators (n / 8 - 8) (n % 8)
unfolding symbol_of
code_operators n h = rw (le-ltb n 0x25 (omega arith), le-leb 0x48 n h)

-- an expression with its level
pub code_expression : (n : ℕ) → 0x31 ≤ n → n < 0x39 → symbol_of n ≡ expression (n - 0x30)
unfolding symbol_of
code_expression n l h = rw (le-ltb n 0x25 (omega arith), lt-leb 0x48 n (omega arith), le-leb 0x31 n l, le-leb n 0x38 (omega arith))

-- operators with the same loosest level
pub code_up_to : (s n : ℕ) → 0x48 ≤ s → n ≤ s % 8 → symbol_of (s - s % 8 + n) ≡ operators (s / 8 - 8) n
code_up_to s n l h =
    let loosest : (s - s % 8 + n) / 8 - 8 ≡ s / 8 - 8 = omega arith in
    let tightest : (s - s % 8 + n) % 8 ≡ n = omega arith in
    code_operators (s - s % 8 + n) (omega arith) ∙ rw (loosest, tightest)

-- operators behind an operand
pub code_behind : (s : ℕ) → 0x31 ≤ s → s ≤ 0x38 → symbol_of (s * 8 - 0x139) ≡ operators (s - 0x30) 7
code_behind s l h =
    let loosest : (s * 8 - 0x139) / 8 - 8 ≡ s - 0x30 = omega arith in
    let tightest : (s * 8 - 0x139) % 8 ≡ 7 = omega arith in
    code_operators (s * 8 - 0x139) (omega arith) ∙ rw (loosest, tightest)

-- the symbols of an operator of level n with a right side, where a is the code of the operators s behind it
pub right_side : (a n x : ℕ) {s : Symbol} → symbol_of a ≡ s → n ≤ 7 → x ≡ a + 0x313e00 + 0x10000 * n → 0 < a → a < 256 → symbols_in x ≡ expression (suc n) ∷ ends ∷ s ∷ []
unfolding symbols_in
right_side a n x {s} k m e l h =
    let level : 0x31 + n - 0x30 ≡ suc n = omega arith in
    let operand : symbol_of (0x31 + n) ≡ expression (suc n) = code_expression (0x31 + n) (omega arith) (omega arith) ∙ ap expression level in
    let field_ends : symbol_of 0x3e ≡ ends = unfold symbol_of in refl in
    let no_more : (k : List Symbol) → symbols_onto 5 0 k ≡ k = λ k. unfold symbols_onto in refl in
    lowest_next 7 a (0x313e + 0x100 * n) x [] (omega arith) l h
    ∙ lowest_next 6 0x3e (0x31 + n) (0x313e + 0x100 * n) (symbol_of a ∷ []) (omega arith) (omega arith) (omega arith)
    ∙ lowest_next 5 (0x31 + n) 0 (0x31 + n) (symbol_of 0x3e ∷ symbol_of a ∷ []) (omega arith) (omega arith) (omega arith)
    ∙ rw (operand, field_ends, k) (no_more (expression (suc n) ∷ ends ∷ s ∷ []))

-- a level that is allowed is no tighter than the tightest
pub allowed_level : (l n m : ℕ) {b : Bool} → b ≡ (leb l n && leb n m) → b ≡ true → n ≤ m
allowed_level l n m e h = leb-true n m (both_right (leb l n) (leb n m) (sym e ∙ h))

-- ---- What is not found

-- what a test lets through
pub accepted : {A : Type 0} (b : Bool) {r : A} → b ≡ true → ◌≡◌ {A = Option A} (some r) (pick b (some r) none)
accepted b e = rw e

-- a test of nothing
abbrev pub is_none : {A : Type 0} → Option A → Bool
is_none none = true
is_none (some a) = false

pub none_told : {A : Type 0} (o : Option A) → is_none o ≡ true → none ≡ o
none_told none e = refl
none_told (some a) e = false_not_true e

-- each key of a list is among those that a `match` has
abbrev pub keys_in : {A : Type 0} → List (ℕ × A) → List ℕ → Bool
keys_in [] ks = true
keys_in (x ∷ xs) ks = is_among x.0 ks && keys_in xs ks

-- a kind that is no key is no member of a list of keys
other_key : (k x : ℕ) (ks : List ℕ) → unlike k ks → is_among x ks ≡ true → k ≡ x → ⊥
other_key k x [] u h e = false_not_true h
other_key k x (y ∷ ys) u h e = go (other_key k x ys u.0) (eqb x y) refl h
  where
    go : (is_among x ys ≡ true → k ≡ x → ⊥) → (b : Bool) → eqb x y ≡ b → (b || is_among x ys) ≡ true → ⊥
    go later true i j = u.1 (e ∙ eqb-true x y i)
    go later false i j = later j e

-- a kind that is none of the keys
pub absent : {A : Type 0} (ks : List ℕ) (xs : List (ℕ × A)) (k : ℕ) → keys_in xs ks ≡ true → unlike k ks → find k xs ≡ none
absent ks [] k h u = refl
absent ks (x ∷ xs) k h u =
    let other = other_key k x.0 ks u (both_left (is_among x.0 ks) (keys_in xs ks) h) in
    rw (ne_eqb k x.0 other) (absent ks xs k (both_right (is_among x.0 ks) (keys_in xs ks) h) u)
