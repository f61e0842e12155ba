-- The first line: its digits one after the other, and 256 bytes of it are enough. Assumes nothing.
use Rattle.std.specs.Prelude.{None, Some}
use Rattle.manifest_text.specs.declared.Command.TheVariants.{Place}
use Rattle.manifest_text.specs.Commands.{BuiltIn, Asked}
use Prim.Native.Nat.{ℕ, ◌+◌, ◌-◌, ◌*◌, ◌≤◌, ◌<◌, min}
use mathlib.Core.Path.{◌≡◌, refl, sym, ap, ◌∙◌}
use mathlib.Core.Bool.{Bool, true, false}
use mathlib.Core.List.{List, [], ◌∷◌}
use native.Mathlib.Omega.{arith}
use borrow.Author.Tests.{leb-true, leb-false, ltb-true, ltb-false, lt-ltb, le-ltb}
use lib.Dec.{leb, ltb, lit≤}
use lib.ListN.{length, take, drop, length-take, length-drop}
use lib.Seq.{take_all, take-take}
use Rattle.rules.specs.Bytes.{pick}
use Rattle.rules.specs.Compile.{same_bytes}
use Rattle.input.proofs.Kept.{other_length}
use Rattle.input.specs.Numbers.{with_digit as digit_to, spelled as spelled_to}
use Rattle.manifest_text.specs.Commands.{with_digit, spelled, offset_of, place_asked, command_of, names_types, command_behind, command_in, types_in}

-- ---- Digits

-- digit by digit the same as with the limit 99,999
same_digit : (n c : ℕ) → with_digit n c ≡ digit_to 99999 n c
unfolding with_digit digit_to
same_digit n c = go (ltb c 48) (ltb 57 c) refl (ltb 9999 n) refl
  where
    go : (a b : Bool) → ltb 57 c ≡ b → (d : Bool) → ltb 9999 n ≡ d → pick a 100000 (pick b 100000 (pick d 100000 (n * 10 + (c - 48)))) ≡ pick a (99999 + 1) (pick b (99999 + 1) (min (99999 + 1) (n * 10 + (c - 48))))
    go true b e d f = omega arith
    go false true e d f = omega arith
    go false false e true f = omega (arith, ltb-true 9999 n f)
    go false false e false f = omega (arith, ltb-false 57 c e, ltb-false 9999 n f)

pub same_spelled : (cs : List ℕ) (n : ℕ) → spelled_to 99999 cs n ≡ spelled cs n
unfolding spelled spelled_to
same_spelled [] n = refl
same_spelled (c ∷ cs) n = sym (ap (spelled_to 99999 cs) (same_digit n c)) ∙ same_spelled cs (with_digit n c)

-- the whole number: one to five digits
module _ (line : List ℕ) where
  pub no_offset : length line < 7 → 100000 ≡ offset_of line
  unfolding offset_of
  no_offset h = rw (lt-ltb (length line) 7 h) refl

  pub long_offset : 7 ≤ length line → 11 < length line → 100000 ≡ offset_of line
  unfolding offset_of
  long_offset some h = rw (le-ltb (length line) 7 some, lt-ltb 11 (length line) h) refl

  pub whole_offset : {n : ℕ} → 7 ≤ length line → length line ≤ 11 → n ≡ spelled (drop 6 line) 0 → n ≡ offset_of line
  unfolding offset_of
  whole_offset some few e = rw (le-ltb (length line) 7 some, le-ltb 11 (length line) few) e

  pub none_asked : {n : ℕ} → n ≡ offset_of line → 99999 < n → None ≡ place_asked line
  unfolding place_asked
  none_asked {n} e h = rw (← e, lt-ltb 99999 n h) refl

  pub one_asked : {n : ℕ} → n ≡ offset_of line → n ≤ 99999 → Some (Place n) ≡ place_asked line
  unfolding place_asked
  one_asked {n} e h = rw (← e, le-ltb 99999 n h) refl

-- ---- The third word

pub third_word : (line : List ℕ) {w : List ℕ} {b : Bool} → same_bytes (99 ∷ 111 ∷ 110 ∷ 118 ∷ 101 ∷ 114 ∷ 116 ∷ []) line ≡ false → same_bytes (112 ∷ 114 ∷ 105 ∷ 110 ∷ 116 ∷ []) line ≡ false → w ≡ take 6 line → same_bytes (112 ∷ 108 ∷ 97 ∷ 99 ∷ 101 ∷ 32 ∷ []) w ≡ b → pick b (place_asked line) None ≡ command_of line
unfolding command_of
third_word line first second six third = rw (first, second, ← six, third) refl

-- ---- Behind a list of types

module _ (line : List ℕ) where
  pub nothing_behind : {n : ℕ} → n ≡ offset_of (take 11 line) → 99999 < n → None ≡ command_behind line
  unfolding command_behind
  nothing_behind {n} e h = rw (← e, lt-ltb 99999 n h) refl

  pub then_behind : {n : ℕ} {space : Bool} → n ≡ offset_of (take 11 line) → n ≤ 99999 → same_bytes (32 ∷ []) (take 1 (drop 11 line)) ≡ space → pick space (command_of (drop 12 line)) None ≡ command_behind line
  unfolding command_behind
  then_behind {n} e h is = rw (← e, le-ltb 99999 n h, is) refl

  pub command_is : {types : Bool} → names_types line ≡ types → pick types (command_behind line) (command_of line) ≡ command_in line
  unfolding command_in
  command_is e = rw e refl

  pub types_are : {types : Bool} → names_types line ≡ types → pick types (Some (offset_of (take 11 line))) None ≡ types_in line
  unfolding types_in
  types_are e = rw e refl

-- ---- Lengths

-- where all that is longer than n has one value, the first n + 1 have the value of the whole
pub same_beyond : {B : Type 0} (n : ℕ) (f : List ℕ → B) {v : B} → ((l : List ℕ) → n < length l → f l ≡ v) → (l : List ℕ) → f (take (1 + n) l) ≡ f l
same_beyond n f long l = go (leb (length l) n) refl
  where
    go : (b : Bool) → leb (length l) n ≡ b → f (take (1 + n) l) ≡ f l
    go true e = ap f (take_all (1 + n) l (omega (arith, leb-true (length l) n e)))
    go false e =
        let over : n < length l = leb-false _ _ e in
        long (take (1 + n) l) (omega (arith, length-take (1 + n) l)) ∙ sym (long l over)

either_way : (b : Bool) → ◌≡◌ {A = Asked} (pick b None None) None
either_way true = refl
either_way false = refl

-- no command is longer than eleven bytes
long_line : (line : List ℕ) → 11 < length line → command_of line ≡ None
unfolding command_of place_asked
long_line line long =
    rw (← other_length (99 ∷ 111 ∷ 110 ∷ 118 ∷ 101 ∷ 114 ∷ 116 ∷ []) line (λ q. omega arith), ← other_length (112 ∷ 114 ∷ 105 ∷ 110 ∷ 116 ∷ []) line (λ q. omega arith), ← long_offset line (omega arith) (omega arith)) (either_way (same_bytes (112 ∷ 108 ∷ 97 ∷ 99 ∷ 101 ∷ 32 ∷ []) (take 6 line)))

-- nor one with a list longer than twenty-three
long_command : (line : List ℕ) → 255 < length line → command_in line ≡ None
unfolding command_in command_behind
long_command line long =
    rw (long_line line (omega arith), long_line (drop 12 line) (omega (arith, length-drop 12 line)), either_way (same_bytes (32 ∷ []) (take 1 (drop 11 line))), either_way (ltb 99999 (offset_of (take 11 line)))) (either_way (names_types line))

pub same_command : (line : List ℕ) → command_in (take 256 line) ≡ command_in line
same_command line = same_beyond 255 command_in long_command line

pub same_types_in : (line : List ℕ) → types_in (take 256 line) ≡ types_in line
unfolding types_in names_types
same_types_in line = rw (take-take 6 256 line (lit≤ tt), take-take 11 256 line (lit≤ tt)) refl

-- ---- The list's length

unfoldable pub list_size : BuiltIn → ℕ
list_size None = 0
list_size (Some size) = size

digit_low : (n c : ℕ) → with_digit n c ≤ 100000
unfolding with_digit
digit_low n c = go (ltb c 48) (ltb 57 c) (leb n 9999) refl refl refl
  where
    go : (a b d : Bool) → ltb c 48 ≡ a → ltb 57 c ≡ b → leb n 9999 ≡ d → with_digit n c ≤ 100000
    go true b d e f g = rw e (omega arith)
    go false true d e f g = rw (e, f) (omega arith)
    go false false false e f g = rw (e, f, lt-ltb 9999 n (leb-false n 9999 g)) (omega arith)
    go false false true e f g =
        let few : n ≤ 9999 = leb-true n 9999 g in
        rw (e, f, le-ltb 9999 n few) (omega (arith, ltb-false 57 c f))

spelled_low : (cs : List ℕ) (n : ℕ) → n ≤ 100000 → spelled cs n ≤ 100000
unfolding spelled
spelled_low [] n h = h
spelled_low (c ∷ cs) n h = spelled_low cs (with_digit n c) (digit_low n c)

pick_low : (b : Bool) {n : ℕ} → n ≤ 100000 → pick b 100000 n ≤ 100000
pick_low true h = omega arith
pick_low false h = h

pub offset_low : (line : List ℕ) → offset_of line ≤ 100000
unfolding offset_of
offset_low line = pick_low (ltb (length line) 7) (pick_low (ltb 11 (length line)) (spelled_low (drop 6 line) 0 (omega arith)))

pub list_low : (line : List ℕ) → list_size (types_in line) ≤ 100000
unfolding types_in list_size
list_low line = go (names_types line) refl
  where
    go : (b : Bool) → names_types line ≡ b → list_size (types_in line) ≤ 100000
    go true e = rw e (offset_low (take 11 line))
    go false e = rw e (omega arith)
