-- The table of the strings of a text: it rises, it has each string of each token, and each string in it has a number.
use Prim.Native.Nat.{ℕ, suc, ◌+◌, ◌<◌, ◌≤◌}
use mathlib.Core.Path.{◌≡◌, refl, sym, ap₂, subst}
use mathlib.Core.Bool.{Bool, true, false}
use mathlib.Core.List.{List, [], ◌∷◌}
use mathlib.Core.Option.{Option, none, some}
use native.Mathlib.Omega.{arith}
use lib.Dec.{ltb, eqb}
use lib.ListN.{length}
use borrow.Author.Tests.{ltb-false, eqb-true}
use Rattle.rules.specs.Bytes.{pick}
use Rattle.rules.specs.Check.{ascends}
use Rattle.rules.specs.Compile.{same_bytes, string_at, string_number}
use Rattle.rules.specs.Ranges.{Each, none_left, also}
use Rattle.rules.proofs.Lists.{both_left, both_right, both_true, eqb_same, each_map}
use Rattle.rules.proofs.Within.{false_not_true}
use Rattle.notation.specs.Tokens.{Lexeme, token_of, place_of}
use Rattle.notation.specs.Convert.{strings_of, entered, entered_all, table_behind, crowded_at}
use Rattle.notation.proofs.WrittenNames.{Rising, one_string, next_string}
use Rattle.notation.proofs.NeedsKept.{none_not_some}

-- ---- Strings in a table

-- a string is in a table
pub data Among (s : List ℕ) : List (List ℕ) → Type 0 where
  at_first : {table : List (List ℕ)} → Among s (s ∷ table)
  later : {t : List ℕ} {table : List (List ℕ)} → Among s table → Among s (t ∷ table)

-- of two strings that differ, one comes before the other
same_place : (s t : List ℕ) → ascends s t ≡ false → ascends t s ≡ false → s ≡ t
unfolding ascends
same_place [] [] e f = refl
same_place [] (y ∷ ys) e f = false_not_true (sym e)
same_place (x ∷ xs) [] e f = false_not_true (sym f)
same_place (x ∷ xs) (y ∷ ys) e f = go (ltb x y) refl (ltb y x) refl (λ i j. same_place xs ys i j) e f
  where
    go : (a : Bool) → ltb x y ≡ a → (b : Bool) → ltb y x ≡ b → (ascends xs ys ≡ false → ascends ys xs ≡ false → xs ≡ ys) → pick a true (pick b false (ascends xs ys)) ≡ false → pick b true (pick a false (ascends ys xs)) ≡ false → ◌≡◌ {A = List ℕ} (x ∷ xs) (y ∷ ys)
    go true h b i others e f = false_not_true (sym e)
    go false h true i others e f = false_not_true (sym f)
    go false h false i others e f =
        let low = ltb-false x y h in
        let high = ltb-false y x i in
        let same : x ≡ y = omega arith in
        ap₂ ◌∷◌ same (others e f)

-- ---- One string entered

-- it is there
entered_there : (s : List ℕ) (table : List (List ℕ)) → Among s (entered s table)
unfolding entered
entered_there s [] = at_first
entered_there s (t ∷ table) = go (ascends s t) refl (ascends t s) refl (entered_there s table)
  where
    go : (a : Bool) → ascends s t ≡ a → (b : Bool) → ascends t s ≡ b → Among s (entered s table) → Among s (pick a (s ∷ t ∷ table) (pick b (t ∷ entered s table) (t ∷ table)))
    go true h b i others = at_first
    go false h true i others = later others
    go false h false i others = subst (λ (t : List ℕ). Among s (t ∷ table)) (same_place s t h i) at_first

-- so are the others
entered_kept : {r : List ℕ} (s : List ℕ) {table : List (List ℕ)} → Among r table → Among r (entered s table)
unfolding entered
entered_kept {r} s (at_first {table = table}) = go (ascends s r) (ascends r s)
  where
    go : (a b : Bool) → Among r (pick a (s ∷ r ∷ table) (pick b (r ∷ entered s table) (r ∷ table)))
    go true b = later at_first
    go false true = at_first
    go false false = at_first
entered_kept {r} s (later {t = t} {table = table} i) = go (ascends s t) (ascends t s) (entered_kept s i)
  where
    go : (a b : Bool) → Among r (entered s table) → Among r (pick a (s ∷ t ∷ table) (pick b (t ∷ entered s table) (t ∷ table)))
    go true b others = later (later i)
    go false true others = later others
    go false false others = later i

-- P holds of all if it holds of it and of the others
entered_each : {P : List ℕ → Type 0} (s : List ℕ) (table : List (List ℕ)) → P s → Each P table → Each P (entered s table)
unfolding entered
entered_each s [] p none_left = also p none_left
entered_each {P} s (t ∷ table) p (also r all) = go (ascends s t) (ascends t s) (entered_each s table p all)
  where
    go : (a b : Bool) → Each P (entered s table) → Each P (pick a (s ∷ t ∷ table) (pick b (t ∷ entered s table) (t ∷ table)))
    go true b others = also p (also r all)
    go false true others = also r others
    go false false others = also r all

-- behind a string before it, they rise
rising_behind : (r s : List ℕ) (table : List (List ℕ)) → ascends r s ≡ true → Rising (r ∷ table) → Rising (r ∷ entered s table)
unfolding entered
rising_behind r s [] e one_string = next_string e one_string
rising_behind r s (t ∷ table) e (next_string f up) = go (ascends s t) refl (ascends t s) refl (λ i. rising_behind t s table i up)
  where
    go : (a : Bool) → ascends s t ≡ a → (b : Bool) → ascends t s ≡ b → (ascends t s ≡ true → Rising (t ∷ entered s table)) → Rising (r ∷ pick a (s ∷ t ∷ table) (pick b (t ∷ entered s table) (t ∷ table)))
    go true h b i others = next_string e (next_string h up)
    go false h true i others = next_string f (others i)
    go false h false i others = next_string f up

-- they rise
entered_rising : (s : List ℕ) (table : List (List ℕ)) → Rising table → Rising (entered s table)
unfolding entered
entered_rising s [] up = one_string
entered_rising s (t ∷ table) up = go (ascends s t) refl (ascends t s) refl
  where
    go : (a : Bool) → ascends s t ≡ a → (b : Bool) → ascends t s ≡ b → Rising (pick a (s ∷ t ∷ table) (pick b (t ∷ entered s table) (t ∷ table)))
    go true h b i = next_string h up
    go false h true i = rising_behind t s table i up
    go false h false i = up

-- ---- The strings of some tokens

-- what was there is there
all_kept : {r : List ℕ} (ss : List (List ℕ)) {table : List (List ℕ)} → Among r table → Among r (entered_all ss table)
unfolding entered_all
all_kept [] i = i
all_kept (s ∷ ss) i = all_kept ss (entered_kept s i)

-- each of the strings is there
all_there : {r : List ℕ} {ss : List (List ℕ)} → Among r ss → (table : List (List ℕ)) → Among r (entered_all ss table)
unfolding entered_all
all_there {r} (at_first {table = ss}) table = all_kept ss (entered_there r table)
all_there (later {t = t} i) table = all_there i (entered t table)

-- P holds of all
pub all_each : {P : List ℕ → Type 0} {ss : List (List ℕ)} (table : List (List ℕ)) → Each P ss → Each P table → Each P (entered_all ss table)
unfolding entered_all
all_each table none_left all = all
all_each table (also {x = s} p ps) all = all_each (entered s table) ps (entered_each s table p all)

-- they rise
pub all_rising : (ss table : List (List ℕ)) → Rising table → Rising (entered_all ss table)
unfolding entered_all
all_rising [] table up = up
all_rising (s ∷ ss) table up = all_rising ss (entered s table) (entered_rising s table up)

-- the strings of a token
abbrev pub StringsIn : (List ℕ → Type 0) → Lexeme → Type 0
StringsIn P x = Each P (strings_of (token_of x))

-- what is in the table stays in it
table_kept : {r : List ℕ} (xs : List Lexeme) {table : List (List ℕ)} → Among r table → Among r (table_behind xs table)
unfolding table_behind
table_kept [] i = i
table_kept (x ∷ xs) i = table_kept xs (all_kept (strings_of (token_of x)) i)

-- each of some strings is among them
each_among : (ss : List (List ℕ)) → Each (λ s. Among s ss) ss
each_among [] = none_left
each_among (s ∷ ss) = also at_first (each_map (λ r i. later i) (each_among ss))

-- each string of each token is in the table
pub table_has : (xs : List Lexeme) (table : List (List ℕ)) → Each (StringsIn (λ s. Among s (table_behind xs table))) xs
unfolding table_behind
table_has [] table = none_left
table_has (x ∷ xs) table = also (each_map (λ s i. table_kept xs (all_there i table)) (each_among (strings_of (token_of x)))) (table_has xs (entered_all (strings_of (token_of x)) table))

-- P holds of each string in the table, if it holds of those of the tokens
pub table_each : {P : List ℕ → Type 0} {xs : List Lexeme} (table : List (List ℕ)) → Each (StringsIn P) xs → Each P table → Each P (table_behind xs table)
unfolding table_behind
table_each table none_left all = all
table_each table (also {x = x} p ps) all = table_each (entered_all (strings_of (token_of x)) table) ps (all_each table p all)

-- the table rises
pub table_rising : (xs : List Lexeme) (table : List (List ℕ)) → Rising table → Rising (table_behind xs table)
unfolding table_behind
table_rising [] table up = up
table_rising (x ∷ xs) table up = table_rising xs (entered_all (strings_of (token_of x)) table) (all_rising (strings_of (token_of x)) table up)

-- where no token brings one too many, it has at most 1,024
pub table_size : (xs : List Lexeme) (table : List (List ℕ)) → length table ≤ 1024 → crowded_at xs table ≡ none → length (table_behind xs table) ≤ 1024
unfolding table_behind crowded_at
table_size [] table l e = l
table_size (x ∷ xs) table l e = go (ltb 1024 (length (entered_all (strings_of (token_of x)) table))) refl (λ l e. table_size xs (entered_all (strings_of (token_of x)) table) l e) e
  where
    go : (b : Bool) → ltb 1024 (length (entered_all (strings_of (token_of x)) table)) ≡ b → (length (entered_all (strings_of (token_of x)) table) ≤ 1024 → crowded_at xs (entered_all (strings_of (token_of x)) table) ≡ none → length (table_behind xs (entered_all (strings_of (token_of x)) table)) ≤ 1024) → ◌≡◌ {A = Option ℕ} (pick b (some (place_of x)) (crowded_at xs (entered_all (strings_of (token_of x)) table))) none → length (table_behind xs (entered_all (strings_of (token_of x)) table)) ≤ 1024
    go true h others e = none_not_some (sym e)
    go false h others e = others (ltb-false _ _ h) e

-- ---- Numbers of strings

-- the string s has a number in the table
pub record Numbered (table : List (List ℕ)) (s : List ℕ) : Type 0 where
  pub number : ℕ
  pub below : number < length table
  pub found : (i : ℕ) → string_number s table i ≡ some (i + number)
  pub back : string_at table number ≡ s

-- a string has the bytes of itself
bytes_same : (s : List ℕ) → same_bytes s s ≡ true
unfolding same_bytes
bytes_same [] = refl
bytes_same (x ∷ s) = both_true (eqb x x) (same_bytes s s) (eqb_same x) (bytes_same s)

-- strings with the same bytes are equal
bytes_equal : (s t : List ℕ) → same_bytes s t ≡ true → s ≡ t
unfolding same_bytes
bytes_equal [] [] e = refl
bytes_equal [] (y ∷ t) e = false_not_true e
bytes_equal (x ∷ s) [] e = false_not_true e
bytes_equal (x ∷ s) (y ∷ t) e = ap₂ ◌∷◌ (eqb-true x y (both_left (eqb x y) (same_bytes s t) e)) (bytes_equal s t (both_right (eqb x y) (same_bytes s t) e))

-- the number of a string is looked for from the first one on
number_by : (x y : List ℕ) (ys : List (List ℕ)) (i : ℕ) → string_number x (y ∷ ys) i ≡ pick (same_bytes x y) (some i) (string_number x ys (suc i))
unfolding string_number
number_by x y ys i = go (same_bytes x y)
  where
    go : (b : Bool) → elim b [ true ↦ some i | false ↦ string_number x ys (suc i) ] ≡ pick b (some i) (string_number x ys (suc i))
    go true = refl
    go false = refl

-- the first string has the first number
number_first : (s t : List ℕ) (table : List (List ℕ)) → same_bytes s t ≡ true → Numbered (t ∷ table) s
unfolding string_at
number_first s t table e =
    let zero_more : (i : ℕ) → i + 0 ≡ i = λ i. omega arith in
    record { number = 0; below = omega arith; found = λ i. rw (zero_more i, number_by s t table i, e); back = sym (bytes_equal s t e) }

-- a string after the first has the next number
number_later : (s t : List ℕ) (table : List (List ℕ)) → same_bytes s t ≡ false → Numbered table s → Numbered (t ∷ table) s
unfolding string_at
number_later s t table e n =
    let one_more : (i : ℕ) → suc i + n.number ≡ i + suc n.number = λ i. omega arith in
    let below = n.below in
    record { number = suc n.number; below = omega arith; found = λ i. rw (number_by s t table i, e, n.found (suc i), one_more i); back = n.back }

-- a string in the table has a number
pub among_numbered : {s : List ℕ} {table : List (List ℕ)} → Among s table → Numbered table s
among_numbered {s} (at_first {table = table}) = number_first s s table (bytes_same s)
among_numbered {s} (later {t = t} {table = table} i) = go (same_bytes s t) refl (among_numbered i)
  where
    go : (b : Bool) → same_bytes s t ≡ b → Numbered table s → Numbered (t ∷ table) s
    go true e others = number_first s t table e
    go false e others = number_later s t table e others
