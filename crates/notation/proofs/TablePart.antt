-- A rising table whose strings are all in another rising table is a part of it: it weighs no more, whatever a string weighs. So a text whose
-- strings are those of a sound manifest brings no string too many.
use Prim.Native.Nat.{ℕ, ◌+◌, ◌≤◌}
use mathlib.Core.Path.{◌≡◌, refl}
use mathlib.Core.Bool.{Bool, true, false}
use mathlib.Core.List.{List, [], ◌∷◌}
use mathlib.Core.Option.{none}
use native.Mathlib.Omega.{arith}
use lib.Dec.{ltb}
use lib.ListN.{length}
use borrow.Author.Tests.{ltb-true, ltb-false, lt-ltb, le-ltb}
use Rattle.rules.specs.Bytes.{pick}
use Rattle.rules.specs.Check.{ascends}
use Rattle.rules.specs.Ranges.{Each, none_left, also}
use Rattle.rules.proofs.Lists.{each_map}
use Rattle.rules.proofs.Within.{false_not_true}
use Rattle.notation.specs.Tokens.{Lexeme, token_of}
use Rattle.notation.specs.Convert.{strings_of, entered_all, crowded_at}
use Rattle.notation.proofs.WrittenNames.{Rising, no_string, one_string, next_string}
use Rattle.notation.proofs.StringTable.{Among, at_first, later, StringsIn, all_each, all_rising}

-- ---- The order of strings

-- no string comes before itself
ascends_not : (s : List ℕ) → ascends s s ≡ true → ⊥
unfolding ascends
ascends_not [] e = false_not_true e
ascends_not (x ∷ s) e = ascends_not s (rw (le-ltb x x (omega arith)) at e)

-- what comes before a string comes before those after it
ascends_on : (r s t : List ℕ) → ascends r s ≡ true → ascends s t ≡ true → ascends r t ≡ true
unfolding ascends
ascends_on [] [] t e f = false_not_true e
ascends_on [] (y ∷ s) [] e f = false_not_true f
ascends_on [] (y ∷ s) (z ∷ t) e f = refl
ascends_on (x ∷ r) [] t e f = false_not_true e
ascends_on (x ∷ r) (y ∷ s) [] e f = false_not_true f
ascends_on (x ∷ r) (y ∷ s) (z ∷ t) e f = go (ltb x y) refl (ltb y x) refl (ltb y z) refl (ltb z y) refl (λ i j. ascends_on r s t i j) e f
  where
    go : (a : Bool) → ltb x y ≡ a → (b : Bool) → ltb y x ≡ b → (c : Bool) → ltb y z ≡ c → (d : Bool) → ltb z y ≡ d → (ascends r s ≡ true → ascends s t ≡ true → ascends r t ≡ true) → pick a true (pick b false (ascends r s)) ≡ true → pick c true (pick d false (ascends s t)) ≡ true → pick (ltb x z) true (pick (ltb z x) false (ascends r t)) ≡ true
    go true ha b hb true hc d hd others e f =
        let low = ltb-true x y ha in
        let high = ltb-true y z hc in
        rw (lt-ltb x z (omega arith))
    go true ha b hb false hc true hd others e f = false_not_true f
    go true ha b hb false hc false hd others e f =
        let low = ltb-true x y ha in
        let high = ltb-false z y hd in
        rw (lt-ltb x z (omega arith))
    go false ha true hb c hc d hd others e f = false_not_true e
    go false ha false hb true hc d hd others e f =
        let low = ltb-false y x hb in
        let high = ltb-true y z hc in
        rw (lt-ltb x z (omega arith))
    go false ha false hb false hc true hd others e f = false_not_true f
    go false ha false hb false hc false hd others e f =
        let one = ltb-false x y ha in
        let two = ltb-false y x hb in
        let three = ltb-false y z hc in
        let four = ltb-false z y hd in
        rw (le-ltb x z (omega arith), le-ltb z x (omega arith)) (others e f)

-- of rising strings the first comes before each of the others
first_before : (r : List ℕ) (ss : List (List ℕ)) → Rising (r ∷ ss) → Each (λ s. ascends r s ≡ true) ss
first_before r [] up = none_left
first_before r (s ∷ ss) (next_string e up) = also e (each_map (λ t f. ascends_on r s t e f) (first_before s ss up))

others_rise : {r : List ℕ} {ss : List (List ℕ)} → Rising (r ∷ ss) → Rising ss
others_rise one_string = no_string
others_rise (next_string e up) = up

-- ---- A part of a table

-- what holds of each string holds of one that is among them
pub among_each : {P : List ℕ → Type 0} {s : List ℕ} {ss : List (List ℕ)} → Among s ss → Each P ss → P s
among_each at_first (also p all) = p
among_each (later i) (also p all) = among_each i all

-- no string is among none
among_none : {A : Type 0} {s : List ℕ} → Among s [] → A
among_none = elim [ ]

-- a string after the first is among the others
among_others : {u s : List ℕ} {us : List (List ℕ)} → ascends u s ≡ true → Among s (u ∷ us) → Among s us
among_others {u} e at_first = absurd (ascends_not u e)
among_others e (later i) = i

each_among_others : {u : List ℕ} {us ss : List (List ℕ)} → Each (λ s. ascends u s ≡ true) ss → Each (λ s. Among s (u ∷ us)) ss → Each (λ s. Among s us) ss
each_among_others none_left none_left = none_left
each_among_others (also e es) (also i is) = also (among_others e i) (each_among_others es is)

-- what strings weigh together
unfoldable pub total : (List ℕ → ℕ) → List (List ℕ) → ℕ
total w [] = 0
total w (s ∷ ss) = w s + total w ss

-- a rising part of rising strings weighs no more
pub part_weighs : (w : List ℕ → ℕ) (ss us : List (List ℕ)) → Rising ss → Rising us → Each (λ s. Among s us) ss → total w ss ≤ total w us
unfolding total
part_weighs w [] us up urise all = omega arith
part_weighs w (s ∷ ss) [] up urise (also i all) = among_none i
part_weighs w (s ∷ ss) (u ∷ us) up urise (also i all) = go i up all (λ part. part_weighs w (s ∷ ss) us up (others_rise urise) part) (λ part. part_weighs w ss us (others_rise up) (others_rise urise) part)
  where
    go : {t : List ℕ} → Among t (u ∷ us) → Rising (t ∷ ss) → Each (λ s. Among s (u ∷ us)) ss → (Each (λ s. Among s us) (t ∷ ss) → total w (t ∷ ss) ≤ total w us) → (Each (λ s. Among s us) ss → total w ss ≤ total w us) → total w (t ∷ ss) ≤ total w (u ∷ us)
    go at_first up all whole rest = let less = rest (each_among_others (first_before u ss up) all) in omega arith
    go {t} (later i) up all whole rest =
        let before : ascends u t ≡ true = among_each i (first_before u us urise) in
        let less = whole (also i (each_among_others (each_map (λ r f. ascends_on u t r before f) (first_before t ss up)) all)) in
        omega arith

-- strings counted
one_each : (ss : List (List ℕ)) → total (λ s. 1) ss ≡ length ss
unfolding total
one_each [] = refl
one_each (s ∷ ss) = let others = one_each ss in omega arith

-- a rising part is no longer
pub part_length : (ss us : List (List ℕ)) → Rising ss → Rising us → Each (λ s. Among s us) ss → length ss ≤ length us
part_length ss us up urise all = omega (arith, part_weighs (λ s. 1) ss us up urise all, one_each ss, one_each us)

-- ---- The strings of a text

-- no token brings a string too many, where all strings are among few rising ones
pub not_crowded : (us : List (List ℕ)) → Rising us → length us ≤ 1024 → {xs : List Lexeme} → Each (StringsIn (λ s. Among s us)) xs → (table : List (List ℕ)) → Rising table → Each (λ s. Among s us) table → crowded_at xs table ≡ none
unfolding crowded_at
not_crowded us urise few none_left table up all = refl
not_crowded us urise few (also {x = x} {xs = xs} i is) table up all =
    let next : List (List ℕ) = entered_all (strings_of (token_of x)) table in
    let next_up = all_rising (strings_of (token_of x)) table up in
    let next-all = all_each table i all in
    let low : ltb 1024 (length next) ≡ false = le-ltb 1024 (length next) (omega (arith, part_length next us next_up urise next-all)) in
    rw low (not_crowded us urise few is next next_up next-all)
