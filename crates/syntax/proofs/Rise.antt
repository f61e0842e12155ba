-- One law for each way through `comes_before`, `text_of`, `check_strings` and `count_strings`.
use mathlib.Core.Path.{◌≡◌, refl, sym, ap, ◌∙◌}
use mathlib.Core.Bool.{Bool, true, false}
use mathlib.Core.List.{List, [], ◌∷◌}
use Prim.Native.Nat.{ℕ, ◌+◌, ◌-◌, ◌≤◌}
use native.Mathlib.Omega.{arith}
use lib.ListN.{length, take, drop, length-drop, drop_of_length-le}
use lib.Seq.{take_all, take-nil}
use borrow.Author.Tests.{lt-ltb, le-ltb, ltb-true, ltb-false, eqb-true, eqb-false}
use lib.Dec.{eqb, ltb}
use Rattle.std.specs.Prelude.{Some}
use Rattle.std.proofs.Common.{Ordering, Less, Equal, Greater, cond}
use Rattle.std.specs.Ordering.{nat_cmp, is_lt, is_some_and, MatchOrdering}
use Rattle.std.specs.Cmp.Lexicographic.{slice_partial_cmp}
use Rattle.std.proofs.lemmas.Cmp.{same_from_slice_cmp_tested}
use Rattle.values.specs.declared.Reason.TheVariants.{StringOrder}
use Rattle.rules.specs.Bytes.{pick, two, end_of, fields_in}
use Rattle.rules.specs.Check.{ascends, text, rising_from, rising}
use Rattle.wire.proofs.Fields.{no_fields, field_first}
use Rattle.rules.specs.Verdicts.{Verdict, fault_at, no_fault}

-- one byte further in the order of two strings
order_step : (x y : ℕ) (xs ys : List ℕ) (o : Ordering) → o ≡ nat_cmp x y → MatchOrdering o (ascends (x ∷ xs) (y ∷ ys) ≡ true) (ascends (x ∷ xs) (y ∷ ys) ≡ ascends xs ys) (ascends (x ∷ xs) (y ∷ ys) ≡ false)
unfolding ascends
order_step x y xs ys o is = rw is (go (ltb x y) refl (eqb x y) refl)
  where
    go : (a : Bool) → ltb x y ≡ a → (b : Bool) → eqb x y ≡ b → MatchOrdering (cond a Less (cond b Equal Greater)) (pick a true (pick (ltb y x) false (ascends xs ys)) ≡ true) (pick a true (pick (ltb y x) false (ascends xs ys)) ≡ ascends xs ys) (pick a true (pick (ltb y x) false (ascends xs ys)) ≡ false)
    go true l b e = refl
    go false l true e = let same : x ≡ y = eqb-true x y e in rw (le-ltb y x (omega arith)) refl
    go false l false e = let other : x ≡ y → ⊥ = eqb-false x y e in rw (lt-ltb y x (omega (arith, ltb-false x y l))) refl

-- `<` on slices is this order
pub order_of_slices : (x y : List ℕ) (r : Bool) → r ≡ is_some_and is_lt (slice_partial_cmp (λ a b. Some (nat_cmp a b)) x y) → r ≡ ascends x y
unfolding ascends
order_of_slices x y r = same_from_slice_cmp_tested nat_cmp is_lt ascends refl (λ y ys. refl) (λ x xs. refl) order_step x y r

-- the body of a field, as much of it as is there
module _ (m : List ℕ) (p : ℕ) where
  pub no_text : length m ≤ p + 3 → [] ≡ text m p
  unfolding text
  no_text h = sym (ap (λ (l : List ℕ). take (two m (p + 1)) l) (drop_of_length-le m h) ∙ take-nil (two m (p + 1)))

  pub text_left : {n : ℕ} → n ≡ two m (p + 1) → length m - (p + 3) ≤ n → take (length m - (p + 3)) (drop (p + 3) m) ≡ text m p
  unfolding text
  text_left e h = take_all (length m - (p + 3)) (drop (p + 3) m) (simp length-drop (omega arith)) ∙ sym (take_all (two m (p + 1)) (drop (p + 3) m) (simp length-drop (omega arith)))

  pub text_whole : {n : ℕ} → n ≡ two m (p + 1) → take (p + 3 + n - (p + 3)) (drop (p + 3) m) ≡ text m p
  unfolding text
  text_whole {n} e = ap (λ (k : ℕ). take k (drop (p + 3) m)) (let q : p + 3 + n - (p + 3) ≡ two m (p + 1) = omega arith in q)

-- the strings behind one with the text `last`
unfoldable pub rising_behind : List ℕ → (last : List ℕ) → List ℕ → Verdict
rising_behind m last [] = no_fault
rising_behind m last (b ∷ ps) = pick (ascends last (text m b)) (rising_from m b ps) (fault_at StringOrder b)

-- which are those behind that string's place
behind : (m : List ℕ) (p : ℕ) (ps : List ℕ) → rising_behind m (text m p) ps ≡ rising_from m p ps
unfolding rising_behind rising_from
behind m p [] = refl
behind m p (b ∷ ps) = refl

module _ (m : List ℕ) (e : ℕ) where
  pub first_string : {qs last : List ℕ} {q : ℕ} → last ≡ text m 3 → q ≡ end_of m 3 → qs ≡ fields_in m q e → rising_behind m last qs ≡ rising m (fields_in m 3 e)
  unfolding rising rising_from
  first_string is at all = rw (is, all, at) (behind m 3 (fields_in m (end_of m 3) e) ∙ go (ltb 3 e) refl)
    where
      go : (b : Bool) → ltb 3 e ≡ b → rising_from m 3 (fields_in m (end_of m 3) e) ≡ rising m (fields_in m 3 e)
      go true h = rw (field_first m 3 e (ltb-true 3 e h)) refl
      go false h = let past : e ≤ 3 = ltb-false 3 e h in rw (no_fields m (end_of m 3) e (omega arith), no_fields m 3 e past) refl

module _ (m : List ℕ) {ps : List ℕ} where
  module _ (last : List ℕ) {q : ℕ} {qs text_q : List ℕ} {b : Bool} (next : ps ≡ q ∷ qs) (is : text_q ≡ text m q) (eb : b ≡ ascends last text_q) where
    compared : rising_behind m last ps ≡ pick b (rising_from m q qs) (fault_at StringOrder q)
    unfolding rising_behind
    compared = rw (next, eb, is)

    pub rises : {whole : Verdict} → b ≡ true → rising_behind m last ps ≡ whole → rising_behind m text_q qs ≡ whole
    rises h inv = rw is (behind m q qs) ∙ (rw (compared, h) at inv)

    pub falls : {whole : Verdict} → b ≡ false → rising_behind m last ps ≡ whole → fault_at StringOrder q ≡ whole
    falls h inv = rw (compared, h) at inv

  pub last_string : (last : List ℕ) {whole : Verdict} → ps ≡ [] → rising_behind m last ps ≡ whole → no_fault ≡ whole
  unfolding rising_behind
  last_string last none inv = rw none at inv

-- how many fields there are
module _ (qs : List ℕ) (n : ℕ) {whole : ℕ} (so_far : n + length qs ≡ whole) where
  pub one_more : {q : ℕ} {rest : List ℕ} → qs ≡ q ∷ rest → n + 1 + length rest ≡ whole
  one_more next = let i = rw next at so_far in omega arith

  pub no_more : qs ≡ [] → n ≡ whole
  no_more none = let i = rw none at so_far in omega arith
