-- Strings entered in the table one after the other. Assumes nothing.
use mathlib.Core.Path.{◌≡◌, sym, ◌∙◌, ap, subst}
use mathlib.Core.Bool.{Bool, true, false}
use mathlib.Core.List.{List, [], ◌∷◌}
use mathlib.Core.Option.{some}
use native.Mathlib.Omega.{arith}
use lib.ListN.{length}
use Prim.Native.Nat.{ℕ, ◌≤◌, ◌<◌}
use Rattle.rules.specs.Bytes.{pick}
use Rattle.rules.specs.Check.{ascends}
use Rattle.rules.specs.Compile.{string_number}
use Rattle.rules.specs.Ranges.{Each, also}
use Rattle.notation.specs.Quoted.{string_from}
use Rattle.notation.specs.Tokens.{lexeme, token_of, class_variable}
use Rattle.notation.specs.Grammar.{or_zero}
use Rattle.notation.specs.Convert.{strings_of, entered, entered_all, table_behind}
use Rattle.notation.proofs.WrittenNames.{Rising, no_string, next_string}
use Rattle.notation.proofs.StringTable.{Among, at_first, later, table_has}
use Rattle.interner.specs.Table.{strings, Kept}
use Rattle.rules.proofs.Ascending.{before_both, not_itself, not_back}
use Rattle.interner.proofs.Keeping.{strings_counted}
use Rattle.tree_builder.specs.Shows.{number_in}
use Rattle.parser.specs.Entering.{Enterable, EnteredOne, EnteredBoth}

-- a number that is found
found_number : (s : List ℕ) (table : List (List ℕ)) (n : ℕ) → string_number s table 0 ≡ some n → n ≡ number_in table s
unfolding number_in
found_number s table n e = sym (ap or_zero e)

module _ (t m₀ m : List ℕ) (count at number count' : ℕ) (h : Enterable t m₀ count) (k : Kept t m₀ m count at number count') where
  pub one_entered : EnteredOne t m₀ count (string_from t at) m (record { count = count'; class = 0; name = number })
  unfolding entered_all
  one_entered =
      record {
        size = k.size;
        few = omega (arith, k.at_most_one, h.small);
        rising = k.rising;
        table = k.table;
        name_number_lem = found_number (string_from t at) (strings t m count') number k.found;
      }

-- ---- A string that is there

tail_rises : (s : List ℕ) (table : List (List ℕ)) → Rising (s ∷ table) → Rising table
tail_rises s [] up = no_string
tail_rises s (u ∷ table) (next_string e up) = up

first_before : (s u : List ℕ) (table : List (List ℕ)) → Rising (u ∷ table) → Among s table → ascends u s ≡ true
first_before s u [] up i = elim i [ ]
first_before s u (v ∷ table) (next_string e up) at_first = e
first_before s u (v ∷ table) (next_string e up) (later i) = before_both u v s e (first_before s v table up i)

-- entering it changes nothing
pub known_again : (s : List ℕ) (table : List (List ℕ)) → Among s table → Rising table → entered s table ≡ table
unfolding entered
known_again s [] i up = elim i [ ]
known_again s (u ∷ table) at_first up = rw (not_itself s)
known_again s (u ∷ table) (later i) up =
    let before = first_before s u table up i in
    rw (not_back u s before, before) (ap (λ (ss : List (List ℕ)). u ∷ ss) (known_again s table i (tail_rises u table up)))

-- a table gets no shorter
pub no_shorter : (s : List ℕ) (table : List (List ℕ)) → length table ≤ length (entered s table)
unfolding entered
no_shorter s [] = omega arith
no_shorter s (u ∷ table) = go (ascends s u) (ascends u s) (no_shorter s table)
  where
    go : (a b : Bool) → length table ≤ length (entered s table) → length (u ∷ table) ≤ length (pick a (s ∷ u ∷ table) (pick b (u ∷ entered s table) (u ∷ table)))
    go true b h = omega arith
    go false true h = omega arith
    go false false h = omega arith

pub first_of : {A : Type 0} (P : A → Type 0) (x : A) (xs : List A) → Each P (x ∷ xs) → P x
first_of P x xs (also p ps) = p

-- the class is still there behind the name
class_there : (c n : List ℕ) (table : List (List ℕ)) → Among c (entered n (entered c table))
unfolding table_behind entered_all strings_of
class_there c n table =
    let P : List ℕ → Type 0 = λ s. Among s (entered n (entered c table)) in
    first_of P c (n ∷ []) (first_of (λ x. Each P (strings_of (token_of x))) (lexeme 0 0 (class_variable c n)) [] (table_has (lexeme 0 0 (class_variable c n) ∷ []) table))

-- ---- Two strings

module _ (t m₀ : List ℕ) (count : ℕ) (h : Enterable t m₀ count) (a b : ℕ) (m₁ : List ℕ) (n₁ count₁ : ℕ) (k₁ : Kept t m₀ m₁ count a n₁ count₁) where
  abbrev T₀ : List (List ℕ)
  T₀ = strings t m₀ count

  -- the class passes the limit
  pub class_crowds : 1024 < count₁ → EnteredBoth t m₀ count (string_from t a) (string_from t b) m₁ (record { count = count₁; class = 0; name = 0 })
  unfolding entered_all
  class_crowds over =
      record {
        size = k₁.size;
        few = omega (arith, k₁.at_most_one, h.small);
        rising = k₁.rising;
        crowded = λ o. omega (arith, over, strings_counted t m₁ count₁, ap length k₁.table, no_shorter (string_from t b) (entered (string_from t a) T₀));
        table = λ l. absurd (omega arith);
        class_number = λ l. absurd (omega arith);
        name_number_lem = λ l. absurd (omega arith);
      }

  module _ (m₂ : List ℕ) (n₂ count₂ : ℕ) (k₂ : Kept t m₁ m₂ count₁ b n₂ count₂) (low : count₁ ≤ 1024) where
    both_in : strings t m₂ count₂ ≡ entered (string_from t b) (entered (string_from t a) T₀)
    both_in = k₂.table ∙ ap (entered (string_from t b)) k₁.table

    -- the name passes the limit
    pub name_crowds : 1024 < count₂ → EnteredBoth t m₀ count (string_from t a) (string_from t b) m₂ (record { count = count₂; class = 0; name = 0 })
    unfolding entered_all
    name_crowds over =
        record {
          size = k₂.size ∙ k₁.size;
          few = omega (arith, k₂.at_most_one, low);
          rising = k₂.rising;
          crowded = λ o. omega (arith, over, strings_counted t m₂ count₂, ap length both_in);
          table = λ l. absurd (omega arith);
          class_number = λ l. absurd (omega arith);
          name_number_lem = λ l. absurd (omega arith);
        }

    module _ (m₃ : List ℕ) (n₃ count₃ : ℕ) (k₃ : Kept t m₂ m₃ count₂ a n₃ count₃) (few : count₂ ≤ 1024) where
      class_known : entered (string_from t a) (strings t m₂ count₂) ≡ strings t m₂ count₂
      class_known = known_again (string_from t a) (strings t m₂ count₂) (subst (Among (string_from t a)) (sym both_in) (class_there (string_from t a) (string_from t b) T₀)) k₂.rising

      same_table : strings t m₃ count₃ ≡ strings t m₂ count₂
      same_table = k₃.table ∙ class_known

      pub both_entered : EnteredBoth t m₀ count (string_from t a) (string_from t b) m₃ (record { count = count₃; class = n₃; name = n₂ })
      unfolding entered_all
      both_entered =
          let same : count₃ ≡ count₂ = sym (strings_counted t m₃ count₃) ∙ ap length same_table ∙ strings_counted t m₂ count₂ in
          record {
            size = k₃.size ∙ k₂.size ∙ k₁.size;
            few = omega (arith, same, few);
            rising = k₃.rising;
            crowded = λ o. absurd (omega (arith, same, few, o));
            table = λ l. same_table ∙ both_in;
            class_number = λ l. found_number (string_from t a) (strings t m₃ count₃) n₃ k₃.found;
            name_number_lem = λ l. found_number (string_from t b) (strings t m₃ count₃) n₂ (ap (λ (ss : List (List ℕ)). string_number (string_from t b) ss 0) same_table ∙ k₂.found);
          }
