-- A table that has all strings of a text stays as it is when they are entered again, and none of them is one too many. Assumes nothing.
use mathlib.Core.Path.{◌≡◌, refl, ap, ◌∙◌}
use mathlib.Core.List.{List, []}
use mathlib.Core.Option.{none}
use lib.ListN.{length}
use borrow.Author.Tests.{le-ltb}
use Prim.Native.Nat.{ℕ, ◌≤◌}
use Rattle.rules.specs.Ranges.{Each, none_left, also}
use Rattle.notation.specs.Tokens.{Lexeme}
use Rattle.notation.specs.Convert.{entered_all, table_behind, crowded_at}
use Rattle.notation.proofs.WrittenNames.{Rising, no_string}
use Rattle.notation.proofs.StringTable.{Among, StringsIn, table_has, table_rising}
use Rattle.parser.proofs.Entering.{known_again}

module _ (table : List (List ℕ)) (up : Rising table) where
  none_entered : {ss : List (List ℕ)} → Each (λ s. Among s table) ss → entered_all ss table ≡ table
  unfolding entered_all
  none_entered none_left = refl
  none_entered (also {x = s} {xs = ss} here others) = ap (entered_all ss) (known_again s table here up) ∙ none_entered others

  all_there : {xs : List Lexeme} → Each (StringsIn (λ s. Among s table)) xs → table_behind xs table ≡ table
  unfolding table_behind
  all_there none_left = refl
  all_there (also {xs = xs} here others) = ap (table_behind xs) (none_entered here) ∙ all_there others

  none_crowds : {xs : List Lexeme} → Each (StringsIn (λ s. Among s table)) xs → length table ≤ 1024 → crowded_at xs table ≡ none
  unfolding crowded_at
  none_crowds none_left few = refl
  none_crowds (also here others) few = rw (crowded_at, none_entered here, le-ltb 1024 (length table) few) (none_crowds others few)

-- the table of a text
module _ (xs : List Lexeme) where
  pub table_again : table_behind xs (table_behind xs []) ≡ table_behind xs []
  table_again = all_there (table_behind xs []) (table_rising xs [] no_string) (table_has xs [])

  pub none_more : length (table_behind xs []) ≤ 1024 → crowded_at xs (table_behind xs []) ≡ none
  none_more few = none_crowds (table_behind xs []) (table_rising xs [] no_string) (table_has xs []) few
