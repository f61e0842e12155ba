-- What entering the strings of a token in the table does.
use Rattle.std.specs.Prelude.{ℕ, ◌≤◌, ◌<◌, ◌≡◌, List, [], ◌∷◌, length}
use Rattle.std.proofs.Math.Seq.{slice}
use Rattle.lexer.specs.declared.Token.{Token}
use Rattle.lexer.specs.Found.{token_in, Sized}
use Rattle.notation.specs.Tokens.{lexeme, a_word}
use Rattle.notation.specs.Building.{resource_tag}
use Rattle.notation.specs.Convert.{strings_of, entered_all}
use Rattle.notation.proofs.WrittenNames.{Rising}
use Rattle.interner.specs.Table.{strings}
use Rattle.tree_builder.specs.Shows.{number_in}
use Rattle.parser.specs.declared.strings.Numbered.{Numbered}
use Rattle.parser.specs.Stepping.{Carried}
use Rattle.rules.specs.Types.{Types}

-- what it asks for: a table of strings that rise, with room for all that are allowed and one more
pub record Enterable (t m : List ℕ) (count : ℕ) : Type 0 where
  pub rising : Rising (strings t m count)
  pub small : count ≤ 1024
  pub room : 2050 ≤ length m

-- the strings c and n are entered: the table has them, and their numbers are known, unless there are more than 1,024 now
pub record EnteredBoth (t m₀ : List ℕ) (count₀ : ℕ) (c n : List ℕ) (m : List ℕ) (r : Numbered) : Type 0 where
  pub size : length m ≡ length m₀
  pub few : r.count ≤ 1025
  pub rising : Rising (strings t m r.count)
  pub crowded : 1024 < r.count → 1024 < length (entered_all (c ∷ n ∷ []) (strings t m₀ count₀))
  pub table : r.count ≤ 1024 → strings t m r.count ≡ entered_all (c ∷ n ∷ []) (strings t m₀ count₀)
  pub class_number : r.count ≤ 1024 → r.class ≡ number_in (strings t m r.count) c
  pub name_number_lem : r.count ≤ 1024 → r.name ≡ number_in (strings t m r.count) n

-- the same of one string
pub record EnteredOne (t m₀ : List ℕ) (count₀ : ℕ) (n : List ℕ) (m : List ℕ) (r : Numbered) : Type 0 where
  pub size : length m ≡ length m₀
  pub few : r.count ≤ 1025
  pub rising : Rising (strings t m r.count)
  pub table : strings t m r.count ≡ entered_all (n ∷ []) (strings t m₀ count₀)
  pub name_number_lem : r.name ≡ number_in (strings t m r.count) n

-- what entering the strings of a token asks for: the token is as the lexer finds it
pub record Spelled (t m : List ℕ) (count : ℕ) (r : Token) : Type 0 where
  pub enterable : Enterable t m count
  pub sized : Sized t r
  pub forward : r.start ≤ r.end
  pub high : r.end ≤ length t
  pub short : length t ≤ 65535

-- the strings of the token r are entered, and what is then known of it is what the grammar's actions look at; the tag is that of a resource of its type
pub record EnteredFor (t m₀ : List ℕ) (count₀ : ℕ) (r : Token) (m : List ℕ) (n : Numbered) : Type 0 where
  pub size : length m ≡ length m₀
  pub few : n.count ≤ 1025
  pub rising : Rising (strings t m n.count)
  pub crowded : 1024 < n.count → 1024 < length (entered_all (strings_of (token_in t r)) (strings t m₀ count₀))
  pub table : n.count ≤ 1024 → strings t m n.count ≡ entered_all (strings_of (token_in t r)) (strings t m₀ count₀)
  pub carried : n.count ≤ 1024 → (types : Types) (tag : ℕ) → (r.kind ≡ a_word → tag ≡ resource_tag types (slice r.start r.end t))
      → Carried types r (record { class = n.class; name = n.name; resource = tag }) (strings t m n.count) (lexeme r.start r.line (token_in t r))
