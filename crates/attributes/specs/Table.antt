-- The values given to a declaration by its 26s, kept by name: a record for each of the first names, as many as the table has room for.
use Rattle.std.specs.Prelude.{ℕ, ◌+◌, ◌*◌, ◌≤◌, ◌<◌, ◌≡◌, List, [], ◌∷◌, ◌++◌, ltb, length}
use Rattle.std.proofs.Math.Option.{Option, none, some}
use Rattle.values.specs.declared.Labelled.{Labelled}
use Rattle.wire.specs.Bytes.{pick, two}
use Rattle.rules.specs.Evaluate.{first_with}
use Rattle.rules.specs.Run.{Given, is_given}
use Rattle.rules.specs.Ranges.{Each}
use Rattle.records.specs.Record.{record_size, record_in}

-- a name's row
abbrev pub given_place : ℕ → ℕ
given_place n = record_size * n

-- a table of so many bytes has one
abbrev pub HasRow : (size name : ℕ) → Type 0
HasRow k n = given_place n + record_size ≤ k

-- a name without a row has no value
unfoldable pub given_at : List ℕ → (name : ℕ) → Option Labelled
given_at t n = pick (ltb (length t) (given_place n + record_size)) none (record_in t (given_place n))

unfoldable pub content_of : Option Given → Option Labelled
content_of none = none
content_of (some g) = some g.content

-- of each name the table has the first value given
pub record Gives (t : List ℕ) (gs : List Given) : Type 0 where
  pub first : (n : ℕ) → n < 1024 → given_at t n ≡ content_of (first_with (is_given n) gs)

-- one value more, given last
pub record Adds (t t' : List ℕ) (name : ℕ) (x : Labelled) : Type 0 where
  pub gives : (gs : List Given) (q : ℕ) → Gives t gs → Gives t' (gs ++ (record { place = q; name = name; content = x } ∷ []))

-- the names of the 26s at these places have rows, but for those of 1,024 and more, which no checked manifest has
abbrev pub Rows : List ℕ → (size : ℕ) → (places : List ℕ) → Type 0
Rows m k qs = Each (λ (q : ℕ). two m (q + 3) < 1024 → HasRow k (two m (q + 3))) qs

-- a table for the 26s at these places, that gives nothing yet
pub record Fresh (m t places : List ℕ) : Type 0 where
  pub blank : (n : ℕ) → given_at t n ≡ none
  pub rows : Rows m (length t) places
