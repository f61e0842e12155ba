-- What the text of a statement, of a block or of branches holds, whatever of it runs.
use Rattle.std.specs.Prelude.{ℕ, ◌<◌, ◌≡◌, Bool, true, false, ◌||◌, eqb}
use Rattle.rules.specs.Tree.{Statement, Block, Branches}
use Rattle.rules.specs.Run as rules
use Rattle.branches.specs.Names.{contains}
use Rattle.branches.specs.declared.collected.Collected.{Collected}

-- the names that its 21s assign, and whether a 27, 28 or 29 stands in it
pub record Text : Type 0 where
  pub assigns : ℕ → Bool
  pub declares : Bool

abbrev pub text_of : Statement → Text
text_of s = record { assigns = rules.assigns s; declares = rules.declares s }

abbrev pub text_in : Block → Text
text_in b = record { assigns = rules.assigns_in b; declares = rules.declares_in b }

abbrev pub text_any : Branches → Text
text_any bs = record { assigns = rules.assigns_any bs; declares = rules.declares_any bs }

-- a text without names, and one that assigns a name
abbrev pub plain : (declares : Bool) → Text
plain d = record { assigns = λ n. false; declares = d }

abbrev pub named : ℕ → Text
named x = record { assigns = λ n. eqb n x; declares = false }

-- two texts
unfoldable pub both : Text → Text → Text
both a b = record { assigns = λ n. a.assigns n || b.assigns n; declares = a.declares || b.declares }

-- each name that it assigns is below 1,024
pub record Small (t : Text) : Type 0 where
  pub each : (n : ℕ) → t.assigns n ≡ true → n < 1024

-- what was collected, as a text
abbrev pub held : Collected → Text
held c = record { assigns = contains c.names; declares = c.declares }

-- from c to c' a text joins what was collected
pub record Collects (c c' : Collected) (t : Text) : Type 0 where
  pub joined : held c' ≡ both (held c) t
