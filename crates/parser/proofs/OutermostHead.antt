-- The tree that a text builds: items in the field that stands for the manifest. That field has no head, and no field or bracket is open. Assumes nothing.
use mathlib.Core.Path.{◌≡◌}
use mathlib.Core.List.{List}
use Prim.Native.Nat.{ℕ}
use Rattle.rules.specs.EditRule.{IsBytes}
use Rattle.rules.specs.Types.{Types}
use Rattle.notation.specs.Lexing.{tokens}
use Rattle.notation.specs.Building.{Build}
use Rattle.notation.specs.Grammar.{built, reading}
use Rattle.notation.proofs.Written.{ShortText}
use Rattle.notation.proofs.Trees.{Items, tree_listed}
use Rattle.notation.proofs.LexedGood.{tokens_good}

pub outermost : (types : Types) (t : List ℕ) → IsBytes t → (f : Build) → reading types (tokens t) ≡ built f → Items types ShortText f
outermost types t b f e = tree_listed types ShortText (tokens t) f (tokens_good t b) e
