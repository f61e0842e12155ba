-- The first constant struck out of those that a run comes to.
use Rattle.std.specs.Prelude.{List, [], ◌∷◌, ℕ, ◌≤◌, Option, Some, None}
use Rattle.wire.specs.Bytes.{pick}
use Rattle.rules.specs.Tree.{Constant}
use Rattle.memory.specs.Words.{struck_in}

unfoldable pub first_struck : (work : List ℕ) → List Constant → Option ℕ
first_struck w [] = None
first_struck w (v ∷ vs) = pick (struck_in w v) (Some v.place) (first_struck w vs)

-- a refusal can name its place
unfoldable pub Near : Option ℕ → Type 0
Near (Some p) = p ≤ 65535
Near None = Unit {0}
