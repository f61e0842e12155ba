-- A number for each scope: top 0, node 1, class c 2 + c, a body 1,026 + its level.
use Rattle.std.specs.Prelude.{ℕ, ◌+◌, ◌-◌, Bool, true, eqb, ltb}
use Rattle.wire.specs.Bytes.{pick}
use Rattle.rules.specs.State.{Scope, top_scope, node_scope, class_scope, body_scope}

unfoldable pub scope_number : Scope → ℕ
scope_number top_scope = 0
scope_number node_scope = 1
scope_number (class_scope c) = 2 + c
scope_number (body_scope n) = 1026 + n

-- the scope of a number
unfoldable pub scope_of : ℕ → Scope
scope_of a = pick (eqb a 0) top_scope (pick (eqb a 1) node_scope (pick (ltb a 1026) (class_scope (a - 2)) (body_scope (a - 1026))))

-- a scope that its number tells: a class's name is below 1,024
unfoldable pub numbered : Scope → Bool
numbered top_scope = true
numbered node_scope = true
numbered (class_scope c) = ltb c 1024
numbered (body_scope n) = true
