-- Bytes written one after the other into a lent output.
use Rattle.std.specs.Prelude.{◌≡◌, List, ℕ, ◌+◌, length}
use Rattle.wire.specs.Runs.{over}

-- the bytes stand from `fill` on, as far as the output goes, and nothing else has changed; the fill counts all of them, those past the end too
pub record Wrote (out out' : List ℕ) (fill fill' : ℕ) (bytes : List ℕ) : Type 0 where
  pub filled : fill' ≡ fill + length bytes
  pub stored : out' ≡ over out fill bytes
