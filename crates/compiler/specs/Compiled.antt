-- What `compile` and `compile_with_types` promise.
use Rattle.std.specs.Prelude.{ℕ, ◌≡◌, List, length}
use Rattle.rules.specs.Types.{Types}
use Rattle.rules.specs.Compile.{compile}
use Rattle.rules.specs.EditRule.{IsBytes}
use Rattle.values.specs.Answers.{Answer}

-- the answer and all bytes lent are those of the definition, for these types, this manifest, device and limit
pub record Leaves (types : Types) (manifest device : List ℕ) (limit : ℕ) (output_before output_after memory_before memory_after : List ℕ) (answer : Answer) : Type 0 where
  pub effect : record { answer = answer; output_after = output_after; memory_after = memory_after } ≡ compile types manifest device limit (length output_before) (length memory_before)

-- what a call is: its manifest is a byte string, as whatever a slice of bytes holds, and it leaves what the definition says
pub record Compiles (types : Types) (manifest device : List ℕ) (limit : ℕ) (output_before output_after memory_before memory_after : List ℕ) (answer : Answer) : Type 0 where
  pub bytes : IsBytes manifest
  pub leaves : Leaves types manifest device limit output_before output_after memory_before memory_after answer
