-- A call of `compile`, or of `compile_with_types`, that answered with a catalog, and what it left: what demand 3 for the compiler speaks of.
use Rattle.std.specs.Prelude.{ℕ, ◌≡◌, List, take}
use Rattle.rules.specs.Types.{Types}
use Rattle.rules.specs.State.{Entry}
use Rattle.rules.specs.Catalog.{read_catalog}
use Rattle.compiler.specs.Compiled.{Compiles}
use Rattle.values.specs.Answers.{Answer, catalog_with}

-- one call: the types, the manifest, the device and the limit handed in, the bytes lent as they were and as the call left them, and its answer, a
-- catalog of so many bytes
pub record Accepted (types : Types) (m device : List ℕ) : Type 0 where
  pub limit : ℕ
  pub output_before : List ℕ
  pub output_after : List ℕ
  pub memory_before : List ℕ
  pub memory_after : List ℕ
  pub answer : Answer
  pub compiles : Compiles types m device limit output_before output_after memory_before memory_after answer
  pub length : ℕ
  pub steps : ℕ
  pub accepts : answer ≡ catalog_with length steps

-- the catalog that the call left in its output, read back
abbrev pub catalog_left : {types : Types} {m device : List ℕ} → Accepted types m device → List Entry
catalog_left a = read_catalog (take a.length a.output_after)
