-- `string_is`: the text at the place, compared.
use mathlib.Core.Path.{ap, ◌∙◌}
use mathlib.Core.List.{List}
use Prim.Native.Nat.{ℕ}
use Rattle.rules.specs.Compile.{same_bytes}
use Rattle.syntax.proofs.strings.string_is.Goals as goal

pub returns : goal.returns
returns c = c.same_bytes.ensures ∙ ap (λ (x : List ℕ). same_bytes x c.args.bytes.now) c.text_of.ensures
