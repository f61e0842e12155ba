-- `types_in`: a list of so many bytes, or none.
use mathlib.Core.Path.{◌≡◌, ap, sym, ◌∙◌}
use Prim.Native.Nat.{ℕ, ◌≤◌}
use native.Mathlib.Omega.{arith}
use Rattle.std.specs.Prelude.{Option, Some, None}
use Rattle.std.specs.Option.{unwrap_or}
use Rattle.input.specs.Numbers.{up_to}
use Rattle.input.proofs.Digits.{some_told, none_told}
use Rattle.manifest_text.specs.Commands.{offset_of}
use Rattle.manifest_text.proofs.FirstLine.{types_are, offset_low}
use Rattle.manifest_text.proofs.types_in.Goals as goal

-- what is no number of five digits is told as 100,000
told_size : {o : Option ℕ} {k : ℕ} → o ≡ up_to 99999 k → k ≤ 100000 → unwrap_or o 100000 ≡ k
told_size {o = Some n} e low = (some_told 99999 e).0
told_size {o = None} e low = omega (arith, none_told 99999 e)

pub returns-then-names_types : goal.returns-then-names_types
returns-then-names_types c =
    ap Some (c.unwrap_or.ensures ∙ told_size c.offset_of.ensures (offset_low _) ∙ ap offset_of c.first.ensures) ∙ types_are _ (sym c.names_types.ensures ∙ c.if-names_types.true)

pub returns : goal.returns
returns c = types_are _ (sym c.names_types.ensures ∙ c.if-names_types.false)
