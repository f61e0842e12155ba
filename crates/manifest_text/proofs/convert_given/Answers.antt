-- `convert_given`: what is lent has the lengths of the definition's call.
use Prim.Native.Nat.{ℕ}
use mathlib.Core.Path.{◌≡◌, ap, ◌∙◌}
use native.Mathlib.Omega.{arith}
use lib.ListN.{length}
use Rattle.notation.specs.Convert.{Effect, convert}
use Rattle.manifest_text.specs.Answers.{types_given, bytes_given}
use Rattle.manifest_text.proofs.Answering.{with_eight, with_list}
use Rattle.manifest_text.proofs.convert_given.Goals as goal

pub returns-in-None : goal.returns-in-None
returns-in-None c =
    let a = c.args in
    let room : length a.out.now ≡ 65535 = omega arith in
    let effect = c.convert.ensures.effect ∙ with_eight (λ t b. convert t b (length a.out.now) 65536) a.given.now c.in-None.is ∙ ap (λ (l : ℕ). convert (types_given a.types a.given.now) (bytes_given a.types a.given.now) l 65536) room in
    (ap (λ (e : Effect). e.answer) effect, ap (λ (e : Effect). e.output_after) effect)

pub returns-in-Some : goal.returns-in-Some
returns-in-Some c =
    let a = c.args in
    let room : length a.out.now ≡ 65535 = omega arith in
    let effect = c.convert_with_types.ensures.effect ∙ with_list (λ t b. convert t b (length a.out.now) 65536) a.given.now c.in-Some.is c.first.ensures c.past.ensures ∙ ap (λ (l : ℕ). convert (types_given a.types a.given.now) (bytes_given a.types a.given.now) l 65536) room in
    (ap (λ (e : Effect). e.answer) effect, ap (λ (e : Effect). e.output_after) effect)
