-- `place_of`: the items before the first that is the byte.
use mathlib.Core.Path.{◌≡◌, refl, sym, ◌∙◌}
use borrow.Author.Rules.{rules}
use borrow.Author.Tests.{tests}
use Rattle.std.proofs.lemmas.Iterator.{YieldsList-from_slice, IsFirst-from_position, index_from_first}
use Rattle.input.specs.Places.{place_of}
use Rattle.input.proofs.Places.{place_here, place_later}
use Rattle.input.proofs.place_of.Goals as goal

pub returns : goal.returns
unfolding place_of
returns c =
    let b = c.args.wanted in
    let first = IsFirst-from_position _ _ c.position-place.result (λ x. x ≡ b) (λ x. x ≡ b → ⊥) c.position-place.ensures.ran (YieldsList-from_slice c.args.bytes.now cc) (λ x q k. search (rules, tests)) (λ x q k. search (rules, tests)) in
    c.unwrap_or.ensures ∙ sym (index_from_first (place_of b) (λ x. x ≡ b) (λ x. x ≡ b → ⊥) refl (place_here b) (place_later b) c.args.bytes.now _ first)
