-- `put_link`: at the link of a slot, or at the head of a chain.
use mathlib.Core.Path.{◌≡◌, refl, ◌∙◌}
use borrow.Author.Rules.{rules}
use Rattle.cells.specs.Chains.{reference}
use Rattle.cells.proofs.put_link.Goals as goal

pub returns : goal.returns
returns c =
    let link : c.match-next.link ≡ reference c.args.next = search rules in
    c.put_two.ensures ∙ rw (link, c.link_place.ensures.0) refl
