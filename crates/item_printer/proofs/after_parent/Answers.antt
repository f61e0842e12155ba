-- `after_parent`: behind the parent, if there is one.
use mathlib.Core.Path.{sym, ◌∙◌}
use borrow.Author.Tests.{eq-eqb, ne_eqb}
use Rattle.places.proofs.Items.{after_given, after_none}
use Rattle.item_printer.proofs.after_parent.Goals as goal

pub returns-then-byte_at-eq53 : goal.returns-then-byte_at-eq53
returns-then-byte_at-eq53 c = c.end_of.ensures ∙ sym (after_given _ _ (eq-eqb _ _ (sym c.byte_at.ensures ∙ c.if-byte_at-eq53.true)))

pub returns : goal.returns
returns c = sym (after_none _ _ (ne_eqb _ _ (λ e. c.if-byte_at-eq53.false (c.byte_at.ensures ∙ e))))
