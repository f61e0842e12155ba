-- `add_variable`: each kind of variable.
use Rattle.tree_builder.specs.Shows.{DoesAt}
use Rattle.parser.proofs.actions.add_variable.Goals as goal

pub returns-then-token-eq-A_VARIABLE : goal.returns-then-token-eq-A_VARIABLE
unfolding DoesAt
returns-then-token-eq-A_VARIABLE c = λ m types table f x k shows. c.add_variable.ensures m types table f x (k.plain c.if-token-eq-A_VARIABLE.true) shows

pub returns-then-token-eq0 : goal.returns-then-token-eq0
unfolding DoesAt
returns-then-token-eq0 c = λ m types table f x k shows. c.add_variable-then-token-eq0.ensures m types table f x (k.top c.if-token-eq-A_VARIABLE.false c.if-token-eq0.true) shows

pub returns : goal.returns
unfolding DoesAt
returns c = λ m types table f x k shows. c.add_class_variable.ensures m types table f x (k.qualified c.if-token-eq-A_VARIABLE.false c.if-token-eq0.false) shows
