-- `add_constant`: each kind of constant.
use mathlib.Core.Path.{◌≡◌}
use mir.Syntax.{w64}
use mir.Val.{to_z, of_z}
use mir.ValLaws.{to_z-of_z}
use native.Mathlib.Omega.{arith}
use Rattle.tree_builder.specs.Shows.{DoesAt}
use Rattle.parser.proofs.actions.add_constant.Goals as goal

pub returns-in-1 : goal.returns-in-1
unfolding DoesAt
returns-in-1 c =
    let value = c.args.token.value in
    let same : to_z w64 (of_z w64 value) ≡ value = to_z-of_z w64 value (record { sfits = omega arith }) in
    (λ m types table f x k shows. c.add_integer.ensures m types table f x (rw same (k.integer c.in-1.is)) shows, λ e. absurd (omega (arith, c.in-1.is, e)))

pub returns-in-26 : goal.returns-in-26
unfolding DoesAt
returns-in-26 c = (λ m types table f x k shows. c.add_boolean.ensures m types table f x (k.true_word_lem c.in-26.is) shows, λ e. absurd (omega (arith, c.in-26.is, e)))

pub returns-in-27 : goal.returns-in-27
unfolding DoesAt
returns-in-27 c = (λ m types table f x k shows. c.add_boolean-in-27.ensures m types table f x (k.false_word_lem c.in-27.is) shows, λ e. absurd (omega (arith, c.in-27.is, e)))

pub returns-in_default : goal.returns-in_default
unfolding DoesAt
returns-in_default c = (λ m types table f x k shows. c.add_string.ensures.0 m types table f x (k.string (λ e. absurd (omega arith)) (λ e. absurd (omega arith)) (λ e. absurd (omega arith))) shows, λ e. c.add_string.ensures.1)
