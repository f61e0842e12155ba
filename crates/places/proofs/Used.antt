-- The laws at work on one sound manifest: its premises are met, and place by place they give its tree.
use Prim.Native.Nat.{ℕ}
use mathlib.Core.Path.{◌≡◌, refl, ap, ◌∙◌}
use mathlib.Core.Bool.{true}
use mathlib.Core.List.{List, [], ◌∷◌}
use native.Mathlib.Omega.{arith}
use Rattle.values.specs.declared.Value.TheVariants.{Boolean}
use Rattle.wire.specs.Bytes.{two, fields_up, fields_in}
use Rattle.rules.specs.Format.{allowed, forms, form_in, form_of, size, head_size, take, follow, part_may_end, may_end, rest_right, length_right, piece_right, bytes_right, name_right, names_right}
use Rattle.rules.specs.Check.{header, walk, rest, body, inside, shape, ascends, text, rising_from, rising, stride, places_up, places_in, names_known, string_places, check}
use Rattle.rules.specs.Tree.{constant, negation, conditional, end}
use Rattle.rules.specs.declared.Kind.TheVariants.{Item}
use Rattle.places.specs.At.{statement_at, statements_at, expression_at, StandsAs}
use Rattle.places.proofs.Tags.{boolean_tag, constant_kind}
use Rattle.places.proofs.Parts.{first_sibling}
use Rattle.places.proofs.Expressions.{NegationAt, negation_opens, constant_opens, boolean_at}
use Rattle.places.proofs.Statements.{ConditionalAt, conditional_opens, block_opens}
use Rattle.places.proofs.Items.{manifest_opens}
use Rattle.rules.specs.Verdicts.{no_fault}

-- the string "a", then: if not true, a block that assigns false to a, or else an empty block
example : List ℕ
example =
    0x01 ∷ 0 ∷ 4 ∷ 0x02 ∷ 0 ∷ 1 ∷ 97
    ∷ 0x22 ∷ 0 ∷ 24
    ∷ 0x17 ∷ 0 ∷ 5 ∷ 0x12 ∷ 0 ∷ 2 ∷ 1 ∷ 1
    ∷ 0x20 ∷ 0 ∷ 10 ∷ 0x21 ∷ 0 ∷ 7 ∷ 0 ∷ 0 ∷ 0x12 ∷ 0 ∷ 2 ∷ 2 ∷ 0
    ∷ 0x20 ∷ 0 ∷ 0
    ∷ []

example_sound : check example ≡ no_fault
unfolding example two fields_up fields_in allowed forms form_in form_of size head_size take follow part_may_end may_end rest_right length_right piece_right bytes_right name_right names_right header walk rest body inside shape ascends text rising_from rising stride places_up places_in names_known string_places check
example_sound = refl

-- the first item
first_item : StandsAs example 32 Item 7
unfolding example two
first_item = (first_sibling (manifest_opens example example_sound).each (omega arith)).here

condition : ConditionalAt example 32 31 7
unfolding example
condition = conditional_opens first_item.stands refl refl

tested : NegationAt example 31 30 10
unfolding example
tested = negation_opens condition.condition.stands refl refl

value : expression_at example 30 13 ≡ constant (record { place = 13; label = 1; value = Boolean true })
unfolding example
value = constant_opens (record { stands = tested.operand.stands; kind = constant_kind boolean_tag }) ∙ ap constant (boolean_at example 13 refl)

-- the whole statement, but for the block that is taken
tree : statement_at example 32 7 ≡ conditional 7 (negation 10 (constant (record { place = 13; label = 1; value = Boolean true }))) (statements_at example 30 (21 ∷ [])) end
unfolding example two fields_up fields_in statements_at
tree =
    condition.tree
    ∙ λ i. conditional 7 ((tested.tree ∙ ap (negation 10) value) i) ((block_opens condition.if_true refl).tree i) ((block_opens condition.if_false refl).tree i)
