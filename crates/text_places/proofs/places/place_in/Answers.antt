-- `place_in`: a string, or an item to which the log leads.
use native.Mathlib.Omega.{arith}
use Rattle.rules.specs.EditRule.{IsBytes}
use Rattle.text_places.proofs.Telling.{told_string, told_item, told_crowded}
use Rattle.text_places.proofs.places.place_in.Goals as goal

pub returns-then-field-strings : goal.returns-then-field-strings
returns-then-field-strings c = λ types noted. told_string types _ _ _ _ _ _ _ noted c.table_size-strings.ensures.0 _ c.if-field-strings.true

pub returns-then-log-entries : goal.returns-then-log-entries
returns-then-log-entries c =
    let bytes : IsBytes c.args.text.now = record { below = λ i. omega (arith, c.type_inv.text i) } in
    λ types noted. told_crowded types _ _ _ _ _ _ _ noted c.table_size-strings.ensures.0 bytes c.if-log-entries.true

pub returns : goal.returns
returns c =
    let f = c.follow.ensures in
    let bytes : IsBytes c.args.text.now = record { below = λ i. omega (arith, c.type_inv.text i) } in
    λ types noted. told_item types _ _ _ _ _ _ _ noted c.table_size-strings.ensures.0 _ bytes (omega arith) (omega arith) f.0 f.1
