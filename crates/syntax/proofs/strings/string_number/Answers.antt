-- `string_number`: the first place whose text is the string.
use Rattle.std.proofs.Common.{◌≡◌, sym, ◌∙◌, arith, rules}
use Rattle.std.specs.Prelude.{None}
use Rattle.std.specs.List.{position}
use Rattle.std.proofs.lemmas.Iterator.Search.{position_from_yields_List}
use Rattle.rules.specs.Bytes.{two, fields_in}
use Rattle.wire.proofs.Fields.{few_fields}
use Rattle.wire.proofs.Walks.{YieldsList-from_walk}
use Rattle.syntax.proofs.Texts.{has_text, string_counted, place_below}
use Rattle.syntax.proofs.strings.string_number.Goals as goal

pub fields_in-places-requires : goal.fields_in-places-requires
unfolding two
fields_in-places-requires c = omega (arith, c.type_inv.m 1, c.type_inv.m 2, c.end_of.ensures)

pub returns-in_err-n : goal.returns-in_err-n
returns-in_err-n c =
    let gone : c.from_residual.result ≡ None = grind arith in
    let counted : c.position.result ≡ position (has_text c.args.m.now c.args.bytes.now) (fields_in c.args.m.now 3 c.end_of.result) = position_from_yields_List (has_text c.args.m.now c.args.bytes.now) c.position.new.self _ c.position.result c.position.ensures.ran (YieldsList-from_walk (fields_in c.args.m.now 3 c.end_of.result) cc) (λ x b q k. search rules) in
    gone ∙ sym c.in_err-n.was ∙ string_counted _ _ c.end_of.ensures counted

pub overflow_cast-result : goal.overflow_cast-result
unfolding two
overflow_cast-result c =
    let counted : c.position.result ≡ position (has_text c.args.m.now c.args.bytes.now) (fields_in c.args.m.now 3 c.end_of.result) = position_from_yields_List (has_text c.args.m.now c.args.bytes.now) c.position.new.self _ c.position.result c.position.ensures.ran (YieldsList-from_walk (fields_in c.args.m.now 3 c.end_of.result) cc) (λ x b q k. search rules) in
    omega (arith, place_below (has_text c.args.m.now c.args.bytes.now) (fields_in c.args.m.now 3 c.end_of.result) (sym counted ∙ c.in_ok-n.was), few_fields c.args.m.now 3 c.end_of.result, c.type_inv.m 1, c.type_inv.m 2, c.end_of.ensures)

pub returns : goal.returns
returns c =
    let counted : c.position.result ≡ position (has_text c.args.m.now c.args.bytes.now) (fields_in c.args.m.now 3 c.end_of.result) = position_from_yields_List (has_text c.args.m.now c.args.bytes.now) c.position.new.self _ c.position.result c.position.ensures.ran (YieldsList-from_walk (fields_in c.args.m.now 3 c.end_of.result) cc) (λ x b q k. search rules) in
    sym c.in_ok-n.was ∙ string_counted _ _ c.end_of.ensures counted
