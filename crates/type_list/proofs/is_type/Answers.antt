-- `is_type`: one of the eight, or the type at which the text belongs.
use Rattle.type_list.proofs.Searching.{none_lent, all_before, by_this}
use Rattle.type_list.proofs.is_type.Goals as goal

pub returns-then-list-eq0 : goal.returns-then-list-eq0
returns-then-list-eq0 c = none_lent _ c.args.index.now c.args.count _ c.if-list-eq0.true c.is_built_in_text.ensures

pub count_before-before-requires : goal.count_before-before-requires
count_before-before-requires c = c.requires

pub returns-then-count-before : goal.returns-then-count-before
returns-then-count-before c = all_before _ _ _ _ c.requires c.if-list-eq0.false c.count_before-before.ensures c.if-count-before.true

pub returns : goal.returns
returns c = by_this _ _ _ _ c.requires c.if-list-eq0.false c.count_before-before.ensures c.if-count-before.false c.two_at-place.ensures c.text_of-name.ensures c.same_bytes.ensures
