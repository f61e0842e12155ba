-- `is_lower_case`: each byte in turn.
use Rattle.std.proofs.Common.{◌∙◌, rules, tests}
use Rattle.std.specs.Char.{is_ascii_lowercase}
use Rattle.std.proofs.lemmas.Iterator.{YieldsList-from_slice}
use Rattle.std.proofs.lemmas.Iterator.Search.{all_from_yields_List}
use Rattle.type_list.proofs.Checking.{each_letter}
use Rattle.type_list.proofs.is_lower_case.Goals as goal

pub returns : goal.returns
returns c = all_from_yields_List is_ascii_lowercase _ _ c.all.result c.all.ensures.ran (YieldsList-from_slice c.args.text.now cc) (λ x b q k. search (rules, tests)) ∙ each_letter _
