-- `all_in_word`: each byte in turn.
use Rattle.std.proofs.Common.{◌∙◌, rules, tests}
use Rattle.std.proofs.lemmas.Iterator.{YieldsList-from_slice}
use Rattle.std.proofs.lemmas.Iterator.Search.{all_from_yields_List}
use Rattle.notation.specs.Lexing.{in_word}
use Rattle.printable.proofs.Spelling.{all_words}
use Rattle.printable.proofs.names.all_in_word.Goals as goal

pub returns : goal.returns
returns c = all_from_yields_List in_word _ _ c.all.result c.all.ensures.ran (YieldsList-from_slice c.args.bytes.now cc) (λ x b q k. search (rules, tests)) ∙ all_words _
