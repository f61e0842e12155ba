-- `is_name`: by its first byte, all bytes, and the keywords.
use Rattle.printable.proofs.Spelling.{empty_no_name, letter_first, no_word, long_name, short_name}
use Rattle.printable.proofs.names.is_name.Goals as goal

pub returns-then-bytes-eq0 : goal.returns-then-bytes-eq0
returns-then-bytes-eq0 c = empty_no_name _ c.if-bytes-eq0.true

pub returns-then-not-is_letter : goal.returns-then-not-is_letter
returns-then-not-is_letter c = letter_first _ c.is_letter.ensures c.if-not-is_letter.true

pub returns-then-not-all_in_word : goal.returns-then-not-all_in_word
returns-then-not-all_in_word c = no_word _ c.if-bytes-eq0.false c.is_letter.ensures c.if-not-is_letter.false c.all_in_word.ensures c.if-not-all_in_word.true

pub returns-then-bytes-gt8 : goal.returns-then-bytes-gt8
returns-then-bytes-gt8 c = long_name _ c.if-bytes-eq0.false c.is_letter.ensures c.if-not-is_letter.false c.all_in_word.ensures c.if-not-all_in_word.false c.if-bytes-gt8.true

pub returns : goal.returns
returns c = short_name _ c.if-bytes-eq0.false c.is_letter.ensures c.if-not-is_letter.false c.all_in_word.ensures c.if-not-all_in_word.false c.word_number.ensures c.is_no_keyword.ensures
