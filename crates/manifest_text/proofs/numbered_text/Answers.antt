-- `numbered_text`: four pieces, and the text is finished.
use Rattle.schedule.proofs.Appending.{then_piece, line_finished}
use Rattle.manifest_text.specs.Answers.{numbered_text}
use Rattle.manifest_text.proofs.numbered_text.Goals as goal

pub returns : goal.returns
unfolding numbered_text
returns c =
    line_finished _ _
    (then_piece _ _ _ _ c.put_text-digits.ensures (then_piece _ _ _ _ c.put_number-feed.ensures (then_piece _ _ _ _ c.put_text-behind.ensures c.put_text-end.ensures)))
    c.finish.ensures
