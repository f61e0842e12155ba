-- `next_token`: what stands behind white space and comments.
use Rattle.lexer.proofs.FoundTokens.{found_behind}
use Rattle.lexer.proofs.next_token.Goals as goal

pub returns : goal.returns
returns c = found_behind c.skip-from.ensures c.token_at.ensures
