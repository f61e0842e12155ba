-- `bytes_right`: nothing to check, or the first piece, then the second.
use native.Mathlib.Omega.{arith}
use Rattle.rules.specs.Format.{form_of, piece_right, bytes_right}
use Rattle.format.specs.Numbers.{byte_number}
use Rattle.format.proofs.Line.{digits_in, any_piece, none_to_check, first_wrong, second_decides}
use Rattle.format.proofs.lines.bytes_right.Goals as goal

pub returns-then-line-eq0 : goal.returns-then-line-eq0
unfolding bytes_right
returns-then-line-eq0 c t e = let d = (digits_in t e).bytes in none_to_check (piece_right _) byte_number _ (form_of t) (λ q x. any_piece _ q (λ z. absurd (omega arith)) (λ z. absurd (omega arith)) x) (omega (arith, d, c.if-line-eq0.true)) (omega (arith, d, c.if-line-eq0.true))

pub returns-then-not-byte_right : goal.returns-then-not-byte_right
unfolding bytes_right
returns-then-not-byte_right c t e = first_wrong (piece_right _) byte_number _ (form_of t) (digits_in t e).byte1 c.byte_right.ensures c.if-not-byte_right.true

pub returns : goal.returns
unfolding bytes_right
returns c t e = second_decides (piece_right _) byte_number _ (form_of t) (digits_in t e).byte1 c.byte_right.ensures c.if-not-byte_right.false (digits_in t e).byte2 (digits_in t e).first c.byte_right-2.ensures
