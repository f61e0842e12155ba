-- `put_escaped`: by the byte.
use native.Mathlib.Omega.{arith}
use Rattle.token_writer.proofs.Strings.{escaped_is, escaped_other}
use Rattle.token_writer.proofs.Writing.{byte_wrote}
use Rattle.token_writer.proofs.pieces.put_escaped.Goals as goal

pub returns-in-39 : goal.returns-in-39
returns-in-39 c = escaped_is c.in-39.is c.put_bytes.ensures

pub returns-in-92 : goal.returns-in-92
returns-in-92 c = escaped_is c.in-92.is c.put_bytes-in-92.ensures

pub returns-in-10 : goal.returns-in-10
returns-in-10 c = escaped_is c.in-10.is c.put_bytes-in-10.ensures

pub returns-in_default : goal.returns-in_default
returns-in_default c = escaped_other (λ h. omega arith) (λ h. omega arith) (λ h. omega arith) (byte_wrote _ _ _ _ (omega arith) c.put_byte.ensures)
