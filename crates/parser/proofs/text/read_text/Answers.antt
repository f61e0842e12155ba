-- `read_text`: a token after the other, up to the end or the first one that is refused.
use mathlib.Core.Path.{refl, ap, ◌∙◌}
use Rattle.std.specs.Prelude.{Ok}
use native.Mathlib.Omega.{arith}
use borrow.Author.Rules.{rules}
use Rattle.parser.proofs.TextRead.{going_begun, forward, along_next, whole_read, refused_read}
use Rattle.parser.proofs.text.read_text.Goals as goal

pub begin-pass-requires : goal.begin-pass-requires
begin-pass-requires c = c.requires.1.room

pub loop-next-init : goal.loop-next-init
loop-next-init c = record { going = going_begun _ _ _ _ _ _ _ _ _ c.requires.1 c.begin-pass.ensures; bytes = record { below = λ i. omega (arith, c.type_inv.text i) }; out_size = refl; frames_size = refl; stack_size = refl; table_size = refl }

pub read_token-requires : goal.read_token-requires
read_token-requires c = (c.requires.0, c.loop-next.invariant.going.ready)

pub loop-next-smaller : goal.loop-next-smaller
loop-next-smaller c = let on = c.in-Ok-On.is ∙ ap Ok c.in-Ok-On.field-0-is in forward _ _ _ _ _ _ _ _ _ _ _ _ c.loop-next.invariant _ _ _ _ _ c.read_token.ensures _ on

pub loop-next-preserved : goal.loop-next-preserved
loop-next-preserved c = let on = c.in-Ok-On.is ∙ ap Ok c.in-Ok-On.field-0-is in along_next _ _ _ _ _ _ _ _ _ _ _ _ c.loop-next.invariant _ _ _ _ _ c.read_token.ensures _ on (search rules) (search rules) (search rules) (search rules)

pub returns-in-Ok-Done : goal.returns-in-Ok-Done
returns-in-Ok-Done c = let done = c.in-Ok-Done.is ∙ ap Ok c.in-Ok-Done.field-0-is in whole_read _ _ _ _ _ _ _ _ _ _ _ _ c.loop-next.invariant _ _ _ _ _ c.read_token.ensures _ done

pub returns-in-Err : goal.returns-in-Err
returns-in-Err c = refused_read _ _ _ _ _ _ _ _ _ _ _ _ c.loop-next.invariant _ _ _ _ _ c.read_token.ensures _ c.in-Err.is
