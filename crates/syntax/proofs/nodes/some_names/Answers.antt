-- `some_names`: what the names from here on give is what they all give.
use native.Mathlib.Omega.{arith}
use Rattle.wire.proofs.Walks.{step_of, along}
use Rattle.syntax.proofs.Chosen.{not_a_name, its_name, other_name, no_name_left}
use Rattle.syntax.proofs.nodes.some_names.Goals as goal

pub loop-q-init : goal.loop-q-init
loop-q-init c = (record { bytes = cc; end = cc }, cc)

pub returns-then-byte_at-ne49 : goal.returns-then-byte_at-ne49
returns-then-byte_at-ne49 c = not_a_name _ _ c.in-Some.ensures.steps.left c.byte_at.ensures c.if-byte_at-ne49.true c.loop-q.invariant.1

pub overflow_add-q : goal.overflow_add-q
overflow_add-q c = omega (arith, c.requires.1, (step_of c.loop-q.invariant.0 c.in-Some.ensures.steps).before)

pub string_at-requires : goal.string_at-requires
string_at-requires c = c.requires.0

pub returns-then-same_bytes : goal.returns-then-same_bytes
returns-then-same_bytes c = its_name _ _ c.in-Some.ensures.steps.left c.byte_at.ensures c.if-byte_at-ne49.false c.two_at-name.ensures c.string_at.ensures c.same_bytes.ensures c.if-same_bytes.true c.loop-q.invariant.1

pub loop-q-preserved : goal.loop-q-preserved
loop-q-preserved c = (along c.loop-q.invariant.0 c.in-Some.ensures.steps, other_name _ _ c.in-Some.ensures.steps.left c.byte_at.ensures c.if-byte_at-ne49.false c.two_at-name.ensures c.string_at.ensures c.same_bytes.ensures c.if-same_bytes.false c.loop-q.invariant.1)

pub returns : goal.returns
returns c = no_name_left _ _ c.in-None.ensures.steps.left c.loop-q.invariant.1
