-- `take`: the symbols that are left out one after the other, up to the one that takes the token.
use Prim.Native.Nat.{◌+◌, ◌-◌}
use mathlib.Core.Path.{◌≡◌, refl, sym, ap, ◌∙◌}
use Rattle.parse_table.specs.Codes.{row_in}
use native.Mathlib.Omega.{arith}
use borrow.Author.Rules.{rules}
use Rattle.parser.proofs.Leaving.{leaves_needed, stands_left, leaves_done, leaves_none}
use Rattle.parser.proofs.Passing.{none_left, out_stuck, going_first, top_within, going_next}
use Rattle.parser.proofs.steps.take.Goals as goal

pub loop-below-init : goal.loop-below-init
loop-below-init c = going_first _ _ _ _ _ _ _ c.requires

pub bounds-stack-below : goal.bounds-stack-below
bounds-stack-below c = top_within _ _ _ _ _ _ _ _ _ _ _ _ c.loop-below.invariant (omega arith)

pub take_row-requires : goal.take_row-requires
take_row-requires c = let same : c.loop-below.below - 1 + 1 ≡ c.loop-below.below = omega arith in rw same (c.loop-below.invariant.ready, record { some_top = omega arith; row_of_lem = sym (ap row_in c.in-Some.is) ∙ c.row.ensures })

pub returns-in-Some : goal.returns-in-Some
returns-in-Some c = let same : c.loop-below.below - 1 + 1 ≡ c.loop-below.below = omega arith in c.loop-below.invariant.goes_on _ _ _ _ (rw same at c.take_row.ensures)

pub returns-in_err-actions : goal.returns-in_err-actions
returns-in_err-actions c = rw c.from_residual.ensures (c.loop-below.invariant.goes_on _ _ _ _ (λ types. out_stuck types _ _ _ _ _ _ _ (omega arith) c.row.result c.row.ensures c.in_default.is _ _ _ refl (leaves_needed types _ c.left_out.result c.left_out.ensures _ _ _ c.in_err-actions.was)))

pub loop-below-preserved-then-actions-eq-NONE : goal.loop-below-preserved-then-actions-eq-NONE
loop-below-preserved-then-actions-eq-NONE c = going_next _ _ _ _ _ _ _ _ _ _ _ _ c.loop-below.invariant (omega arith) c.row.result c.row.ensures c.in_default.is _ _ _ _ refl (λ types. leaves_none types _ c.left_out.result c.left_out.ensures _ _ _ _ c.in_ok-actions.was c.if-actions-eq-NONE.true) refl refl

pub do_actions-requires : goal.do_actions-requires
do_actions-requires c = let r = c.loop-below.invariant.ready in record { types = r.types; stands = stands_left r.types _ c.left_out.result c.left_out.ensures _ _ _ _ c.in_ok-actions.was _ _ _ _ (omega arith) r.steppable }

pub loop-below-preserved : goal.loop-below-preserved
loop-below-preserved c = going_next _ _ _ _ _ _ _ _ _ _ _ _ c.loop-below.invariant (omega arith) c.row.result c.row.ensures c.in_default.is _ _ _ _ c.in-Some-do_actions.is (λ types. leaves_done types _ c.left_out.result c.left_out.ensures _ _ _ _ c.in_ok-actions.was _ _ _ _ _ (c.do_actions.ensures.0 types)) (search rules) (search rules)

pub returns-in_default-do_actions : goal.returns-in_default-do_actions
returns-in_default-do_actions c = c.loop-below.invariant.goes_on _ _ _ _ (λ types. out_stuck types _ _ _ _ _ _ _ (omega arith) c.row.result c.row.ensures c.in_default.is _ _ _ c.in_default-do_actions.is (leaves_done types _ c.left_out.result c.left_out.ensures _ _ _ _ c.in_ok-actions.was _ _ _ _ _ (c.do_actions.ensures.0 types)))

pub returns : goal.returns
returns c = c.loop-below.invariant.goes_on _ _ _ _ (λ types. none_left types _ _ _ _ _ _ _ (omega arith))
