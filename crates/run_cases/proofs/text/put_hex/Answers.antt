-- `put_hex`: what is left to store at the loop's head makes the whole.
use native.Mathlib.Omega.{arith}
use borrow.Author.Rules.{rules}
use lib.ListN.{length-set}
use Rattle.run_cases.proofs.Texts.{counts, writing_first, writing_length, writing_more, writing_done}
use Rattle.run_cases.proofs.text.put_hex.Goals as goal

pub loop-n-init : goal.loop-n-init
loop-n-init c = writing_first _ _ _

pub bounds-bytes-n : goal.bounds-bytes-n
bounds-bytes-n c = omega (arith, c.min.ensures, c.min-all.ensures)

pub hex_digit-requires : goal.hex_digit-requires
hex_digit-requires c = search rules

pub overflow_mul-into : goal.overflow_mul-into
overflow_mul-into c = omega (arith, c.min-all.ensures)

pub bounds-into-n : goal.bounds-into-n
bounds-into-n c = omega (arith, c.min-all.ensures, writing_length _ _ _ _ _ c.loop-n.invariant)

pub overflow_mul-into-in-loop-n : goal.overflow_mul-into-in-loop-n
overflow_mul-into-in-loop-n c = omega (arith, c.min-all.ensures)

pub overflow_add-into : goal.overflow_add-into
overflow_add-into c = omega (arith, c.min-all.ensures)

pub bounds-into-n-in-loop-n : goal.bounds-into-n-in-loop-n
bounds-into-n-in-loop-n c = simp length-set (omega (arith, c.min-all.ensures, writing_length _ _ _ _ _ c.loop-n.invariant))

pub loop-n-preserved : goal.loop-n-preserved
loop-n-preserved c = writing_more _ _ _ _ _ c.loop-n.invariant _ _ c.loop-n-test.true c.hex_digit.ensures c.hex_digit-in-loop-n.ensures

pub overflow_mul-result : goal.overflow_mul-result
overflow_mul-result c = omega (arith, c.min-all.ensures)

pub shape_of-into : goal.shape_of-into
shape_of-into c = writing_length _ _ _ _ _ c.loop-n.invariant

pub returns : goal.returns
returns c = record {
  into_after = writing_done _ _ _ _ _ c.loop-n.invariant _ (omega (arith, c.min.ensures, c.min-all.ensures)) c.loop-n-test.false;
  prefix_len = counts _ _ (omega (arith, c.min-all.ensures, c.loop-n.invariant.within, writing_length _ _ _ _ _ c.loop-n.invariant));
  value = omega (arith, c.min.ensures, c.min-all.ensures, c.loop-n.invariant.within, c.loop-n-test.false);
}
