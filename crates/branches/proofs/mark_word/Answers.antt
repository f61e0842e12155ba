-- `mark_word`: at the loop's head the names left are those from `at` on; each turn takes the first of them.
use Prim.Native.Nat.{ℕ, ◌/◌, ◌^◌, ◌<◌}
use Rattle.std.specs.Prelude.{Err}
use mathlib.Core.Path.{◌≡◌, ◌∙◌}
use native.Mathlib.Omega.{arith}
use lib.Count.{count_trailing_zeros}
use lib.Pow.{shr_le}
use Rattle.branches.proofs.Names.{whole_word, word_small, no_bits, zeros_small, first_small, first_then, after_small}
use Rattle.branches.proofs.Marking.{to_mark, all_marked, stops_here, goes_on, one_mark}
use Rattle.branches.proofs.mark_word.Goals as goal

falls : (v : ℕ) → (v ≡ 0 → ⊥) → v / 2 ^ count_trailing_zeros 64 v / 2 ^ 1 < v
falls v some = let l = shr_le v (count_trailing_zeros 64 v) in omega arith

pub loop-rest-init : goal.loop-rest-init
loop-rest-init c = (to_mark _ _ _ (whole_word _ _ (omega arith)), (word_small c.requires.1 (omega arith), omega arith))

pub overflow_cast-name : goal.overflow_cast-name
overflow_cast-name c = omega (arith, zeros_small c.loop-rest.at _ c.loop-rest.invariant.1.1 c.loop-rest-test.true)

pub overflow_add-name : goal.overflow_add-name
overflow_add-name c = omega (arith, first_small _ _ c.loop-rest.invariant.1.1 c.loop-rest-test.true c.loop-rest.invariant.1.0)

pub join_mark-requires : goal.join_mark-requires
join_mark-requires c = (omega (arith, c.requires.0, c.loop-rest.invariant.0.size), first_small _ _ c.loop-rest.invariant.1.1 c.loop-rest-test.true c.loop-rest.invariant.1.0)

pub shape_of-work-in_err-join_mark : goal.shape_of-work-in_err-join_mark
shape_of-work-in_err-join_mark c = c.join_mark.auto.work ∙ c.loop-rest.invariant.0.size

pub returns-in_err-join_mark : goal.returns-in_err-join_mark
returns-in_err-join_mark c = let handed_on : c.from_residual.result ≡ Err c.in_err-join_mark.field-0.0 = grind arith in rw handed_on (stops_here c.loop-rest.invariant.0 _ _ (first_then _ _ c.loop-rest.invariant.1.1 c.loop-rest-test.true) (one_mark (first_small _ _ c.loop-rest.invariant.1.1 c.loop-rest-test.true c.loop-rest.invariant.1.0) c.join_mark.ensures) c.in_err-join_mark.was)

pub overflow_cast-rest : goal.overflow_cast-rest
overflow_cast-rest c = omega (arith, zeros_small c.loop-rest.at _ c.loop-rest.invariant.1.1 c.loop-rest-test.true)

pub overflow_shr-rest : goal.overflow_shr-rest
overflow_shr-rest c = zeros_small c.loop-rest.at _ c.loop-rest.invariant.1.1 c.loop-rest-test.true

pub overflow_add-at : goal.overflow_add-at
overflow_add-at c = omega (arith, first_small _ _ c.loop-rest.invariant.1.1 c.loop-rest-test.true c.loop-rest.invariant.1.0)

pub loop-rest-smaller : goal.loop-rest-smaller
loop-rest-smaller c = falls c.loop-rest.rest c.loop-rest-test.true

pub loop-rest-preserved : goal.loop-rest-preserved
loop-rest-preserved c = (goes_on c.loop-rest.invariant.0 _ _ (first_then _ _ c.loop-rest.invariant.1.1 c.loop-rest-test.true) (one_mark (first_small _ _ c.loop-rest.invariant.1.1 c.loop-rest-test.true c.loop-rest.invariant.1.0) c.join_mark.ensures) c.in_ok-join_mark.was c.join_mark.auto.work, (after_small _ _ c.loop-rest.invariant.1.1 c.loop-rest-test.true c.loop-rest.invariant.1.0, omega (arith, falls c.loop-rest.rest c.loop-rest-test.true, c.loop-rest.invariant.1.1)))

pub shape_of-work : goal.shape_of-work
shape_of-work c = c.loop-rest.invariant.0.size

pub returns : goal.returns
returns c = all_marked c.loop-rest.invariant.0 (no_bits _ c.loop-rest-test.false)
