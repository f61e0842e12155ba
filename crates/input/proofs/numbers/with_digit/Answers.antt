-- `with_digit`: no digit, too large a number for 32 bits or for the limit, or the number.
use native.Mathlib.Omega.{arith}
use Rattle.input.proofs.Digits.{some_up_to, none_up_to, no_digit, a_digit}
use Rattle.input.proofs.numbers.with_digit.Goals as goal

pub returns-then-not-is_ascii_digit : goal.returns-then-not-is_ascii_digit
returns-then-not-is_ascii_digit c = none_up_to _ _ (no_digit _ c.args.n c.args.byte (λ low high. omega (arith, c.if-not-is_ascii_digit.ensures.cases)))

pub returns-in_err-checked_mul : goal.returns-in_err-checked_mul
returns-in_err-checked_mul c =
    let is = a_digit c.args.most c.args.n c.args.byte (omega (arith, c.if-not-is_ascii_digit.ensures.cases)) (omega (arith, c.if-not-is_ascii_digit.ensures.cases)) in
    rw c.from_residual.ensures (none_up_to _ _ (omega (arith, is, c.in_err-checked_mul.ensures)))

pub returns-in_err-more : goal.returns-in_err-more
returns-in_err-more c =
    let is = a_digit c.args.most c.args.n c.args.byte (omega (arith, c.if-not-is_ascii_digit.ensures.cases)) (omega (arith, c.if-not-is_ascii_digit.ensures.cases)) in
    rw c.from_residual-in_err-more.ensures (none_up_to _ _ (omega (arith, is, c.in_ok-checked_mul.ensures, c.in_err-more.ensures)))

pub returns-then-most-more : goal.returns-then-most-more
returns-then-most-more c =
    let is = a_digit c.args.most c.args.n c.args.byte (omega (arith, c.if-not-is_ascii_digit.ensures.cases)) (omega (arith, c.if-not-is_ascii_digit.ensures.cases)) in
    none_up_to _ _ (omega (arith, is, c.in_ok-checked_mul.ensures, c.in_ok-more.ensures))

pub returns : goal.returns
returns c =
    let is = a_digit c.args.most c.args.n c.args.byte (omega (arith, c.if-not-is_ascii_digit.ensures.cases)) (omega (arith, c.if-not-is_ascii_digit.ensures.cases)) in
    some_up_to _ (omega (arith, is, c.in_ok-checked_mul.ensures, c.in_ok-more.ensures)) (omega (arith, is, c.in_ok-checked_mul.ensures, c.in_ok-more.ensures))
