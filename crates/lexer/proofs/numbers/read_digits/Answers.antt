-- `read_digits`: each digit goes on with the number.
use mathlib.Core.Path.{◌≡◌, refl, sym, ◌∙◌}
use native.Mathlib.Omega.{arith}
use lib.ListN.{length, get_or}
use Rattle.lexer.specs.Numbers.{DigitsRun}
use Rattle.lexer.proofs.FoundNumbers.{digit_range, more_parts, digit_read}
use Rattle.lexer.proofs.numbers.read_digits.Goals as goal

pub loop-i-init : goal.loop-i-init
loop-i-init c = (omega arith, omega arith, λ p l s. refl)

pub returns-then-not-is_more : goal.returns-then-not-is_more
returns-then-not-is_more c =
    let l = c.loop-i in
    record { low = l.invariant.0; high = l.invariant.1; same_tokens = l.invariant.2; stops = λ h. sym c.is_more.ensures ∙ c.if-not-is_more.true }

pub overflow_mul-n : goal.overflow_mul-n
overflow_mul-n c =
    let l = c.loop-i in
    let t = c.args.text.now in
    omega (arith, (more_parts (get_or t l.i 0) l.n (sym c.is_more.ensures ∙ c.if-not-is_more.false)).2)

pub overflow_sub-c : goal.overflow_sub-c
overflow_sub-c c =
    let l = c.loop-i in
    let t = c.args.text.now in
    (digit_range (get_or t l.i 0) (more_parts (get_or t l.i 0) l.n (sym c.is_more.ensures ∙ c.if-not-is_more.false)).0).0

pub overflow_add-n : goal.overflow_add-n
overflow_add-n c =
    let l = c.loop-i in
    let t = c.args.text.now in
    let parts = more_parts (get_or t l.i 0) l.n (sym c.is_more.ensures ∙ c.if-not-is_more.false) in
    omega (arith, parts.2, (digit_range (get_or t l.i 0) parts.0).1)

pub loop-i-preserved : goal.loop-i-preserved
loop-i-preserved c =
    let l = c.loop-i in
    let t = c.args.text.now in
    let more = sym c.is_more.ensures ∙ c.if-not-is_more.false in
    (omega arith, omega arith, λ p k s. l.invariant.2 p k s ∙ digit_read t l.i l.n p k s (omega arith) more ∙ rw (sym c.from.ensures))

pub returns : goal.returns
returns c =
    let l = c.loop-i in
    let all : l.i ≡ length c.args.text.now = omega arith in
    let run : DigitsRun c.args.text.now c.args.at c.args.first (record { end = l.i; value = l.n }) = record { low = l.invariant.0; high = l.invariant.1; same_tokens = l.invariant.2; stops = λ h. absurd (omega arith) } in
    rw all at run
