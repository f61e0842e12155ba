-- `signed`: −1 − (n − 1) behind a -.
use Prim.Native.Nat.{◌-◌, ◌≤◌}
use mathlib.Core.Path.{◌≡◌, sym, ◌∙◌}
use mathlib.Core.Bool.{true, false}
use native.Mathlib.Omega.{arith}
use mir.Facts.{to_z_pos}
use mir.Syntax.{w64}
use Rattle.lexer.specs.Numbers.{signed_of}
use Rattle.lexer.proofs.FoundNumbers.{minus_word, minus_bits, negative_number}
use Rattle.lexer.proofs.numbers.signed.Goals as goal

pub overflow_cast-result : goal.overflow_cast-result
overflow_cast-result c =
    let plus : c.args.negative ≡ false = c.if-not-negative.true in
    let high : c.args.n ≤ 9223372036854775807 = rw plus at c.requires in
    record { sfits = omega arith }

pub returns-then-not-negative : goal.returns-then-not-negative
unfolding signed_of
returns-then-not-negative c =
    let plus : c.args.negative ≡ false = c.if-not-negative.true in
    let high : c.args.n ≤ 9223372036854775807 = rw plus at c.requires in
    rw plus (to_z_pos w64 (omega arith))

pub returns-then-n-eq0 : goal.returns-then-n-eq0
unfolding signed_of
returns-then-n-eq0 c =
    let minus : c.args.negative ≡ true = c.if-not-negative.false in
    rw (minus, c.if-n-eq0.true)

pub overflow_cast-k : goal.overflow_cast-k
overflow_cast-k c =
    let minus : c.args.negative ≡ true = c.if-not-negative.false in
    let high : c.args.n ≤ 9223372036854775808 = rw minus at c.requires in
    record { sfits = omega arith }

pub overflow_sub-result : goal.overflow_sub-result
overflow_sub-result c =
    let minus : c.args.negative ≡ true = c.if-not-negative.false in
    let high : c.args.n ≤ 9223372036854775808 = rw minus at c.requires in
    rw (minus_word (c.args.n - 1) (omega arith)) (record { sfits = omega arith })

pub returns : goal.returns
returns c =
    let minus : c.args.negative ≡ true = c.if-not-negative.false in
    let high : c.args.n ≤ 9223372036854775808 = rw minus at c.requires in
    rw minus (minus_bits (c.args.n - 1) (omega arith) ∙ sym (negative_number c.args.n (omega arith)))
