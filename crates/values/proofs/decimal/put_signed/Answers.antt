-- `put_signed`: an integer not below 0 is written as a number; of another the sign is stored first, then the digits of its magnitude.
use mathlib.Core.Path.{ap, ◌∙◌}
use mathlib.Core.List.{List, ◌∷◌}
use Prim.Native.Nat.{ℕ, ◌+◌}
use native.Mathlib.Omega.{arith}
use lib.ListN.{length-set, set}
use lib.Seq.{sets}
use Rattle.values.specs.Decimal.{decimal, write_text}
use Rattle.values.proofs.Digits.{last_decimal, text_long, text_stored}
use Rattle.values.proofs.Sizes.{text_above, text_below}
use Rattle.values.proofs.decimal.put_signed.Goals as goal

pub returns-then-z-ge0 : goal.returns-then-z-ge0
returns-then-z-ge0 c =
    c.put_unsigned.ensures
    ∙ ap (λ (t : List ℕ). write_text t c.args.out.now)
    (text_above c.args.z c.ranges.z _ c.unsigned_abs-n.ensures.value c.if-z-ge0.true)

pub returns-then-out-count : goal.returns-then-out-count
returns-then-out-count c =
    let s = c.args in
    text_long (45 ∷ decimal _) s.out.now (omega (arith, c.digit_count-count.ensures))
    ∙ ap (λ (t : List ℕ). write_text t s.out.now) (text_below s.z c.ranges.z _ c.unsigned_abs-n.ensures.value c.if-z-ge0.false)

pub put_digits-requires : goal.put_digits-requires
put_digits-requires c = omega (arith, length-set c.args.out.now 0 45)

pub returns : goal.returns
returns c =
    let out = c.args.out.now in
    let n = c.unsigned_abs-n.result in
    text_stored (45 ∷ decimal n) out _ (c.digit_count-count.result + 1) (omega (arith, c.digit_count-count.ensures)) (omega arith)
    (c.put_digits.ensures ∙ ap (sets (set out 0 45) 1) (last_decimal c.digit_count-count.result n c.digit_count-count.ensures))
    ∙ ap (λ (t : List ℕ). write_text t out) (text_below c.args.z c.ranges.z _ c.unsigned_abs-n.ensures.value c.if-z-ge0.false)
