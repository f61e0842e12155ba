-- `put_signed`: the word of z, in eight bytes.
use mathlib.Core.Path.{◌≡◌, ap, ◌∙◌}
use Prim.Native.Nat.{ℕ}
use mir.Facts.{to_z-of_z}
use Rattle.wire.specs.Numbers.{high_bytes, word64}
use Rattle.wire.specs.Runs.{over}
use Rattle.wire.proofs.put_signed.Goals as goal

pub returns : goal.returns
returns c =
    let s = c.args in
    let word : c.word_of.result ≡ word64 s.z = c.word_of.ensures ∙ ap word64 (to_z-of_z c.ranges.z) in
    c.put_eight.ensures ∙ ap (λ (n : ℕ). over s.out.now s.at (high_bytes 8 n)) word
