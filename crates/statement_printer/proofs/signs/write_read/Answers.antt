-- `write_read`: by the tag.
use Prim.Native.Nat.{ℕ, ◌≤◌, ◌<◌}
use mathlib.Core.Path.{◌≡◌}
use native.Mathlib.Omega.{arith}
use Rattle.statement_printer.proofs.OperatorSigns.{variable_passes, top_variable_passes, class_variable_passes}
use Rattle.statement_printer.proofs.signs.write_read.Goals as goal

-- the third of three tags
between : (t : ℕ) → 0x13 ≤ t → t < 0x16 → (t ≡ 0x13 → ⊥) → (t ≡ 0x14 → ⊥) → t ≡ 0x15
between t l h a b = omega (arith, a, b)

pub returns-in-19 : goal.returns-in-19
returns-in-19 c = λ d l s low high. variable_passes _ _ _ _ _ c.byte_at.ensures s c.in-19.is c.two_at-name.ensures c.write_variable.ensures

pub returns-in-20 : goal.returns-in-20
returns-in-20 c = λ d l s low high. top_variable_passes _ _ _ _ _ c.byte_at.ensures s c.in-20.is c.two_at-name.ensures c.write_top_variable.ensures

pub returns-in_default : goal.returns-in_default
returns-in_default c = λ d l s low high.
    let tag = c.byte_at.ensures in
    let is = between c.byte_at.result (omega (arith, tag, low)) (omega (arith, tag, high)) (λ e. absurd (omega arith)) (λ e. absurd (omega arith)) in
    class_variable_passes _ _ _ _ _ tag s is c.two_at-name.ensures c.two_at.ensures c.write_class_variable.ensures
