-- `enter_strings`: by the kind of the token.
use mathlib.Core.Path.{refl}
use native.Mathlib.Omega.{arith}
use Rattle.parser.proofs.TokenStrings.{word_entered, text_entered, variable_entered, top_entered, class_entered, nothing_entered}
use Rattle.parser.proofs.text.enter_strings.Goals as goal

pub enter_one-requires-in-3 : goal.enter_one-requires-in-3
enter_one-requires-in-3 c = let p = c.requires in (p.enterable, omega (arith, (p.sized.variable_size c.in-3.is).some_byte, p.high, p.short))

pub enter_one-requires-then-token-eq0 : goal.enter_one-requires-then-token-eq0
enter_one-requires-then-token-eq0 c = let p = c.requires in (p.enterable, omega (arith, (p.sized.top_size c.in-4.is c.if-token-eq0.true).some_byte, p.high, p.short))

pub returns-then-token-eq0 : goal.returns-then-token-eq0
returns-then-token-eq0 c = top_entered _ _ _ _ c.requires c.in-4.is c.if-token-eq0.true _ _ c.enter_one-then-token-eq0.ensures

pub overflow_add-token-in-4-2 : goal.overflow_add-token-in-4-2
overflow_add-token-in-4-2 c = let z = c.requires.sized.class_size c.in-4.is c.if-token-eq0.false in omega (arith, z.1.some_byte, c.requires.high, c.requires.short)

pub enter_both-requires : goal.enter_both-requires
enter_both-requires c = let p = c.requires in let z = p.sized.class_size c.in-4.is c.if-token-eq0.false in (p.enterable, (omega (arith, z.0.some_byte, z.1.some_byte, p.high, p.short), omega (arith, z.1.some_byte, p.high, p.short)))

pub returns-in-0 : goal.returns-in-0
returns-in-0 c = word_entered _ _ _ _ c.requires c.in-0.is _ _ c.enter_one.ensures

pub returns-in-2 : goal.returns-in-2
returns-in-2 c = text_entered _ _ _ _ c.requires c.in-2.is _ _ c.enter_one-in-2.ensures

pub returns-in-3 : goal.returns-in-3
returns-in-3 c = variable_entered _ _ _ _ c.requires c.in-3.is _ _ c.enter_one-in-3.ensures

pub returns-else-token-eq0 : goal.returns-else-token-eq0
returns-else-token-eq0 c = class_entered _ _ _ _ c.requires c.in-4.is c.if-token-eq0.false _ _ c.enter_both.ensures

pub returns-in_default : goal.returns-in_default
returns-in_default c = nothing_entered _ _ _ _ c.requires (λ e. absurd (omega arith)) (λ e. absurd (omega arith)) (λ e. absurd (omega arith)) (λ e. absurd (omega arith)) _ refl
