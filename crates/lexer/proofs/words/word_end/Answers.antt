-- `word_end`: what is passed is in a word.
use Prim.Native.Nat.{ℕ}
use mathlib.Core.Path.{◌≡◌, sym, ◌∙◌}
use mathlib.Core.Bool.{true}
use native.Mathlib.Omega.{arith}
use lib.ListN.{length, get_or}
use Rattle.lexer.specs.Scanned.{WordRun}
use Rattle.notation.specs.Lexing.{in_word}
use Rattle.lexer.proofs.Scanning.{inside_more}
use Rattle.lexer.proofs.words.word_end.Goals as goal

-- src/lib.rt:41:5
pub loop-i-init : goal.loop-i-init
loop-i-init c = (omega arith, omega arith, λ j low high. absurd (omega arith))

-- src/lib.rt:43:13
pub returns-then-not-in_word : goal.returns-then-not-in_word
returns-then-not-in_word c =
    let inv = c.loop-i.invariant in
    record { low = inv.0; high = inv.1; inside = inv.2; stops = λ h. sym c.in_word.ensures ∙ c.if-not-in_word.true }

-- src/lib.rt:41:5
pub loop-i-preserved : goal.loop-i-preserved
loop-i-preserved c =
    let a = c.args in
    (omega arith, omega arith, inside_more (λ (j : ℕ). in_word (get_or a.text.now j 0) ≡ true) a.at c.loop-i.i c.loop-i.invariant.2 (sym c.in_word.ensures ∙ c.if-not-in_word.false))

-- src/lib.rt:36:1
pub returns : goal.returns
returns c =
    let inv = c.loop-i.invariant in
    let all : c.loop-i.i ≡ length c.args.text.now = omega arith in
    let run : WordRun c.args.text.now c.args.at c.loop-i.i = record { low = inv.0; high = inv.1; inside = inv.2; stops = λ h. absurd (omega arith) } in
    rw all at run
