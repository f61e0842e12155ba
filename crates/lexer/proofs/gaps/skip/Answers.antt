-- `skip`: the tokens from the loop's place on are those from the first place on.
use mathlib.Core.Path.{refl, sym, ◌∙◌}
use native.Mathlib.Omega.{arith}
use lib.ListN.{get_or}
use Rattle.lexer.proofs.Scanning.{line_bound, line_rises}
use Rattle.lexer.proofs.gaps.skip.Goals as goal

pub loop-at-init : goal.loop-at-init
loop-at-init c = (omega arith, omega arith, omega arith, omega arith, λ o. refl)

pub returns-then-not-is_gap : goal.returns-then-not-is_gap
returns-then-not-is_gap c =
    let inv = c.loop-at.invariant in
    record { low = inv.0; high = inv.1; line_low = inv.2; line_bound = inv.3; same_tokens = inv.4; stops = λ h. sym c.is_gap.ensures ∙ c.if-not-is_gap.true }

pub gap_end-at-requires : goal.gap_end-at-requires
gap_end-at-requires c = (omega arith, refl, sym c.is_gap.ensures ∙ c.if-not-is_gap.false)

pub loop-at-smaller : goal.loop-at-smaller
loop-at-smaller c = let run = c.gap_end-at.ensures in omega (arith, run.low, run.high)

pub loop-at-preserved : goal.loop-at-preserved
loop-at-preserved c =
    let t = c.args.text.now in
    let l = c.loop-at in
    let run = c.gap_end-at.ensures in
    let behind = c.line_behind-line.ensures in
    let rises = line_rises (get_or t l.at 0) l.line in
    let bound = line_bound (get_or t l.at 0) l.line in
    (omega (arith, run.low), run.high, omega arith, omega (arith, run.low), λ o. l.invariant.4 o ∙ run.same_tokens o l.line ∙ rw behind)

pub returns : goal.returns
returns c =
    let inv = c.loop-at.invariant in
    record { low = inv.0; high = inv.1; line_low = inv.2; line_bound = inv.3; same_tokens = inv.4; stops = λ h. absurd (omega arith) }
