-- `read_string`: the bytes passed are a part of the string.
use mathlib.Core.Path.{◌≡◌, sym, ◌∙◌}
use native.Mathlib.Omega.{arith}
use borrow.Author.Tests.{ne_eqb}
use lib.ListN.{get_or}
use Rattle.lexer.specs.Strings.{StringRead}
use Rattle.lexer.proofs.Scanning.{line_rises, line_bound}
use Rattle.lexer.proofs.FoundStrings.{no_part, part_more, part_broken, part_unclosed, closed_size, closed_tokens, piece_within}
use Rattle.lexer.proofs.strings.read_string.Goals as goal

pub loop-i-init : goal.loop-i-init
loop-i-init c = let a = c.args in (omega arith, omega arith, omega arith, omega arith, omega arith, no_part a.text.now a.at a.line a.quote)

pub returns-then-c-quote : goal.returns-then-c-quote
unfolding StringRead
returns-then-c-quote c =
    let l = c.loop-i in
    let a = c.args in
    let same : get_or a.text.now l.i 0 ≡ a.quote = c.if-c-quote.true in
    record {
      low = omega arith;
      high = omega arith;
      line_low = omega arith;
      line_bound = omega arith;
      sized = closed_size l.invariant.5 (omega arith) same;
      whole = closed_tokens l.invariant.5 (omega arith) same c.requires.2;
    }

pub returns-in_err-size : goal.returns-in_err-size
unfolding StringRead
returns-in_err-size c =
    let l = c.loop-i in
    let a = c.args in
    let other = ne_eqb (get_or a.text.now l.i 0) a.quote c.if-c-quote.false in
    rw c.from_residual.ensures (part_broken a.text.now a.quote l.i l.here (omega arith) other l.invariant.5 (sym c.piece_size.ensures ∙ c.in_err-size.was))

pub overflow_add-i : goal.overflow_add-i
overflow_add-i c =
    let l = c.loop-i in
    omega (arith, (piece_within c.args.text.now l.i _ (omega arith) (sym c.piece_size.ensures ∙ c.in_ok-size.was)).1)

pub loop-i-smaller : goal.loop-i-smaller
loop-i-smaller c =
    let l = c.loop-i in
    let piece = piece_within c.args.text.now l.i _ (omega arith) (sym c.piece_size.ensures ∙ c.in_ok-size.was) in
    omega (arith, piece.0, piece.1)

pub loop-i-preserved : goal.loop-i-preserved
loop-i-preserved c =
    let l = c.loop-i in
    let a = c.args in
    let size = sym c.piece_size.ensures ∙ c.in_ok-size.was in
    let piece = piece_within a.text.now l.i _ (omega arith) size in
    let behind = c.line_behind-here.ensures in
    let other = ne_eqb (get_or a.text.now l.i 0) a.quote c.if-c-quote.false in
    let rises = line_rises (get_or a.text.now l.i 0) l.here in
    let bound = line_bound (get_or a.text.now l.i 0) l.here in
    (omega arith, omega (arith, piece.1), omega arith, omega (arith, piece.0), omega arith, rw behind (part_more a.text.now a.quote l.i l.here (omega arith) other _ l.invariant.5 size))

pub returns : goal.returns
unfolding StringRead
returns c = part_unclosed c.loop-i.invariant.5 (omega arith)
