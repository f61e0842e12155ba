-- `feed`: after the line feed, and before it.
use mathlib.Core.Path.{sym}
use native.Mathlib.Omega.{arith}
use lib.Seq.{length-take-le}
use Rattle.input.proofs.Feeding.{split, fed_after, fed_before}
use Rattle.input.proofs.feed.Goals as goal

pub returns-then-at : goal.returns-then-at
returns-then-at c =
    let a = c.args in
    fed_after a.piece.now a.line.now a.rest.now a.at c.if-at.true c.keep-all.ensures

pub slice_bounds-keep-end : goal.slice_bounds-keep-end
slice_bounds-keep-end c =
    let f = c.feed_place-e in
    let piece = c.args.piece.now in
    sym (length-take-le f.result piece (omega (arith, f.ensures, (split piece).within)))

pub returns : goal.returns
returns c =
    let a = c.args in
    fed_before a.piece.now a.line.now a.rest.now a.at c.if-at.false c.feed_place-e.ensures
    c.keep-before.ensures c.after.ensures c.keep-behind.ensures
