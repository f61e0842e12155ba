-- `put_gap`: line feeds and spaces, nothing, or a space.
use Prim.Native.Nat.{◌-◌}
use native.Mathlib.Omega.{arith}
use Rattle.token_writer.proofs.Writing.{wrote_is, wrote_join, wrote_none, run_end}
use Rattle.token_writer.proofs.WhiteSpace.{gap_later, gap_behind, gap_before, gap_space}
use Rattle.token_writer.proofs.gaps.put_gap.Goals as goal

pub put_run-requires : goal.put_run-requires
put_run-requires c =
    omega (arith, run_end (c.args.line - c.args.pen.line) 0x0a c.put_run-feeds.ensures, c.requires.fill, c.requires.brackets, c.ranges.line.fits)

pub returns-then-pen-line : goal.returns-then-pen-line
returns-then-pen-line c = wrote_is (gap_later _ _ _ c.if-pen-line.true) (wrote_join c.put_run-feeds.ensures c.put_run.ensures)

pub returns-then-no_space_behind : goal.returns-then-no_space_behind
returns-then-no_space_behind c = wrote_is (gap_behind _ _ _ c.if-pen-line.false c.no_space_behind.ensures c.if-no_space_behind.true) (wrote_none _ _)

pub returns-then-no_space_before : goal.returns-then-no_space_before
returns-then-no_space_before c = wrote_is (gap_before _ _ _ c.if-pen-line.false c.no_space_behind.ensures c.if-no_space_behind.false c.no_space_before.ensures c.if-no_space_before.true) (wrote_none _ _)

pub returns : goal.returns
returns c = wrote_is (gap_space _ _ _ c.if-pen-line.false c.no_space_behind.ensures c.if-no_space_behind.false c.no_space_before.ensures c.if-no_space_before.false) c.put_run-2.ensures
