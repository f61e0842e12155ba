-- `write_pattern`: a constant, or default.
use Rattle.statement_printer.proofs.PrintedPatterns.{ends_within, constant_pattern_passes, default_pattern_passes}
use Rattle.statement_printer.proofs.constants.write_pattern.Goals as goal

pub first_label-line-requires : goal.first_label-line-requires
first_label-line-requires c = (ends_within _ c.end_of-body.ensures c.end_of.ensures c.requires.1, c.requires.0.short)

pub returns-then-byte_at-eq27 : goal.returns-then-byte_at-eq27
returns-then-byte_at-eq27 c = default_pattern_passes _ _ _ c.byte_at.ensures c.if-byte_at-eq27.true c.end_of-body.ensures c.end_of.ensures c.first_label-line.ensures c.write_mark.ensures

pub returns : goal.returns
returns c = constant_pattern_passes _ _ _ c.byte_at.ensures c.if-byte_at-eq27.false c.write_constant.ensures
